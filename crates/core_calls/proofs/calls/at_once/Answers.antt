use Rattle.std.proofs.Common.{length, map, ap, sym, subst, ◌∙◌}
use Rattle.typed_tree.specs.View.{exps, expression}
use Rattle.elaboration.specs.Elaboration.{elaborate_operands}
use Rattle.elaboration.specs.Scopes.{Scope}
use Rattle.core_parts.specs.Making.{AreMade}
use Rattle.core_calls.proofs.Operating.{called_made}
use Rattle.core_calls.proofs.calls.at_once.Goals as goal

pub returns-clause-made : goal.returns-clause-made
returns-clause-made g c =
    let Of : Scope → Type 0 = λ s. AreMade (elaborate_operands s (length c.operands.new.groups) (exps (map expression c.args.arguments.now))) c.operands.new.groups c.operands-2.new.groups c.in_ok-arguments.arguments.items in
    called_made c.args.member (exps (map expression c.args.holds.now)) (exps (map expression c.args.arguments.now)) c.args.scope.now c.names.result
    c.args.groups.now c.operands.new.groups c.operands-2.new.groups c.called.new.groups c.in_ok-holds.holds.items c.in_ok-arguments.arguments.items c.in_ok-made.made
    (c.names.ensures ∙ ap (λ (s : Scope). s.names) (c.in_ok-arguments.ensures.scope ∙ c.in_ok-holds.ensures.scope)) c.in_ok-holds.ensures.made (subst Of c.in_ok-holds.ensures.scope c.in_ok-arguments.ensures.made)
    c.in_ok-made.ensures.made c.in_ok-made.ensures.groups

pub returns-clause-scope : goal.returns-clause-scope
returns-clause-scope g c = c.in_ok-arguments.ensures.scope ∙ c.in_ok-holds.ensures.scope
