use Rattle.std.proofs.Common.{map, ap, ◌∙◌}
use Rattle.typed_tree.specs.View.{exps, expression}
use Rattle.elaboration.specs.Scopes.{Scope}
use Rattle.core_calls.proofs.Operating.{value_made}
use Rattle.core_calls.proofs.calls.member_value.Goals as goal

pub returns-clause-made : goal.returns-clause-made
returns-clause-made g c =
    value_made c.args.member (exps (map expression c.args.typed.now)) c.args.scope.now c.names.result c.args.groups.now c.named_operands.new.groups c.value_of.new.groups c.in_ok-holds.holds.items c.in_ok-made.made
    (c.names.ensures ∙ ap (λ (s : Scope). s.names) c.in_ok-holds.ensures.scope) c.in_ok-holds.ensures.made c.in_ok-made.ensures.made c.in_ok-made.ensures.groups

pub returns-clause-scope : goal.returns-clause-scope
returns-clause-scope g c = c.in_ok-holds.ensures.scope
