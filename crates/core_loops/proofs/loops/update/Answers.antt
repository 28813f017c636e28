use Rattle.std.proofs.Common.{ap, ◌∙◌, length}
use Rattle.typed_tree.specs.View.{expression}
use Rattle.elaboration.specs.Elaboration.{elaborate}
use Rattle.elaboration.specs.Members.{let_in}
use Rattle.elaboration.specs.Scopes.{Scope, beside}
use Rattle.core_loops.specs.Shapes.{written}
use Rattle.core_parts.proofs.Going.{in_any_case, made_in, on_ok, two_made}
use Rattle.core_loops.proofs.loops.update.Goals as goal

pub returns-clause-made : goal.returns-clause-made
returns-clause-made g c =
    let s : Scope = c.args.scope.now in
    on_ok c.written.result c.written.ensures (λ made is.
    two_made (λ x y. let_in x (written c.args.operation.now y)) (elaborate s (length c.args.groups.now) (expression c.args.target.now)) (λ n. elaborate (beside 1 s) n (expression c.args.operand.now))
    c.args.groups.now c.part.new.groups c.part-2.new.groups c.in_ok-target.target c.in_ok-operand.operand made c.in_ok-target.ensures.made
    (made_in c.go_beside.new.self (beside 1 s) (length c.part.new.groups) (expression c.args.operand.now) c.part.new.groups c.part-2.new.groups c.in_ok-operand.operand
    (c.in_ok-go_beside.ensures ∙ ap (beside 1) c.in_ok-target.ensures.scope) c.in_ok-operand.ensures.made) is)

pub returns-clause-scope : goal.returns-clause-scope
returns-clause-scope g c =
    in_any_case c.written.result
    (c.back.ensures.beside c.part.new.scope 1 c.mark-mark.ensures (c.in_ok-operand.ensures.scope ∙ c.in_ok-go_beside.ensures) ∙ c.in_ok-target.ensures.scope)
