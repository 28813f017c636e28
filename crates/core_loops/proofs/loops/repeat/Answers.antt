use Rattle.std.proofs.Common.{ap, ◌∙◌, length}
use Rattle.core_ir.specs.Expressions.{Label, Loop}
use Rattle.typed_tree.specs.View.{expression}
use Rattle.elaboration.specs.Elaboration.{break_with, elaborate, if_true}
use Rattle.elaboration.specs.Members.{let_in}
use Rattle.elaboration.specs.Scopes.{Scope, beside, inside, nothing}
use Rattle.core_parts.proofs.Going.{in_any_case, made_in, on_ok, two_made}
use Rattle.core_loops.proofs.loops.repeat.Goals as goal

pub returns-clause-made : goal.returns-clause-made
returns-clause-made g c =
    let t : Scope = inside c.args.scope.now in
    on_ok c.again_while.result c.again_while.ensures (λ made is.
    two_made (λ x y. Label (Loop (let_in x (if_true y nothing (break_with nothing))))) (elaborate t (length c.args.groups.now) (expression c.args.body.now)) (λ n. elaborate (beside 1 t) n (expression c.args.condition.now))
    c.args.groups.now c.part.new.groups c.part-2.new.groups c.in_ok-body.body c.in_ok-condition.condition made
    (made_in c.go_inside.new.self t (length c.args.groups.now) (expression c.args.body.now) c.args.groups.now c.part.new.groups c.in_ok-body.body c.in_ok-go_inside.ensures c.in_ok-body.ensures.made)
    (made_in c.go_beside.new.self (beside 1 t) (length c.part.new.groups) (expression c.args.condition.now) c.part.new.groups c.part-2.new.groups c.in_ok-condition.condition
    (c.in_ok-go_beside.ensures ∙ ap (beside 1) (c.in_ok-body.ensures.scope ∙ c.in_ok-go_inside.ensures)) c.in_ok-condition.ensures.made) is)

pub returns-clause-scope : goal.returns-clause-scope
returns-clause-scope g c =
    in_any_case c.again_while.result
    (c.back.ensures.beside_inside c.args.scope.now 1 c.mark-mark.ensures (c.in_ok-condition.ensures.scope ∙ (c.in_ok-go_beside.ensures ∙ ap (beside 1) (c.in_ok-body.ensures.scope ∙ c.in_ok-go_inside.ensures))))
