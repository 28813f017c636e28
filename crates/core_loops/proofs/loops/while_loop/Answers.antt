use Rattle.std.proofs.Common.{ap, sym, ◌∙◌, length, subst}
use Rattle.typed_tree.specs.View.{expression}
use Rattle.elaboration.specs.Elaboration.{elaborate, tested_loop}
use Rattle.elaboration.specs.Members.{Elaborated}
use Rattle.elaboration.specs.Scopes.{Scope, beside, inside}
use Rattle.core_parts.specs.Making.{IsMade}
use Rattle.core_parts.proofs.Going.{in_any_case, made_in, on_ok, two_made}
use Rattle.core_loops.proofs.Turns.{loop_with_end}
use Rattle.core_loops.proofs.loops.while_loop.Goals as goal

pub returns-clause-made : goal.returns-clause-made
returns-clause-made g c =
    let s : Scope = c.args.scope.now in
    let t : Scope = inside s in
    let n = length c.args.groups.now in
    on_ok c.while_true.result c.while_true.ensures (λ made is.
    subst (λ (d : Elaborated). IsMade d c.args.groups.now c.part-2.new.groups made) (sym (loop_with_end s n (expression c.args.condition.now) (expression c.args.body.now) (sym c.holds.ensures ∙ c.if-holds.false)))
    (two_made tested_loop (elaborate t n (expression c.args.condition.now)) (λ n. elaborate (beside 1 t) n (expression c.args.body.now))
    c.args.groups.now c.part.new.groups c.part-2.new.groups c.in_ok-condition.condition c.in_ok-body.body made
    (made_in c.go_inside.new.self t n (expression c.args.condition.now) c.args.groups.now c.part.new.groups c.in_ok-condition.condition c.in_ok-go_inside.ensures c.in_ok-condition.ensures.made)
    (made_in c.go_beside.new.self (beside 1 t) (length c.part.new.groups) (expression c.args.body.now) c.part.new.groups c.part-2.new.groups c.in_ok-body.body
    (c.in_ok-go_beside.ensures ∙ ap (beside 1) (c.in_ok-condition.ensures.scope ∙ c.in_ok-go_inside.ensures)) c.in_ok-body.ensures.made) is))

pub returns-clause-scope : goal.returns-clause-scope
returns-clause-scope g c =
    in_any_case c.while_true.result
    (c.back.ensures.beside_inside c.args.scope.now 1 c.mark-mark.ensures (c.in_ok-body.ensures.scope ∙ (c.in_ok-go_beside.ensures ∙ ap (beside 1) (c.in_ok-condition.ensures.scope ∙ c.in_ok-go_inside.ensures))))
