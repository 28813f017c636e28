use Rattle.std.proofs.Common.{ap, ◌∙◌, length}
use Rattle.core_ir.specs.Expressions.{Exp, Label, Loop}
use Rattle.core_ir.specs.View.{expression as core_expression}
use Rattle.typed_tree.specs.PatternView.{pattern}
use Rattle.typed_tree.specs.View.{expression}
use Rattle.elaboration.specs.Checks.{Checked, around_all, behind, fails}
use Rattle.elaboration.specs.Elaboration.{elaborate, on_nearest}
use Rattle.elaboration.specs.Members.{let_in}
use Rattle.elaboration.specs.Scopes.{Scope, beside, inside}
use Rattle.core_layers.specs.Layers.{layered}
use Rattle.core_loops.specs.Shapes.{turn}
use Rattle.core_parts.proofs.Going.{in_any_case, made_in, on_ok, two_made}
use Rattle.core_loops.proofs.loops.for_each.Goals as goal

pub returns-clause-made : goal.returns-clause-made
returns-clause-made g c =
    let s : Scope = c.args.scope.now in
    let d : Checked = on_nearest (pattern c.args.element.now) (beside 1 s) in
    let t : Scope = inside (behind d s) in
    let there = c.in_ok-go_beside.ensures ∙ ap (beside 1) c.in_ok-of.ensures.scope in
    let around : Scope → Scope = λ u. behind (on_nearest (pattern c.args.element.now) u) u in
    let e : Exp = core_expression c.in_ok-body.body in
    on_ok c.each_element.result c.each_element.ensures (λ made is.
    two_made (λ x y. let_in x (Label (Loop (turn (around_all d.checks fails y))))) (elaborate s (length c.args.groups.now) (expression c.args.of.now)) (λ n. elaborate t n (expression c.args.body.now))
    c.args.groups.now c.part.new.groups c.part-2.new.groups c.in_ok-of.of c.in_ok-body.body made c.in_ok-of.ensures.made
    (made_in c.go_inside.new.self t (length c.part.new.groups) (expression c.args.body.now) c.part.new.groups c.part-2.new.groups c.in_ok-body.body
    (c.in_ok-go_inside.ensures ∙ ap inside (c.in_ok-checks.ensures.scope ∙ ap around there)) c.in_ok-body.ensures.made)
    (is ∙ ap (λ (y : Exp). let_in (core_expression c.in_ok-of.of) (Label (Loop (turn y))))
    (c.in_ok-checks.ensures.checks fails e
    ∙ (ap (λ ls. layered ls fails (around_all (on_nearest (pattern c.args.element.now) c.go_beside.new.self).checks fails e)) c.new.ensures.items ∙ ap (λ (u : Scope). around_all (on_nearest (pattern c.args.element.now) u).checks fails e) there))))

pub returns-clause-scope : goal.returns-clause-scope
returns-clause-scope g c =
    let d : Checked = on_nearest (pattern c.args.element.now) c.go_beside.new.self in
    in_any_case c.each_element.result
    (c.back.ensures.inside_behind c.part.new.scope 1 d c.mark-mark.ensures (c.in_ok-body.ensures.scope ∙ (c.in_ok-go_inside.ensures ∙ ap inside (c.in_ok-checks.ensures.scope ∙ ap (behind d) c.in_ok-go_beside.ensures)))
    ∙ c.in_ok-of.ensures.scope)
