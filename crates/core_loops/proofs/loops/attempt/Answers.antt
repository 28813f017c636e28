use Rattle.std.proofs.Common.{ap, ◌∙◌, length}
use Rattle.core_ir.specs.Expressions.{Exp, Try}
use Rattle.core_ir.specs.View.{expression as core_expression}
use Rattle.typed_tree.specs.PatternView.{pattern}
use Rattle.typed_tree.specs.View.{expression}
use Rattle.elaboration.specs.Checks.{Checked, around_all, behind, fails}
use Rattle.elaboration.specs.Elaboration.{elaborate, on_nearest}
use Rattle.elaboration.specs.Scopes.{Scope}
use Rattle.core_layers.specs.Layers.{layered}
use Rattle.core_parts.proofs.Going.{in_any_case, made_in, on_ok, two_made}
use Rattle.core_loops.proofs.loops.attempt.Goals as goal

pub returns-clause-made : goal.returns-clause-made
returns-clause-made g c =
    let s : Scope = c.args.scope.now in
    let d : Checked = on_nearest (pattern c.args.error.now) s in
    let there = c.in_ok-body.ensures.scope in
    let around : Scope → Scope = λ u. behind (on_nearest (pattern c.args.error.now) u) u in
    let e : Exp = core_expression c.in_ok-handler.handler in
    on_ok c.caught.result c.caught.ensures (λ made is.
    two_made (λ x y. Try x (around_all d.checks fails y)) (elaborate s (length c.args.groups.now) (expression c.args.body.now)) (λ n. elaborate (behind d s) n (expression c.args.handler.now))
    c.args.groups.now c.part.new.groups c.part-2.new.groups c.in_ok-body.body c.in_ok-handler.handler made c.in_ok-body.ensures.made
    (made_in c.bind_nearest.new.scope (behind d s) (length c.part.new.groups) (expression c.args.handler.now) c.part.new.groups c.part-2.new.groups c.in_ok-handler.handler
    (c.in_ok-checks.ensures.scope ∙ ap around there) c.in_ok-handler.ensures.made)
    (is ∙ ap (λ (y : Exp). Try (core_expression c.in_ok-body.body) y)
    (c.in_ok-checks.ensures.checks fails e
    ∙ (ap (λ ls. layered ls fails (around_all (on_nearest (pattern c.args.error.now) c.part.new.scope).checks fails e)) c.new.ensures.items ∙ ap (λ (u : Scope). around_all (on_nearest (pattern c.args.error.now) u).checks fails e) there))))

pub returns-clause-scope : goal.returns-clause-scope
returns-clause-scope g c =
    let d : Checked = on_nearest (pattern c.args.error.now) c.part.new.scope in
    in_any_case c.caught.result (c.back.ensures.behind c.part.new.scope d c.mark-mark.ensures (c.in_ok-handler.ensures.scope ∙ c.in_ok-checks.ensures.scope) ∙ c.in_ok-body.ensures.scope)
