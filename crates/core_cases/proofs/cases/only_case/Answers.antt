use Rattle.std.proofs.Common.{[], ◌∷◌, length, ap, sym, subst, ◌∙◌}
use Rattle.core_ir.specs.Expressions.{Exp}
use Rattle.core_ir.specs.View.{expression as core_expression}
use Rattle.typed_tree.specs.PatternView.{pattern}
use Rattle.typed_tree.specs.View.{CaseView, case_view, cases, expression}
use Rattle.elaboration.specs.Checks.{Checked, around_all, behind, fails}
use Rattle.elaboration.specs.Elaboration.{elaborate, on_nearest}
use Rattle.elaboration.specs.Scopes.{Scope}
use Rattle.core_layers.specs.Layers.{layered}
use Rattle.core_parts.specs.Making.{IsMade, cases_under}
use Rattle.core_parts.proofs.Going.{in_any_case, made_in, on_ok, one_made}
use Rattle.core_cases.proofs.Choosing.{case_is}
use Rattle.core_cases.proofs.cases.only_case.Goals as goal

pub returns-clause-made : goal.returns-clause-made
returns-clause-made g c =
    let s : Scope = c.args.scope.now in
    let d : Checked = on_nearest (pattern c.args.case.now.pattern) s in
    let b = expression c.args.case.now.body in
    let e : Exp = core_expression c.in_ok-body.body in
    on_ok c.around.result c.around.ensures (λ made is.
    let Of : CaseView → Type 0 = λ x. IsMade (cases_under s (length c.args.groups.now) (cases (x ∷ []))) c.args.groups.now c.part.new.groups made in
    subst Of (sym (case_is c.args.case.now))
    (one_made (around_all d.checks fails) (elaborate (behind d s) (length c.args.groups.now) b) c.args.groups.now c.part.new.groups c.in_ok-body.body made
    (made_in c.bind_nearest.new.scope (behind d s) (length c.args.groups.now) b c.args.groups.now c.part.new.groups c.in_ok-body.body c.in_ok-checks.ensures.scope c.in_ok-body.ensures.made)
    (is ∙ (c.in_ok-checks.ensures.checks fails e ∙ ap (λ ls. layered ls fails (around_all d.checks fails e)) c.new.ensures.items))))

pub returns-clause-scope : goal.returns-clause-scope
returns-clause-scope g c =
    let d : Checked = on_nearest (pattern c.args.case.now.pattern) c.args.scope.now in
    in_any_case c.around.result (c.back.ensures.behind c.args.scope.now d c.mark-mark.ensures (c.in_ok-body.ensures.scope ∙ c.in_ok-checks.ensures.scope))
