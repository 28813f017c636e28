use Rattle.std.proofs.Common.{length, ap, sym, subst, ◌∙◌}
use Rattle.core_ir.specs.Expressions.{Exp}
use Rattle.core_ir.specs.View.{expression as core_expression}
use Rattle.typed_tree.specs.PatternView.{pattern}
use Rattle.typed_tree.specs.View.{CaseView, case_view, expression}
use Rattle.elaboration.specs.Checks.{Checked, Named, around_all, behind, check}
use Rattle.elaboration.specs.Elaboration.{break_with, elaborate}
use Rattle.elaboration.specs.Scopes.{Scope, nothing}
use Rattle.core_parts.specs.Making.{IsMade, case_tried}
use Rattle.core_parts.proofs.Going.{in_any_case, made_in, on_ok, one_made}
use Rattle.core_cases.proofs.Choosing.{case_is}
use Rattle.core_cases.proofs.cases.one_case.Goals as goal

pub returns-clause-made : goal.returns-clause-made
returns-clause-made g c =
    let s : Scope = c.args.scope.now in
    let d : Checked = check (pattern c.args.case.now.pattern) (Named c.args.level) s.names in
    let b = expression c.args.case.now.body in
    let e : Exp = break_with (core_expression c.in_ok-body.body) in
    on_ok c.around.result c.around.ensures (λ made is.
    let Of : CaseView → Type 0 = λ x. IsMade (case_tried c.args.level s (length c.args.groups.now) x.pattern x.body) c.args.groups.now c.part.new.groups made in
    subst Of (sym (case_is c.args.case.now))
    (one_made (λ x. around_all d.checks nothing (break_with x)) (elaborate (behind d s) (length c.args.groups.now) b) c.args.groups.now c.part.new.groups c.in_ok-body.body made
    (made_in c.matched.new.scope (behind d s) (length c.args.groups.now) b c.args.groups.now c.part.new.groups c.in_ok-body.body c.in_ok-checks.ensures.scope c.in_ok-body.ensures.made)
    (is ∙ (c.in_ok-checks.ensures.checks nothing (core_expression c.in_ok-leaves.leaves) ∙ ap (λ (x : Exp). around_all d.checks nothing x) c.in_ok-leaves.ensures))))

pub returns-clause-scope : goal.returns-clause-scope
returns-clause-scope g c =
    let d : Checked = check (pattern c.args.case.now.pattern) (Named c.args.level) c.args.scope.now.names in
    in_any_case c.around.result (c.back.ensures.behind c.args.scope.now d c.mark-mark.ensures (c.in_ok-body.ensures.scope ∙ c.in_ok-checks.ensures.scope))
