use Rattle.std.proofs.Common.{ℕ, sym, subst, ap}
use Rattle.typing_rules.specs.AbstractSyntax as p
use Rattle.abstract_tree.specs.TreeView.{plain_form}
use Rattle.judging.specs.declared.site.Site.{Site}
use Rattle.judging.specs.Parts.{Ready}
use Rattle.judging.specs.Views.{rule, typed_in, kind_reached}
use Rattle.judging.specs.Answers.{Answers}
use Rattle.expression_rules.proofs.FirstMet.{entered, not_entered, ready_entered, with_types}
use Rattle.expression_rules.proofs.entering.judged_by.Goals as goal

pub by_form-requires-clause-ready : goal.by_form-requires-clause-ready
by_form-requires-clause-ready g c =
    subst (λ (x : Site). Ready (with_types c.args.checker.now c.meets_wanted.new.types) c.args.scopes.now x) (sym c.site_of-site.ensures)
    (ready_entered c.args.part.place c.args.part.expression.now c.args.part.wanted c.args.scopes.now c.args.checker.now c.meets_wanted.new.types c.requires.entering c.in_ok-meets_wanted.ensures.kept c.in_ok-meets_wanted.ensures.goes c.in_ok-meets_wanted.ensures.reached)

pub returns-in_err-meets_wanted : goal.returns-in_err-meets_wanted
returns-in_err-meets_wanted g c =
    not_entered c.args.part.place c.args.part.expression.now c.args.part.wanted c.args.scopes.now c.args.checker.now c.meets_wanted.new.types c.in_err-meets_wanted.field-0.0 c.from_residual.result c.from_residual.ensures
    c.in_err-meets_wanted.ensures.left c.in_err-meets_wanted.ensures.judged

pub returns : goal.returns
returns g c =
    entered c.args.part.place c.args.part.expression.now c.args.part.wanted c.args.scopes.now c.args.checker.now c.meets_wanted.new.types c.requires.entering c.in_ok-meets_wanted.ensures.kept c.in_ok-meets_wanted.ensures.goes c.in_ok-meets_wanted.ensures.reached
    c.in_ok-meets_wanted.ensures.judged c.by_form.new.scopes c.by_form.new.checker c.by_form.result
    (subst (λ (x : Site). Answers typed_in kind_reached (rule x (plain_form c.args.part.expression.now.form)) c.args.scopes.now (with_types c.args.checker.now c.meets_wanted.new.types) c.by_form.new.scopes c.by_form.new.checker c.by_form.result) c.site_of-site.ensures
    (subst (λ (f : p.Form ℕ). Answers typed_in kind_reached (rule c.site_of-site.result f) c.args.scopes.now (with_types c.args.checker.now c.meets_wanted.new.types) c.by_form.new.scopes c.by_form.new.checker c.by_form.result) (ap plain_form c.get.ensures) c.by_form.ensures))
