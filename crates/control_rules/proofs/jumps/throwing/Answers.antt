use Rattle.std.proofs.Common.{◌∙◌, Some, sym}
use Rattle.typing_rules.specs.declared.condition.Condition.TheVariants as condition
use Rattle.typing_rules.specs.AbstractSyntax as p
use Rattle.typing_rules.specs.AsyncPlaces.{waits}
use Rattle.typing_rules.specs.Terms as t
use Rattle.typing_rules.specs.Judgements.{Part}
use Rattle.typing_rules.specs.Ends.{Has}
use Rattle.abstract_tree.specs.TreeView.{plain}
use Rattle.value_scopes.specs.Places.{body_in}
use Rattle.value_scopes.specs.Values.{noted}
use Rattle.judging.specs.Views.{judge_at, kind_reached, typed_in, wanted_in}
use Rattle.judging.proofs.Cases.{tests_fail, tests_hold}
use Rattle.judging.proofs.Forms.{seen_Throw}
use Rattle.judging.proofs.TypedParts.{part_given, part_refused}
use Rattle.control_rules.proofs.jumps.throwing.Goals as goal

pub returns-else-waits : goal.returns-else-waits
returns-else-waits g c = tests_fail typed_in kind_reached condition.AsyncPlace c.args.layer.now.site.at (waits (body_in c.args.layer.now.site.place.body)) (λ v. Part (judge_at c.args.layer.now.site.place (plain c.args.a.now) (Some t.Error) v) (λ b. Has c.args.layer.now.site.at (wanted_in v c.args.layer.now.site.wanted) t.Bottom (p.Throw b))) c.args.scopes.now c.args.checker.now (sym c.waits.ensures ∙ c.if-waits.false)

pub returns-in_err-of : goal.returns-in_err-of
returns-in_err-of g c =
    tests_hold typed_in kind_reached condition.AsyncPlace c.args.layer.now.site.at (waits (body_in c.args.layer.now.site.place.body)) (λ v. Part (judge_at c.args.layer.now.site.place (plain c.args.a.now) (Some t.Error) v) (λ b. Has c.args.layer.now.site.at (wanted_in v c.args.layer.now.site.wanted) t.Bottom (p.Throw b))) c.args.scopes.now c.fits_error.new.scopes c.args.checker.now c.fits_error.new.checker c.from_residual.result (sym c.waits.ensures ∙ c.if-waits.true)
    (part_refused (judge_at c.args.layer.now.site.place (plain c.args.a.now) (Some t.Error)) (λ v b. Has c.args.layer.now.site.at (wanted_in v c.args.layer.now.site.wanted) t.Bottom (p.Throw b))
    c.args.scopes.now c.fits_error.new.scopes c.args.checker.now c.fits_error.new.checker c.in_err-of.field-0.0 c.from_residual.result c.from_residual.ensures c.in_err-of.ensures.answer)

pub returns-in_ok-of : goal.returns-in_ok-of
returns-in_ok-of g c =
    tests_hold typed_in kind_reached condition.AsyncPlace c.args.layer.now.site.at (waits (body_in c.args.layer.now.site.place.body)) (λ v. Part (judge_at c.args.layer.now.site.place (plain c.args.a.now) (Some t.Error) v) (λ b. Has c.args.layer.now.site.at (wanted_in v c.args.layer.now.site.wanted) t.Bottom (p.Throw b))) c.args.scopes.now c.fits_error.new.scopes c.args.checker.now c.has_bottom.new.checker c.has_bottom.result (sym c.waits.ensures ∙ c.if-waits.true)
    (part_given (judge_at c.args.layer.now.site.place (plain c.args.a.now) (Some t.Error)) (λ v b. Has c.args.layer.now.site.at (wanted_in v c.args.layer.now.site.wanted) t.Bottom (p.Throw b))
    c.args.scopes.now c.fits_error.new.scopes c.fits_error.new.scopes c.args.checker.now c.fits_error.new.checker c.has_bottom.new.checker c.in_ok-of.of c.has_bottom.result c.in_ok-of.ensures.answer
    (c.has_bottom.ensures c.fits_error.new.scopes c.in_ok-of.ensures.ready.sound (λ later. p.Throw (typed_in c.in_ok-of.of later)) (λ later. seen_Throw (noted later) c.in_ok-of.of)))
