use Rattle.std.proofs.Common.{Some}
use Rattle.typing_rules.specs.AbstractSyntax as p
use Rattle.typing_rules.specs.Terms as t
use Rattle.typing_rules.specs.Ends.{Has}
use Rattle.abstract_tree.specs.TreeView.{plain}
use Rattle.value_scopes.specs.Values.{noted}
use Rattle.judging.specs.Views.{judge_at, typed_in, wanted_in}
use Rattle.judging.proofs.Forms.{seen_When}
use Rattle.judging.proofs.TypedParts.{both_given, first_refused, second_refused}
use Rattle.control_rules.proofs.choices.when.Goals as goal

pub returns-in_err-condition : goal.returns-in_err-condition
returns-in_err-condition g c =
    first_refused (judge_at c.args.layer.now.site.place (plain c.args.c.now) (Some t.Boolean)) (judge_at c.args.layer.now.site.place (plain c.args.a.now) (Some t.unit)) (λ v a b. Has c.args.layer.now.site.at (wanted_in v c.args.layer.now.site.wanted) t.unit (p.When a b)) c.args.scopes.now c.fits_boolean.new.scopes c.args.checker.now c.fits_boolean.new.checker
    c.in_err-condition.field-0.0 c.from_residual.result c.from_residual.ensures c.in_err-condition.ensures.answer

pub returns-in_err-body : goal.returns-in_err-body
returns-in_err-body g c =
    second_refused (judge_at c.args.layer.now.site.place (plain c.args.c.now) (Some t.Boolean)) (judge_at c.args.layer.now.site.place (plain c.args.a.now) (Some t.unit)) (λ v a b. Has c.args.layer.now.site.at (wanted_in v c.args.layer.now.site.wanted) t.unit (p.When a b)) c.args.scopes.now c.fits_boolean.new.scopes c.args.checker.now c.fits_boolean.new.checker
    c.in_ok-condition.condition c.in_ok-condition.ensures.answer c.fits_unit.new.scopes c.fits_unit.new.checker c.in_err-body.field-0.0 c.from_residual-in_err-body.result c.from_residual-in_err-body.ensures c.in_err-body.ensures.answer

pub returns : goal.returns
returns g c =
    both_given (judge_at c.args.layer.now.site.place (plain c.args.c.now) (Some t.Boolean)) (judge_at c.args.layer.now.site.place (plain c.args.a.now) (Some t.unit)) (λ v a b. Has c.args.layer.now.site.at (wanted_in v c.args.layer.now.site.wanted) t.unit (p.When a b)) c.args.scopes.now c.fits_boolean.new.scopes c.args.checker.now c.fits_boolean.new.checker
    c.in_ok-condition.condition c.in_ok-condition.ensures.answer c.fits_unit.new.scopes c.fits_unit.new.checker c.has_unit.new.checker c.in_ok-body.body c.has_unit.result c.in_ok-body.ensures.answer
    (c.has_unit.ensures c.fits_unit.new.scopes c.in_ok-body.ensures.ready.sound (λ later. p.When (typed_in c.in_ok-condition.condition later) (typed_in c.in_ok-body.body later))
    (λ later. seen_When (noted later) c.in_ok-condition.condition c.in_ok-body.body))
