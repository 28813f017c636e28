use Rattle.std.proofs.Common.{Some}
use Rattle.typing_rules.specs.AbstractSyntax as p
use Rattle.typing_rules.specs.Terms as t
use Rattle.typing_rules.specs.Ends.{Has}
use Rattle.abstract_tree.specs.TreeView.{plain}
use Rattle.value_scopes.specs.Values.{noted}
use Rattle.judging.specs.Views.{judge_at, typed_in, wanted_in}
use Rattle.judging.proofs.Forms.{seen_Not}
use Rattle.judging.proofs.TypedParts.{part_given, part_refused}
use Rattle.control_rules.proofs.choices.negation.Goals as goal

pub returns-in_err-of : goal.returns-in_err-of
returns-in_err-of g c =
    part_refused (judge_at c.args.layer.now.site.place (plain c.args.a.now) (Some t.Boolean)) (λ v b. Has c.args.layer.now.site.at (wanted_in v c.args.layer.now.site.wanted) t.Boolean (p.Not b)) c.args.scopes.now c.fits_boolean.new.scopes c.args.checker.now c.fits_boolean.new.checker
    c.in_err-of.field-0.0 c.from_residual.result c.from_residual.ensures c.in_err-of.ensures.answer

pub returns : goal.returns
returns g c =
    part_given (judge_at c.args.layer.now.site.place (plain c.args.a.now) (Some t.Boolean)) (λ v b. Has c.args.layer.now.site.at (wanted_in v c.args.layer.now.site.wanted) t.Boolean (p.Not b)) c.args.scopes.now c.fits_boolean.new.scopes c.fits_boolean.new.scopes c.args.checker.now
    c.fits_boolean.new.checker c.has_boolean.new.checker c.in_ok-of.of c.has_boolean.result c.in_ok-of.ensures.answer
    (c.has_boolean.ensures c.fits_boolean.new.scopes c.in_ok-of.ensures.ready.sound (λ later. p.Not (typed_in c.in_ok-of.of later)) (λ later. seen_Not (noted later) c.in_ok-of.of))
