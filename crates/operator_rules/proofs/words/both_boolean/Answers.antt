use Rattle.typing_rules.specs.AbstractSyntax as p
use Rattle.typing_rules.specs.Terms as t
use Rattle.abstract_tree.specs.TreeView.{plain}
use Rattle.value_scopes.specs.Values.{noted}
use Rattle.judging.specs.Views.{typed_in}
use Rattle.judging.proofs.Forms.{seen_Binary}
use Rattle.judging.proofs.TypedParts.{both_given, first_refused, second_refused}
use Rattle.operator_rules.proofs.Joining.{fitted, joined}
use Rattle.operator_rules.proofs.words.both_boolean.Goals as goal

pub returns-in_err-left : goal.returns-in_err-left
returns-in_err-left g c = first_refused (fitted c.args.layer.now.site (plain c.args.a.now) t.Boolean) (fitted c.args.layer.now.site (plain c.args.b.now) t.Boolean) (joined c.args.layer.now.site t.Boolean c.args.operator) c.args.scopes.now c.fits_boolean.new.scopes c.args.checker.now c.fits_boolean.new.checker c.in_err-left.field-0.0 c.from_residual.result c.from_residual.ensures c.in_err-left.ensures.answer

pub returns-in_err-right : goal.returns-in_err-right
returns-in_err-right g c =
    second_refused (fitted c.args.layer.now.site (plain c.args.a.now) t.Boolean) (fitted c.args.layer.now.site (plain c.args.b.now) t.Boolean) (joined c.args.layer.now.site t.Boolean c.args.operator) c.args.scopes.now c.fits_boolean.new.scopes c.args.checker.now c.fits_boolean.new.checker c.in_ok-left.left c.in_ok-left.ensures.answer
    c.fits_boolean-2.new.scopes c.fits_boolean-2.new.checker c.in_err-right.field-0.0 c.from_residual-in_err-right.result c.from_residual-in_err-right.ensures c.in_err-right.ensures.answer

pub returns : goal.returns
returns g c =
    both_given (fitted c.args.layer.now.site (plain c.args.a.now) t.Boolean) (fitted c.args.layer.now.site (plain c.args.b.now) t.Boolean) (joined c.args.layer.now.site t.Boolean c.args.operator) c.args.scopes.now c.fits_boolean.new.scopes c.args.checker.now c.fits_boolean.new.checker c.in_ok-left.left c.in_ok-left.ensures.answer
    c.fits_boolean-2.new.scopes c.fits_boolean-2.new.checker c.has_boolean.new.checker c.in_ok-right.right c.has_boolean.result c.in_ok-right.ensures.answer
    (c.has_boolean.ensures c.fits_boolean-2.new.scopes c.in_ok-right.ensures.ready.sound (λ later. p.Binary c.args.operator (typed_in c.in_ok-left.left later) (typed_in c.in_ok-right.right later))
    (λ later. seen_Binary (noted later) c.args.operator c.in_ok-left.left c.in_ok-right.right))
