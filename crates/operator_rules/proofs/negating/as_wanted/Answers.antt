use Rattle.typing_rules.specs.AbstractSyntax as p
use Rattle.abstract_tree.specs.TreeView.{plain}
use Rattle.value_scopes.specs.Values.{noted}
use Rattle.judging.specs.Views.{typed_in}
use Rattle.judging.proofs.Forms.{seen_Negative}
use Rattle.judging.proofs.Steps.{reached_on}
use Rattle.judging.proofs.TypedParts.{part_given, part_refused}
use Rattle.operator_rules.proofs.Opposites.{fitted_operand, made_as}
use Rattle.operator_rules.proofs.negating.as_wanted.Goals as goal

pub gives-requires : goal.gives-requires
gives-requires g c = reached_on c.args.checker.now.types c.as_wanted.new.checker.types c.args.wanted c.in_ok-of.ensures.answer.outcome.goes c.requires.wanted

pub returns-in_err-of : goal.returns-in_err-of
returns-in_err-of g c = part_refused (fitted_operand c.args.layer.now.site (plain c.args.a.now)) (made_as c.args.layer.now.site (plain c.args.a.now) c.args.wanted) c.args.scopes.now c.as_wanted.new.scopes c.args.checker.now c.as_wanted.new.checker c.in_err-of.field-0.0 c.from_residual.result c.from_residual.ensures c.in_err-of.ensures.answer

pub returns : goal.returns
returns g c =
    part_given (fitted_operand c.args.layer.now.site (plain c.args.a.now)) (made_as c.args.layer.now.site (plain c.args.a.now) c.args.wanted) c.args.scopes.now c.as_wanted.new.scopes c.as_wanted.new.scopes c.args.checker.now c.as_wanted.new.checker c.as_wanted.new.checker c.in_ok-of.of c.gives.result c.in_ok-of.ensures.answer
    (c.gives.ensures c.as_wanted.new.scopes c.in_ok-of.ensures.ready.sound (λ later. p.Negative (typed_in c.in_ok-of.of later)) (λ later. seen_Negative (noted later) c.in_ok-of.of))
