use Rattle.typing_rules.specs.AbstractSyntax as p
use Rattle.value_scopes.specs.Values.{noted}
use Rattle.judging.proofs.Forms.{seen_Object}
use Rattle.judging.proofs.Steps.{reached_on}
use Rattle.object_rules.specs.Values.{fields_in}
use Rattle.object_rules.proofs.ByObject.{is_fitting, not_fitting, not_there}
use Rattle.object_rules.proofs.objects.object_fits.Goals as goal

pub gives-requires : goal.gives-requires
gives-requires g c = reached_on c.args.checker.now.types c.judge_fields.new.checker.types c.args.wanted c.in_ok-made.ensures.answer.outcome.goes c.requires.wanted

pub returns-then-not-are_there : goal.returns-then-not-are_there
returns-then-not-are_there g c =
    not_there c.args.layer.now.site c.args.fields.now c.args.kinds.now c.args.scopes.now c.args.scopes.now c.args.checker.now c.args.checker.now c.args.wanted c.are_there.result c.are_there.ensures c.if-not-are_there.true

pub returns-in_err-made : goal.returns-in_err-made
returns-in_err-made g c =
    not_fitting c.args.layer.now.site c.args.fields.now c.args.kinds.now c.args.scopes.now c.judge_fields.new.scopes c.args.checker.now c.judge_fields.new.checker c.args.wanted c.are_there.result c.are_there.ensures
    c.if-not-are_there.false c.in_err-made.field-0.0 c.from_residual.result c.from_residual.ensures c.in_err-made.ensures.answer

pub returns : goal.returns
returns g c =
    is_fitting c.args.layer.now.site c.args.fields.now c.args.kinds.now c.args.scopes.now c.judge_fields.new.scopes c.args.checker.now c.judge_fields.new.checker c.in_ok-made.made c.in_ok-made.ensures.answer c.args.wanted
    c.are_there.result c.are_there.ensures c.if-not-are_there.false c.gives.result
    (c.gives.ensures c.judge_fields.new.scopes c.in_ok-made.ensures.ready.sound (λ later. p.Object (fields_in c.in_ok-made.made.fields later)) (λ later. seen_Object (noted later) c.in_ok-made.made.fields))
