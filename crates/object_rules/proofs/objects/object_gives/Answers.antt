use Rattle.std.proofs.Common.{[]}
use Rattle.typing_rules.specs.AbstractSyntax as p
use Rattle.value_scopes.specs.Values.{noted}
use Rattle.judging.proofs.Forms.{seen_Object}
use Rattle.object_rules.specs.Values.{fields_in}
use Rattle.object_rules.proofs.ByObject.{below_object, is_given, not_given}
use Rattle.object_rules.proofs.objects.object_gives.Goals as goal

pub has_form-requires-clause-below : goal.has_form-requires-clause-below
has_form-requires-clause-below g c =
    below_object c.judge_fields.new.checker c.judge_fields.new.scopes c.in_ok-made.made.kinds c.in_ok-made.ensures.ready.sound c.in_ok-made.ensures.answer.outcome.holds

pub returns-in_err-made : goal.returns-in_err-made
returns-in_err-made g c =
    not_given c.args.layer.now.site c.args.fields.now [] c.args.scopes.now c.judge_fields.new.scopes c.args.checker.now c.judge_fields.new.checker c.in_err-made.field-0.0 c.from_residual.result c.from_residual.ensures
    c.in_err-made.ensures.answer

pub returns : goal.returns
returns g c =
    is_given c.args.layer.now.site c.args.fields.now [] c.args.scopes.now c.judge_fields.new.scopes c.args.checker.now c.judge_fields.new.checker c.in_ok-made.made c.in_ok-made.ensures.answer c.has_form.new.checker c.has_form.result
    (c.has_form.ensures c.judge_fields.new.scopes c.in_ok-made.ensures.ready.sound (λ later. p.Object (fields_in c.in_ok-made.made.fields later)) (λ later. seen_Object (noted later) c.in_ok-made.made.fields))
