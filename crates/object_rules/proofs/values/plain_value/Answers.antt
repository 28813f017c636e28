use Rattle.object_rules.proofs.Valuing.{no_value, value_given}
use Rattle.object_rules.proofs.values.plain_value.Goals as goal

pub returns-in_err-value-clause-answer : goal.returns-in_err-value-clause-answer
returns-in_err-value-clause-answer g c =
    no_value c.args.layer.now.site.place c.args.field.now c.args.wanted c.args.scopes.now c.part.new.scopes c.args.checker.now c.part.new.checker c.in_err-value.field-0.0 c.from_residual.result c.from_residual.ensures c.in_err-value.ensures.answer

pub returns-clause-answer : goal.returns-clause-answer
returns-clause-answer g c =
    value_given c.args.layer.now.site.place c.args.field.now c.args.wanted c.args.scopes.now c.part.new.scopes c.args.checker.now c.part.new.checker c.in_ok-value.value c.in_ok-value.ensures.answer
