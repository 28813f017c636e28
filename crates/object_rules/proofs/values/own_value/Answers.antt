use Rattle.object_rules.proofs.Valuing.{own_plain, own_written}
use Rattle.object_rules.proofs.values.own_value.Goals as goal

pub returns-in-Some-clause-answer : goal.returns-in-Some-clause-answer
returns-in-Some-clause-answer g c =
    own_written c.args.layer.now.site.place c.args.field.now c.args.field.now.annotation c.args.scopes.now c.written_value.new.scopes c.args.checker.now c.written_value.new.checker c.written_value.result c.in-Some.written c.in-Some.is
    c.written_value.ensures.answer

pub returns-in-None-clause-answer : goal.returns-in-None-clause-answer
returns-in-None-clause-answer g c =
    own_plain c.args.layer.now.site.place c.args.field.now c.args.field.now.annotation c.args.scopes.now c.plain_value.new.scopes c.args.checker.now c.plain_value.new.checker c.plain_value.result c.in-None.is c.plain_value.ensures.answer
