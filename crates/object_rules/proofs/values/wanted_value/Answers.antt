use Rattle.judging.proofs.Steps.{reached_within}
use Rattle.object_rules.proofs.Valuing.{not_alike, wanted_plain, wanted_written}
use Rattle.object_rules.proofs.values.wanted_value.Goals as goal

pub plain_value-requires-clause-wanted : goal.plain_value-requires-clause-wanted
plain_value-requires-clause-wanted g c = reached_within c.args.checker.now.types c.args.wanted.now.part c.requires.ready.sound.known.kept c.requires.wanted

pub returns-then-not-is_same-clause-answer : goal.returns-then-not-is_same-clause-answer
returns-then-not-is_same-clause-answer g c =
    not_alike c.args.layer.now.site.place c.args.field.now c.args.field.now.annotation c.args.wanted.now c.args.scopes.now c.args.checker.now c.is_same.result c.is_same.ensures c.if-not-is_same.true

pub returns-in-Some-clause-answer : goal.returns-in-Some-clause-answer
returns-in-Some-clause-answer g c =
    wanted_written c.args.layer.now.site.place c.args.field.now c.args.field.now.annotation c.args.scopes.now c.fitting_value.new.scopes c.args.checker.now c.fitting_value.new.checker c.fitting_value.result c.args.wanted.now
    c.is_same.result c.is_same.ensures c.if-not-is_same.false c.in-Some.written c.in-Some.is c.fitting_value.ensures.answer

pub returns-in-None-clause-answer : goal.returns-in-None-clause-answer
returns-in-None-clause-answer g c =
    wanted_plain c.args.layer.now.site.place c.args.field.now c.args.field.now.annotation c.args.scopes.now c.plain_value.new.scopes c.args.checker.now c.plain_value.new.checker c.plain_value.result c.args.wanted.now c.is_same.result
    c.is_same.ensures c.if-not-is_same.false c.in-None.is c.plain_value.ensures.answer
