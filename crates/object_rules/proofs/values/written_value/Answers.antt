use Rattle.std.proofs.Common.{Ok}
use Rattle.judging.proofs.Steps.{reached_within}
use Rattle.object_rules.proofs.Valuing.{given_at, is_read, not_read, refused_at}
use Rattle.object_rules.proofs.values.written_value.Goals as goal

pub part-requires-clause-ready : goal.part-requires-clause-ready
part-requires-clause-ready g c = c.in_ok-kind.ensures.ready c.args.layer.now.site c.requires.ready

pub part-requires-clause-wanted : goal.part-requires-clause-wanted
part-requires-clause-wanted g c = reached_within c.reads.new.checker.types c.in_ok-kind.kind c.in_ok-kind.ensures.answer.outcome.sound.known.kept c.in_ok-kind.ensures.answer.outcome.holds

pub returns-in_err-kind-clause-answer : goal.returns-in_err-kind-clause-answer
returns-in_err-kind-clause-answer g c =
    not_read c.args.layer.now.site.place c.args.field.now c.args.written.now c.args.scopes.now c.args.checker.now c.reads.new.checker c.in_err-kind.field-0.0 c.from_residual.result c.from_residual.ensures c.in_err-kind.ensures.answer

pub returns-in_err-value-clause-answer : goal.returns-in_err-value-clause-answer
returns-in_err-value-clause-answer g c =
    is_read c.args.layer.now.site.place c.args.field.now c.args.written.now c.args.scopes.now c.args.checker.now c.part.new.scopes c.reads.new.checker c.part.new.checker c.in_ok-kind.kind c.from_residual-in_err-value.result
    c.in_ok-kind.ensures.answer
    (refused_at c.args.layer.now.site.place c.args.field.now c.args.written.now c.args.scopes.now c.args.checker.now c.in_ok-kind.kind c.args.scopes.now c.part.new.scopes c.reads.new.checker c.part.new.checker c.in_err-value.field-0.0
    c.from_residual-in_err-value.result c.from_residual-in_err-value.ensures c.in_err-value.ensures.answer)

pub returns-clause-answer : goal.returns-clause-answer
returns-clause-answer g c =
    is_read c.args.layer.now.site.place c.args.field.now c.args.written.now c.args.scopes.now c.args.checker.now c.part.new.scopes c.reads.new.checker c.part.new.checker c.in_ok-kind.kind
    (Ok (record { value = c.in_ok-value.value; kind = c.in_ok-kind.kind })) c.in_ok-kind.ensures.answer
    (given_at c.args.layer.now.site.place c.args.field.now c.args.written.now c.args.scopes.now c.args.checker.now c.in_ok-kind.kind c.args.scopes.now c.part.new.scopes c.reads.new.checker c.part.new.checker c.in_ok-value.value
    c.in_ok-kind.ensures.answer.outcome.holds c.in_ok-value.ensures.answer)
