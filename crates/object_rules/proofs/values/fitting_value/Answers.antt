use Rattle.std.proofs.Common.{Ok}
use Rattle.judging.proofs.Steps.{reached_on, reached_within}
use Rattle.object_rules.proofs.Valuing.{given_at, is_fitting, not_fitting, not_read_fitting, refused_at}
use Rattle.object_rules.proofs.values.fitting_value.Goals as goal

pub fits_field-requires-clause-kept : goal.fits_field-requires-clause-kept
fits_field-requires-clause-kept g c = c.in_ok-kind.ensures.answer.outcome.sound.known.kept

pub fits_field-requires-clause-kind : goal.fits_field-requires-clause-kind
fits_field-requires-clause-kind g c = c.in_ok-kind.ensures.answer.outcome.holds

pub fits_field-requires-clause-wanted : goal.fits_field-requires-clause-wanted
fits_field-requires-clause-wanted g c = reached_on c.args.checker.now.types c.reads.new.checker.types c.args.wanted c.in_ok-kind.ensures.answer.outcome.goes c.requires.wanted

pub part-requires-clause-ready : goal.part-requires-clause-ready
part-requires-clause-ready g c = c.in_ok-kind.ensures.ready c.args.layer.now.site c.requires.ready

pub part-requires-clause-wanted : goal.part-requires-clause-wanted
part-requires-clause-wanted g c = reached_within c.reads.new.checker.types c.in_ok-kind.kind c.in_ok-kind.ensures.answer.outcome.sound.known.kept c.in_ok-kind.ensures.answer.outcome.holds

pub returns-in_err-kind-clause-answer : goal.returns-in_err-kind-clause-answer
returns-in_err-kind-clause-answer g c =
    not_read_fitting c.args.layer.now.site.place c.args.field.now c.args.written.now c.args.scopes.now c.args.checker.now c.args.wanted c.reads.new.checker c.in_err-kind.field-0.0 c.from_residual.result c.from_residual.ensures
    c.in_err-kind.ensures.answer

pub returns-in_err-fits_field-clause-answer : goal.returns-in_err-fits_field-clause-answer
returns-in_err-fits_field-clause-answer g c =
    not_fitting c.args.layer.now.site.place c.args.field.now c.args.written.now c.args.scopes.now c.args.checker.now c.args.wanted c.reads.new.checker c.in_ok-kind.kind c.in_ok-kind.ensures.answer c.in_err-fits_field.field-0.0
    c.from_residual-in_err-fits_field.result c.from_residual-in_err-fits_field.ensures (c.in_err-fits_field.ensures c.args.scopes.now c.in_ok-kind.ensures.answer.outcome.sound)

pub returns-in_err-value-clause-answer : goal.returns-in_err-value-clause-answer
returns-in_err-value-clause-answer g c =
    is_fitting c.args.layer.now.site.place c.args.field.now c.args.written.now c.args.scopes.now c.args.checker.now c.args.wanted c.reads.new.checker c.in_ok-kind.kind c.in_ok-kind.ensures.answer c.part.new.scopes c.part.new.checker
    c.from_residual-in_err-value.result (c.in_ok-fits_field.ensures c.args.scopes.now c.in_ok-kind.ensures.answer.outcome.sound)
    (refused_at c.args.layer.now.site.place c.args.field.now c.args.written.now c.args.scopes.now c.args.checker.now c.in_ok-kind.kind c.args.scopes.now c.part.new.scopes c.reads.new.checker c.part.new.checker c.in_err-value.field-0.0
    c.from_residual-in_err-value.result c.from_residual-in_err-value.ensures c.in_err-value.ensures.answer)

pub returns-clause-answer : goal.returns-clause-answer
returns-clause-answer g c =
    is_fitting c.args.layer.now.site.place c.args.field.now c.args.written.now c.args.scopes.now c.args.checker.now c.args.wanted c.reads.new.checker c.in_ok-kind.kind c.in_ok-kind.ensures.answer c.part.new.scopes c.part.new.checker
    (Ok (record { value = c.in_ok-value.value; kind = c.in_ok-kind.kind })) (c.in_ok-fits_field.ensures c.args.scopes.now c.in_ok-kind.ensures.answer.outcome.sound)
    (given_at c.args.layer.now.site.place c.args.field.now c.args.written.now c.args.scopes.now c.args.checker.now c.in_ok-kind.kind c.args.scopes.now c.part.new.scopes c.reads.new.checker c.part.new.checker c.in_ok-value.value
    c.in_ok-kind.ensures.answer.outcome.holds c.in_ok-value.ensures.answer)
