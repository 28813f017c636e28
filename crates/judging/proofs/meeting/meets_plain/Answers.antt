use Rattle.std.proofs.Common.{length}
use Rattle.met_types.specs.States.{State}
use Rattle.judging.specs.declared.checker.Checker.{Checker}
use Rattle.judging.specs.Views.{term_in}
use Rattle.met_types.specs.States.{IsReached}
use Rattle.judging.proofs.Chains.{goes_on_from, no_memory}
use Rattle.judging.proofs.Ends.{form_met, form_unmet}
use Rattle.judging.proofs.Steps.{none_below, sound_on}
use Rattle.judging.proofs.meeting.meets_plain.Goals as goal

abbrev met : Checker → State → Checker
met k t = record k { types = t }

pub intern-requires-clause-below : goal.intern-requires-clause-below
intern-requires-clause-below c = none_below (length c.args.checker.now.types.forms) c.args.kind c.requires.plain

pub returns-in_err-id-clause-answer : goal.returns-in_err-id-clause-answer
returns-in_err-id-clause-answer c = λ s q. no_memory term_in IsReached _ s s c.args.checker.now _ c.from_residual.result c.from_residual.ensures

pub returns-in_err-meets-clause-answer : goal.returns-in_err-meets-clause-answer
returns-in_err-meets-clause-answer c = λ s q.
    form_unmet c.args.kind c.in_ok-id.id s c.args.checker.now (met c.args.checker.now c.intern.new.self) (met c.args.checker.now c.meets.new.types) c.in_ok-id.ensures.goes c.in_ok-id.ensures.stands c.in_ok-id.ensures.made.is
    c.in_err-meets.field-0.0 c.from_residual-in_err-meets.result c.from_residual-in_err-meets.ensures c.in_err-meets.ensures.left c.in_err-meets.ensures.judged

pub returns-clause-goes : goal.returns-clause-goes
returns-clause-goes c = goes_on_from c.args.checker.now.types c.intern.new.self c.meets.new.types c.in_ok-id.ensures.goes c.in_ok-meets.ensures.goes

pub returns-clause-answer : goal.returns-clause-answer
returns-clause-answer c = λ s q.
    form_met c.args.kind c.in_ok-id.id s c.args.checker.now (met c.args.checker.now c.intern.new.self) (met c.args.checker.now c.meets.new.types) c.in_ok-id.ensures.goes c.in_ok-id.ensures.stands c.in_ok-id.ensures.made.is
    (sound_on c.args.checker.now s c.meets.new.types q c.in_ok-meets.ensures.kept (goes_on_from c.args.checker.now.types c.intern.new.self c.meets.new.types c.in_ok-id.ensures.goes c.in_ok-meets.ensures.goes)) c.in_ok-meets.ensures.goes
    c.in_ok-meets.ensures.reached c.in_ok-meets.ensures.judged
