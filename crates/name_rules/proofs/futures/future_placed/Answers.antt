use Rattle.judging.specs.Views.{nothing, no_more}
use Rattle.judging.proofs.Chains.{no_memory}
use Rattle.name_rules.proofs.FutureTypes.{is_placed}
use Rattle.name_rules.proofs.futures.future_placed.Goals as goal

pub returns-in_err-future-clause-answer : goal.returns-in_err-future-clause-answer
returns-in_err-future-clause-answer c = λ s q. no_memory nothing no_more _ s s c.args.checker.now _ c.from_residual.result c.from_residual.ensures

pub returns-clause-answer : goal.returns-clause-answer
returns-clause-answer c = λ s q.
    is_placed c.args.body c.args.takes c.args.at c.args.kind s c.args.checker.now c.is_future.new.types c.in_ok-future.future c.may_stand-holds.result c.tests.result q c.in_ok-future.ensures.kept c.in_ok-future.ensures.goes
    c.in_ok-future.ensures.stands c.in_ok-future.ensures.is c.may_stand-holds.ensures c.tests.ensures
