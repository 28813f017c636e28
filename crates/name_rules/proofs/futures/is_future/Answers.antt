use Rattle.name_rules.proofs.FutureTypes.{goes_not}
use Rattle.name_rules.proofs.futures.is_future.Goals as goal

pub returns-in-Some-clause-goes : goal.returns-in-Some-clause-goes
returns-in-Some-clause-goes c = goes_not c.args.types.now
