use Rattle.type_judgements.proofs.Turns.{is_not_so}
use Rattle.type_judgements.proofs.steps.tests.Goals as goal

pub returns-else-holds : goal.returns-else-holds
returns-else-holds c s = is_not_so s c.args.condition c.args.place c.args.holds c.if-holds.false
