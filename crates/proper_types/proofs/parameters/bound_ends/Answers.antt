use Rattle.proper_types.proofs.Readings.{ends_nowhere}
use Rattle.proper_types.proofs.parameters.bound_ends.Goals as goal

pub returns-else-branch : goal.returns-else-branch
returns-else-branch c = ends_nowhere c.args.at c.args.types.now c.ends.new.types c.in_ok-ends.field-0 c.in_ok-ends.ensures.same c.in_ok-ends.ensures.answer c.if-branch.false
