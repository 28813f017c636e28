use Rattle.std.proofs.Common.{length}
use Rattle.written_types.proofs.Making.{shared_below}
use Rattle.written_kinds.proofs.kinds.shared.Goals as goal

pub intern-requires-clause-below : goal.intern-requires-clause-below
intern-requires-clause-below c = shared_below (length c.args.types.now.forms) c.args.sort c.args.parameters c.args.of c.requires.parameters c.requires.within
