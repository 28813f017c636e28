use Rattle.std.proofs.Common.{length}
use Rattle.written_types.proofs.Making.{function_below}
use Rattle.written_kinds.proofs.kinds.function.Goals as goal

pub intern-requires-clause-below : goal.intern-requires-clause-below
intern-requires-clause-below c = function_below (length c.args.types.now.forms) c.args.parameters c.args.of c.requires.parameters c.requires.within
