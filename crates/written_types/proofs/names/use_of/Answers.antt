use Rattle.std.proofs.Common.{length}
use Rattle.written_types.proofs.Making.{use_below}
use Rattle.written_types.proofs.names.use_of.Goals as goal

pub intern-requires-clause-below : goal.intern-requires-clause-below
intern-requires-clause-below c = use_below (length c.with_outer.new.types.forms) c.args.at c.in_ok-arguments.arguments c.in_ok-arguments.ensures.made.within
