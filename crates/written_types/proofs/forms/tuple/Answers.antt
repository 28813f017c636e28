use Rattle.std.proofs.Common.{length}
use Rattle.written_types.proofs.Making.{listed_below}
use Rattle.written_types.proofs.forms.tuple.Goals as goal

pub intern-requires-clause-below : goal.intern-requires-clause-below
intern-requires-clause-below c = listed_below (length c.args.types.now.forms) c.args.items c.requires.within
