use Rattle.std.proofs.Common.{length}
use Rattle.built_in_members.specs.Written.{plain_term}
use Rattle.built_in_members.proofs.Interned.{below_plain, plain_is}
use Rattle.built_in_members.proofs.writing.plain.Goals as goal

pub write-requires-clause-below : goal.write-requires-clause-below
write-requires-clause-below c = below_plain (length c.args.types.now.forms) c.args.form c.requires.plain

pub returns : goal.returns
returns c = c.write.ensures (plain_term c.args.form) (plain_is c.args.types.now c.args.form c.requires.plain)
