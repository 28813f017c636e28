use Rattle.std.proofs.Common.{length}
use Rattle.typing_rules.specs.Terms as t
use Rattle.built_in_members.proofs.Interned.{array_is, below_array}
use Rattle.built_in_members.proofs.writing.array.Goals as goal

pub write-requires-clause-below : goal.write-requires-clause-below
write-requires-clause-below c = below_array (length c.args.types.now.forms) c.args.part c.requires.part

pub returns : goal.returns
returns c = λ u w. c.write.ensures (t.Array u) (array_is c.args.types.now c.args.part u w)
