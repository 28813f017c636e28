use Rattle.std.proofs.Common.{length}
use Rattle.typing_rules.specs.Members.{function}
use Rattle.built_in_members.proofs.Interned.{below_function, function_is}
use Rattle.built_in_members.proofs.writing.function.Goals as goal

pub write-requires-clause-below : goal.write-requires-clause-below
write-requires-clause-below c = below_function (length c.args.types.now.forms) c.args.parameters.now c.in_ok-parameters.parameters c.args.given c.in_ok-parameters.ensures c.requires.parameters c.requires.given

pub returns : goal.returns
returns c = λ us r w v. c.write.ensures (function us r) (function_is c.args.types.now c.args.parameters.now c.in_ok-parameters.parameters c.args.given us r c.in_ok-parameters.ensures w v)
