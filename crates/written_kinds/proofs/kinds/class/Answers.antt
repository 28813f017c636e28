use Rattle.std.proofs.Common.{length, map}
use Rattle.typing_rules.specs.Terms as t
use Rattle.written_types.proofs.Making.{use_below}
use Rattle.written_kinds.proofs.Forms.{class_written}
use Rattle.written_kinds.proofs.kinds.class.Goals as goal

pub intern-requires-clause-below : goal.intern-requires-clause-below
intern-requires-clause-below c = use_below (length c.parameters.new.types.forms) c.args.at c.in_ok-arguments.arguments c.in_ok-arguments.ensures.made.within

pub returns : goal.returns
returns c = class_written c.args.types.now c.parameters.new.types c.intern.new.types c.intern.result c.args.at (map t.Parameter c.args.places.now) c.in_ok-arguments.arguments c.in_ok-arguments.ensures c.intern.ensures
