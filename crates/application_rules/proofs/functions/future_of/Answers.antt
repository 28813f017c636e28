use Rattle.std.proofs.Common.{length}
use Rattle.application_rules.proofs.FunctionParts.{below_future, future_made}
use Rattle.application_rules.proofs.functions.future_of.Goals as goal

pub intern-requires-clause-below : goal.intern-requires-clause-below
intern-requires-clause-below c = below_future (length c.args.types.now.forms) c.args.kind c.requires.within

pub returns : goal.returns
returns c = future_made c.args.types.now c.intern.new.self c.args.kind c.intern.result c.intern.ensures.kept c.intern.ensures.goes c.intern.ensures.stands c.intern.ensures.made
