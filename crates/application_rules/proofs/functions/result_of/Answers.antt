use Rattle.std.proofs.Common.{length}
use Rattle.judging.proofs.Steps.{below_tuple}
use Rattle.application_rules.proofs.FunctionParts.{one_result, tuple_result}
use Rattle.application_rules.proofs.functions.result_of.Goals as goal

pub intern-requires-clause-below : goal.intern-requires-clause-below
intern-requires-clause-below c = below_tuple (length c.args.types.now.forms) c.args.results c.requires.within

pub returns-in-Some : goal.returns-in-Some
returns-in-Some c = one_result c.args.types.now c.requires.kept c.args.results c.as_slice.result.now c.in-Some.one c.in-Some.ensures c.as_slice.ensures c.requires.within

pub returns-in-None : goal.returns-in-None
returns-in-None c =
    tuple_result c.args.types.now c.intern.new.self c.args.results c.as_slice.result.now c.intern.result c.in-None.ensures c.as_slice.ensures c.intern.ensures.kept c.intern.ensures.goes c.intern.ensures.stands c.intern.ensures.made
