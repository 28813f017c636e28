use Rattle.typed_patterns.proofs.Parts.{no_tuple, some_tuple}
use Rattle.typed_patterns.proofs.head.tuple_parts.Goals as goal

pub returns-in-None-clause-judged : goal.returns-in-None-clause-judged
returns-in-None-clause-judged c = no_tuple c.args.types.now c.args.kind c.in_ok-head.head.now c.in_ok-head.ensures c.args.at c.in-None.ensures

pub returns-in_ok-terms_of-in-Some-clause-judged : goal.returns-in_ok-terms_of-in-Some-clause-judged
returns-in_ok-terms_of-in-Some-clause-judged c = some_tuple c.args.types.now c.args.kind c.in_ok-head.head.now c.in_ok-head.ensures c.args.at c.in-Some.parts.now c.in_ok-terms_of-in-Some.field-0.items c.in-Some.ensures c.in_ok-terms_of-in-Some.ensures
