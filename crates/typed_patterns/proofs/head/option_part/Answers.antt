use Rattle.typed_patterns.proofs.Parts.{no_option, some_option}
use Rattle.typed_patterns.proofs.head.option_part.Goals as goal

pub returns-in-None-clause-judged : goal.returns-in-None-clause-judged
returns-in-None-clause-judged c = no_option c.args.types.now c.args.kind c.in_ok-head.head.now c.in_ok-head.ensures c.args.at c.in-None.ensures

pub returns-in_ok-term_of-in-Some-clause-judged : goal.returns-in_ok-term_of-in-Some-clause-judged
returns-in_ok-term_of-in-Some-clause-judged c = some_option c.args.types.now c.args.kind c.in_ok-head.head.now c.in_ok-head.ensures c.args.at c.in-Some.part.now c.in_ok-term_of-in-Some.field-0 c.in-Some.ensures c.in_ok-term_of-in-Some.ensures
