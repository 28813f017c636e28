use Rattle.typed_patterns.proofs.Parts.{no_unit, unit_judged}
use Rattle.typed_patterns.proofs.head.needs_unit.Goals as goal

pub returns-in-Some : goal.returns-in-Some
returns-in-Some c =
    unit_judged c.args.types.now c.args.kind c.in_ok-head.head.now c.in_ok-head.ensures c.args.at c.in-Some.parts.now c.is_empty.result c.tests.result c.in-Some.ensures c.is_empty.ensures (c.tests.ensures c.args.types.now)

pub returns-in-None : goal.returns-in-None
returns-in-None c = no_unit c.args.types.now c.args.kind c.in_ok-head.head.now c.in_ok-head.ensures c.args.at c.in-None.ensures
