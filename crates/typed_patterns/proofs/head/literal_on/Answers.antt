use Rattle.typed_patterns.proofs.Parts.{literal_refused, literal_stands}
use Rattle.typed_patterns.proofs.head.literal_on.Goals as goal

pub returns-in-Some : goal.returns-in-Some
returns-in-Some c = literal_refused c.args.types.now c.args.kind c.in_ok-head.head.now c.in_ok-head.ensures c.args.at c.args.minus c.args.literal.now c.in-Some.condition c.in-Some.ensures

pub returns-in-None : goal.returns-in-None
returns-in-None c = literal_stands c.args.types.now c.args.kind c.in_ok-head.head.now c.in_ok-head.ensures c.args.at c.args.minus c.args.literal.now c.in-None.ensures
