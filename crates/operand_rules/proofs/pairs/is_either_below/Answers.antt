use Rattle.operand_rules.proofs.Deciding.{first_below, second_below}
use Rattle.operand_rules.proofs.pairs.is_either_below.Goals as goal

pub returns-then-branch : goal.returns-then-branch
returns-then-branch c = first_below c.args.types.now c.args.a c.args.b c.in_ok-is_below.field-0 c.in_ok-is_below.ensures c.if-branch.true

pub returns : goal.returns
returns c = second_below c.args.types.now c.args.a c.args.b c.in_ok-is_below.field-0 c.in_ok-below.below c.in_ok-is_below.ensures c.if-branch.false c.in_ok-below.ensures
