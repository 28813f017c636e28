use Rattle.mo_subtype.proofs.Asks.{parts_unequal}
use Rattle.mo_subtype.proofs.ask.ask_parts.Goals as goal

pub returns-then-low-high : goal.returns-then-low-high
returns-then-low-high c = parts_unequal c.args.low.now c.args.high.now c.args.out.now.items c.args.out.now.items c.if-low-high.true
