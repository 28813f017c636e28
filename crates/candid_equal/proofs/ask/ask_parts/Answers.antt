use Rattle.candid_equal.specs.Asks.{one}
use Rattle.candid_equal.proofs.Grow.{each_unequal}
use Rattle.candid_equal.proofs.ask.ask_parts.Goals as goal

pub returns-then-wire-declared : goal.returns-then-wire-declared
returns-then-wire-declared c = each_unequal one c.args.wire.now c.args.declared.now c.args.out.now.items c.args.out.now.items c.if-wire-declared.true
