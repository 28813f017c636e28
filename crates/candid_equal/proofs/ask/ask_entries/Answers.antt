use Rattle.std.proofs.Common.{◌<◌, length, arith}
use Rattle.candid_equal.specs.Asks.{entry_asks}
use Rattle.candid_equal.proofs.Grow.{each_unequal, each_more_at}
use Rattle.candid_equal.proofs.ask.ask_entries.Goals as goal

pub returns-then-wire-declared : goal.returns-then-wire-declared
returns-then-wire-declared c = each_unequal entry_asks c.args.wire.now c.args.declared.now c.args.out.now.items c.args.out.now.items c.if-wire-declared.true

pub loop-i-preserved : goal.loop-i-preserved
loop-i-preserved c =
    let l : c.loop-i.i < length c.args.declared.now = omega arith in
    each_more_at entry_asks c.args.wire.now c.args.declared.now c.loop-i.i _ _ c.args.out.now.items c.loop-i.out.items c.ask_entry.new.out.items c.in_ok-ask_entry.field-0 c.loop-i-test.true l c.loop-i.invariant c.in_ok-ask_entry.ensures c.if-not-branch.false
