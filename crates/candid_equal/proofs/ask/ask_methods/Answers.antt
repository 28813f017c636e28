use Rattle.std.proofs.Common.{◌<◌, length, arith}
use Rattle.candid_equal.specs.Asks.{method_asks}
use Rattle.candid_equal.proofs.Grow.{each_unequal, each_more}
use Rattle.candid_equal.proofs.ask.ask_methods.Goals as goal

pub returns-then-wire-declared : goal.returns-then-wire-declared
returns-then-wire-declared c = each_unequal method_asks c.args.wire.now c.args.declared.now c.args.out.now.items c.args.out.now.items c.if-wire-declared.true

pub loop-i-preserved : goal.loop-i-preserved
loop-i-preserved c =
    let l : c.loop-i.i < length c.args.declared.now = omega arith in
    each_more method_asks c.args.wire.now c.args.declared.now c.loop-i.i c.index-wire-i.result c.index-declared-i.result c.args.out.now.items c.loop-i.out.items c.ask_method.new.out.items c.in_ok-ask_method.field-0 c.loop-i-test.true l c.index-wire-i.is c.index-declared-i.is c.loop-i.invariant c.in_ok-ask_method.ensures c.if-not-branch.false
