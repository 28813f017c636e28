use Rattle.std.proofs.Common.{◌≤◌, ◌<◌, ◌+◌, ◌≡◌, suc, zero, take, get_or, sym, subst, arith, add-one, length}
use Rattle.wasm_valid.specs.declared.locals.Group.{Group}
use Rattle.wasm_valid.specs.Locals.{total}
use Rattle.wasm_valid.proofs.Grouped.{ends_before, ends_behind, at_low, local_here, local_past}
use Rattle.wasm_valid.proofs.locals.local_in.Goals as goal

pub loop-low-preserved-then-groups-middle : goal.loop-low-preserved-then-groups-middle
loop-low-preserved-then-groups-middle c = record {
  order = omega (arith, c.loop-low-test.true);
  within = c.loop-low.invariant.within;
  before = ends_before c.args.groups.now _ c.args.local _ c.requires (omega (arith, c.loop-low-test.true, c.loop-low.invariant.within)) c.if-groups-middle.true;
  behind = c.loop-low.invariant.behind;
}

pub loop-low-preserved : goal.loop-low-preserved
loop-low-preserved c = record {
  order = omega (arith, c.loop-low-test.true);
  within = omega (arith, c.loop-low-test.true, c.loop-low.invariant.within);
  before = c.loop-low.invariant.before;
  behind = λ within. ends_behind c.args.groups.now _ c.args.local _ c.requires within c.if-groups-middle.false;
}

pub returns-then-low-groups : goal.returns-then-low-groups
returns-then-low-groups c = sym (local_here c.args.groups.now c.loop-low.low c.args.local _ c.if-low-groups.true c.loop-low.invariant.before
    (at_low c.args.groups.now c.loop-low.low c.loop-low.high c.args.local c.loop-low.invariant.order c.loop-low-test.false c.if-low-groups.true c.loop-low.invariant.behind))

pub returns-else-low-groups : goal.returns-else-low-groups
returns-else-low-groups c = sym (local_past c.args.groups.now c.loop-low.low c.args.local c.if-low-groups.false c.loop-low.invariant.before)
