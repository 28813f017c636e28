use Rattle.std.proofs.Common.{◌≤◌, ◌<◌, ◌-◌, suc, take, length}
use Rattle.wasm_valid.specs.Locals.{total}
use Rattle.wasm_valid.proofs.locals.local_in.Given as goal

abbrev pub invariant-loop-low : goal.invariant-loop-low
invariant-loop-low l = record {
  order : l.low ≤ l.high;
  within : l.high ≤ length l.groups;
  before : total (take l.low l.groups) ≤ l.local;
  behind : l.high < length l.groups → l.local < total (take (suc l.high) l.groups);
}

abbrev pub decreases-loop-low : goal.decreases-loop-low
decreases-loop-low l = l.high - l.low
