use Rattle.std.proofs.Common.{◌≡◌, ◌+◌, ◌≤◌, drop, length}
use Rattle.wasm_layout.specs.Ends.{none, backs}
use Rattle.wasm_layout.proofs.exits.find_exits.Given as goal

abbrev pub invariant-loop-place : goal.invariant-loop-place
invariant-loop-place l = record {
  so_far : l.exits ≡ backs (drop l.place l.ops) none;
  few : l.exits.behind + l.place ≤ length l.ops;
  within : l.place ≤ length l.ops;
}

abbrev pub decreases-loop-place : goal.decreases-loop-place
decreases-loop-place l = l.place
