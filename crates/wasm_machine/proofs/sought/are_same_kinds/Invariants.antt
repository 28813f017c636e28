use Rattle.std.proofs.Common.{◌≡◌, drop, length}
use Rattle.wasm_tree.specs.Exec.{same_kinds}
use Rattle.wasm_machine.proofs.sought.are_same_kinds.Given as goal

abbrev pub invariant-loop-i : goal.invariant-loop-i
invariant-loop-i l = record {
  same : length l.a ≡ length l.b;
  so : same_kinds l.a l.b ≡ same_kinds (drop l.i l.a) (drop l.i l.b);
}
