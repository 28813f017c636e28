use Rattle.std.proofs.Common.{◌≡◌, drop}
use Rattle.wasm_tree.specs.Load.{with_elements}
use Rattle.wasm_store.proofs.segments.put_elements.Given as goal

abbrev pub invariant-loop-segment : goal.invariant-loop-segment
invariant-loop-segment l = with_elements (drop l.segment-index l.segments) l.table ≡ with_elements l.segments l.fn.table
