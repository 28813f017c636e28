use Rattle.std.proofs.Common.{◌≡◌, drop}
use Rattle.wasm_tree.specs.Load.{with_segments}
use Rattle.wasm_store.proofs.segments.put_segments.Given as goal

abbrev pub invariant-loop-segment : goal.invariant-loop-segment
invariant-loop-segment l = record {
  so_far : with_segments (drop l.segment-index l.segments) l.memory.bytes ≡ with_segments l.segments l.fn.memory.bytes;
  kept : l.memory.kept ≡ l.fn.memory.kept;
  limit : l.memory.limit ≡ l.fn.memory.limit;
}
