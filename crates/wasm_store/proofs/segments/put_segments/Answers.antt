use Rattle.std.proofs.Common.{arith, sym, ◌∙◌, ap}
use Rattle.std.proofs.lemmas.List.{drop_all}
use Rattle.wasm_tree.specs.Load.{with_segments}
use Rattle.wasm_store.proofs.SegmentLists.{segment_refused, segment_put}
use Rattle.wasm_store.proofs.segments.put_segments.Goals as goal

pub returns-then-not-put_bytes-clause-put : goal.returns-then-not-put_bytes-clause-put
returns-then-not-put_bytes-clause-put c =
    segment_refused c.args.segments.now c.loop-segment.segment-index c.constant.result c.segment-item.result c.as_slice.result.now c.loop-segment.memory.bytes c.args.memory.now.bytes
    c.segment-item.is c.loop-segment-test.true c.constant.ensures c.as_slice.ensures c.if-not-put_bytes.ensures.put c.loop-segment.invariant.so_far

pub loop-segment-preserved : goal.loop-segment-preserved
loop-segment-preserved c = record {
  so_far = segment_put c.args.segments.now c.loop-segment.segment-index c.constant.result c.segment-item.result c.as_slice.result.now c.loop-segment.memory.bytes c.args.memory.now.bytes c.put_bytes.new.memory.bytes
      c.segment-item.is c.loop-segment-test.true c.constant.ensures c.as_slice.ensures c.if-not-put_bytes.ensures.put c.loop-segment.invariant.so_far;
  kept = c.put_bytes.ensures.kept ∙ c.loop-segment.invariant.kept;
  limit = c.put_bytes.ensures.limit ∙ c.loop-segment.invariant.limit;
}

pub returns-clause-put : goal.returns-clause-put
returns-clause-put c = sym c.loop-segment.invariant.so_far ∙ ap (λ l. with_segments l c.loop-segment.memory.bytes) (drop_all c.loop-segment.segment-index c.args.segments.now (omega arith))
