use Rattle.std.proofs.Common.{arith, sym, ◌∙◌, ap}
use Rattle.std.proofs.lemmas.List.{drop_all}
use Rattle.wasm_tree.specs.Load.{with_elements}
use Rattle.wasm_store.proofs.SegmentLists.{element_refused, element_put}
use Rattle.wasm_store.proofs.segments.put_elements.Goals as goal

pub returns-then-not-put_functions : goal.returns-then-not-put_functions
returns-then-not-put_functions c =
    element_refused c.args.segments.now c.loop-segment.segment-index c.constant.result c.segment-item.result c.as_slice.result.now c.loop-segment.table c.args.table.now
    c.segment-item.is c.loop-segment-test.true c.constant.ensures c.as_slice.ensures c.if-not-put_functions.ensures c.loop-segment.invariant

pub loop-segment-preserved : goal.loop-segment-preserved
loop-segment-preserved c =
    element_put c.args.segments.now c.loop-segment.segment-index c.constant.result c.segment-item.result c.as_slice.result.now c.loop-segment.table c.args.table.now c.put_functions.new.table
    c.segment-item.is c.loop-segment-test.true c.constant.ensures c.as_slice.ensures c.if-not-put_functions.ensures c.loop-segment.invariant

pub returns : goal.returns
returns c = sym c.loop-segment.invariant ∙ ap (λ l. with_elements l c.loop-segment.table) (drop_all c.loop-segment.segment-index c.args.segments.now (omega arith))
