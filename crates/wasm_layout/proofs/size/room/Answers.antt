use Rattle.std.proofs.Common.{length, ap, ◌∙◌, arith}
use Rattle.std.proofs.lemmas.List.{take_all}
use Rattle.wasm_layout.specs.Sizes.{room_of}
use Rattle.wasm_layout.proofs.Rooms.{too_much, too_many, small_more, room_more, all_small, few_is, many_is}
use Rattle.wasm_layout.proofs.size.room.Goals as goal
use Rattle.wasm_layout.proofs.size.room.Goals.{then-len-room-via-then-len-room, then-len-room-via-else-len-room+then-not-are_few}

pub returns-then-len-room : goal.returns-then-len-room
returns-then-len-room c =
    let l = ap length c.as_slice-len.ensures in
    elim c.then-len-room.branch [
      | then-len-room-via-then-len-room w ↦
          too_much c.args.functions.now c.loop-function.function-index c.function-item.result c.loop-function-test.true c.function-item.is c.loop-function.room c.loop-function.invariant.so_far (omega arith)
      | then-len-room-via-else-len-room+then-not-are_few w ↦
          too_many c.args.functions.now c.loop-function.function-index c.function-item.result c.loop-function-test.true c.function-item.is (many_is _ _ _ w.as_slice.ensures w.are_few.ensures w.if-not-are_few.true)
    ]

pub loop-function-preserved : goal.loop-function-preserved
loop-function-preserved c =
    let l = ap length c.as_slice-len.ensures in
    let k = room_more c.args.functions.now c.loop-function.function-index c.function-item.result c.loop-function-test.true c.function-item.is c.loop-function.room c.loop-function.invariant.so_far in
    record {
      so_far = omega arith;
      few = omega arith;
      each = small_more c.args.functions.now c.loop-function.function-index c.function-item.result c.loop-function-test.true c.function-item.is c.loop-function.invariant.each (few_is _ _ _ c.as_slice.ensures c.are_few.ensures c.if-not-are_few.false);
    }

pub returns : goal.returns
returns c =
    let fs = c.args.functions.now in
    let e = c.loop-function.invariant.so_far ∙ ap room_of (take_all c.loop-function.function-index fs (omega arith)) in
    (e, all_small fs c.loop-function.function-index (omega arith) (omega arith) c.loop-function.invariant.each)
