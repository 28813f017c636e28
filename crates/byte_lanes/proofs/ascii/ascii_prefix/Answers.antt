use Rattle.std.proofs.Common.{◌+◌, arith}
use Rattle.byte_lanes.proofs.PlaceLemmas.{ascii_lanes, ascii_block, ascii_then, beyond_at, is_ascii_prefix_len}
use Rattle.byte_lanes.proofs.ascii.ascii_prefix.Goals as goal

pub returns-then-mask-ne0 : goal.returns-then-mask-ne0
returns-then-mask-ne0 c =
    let bytes = c.args.bytes.now in
    let at = c.loop-at.at in
    let lane = c.lowest.ensures in
    let marks = c.beyond_ascii-mask.ensures in
    let ascii = ascii_lanes bytes at c.beyond_ascii-mask.result c.lowest.result marks c.loop-at.invariant.ascii (omega arith) lane.below in
    let beyond = beyond_at bytes at c.beyond_ascii-mask.result c.lowest.result marks c.loop-at.invariant.ascii lane.bound lane.set in
    record {
      value = is_ascii_prefix_len bytes (at + c.lowest.result) (omega arith) ascii (λ _. beyond);
      within = omega arith;
      ascii = ascii;
      stops = λ _. beyond;
    }

pub loop-at-preserved : goal.loop-at-preserved
loop-at-preserved c = record {
  within = omega arith;
  ascii = ascii_block c.args.bytes.now c.loop-at.at c.beyond_ascii-mask.result c.beyond_ascii-mask.ensures c.loop-at.invariant.ascii c.if-mask-ne0.false;
}

pub returns : goal.returns
returns c =
    let bytes = c.args.bytes.now in
    let tail = c.ascii_end.ensures in
    let ascii = ascii_then bytes c.loop-at.at c.ascii_end.result c.loop-at.invariant.ascii tail.ascii in
    record {
      value = is_ascii_prefix_len bytes c.ascii_end.result tail.within ascii tail.stops;
      within = tail.within;
      ascii = ascii;
      stops = tail.stops;
    }
