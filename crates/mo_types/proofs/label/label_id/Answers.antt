use Rattle.std.proofs.Common.{arith}
use Rattle.mo_types.proofs.Labels.{label_more}
use Rattle.mo_types.proofs.label.label_id.Goals as goal

pub loop-byte-preserved : goal.loop-byte-preserved
loop-byte-preserved c = record {
  sofar = label_more c.args.label.now c.loop-byte.byte-index c.loop-byte.id c.loop-byte-test.true c.loop-byte.invariant.sofar;
  fits = omega arith;
}
