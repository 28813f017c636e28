use Rattle.query_source.proofs.LabelIds.{label_id-more}
use Rattle.query_source.proofs.labels.label_id.Goals as goal

pub loop-byte-preserved : goal.loop-byte-preserved
loop-byte-preserved c = label_id-more c.args.name.now c.loop-byte.byte-index 0 c.loop-byte.id c.loop-byte-test.true c.loop-byte.invariant
