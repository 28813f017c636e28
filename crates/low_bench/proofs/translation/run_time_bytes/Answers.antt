use Rattle.low_bench.proofs.LargeFormed.{made_written}
use Rattle.low_bench.proofs.translation.run_time_bytes.Goals as goal

pub returns : goal.returns
returns c = made_written c.in_ok-tree.tree c.in_ok-tree.ensures.is c.write.result c.write.ensures
