use Rattle.low_bench.proofs.LargeFormed.{made_formed}
use Rattle.low_bench.proofs.large.large_module.Goals as goal

pub returns : goal.returns
returns c = made_formed c.args.parts c.requires c.module_of.result c.module_of.ensures
