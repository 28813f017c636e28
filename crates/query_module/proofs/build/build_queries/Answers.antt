use Rattle.query_module.proofs.Builds.{tree_spelled, result_built}
use Rattle.query_module.proofs.build.build_queries.Goals as goal

pub write-requires : goal.write-requires
write-requires c = tree_spelled c.args.methods.now c.in_ok-tree.tree c.requires c.in_ok-tree.ensures

pub returns : goal.returns
returns c = result_built c.args.methods.now c.in_ok-tree.tree c.write.result c.requires c.in_ok-tree.ensures c.write.ensures
