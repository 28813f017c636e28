use Rattle.std.proofs.Common.{[], refl}
use Rattle.kernel_nodes.proofs.Rolling.{block_is}
use Rattle.kernel_nodes.proofs.data.widened.Goals as goal

pub returns : goal.returns
returns c = block_is c.args.types.now c.args.kind c.at.result c.new.result [] c.args.a c.args.a c.new.ensures refl c.at.ensures
