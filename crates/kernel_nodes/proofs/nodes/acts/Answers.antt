use Rattle.std.proofs.Common.{refl}
use Rattle.kernel_types.specs.Numbers.{number_of}
use Rattle.kernel_nodes.proofs.Rolling.{acted}
use Rattle.kernel_nodes.proofs.nodes.acts.Goals as goal

pub returns : goal.returns
returns c = acted c.at.result (number_of c.args.types.now c.args.kind) (number_of c.args.types.now c.args.kind) c.args.action c.args.operands c.args.operands refl refl c.at.ensures
