use Rattle.std.proofs.Common.{List, map, refl}
use Rattle.typing_rules.specs.Nodes.{in_arguments}
use Rattle.abstract_types.specs.TypeView.{type_node}
use Rattle.abstract_types.specs.declared.types.TypeNode.{TypeNode}
use Rattle.kernel_counts.proofs.Adding.{all_left, none_left, one_less}
use Rattle.kernel_counts.proofs.types.count_arguments.Goals as goal

pub loop-node-init : goal.loop-node-init
loop-node-init c = all_left (λ (ns : List TypeNode). in_arguments (map type_node ns)) c.args.nodes.now c.args.counted

pub loop-node-preserved : goal.loop-node-preserved
loop-node-preserved c = one_less (λ (ns : List TypeNode). in_arguments (map type_node ns)) c.args.nodes.now c.args.counted _ _ _ _ _ c.loop-node-test.true c.node-item.is c.in_ok-sum.ensures refl c.loop-node.invariant

pub returns : goal.returns
returns c = none_left (λ (ns : List TypeNode). in_arguments (map type_node ns)) c.args.nodes.now c.args.counted _ _ c.loop-node-test.false refl c.loop-node.invariant
