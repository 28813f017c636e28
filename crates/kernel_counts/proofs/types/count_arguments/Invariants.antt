use Rattle.std.proofs.Common.{List, drop, map}
use Rattle.typing_rules.specs.Nodes.{in_arguments}
use Rattle.abstract_types.specs.TypeView.{type_node}
use Rattle.abstract_types.specs.declared.types.TypeNode.{TypeNode}
use Rattle.kernel_counts.proofs.Adding.{Left}
use Rattle.kernel_counts.proofs.types.count_arguments.Given as goal

abbrev pub invariant-loop-node : goal.invariant-loop-node
invariant-loop-node l = Left (λ (ns : List TypeNode). in_arguments (map type_node ns)) l.fn.nodes l.fn.counted (drop l.node-index l.nodes) l.sum
