use Rattle.std.proofs.Common.{List, drop, map}
use Rattle.typing_rules.specs.Nodes.{in_generics}
use Rattle.abstract_types.specs.TypeView.{parameter}
use Rattle.abstract_types.specs.declared.types.TypeParameter.{TypeParameter}
use Rattle.kernel_counts.proofs.Adding.{Left}
use Rattle.kernel_counts.proofs.types.count_generics.Given as goal

abbrev pub invariant-loop-one : goal.invariant-loop-one
invariant-loop-one l = Left (λ (ns : List TypeParameter). in_generics (map parameter ns)) l.fn.generics l.fn.counted (drop l.one-index l.generics) l.sum
