use Rattle.std.proofs.Common.{◌≡◌, ◌≤◌, length, drop, map, Decides}
use Rattle.core_ir.specs.Expressions.{Body}
use Rattle.core_ir.specs.Formed.{counted}
use Rattle.core_ir.specs.Programs.{Method}
use Rattle.core_measures.specs.Sizes.{size_of}
use Rattle.core_measures.specs.Within.{MethodsWithin, core_method, segments}
use Rattle.core_measures.proofs.within.methods_tested.Given as goal

abbrev pub invariant-loop-number : goal.invariant-loop-number
invariant-loop-number l = record {
  within : l.number ≤ length l.methods;
  all : Decides l.all.within (MethodsWithin (size_of l.sizes) (map core_method (drop l.number l.methods)));
  segments : l.all.segments ≡ counted segments (map (λ (m : Method Body). m.body) (map core_method (drop l.number l.methods)));
}

abbrev pub decreases-loop-number : goal.decreases-loop-number
decreases-loop-number l = l.number
