use Rattle.std.proofs.Common.{◌≡◌, ◌∙◌, ◌++◌, ◌∷◌, [], ◌+◌, ◌-◌, ◌*◌, suc, ap, sym, drop, pos, Some, length, map, take, subst, arith, List, ℕ, refl}
use Rattle.core_ir.specs.declared.code.Operand.{Operand}
use Rattle.low_ir.specs.Flat.{flat}
use Rattle.low_ir.specs.Tree.{Code}
use Rattle.flat_emission.specs.Emission as emission
use Rattle.body_lists.specs.Known.{here_of, link_of, plan_of}
use Rattle.body_lists.proofs.code.push_handles.Given as goal

abbrev pub invariant-loop-k : goal.invariant-loop-k
invariant-loop-k l = l.list ++ flat (emission.handles (plan_of l.fn.known) (link_of l.fn.known) (here_of l.fn.here) (l.to + l.k) l.k (l.count - l.k)) ≡ l.fn.list ++ flat (emission.handles (plan_of l.fn.known) (link_of l.fn.known) (here_of l.fn.here) l.to 0 l.count)
