use Rattle.std.proofs.Common.{◌≡◌, ◌∙◌, ◌++◌, ◌∷◌, [], ◌+◌, ◌-◌, ◌*◌, suc, ap, sym, drop, pos, Some, length, map, take, subst, arith, List, ℕ, refl}
use Rattle.core_ir.specs.declared.code.Operand.{Operand}
use Rattle.low_ir.specs.Flat.{flat}
use Rattle.low_ir.specs.Tree.{Code}
use Rattle.flat_emission.specs.Emission as emission
use Rattle.body_lists.specs.Known.{here_of, link_of, plan_of}
use Rattle.body_lists.proofs.code.push_captures.Given as goal

abbrev pub invariant-loop-operand : goal.invariant-loop-operand
invariant-loop-operand l = (rest : Code) → l.list ++ flat (emission.captures (plan_of l.known) (link_of l.known) (here_of l.here) l.word (drop l.operand-index l.seen) rest) ≡ l.fn.list ++ flat (emission.captures (plan_of l.known) (link_of l.known) (here_of l.here) l.begin l.seen rest)
