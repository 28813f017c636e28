use Rattle.std.proofs.Common.{◌≡◌, ◌∙◌, ◌++◌, ◌∷◌, [], ◌+◌, ◌-◌, ◌*◌, suc, ap, sym, drop, pos, Some, length, map, take, subst, arith, List, ℕ, refl}
use Rattle.core_ir.specs.declared.code.Operand.{Operand}
use Rattle.low_ir.specs.Flat.{flat}
use Rattle.low_ir.specs.Tree.{Code}
use Rattle.flat_emission.specs.Emission as emission
use Rattle.body_lists.specs.Known.{here_of, link_of, plan_of}
use Rattle.core_ir.specs.CodeView.{Names, exit_code}
use Rattle.core_ir.proofs.CodeViews.{begun}
use Rattle.body_lists.proofs.bodies.+emitting.Given as goal

abbrev pub invariant-push_code-loop-instruction : goal.invariant-push_code-loop-instruction
invariant-push_code-loop-instruction l =
    (names : Names) → l.list ++ flat (emission.emit (plan_of l.known) (link_of l.known) (here_of l.here) (begun (drop l.instruction-index l.instruction-items) names (exit_code l.code.exit))) ≡ l.fn.list ++ flat (emission.emit (plan_of l.known) (link_of l.known) (here_of l.here) (begun l.instruction-items names (exit_code l.code.exit)))
