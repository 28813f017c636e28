use Rattle.std.proofs.Common.{◌+◌, ◌≤◌, ℕ, List, Option, drop, length, map, get_or}
use Rattle.core_ir.specs.View.{binding, block, exps, expression}
use Rattle.core_laws.specs.Split.{split_all, split_exp}
use Rattle.core_ir.specs.Expressions.{Exp}
use Rattle.core_ir.specs.declared.code.Operand.{Operand}
use Rattle.suspend_split.specs.declared.bindings.Opening.{Opening}
use Rattle.suspend_split.specs.declared.draft.State.{State}
use Rattle.suspend_split.specs.Bindings.{OpensAll, nowhere}
use Rattle.suspend_split.specs.Makes.{Grows, Makes, size_of}
use Rattle.suspend_split.proofs.expression.+splitting.Given as goal

abbrev pub invariant-split_arguments-loop-number : goal.invariant-split_arguments-loop-number
invariant-split_arguments-loop-number l = record {
  within : l.number ≤ length l.arguments;
  makes : Makes l.outermost l.fn.state l.state (λ names ls c segments. split_all (size_of l.sizes) (exps (map expression (drop l.number l.arguments))) (l.free + l.number) (names l.scope) ls c segments);
}

abbrev pub decreases-split_arguments-loop-number : goal.decreases-split_arguments-loop-number
decreases-split_arguments-loop-number l = l.number

abbrev pub invariant-split_bindings-loop-number : goal.invariant-split_bindings-loop-number
invariant-split_bindings-loop-number l = record {
  within : l.number ≤ length l.bindings;
  grows : Grows l.fn.state.scopes l.state.scopes;
  makes : (a : State) (at : Opening) (x y : List (List Operand)) (e : Exp) (t : Option ℕ) → OpensAll l.outermost l.sizes l.bindings at l.openings x y → Grows y l.fn.state.scopes
      → Makes l.outermost a l.fn.state (λ names ls c segments. split_exp (size_of l.sizes) e t (get_or l.openings (length l.bindings) nowhere).free (names (get_or l.openings (length l.bindings) nowhere).scope) ls c segments)
      → Makes l.outermost a l.state (λ names ls c segments. split_exp (size_of l.sizes) (block (map binding (drop l.number l.bindings)) e) t (get_or l.openings l.number nowhere).free (names (get_or l.openings l.number nowhere).scope) ls c segments);
}

abbrev pub decreases-split_bindings-loop-number : goal.decreases-split_bindings-loop-number
decreases-split_bindings-loop-number l = l.number
