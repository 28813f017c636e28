-- Function values that elaborate expressions.
use Rattle.std.specs.Prelude.{◌≡◌, ℕ, Result, IfOk, OnOk, length}
use denote.Ref.{MutBor}
use Rattle.mo_num.specs.declared.memory.Memory.{Memory}
use Rattle.core_ir.specs.declared.expression.Expression.{Expression}
use Rattle.typed_tree.specs.View.{expression}
use Rattle.elaboration.specs.Elaboration.{elaborate}
use Rattle.elaboration.specs.Scopes.{Scope}
use Rattle.core_parts.specs.declared.parts.Part.{Part}
use Rattle.core_parts.specs.Making.{Groups, IsMade}

-- A function value that elaborates expressions of at most so many levels.
pub record Elaborates (depth : ℕ) (pre : MutBor Scope → MutBor Groups → Part → Type 0) (post : MutBor Scope → MutBor Groups → Part → Result Expression Memory → MutBor Scope → MutBor Groups → Type 0) : Type 0 where
  pub callable : (s : MutBor Scope) (g : MutBor Groups) (x : Part) → x.depth ≡ depth → pre s g x
  pub made : (s t : MutBor Scope) (g h : MutBor Groups) (x : Part) (r : Result Expression Memory) → x.depth ≡ depth → post s g x r t h
      → IfOk r (λ m. IsMade (elaborate s.now (length g.now) (expression x.expression.now)) g.now h.now m)
  pub scope : (s t : MutBor Scope) (g h : MutBor Groups) (x : Part) (r : Result Expression Memory) → x.depth ≡ depth → post s g x r t h → OnOk r (t.now ≡ s.now)
