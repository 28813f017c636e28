-- A function value that writes types of at most so many levels.
use Rattle.std.specs.Prelude.{◌≡◌, ℕ, ◌++◌, Result, OnOk}
use Rattle.std.specs.declared.alloc.Global.{Global}
use denote.Ref.{MutBor}
use denote.Bor.{Bor}
use Rattle.mo_num.specs.declared.memory.Memory.{Memory}
use Rattle.mo_syntax.specs.Writing.{Writing}
use Rattle.mo_syntax.specs.declared.types.TypeExpression.{TypeExpression}
use Rattle.mo_syntax.specs.TypeGrammar.{type_tokens}

pub record Writes (depth : ℕ) (pre : Global → ℕ → Bor TypeExpression → MutBor Writing → Type 0)
    (post : Global → ℕ → Bor TypeExpression → MutBor Writing → Result (Unit {0}) Memory → MutBor Writing → Type 0) : Type 0 where
  pub callable : (alloc : Global) (a : Bor TypeExpression) (old : MutBor Writing) → pre alloc depth a old
  pub writes : (alloc : Global) (a : Bor TypeExpression) (old new : MutBor Writing) (r : Result (Unit {0}) Memory) → post alloc depth a old r new
      → OnOk r (new.now ≡ old.now ++ type_tokens a.now)
