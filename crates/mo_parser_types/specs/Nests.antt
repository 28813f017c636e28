-- A function value that reads types to a depth.
use Rattle.std.specs.Prelude.{ℕ, Result}
use Rattle.std.specs.declared.alloc.Global.{Global}
use denote.Ref.{MutBor}
use Rattle.mo_syntax.specs.declared.types.TypeExpression.{TypeExpression}
use Rattle.mo_parser_base.specs.declared.stop.Stop.{Stop}
use Rattle.mo_parser_base.specs.Input.{Input, Reads}
use Rattle.mo_parser_types.specs.Types.{type_at}

pub record Nests (depth : ℕ) (pre : Global → MutBor Input → ℕ → ℕ → Type 0)
    (post : Global → MutBor Input → ℕ → ℕ → Result TypeExpression Stop → MutBor Input → Type 0) : Type 0 where
  pub callable : (alloc : Global) (old : MutBor Input) (level : ℕ) → pre alloc old depth level
  pub reads : (alloc : Global) (old new : MutBor Input) (level : ℕ) (r : Result TypeExpression Stop) → post alloc old depth level r new
      → Reads (type_at depth level old.now) r new.now
