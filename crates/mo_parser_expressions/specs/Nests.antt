-- Function values that read expressions and declarations to a depth.
use Rattle.std.specs.Prelude.{ℕ, Result}
use Rattle.std.specs.declared.alloc.Global.{Global}
use denote.Ref.{MutBor}
use Rattle.mo_syntax.specs.declared.declarations.Declaration.{Declaration}
use Rattle.mo_syntax.specs.declared.expressions.Expression.{Expression}
use Rattle.mo_parser_base.specs.declared.stop.Stop.{Stop}
use Rattle.mo_parser_base.specs.Input.{Input, Reads}
use Rattle.mo_parser_expressions.specs.Expressions.{expression_at, declaration_at}

pub record Nests (depth : ℕ) (pre : Global → MutBor Input → ℕ → ℕ → Type 0)
    (post : Global → MutBor Input → ℕ → ℕ → Result Expression Stop → MutBor Input → Type 0) : Type 0 where
  pub callable : (alloc : Global) (old : MutBor Input) (level : ℕ) → pre alloc old depth level
  pub reads : (alloc : Global) (old new : MutBor Input) (level : ℕ) (r : Result Expression Stop) → post alloc old depth level r new
      → Reads (expression_at depth level old.now) r new.now

pub record Declares (depth : ℕ) (pre : Global → MutBor Input → ℕ → Type 0)
    (post : Global → MutBor Input → ℕ → Result Declaration Stop → MutBor Input → Type 0) : Type 0 where
  pub callable : (alloc : Global) (old : MutBor Input) → pre alloc old depth
  pub reads : (alloc : Global) (old new : MutBor Input) (r : Result Declaration Stop) → post alloc old depth r new
      → Reads (declaration_at depth old.now) r new.now
