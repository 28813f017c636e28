-- A function value that reads patterns to a depth.
use Rattle.std.specs.Prelude.{ℕ, Result}
use Rattle.std.specs.declared.alloc.Global.{Global}
use denote.Ref.{MutBor}
use Rattle.mo_syntax.specs.declared.patterns.Pattern.{Pattern}
use Rattle.mo_parser_base.specs.declared.stop.Stop.{Stop}
use Rattle.mo_parser_base.specs.Input.{Input, Reads}
use Rattle.mo_parser_patterns.specs.Patterns.{pattern_at}

pub record Nests (depth : ℕ) (pre : Global → MutBor Input → ℕ → ℕ → Type 0)
    (post : Global → MutBor Input → ℕ → ℕ → Result Pattern Stop → MutBor Input → Type 0) : Type 0 where
  pub callable : (alloc : Global) (old : MutBor Input) (level : ℕ) → pre alloc old depth level
  pub reads : (alloc : Global) (old new : MutBor Input) (level : ℕ) (r : Result Pattern Stop) → post alloc old depth level r new
      → Reads (pattern_at depth level old.now) r new.now
