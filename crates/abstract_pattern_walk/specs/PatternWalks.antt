-- A function value that walks over patterns of at most so many levels.
use Rattle.std.specs.Prelude.{◌≡◌, ℕ, ◌+◌, ◌^◌, ◌<◌, List, Result, IfOk, map}
use Rattle.std.specs.declared.alloc.Global.{Global}
use denote.Bor.{Bor}
use Rattle.mo_num.specs.declared.memory.Memory.{Memory}
use Rattle.mo_syntax.specs.declared.patterns.Pattern as written
use Rattle.typing_rules.specs.AbstractSyntax as p
use Rattle.typing_rules.specs.Spans.{Span}
use Rattle.typing_rules.specs.AbstractPatterns.{in_pattern}
use Rattle.abstract_types.specs.declared.patterns.Pattern.{Pattern}
use Rattle.abstract_types.specs.PatternView.{plain, listed}
use Rattle.abstract_type_walk.specs.Stands.{Stands}

pub record Walks (depth : ℕ) (pre : Global → ℕ → Bor written.Pattern → ℕ → Type 0)
    (post : Global → ℕ → Bor written.Pattern → ℕ → Result (Pattern ℕ × ℕ) Memory → Type 0) : Type 0 where
  pub callable : (alloc : Global) (q : Bor written.Pattern) (at : ℕ) → at < 2 ^ 32 → pre alloc depth q at
  pub walks : (alloc : Global) (q : Bor written.Pattern) (at : ℕ) (r : Result (Pattern ℕ × ℕ) Memory) → post alloc depth q at r
      → IfOk r (Stands plain (in_pattern q.now) at)

-- patterns one after another, as the parameters of a function
pub record ArePatterns (span : Span (p.Patterns ℕ)) (at : ℕ) (made : List (Pattern ℕ) × ℕ) : Type 0 where
  pub parts : listed (map plain made.0) ≡ span.from at
  pub next : made.1 ≡ at + span.size
