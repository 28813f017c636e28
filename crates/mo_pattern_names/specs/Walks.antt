-- What walks over types and over patterns do.
use Rattle.std.specs.Prelude.{◌≡◌, ℕ, ◌++◌, List, Result, OnOk}
use denote.Ref.{MutBor}
use denote.Bor.{Bor}
use Rattle.mo_num.specs.declared.memory.Memory.{Memory}
use Rattle.mo_syntax.specs.declared.types.TypeExpression.{TypeExpression}
use Rattle.mo_syntax.specs.declared.patterns.Pattern.{Pattern}
use Rattle.mo_scopes.specs.declared.finding.Finding.{Finding}
use Rattle.mo_scopes.specs.declared.scope.Scope.{Scope}
use Rattle.mo_scopes.specs.Findings.{Names}
use Rattle.mo_pattern_names.specs.declared.walk.Walk.{Walk}
use Rattle.mo_pattern_names.specs.TypeNames.{in_type}
use Rattle.mo_pattern_names.specs.PatternNames.{in_pattern}

-- A function value that walks types of at most so many levels: it adds what is found in one.
pub record WalksTypes (depth : ℕ) (pre : Walk → ℕ → Bor TypeExpression → Bor Scope → MutBor (List Finding) → Type 0)
    (post : Walk → ℕ → Bor TypeExpression → Bor Scope → MutBor (List Finding) → Result (Unit {0}) Memory → MutBor (List Finding) → Type 0) : Type 0 where
  pub callable : (walk : Walk) (a : Bor TypeExpression) (s : Bor Scope) (f : MutBor (List Finding)) → pre walk depth a s f
  pub found : (walk : Walk) (a : Bor TypeExpression) (s : Bor Scope) (f g : MutBor (List Finding)) (r : Result (Unit {0}) Memory) → post walk depth a s f r g
      → OnOk r (g.now ≡ f.now ++ in_type a.now s.now)

-- A function value that walks patterns of at most so many levels: it adds the names that one binds, and what is found in it.
pub record WalksPatterns (depth : ℕ) (pre : Walk → ℕ → Bor Pattern → Bor Scope → MutBor Names → MutBor (List Finding) → Type 0)
    (post : Walk → ℕ → Bor Pattern → Bor Scope → MutBor Names → MutBor (List Finding) → Result (Unit {0}) Memory → MutBor Names → MutBor (List Finding) → Type 0) : Type 0 where
  pub callable : (walk : Walk) (p : Bor Pattern) (s : Bor Scope) (n : MutBor Names) (f : MutBor (List Finding)) → pre walk depth p s n f
  pub names : (walk : Walk) (p : Bor Pattern) (s : Bor Scope) (n m : MutBor Names) (f g : MutBor (List Finding)) (r : Result (Unit {0}) Memory)
      → post walk depth p s n f r m g → OnOk r (m.now ≡ n.now ++ (in_pattern p.now).names)
  pub found : (walk : Walk) (p : Bor Pattern) (s : Bor Scope) (n m : MutBor Names) (f g : MutBor (List Finding)) (r : Result (Unit {0}) Memory)
      → post walk depth p s n f r m g → OnOk r (g.now ≡ f.now ++ (in_pattern p.now).finds s.now)
