-- The names in a part, and what a walk over parts does.
use Rattle.std.specs.Prelude.{◌≡◌, ℕ, ◌++◌, List, Result, OnOk}
use denote.Ref.{MutBor}
use Rattle.mo_num.specs.declared.memory.Memory.{Memory}
use Rattle.mo_bindings.specs.declared.part.Part.{Part}
use Rattle.mo_bindings.specs.declared.part.Part.TheVariants as part
use Rattle.mo_scopes.specs.declared.finding.Finding.{Finding}
use Rattle.mo_scopes.specs.declared.scope.Scope.{Scope}
use Rattle.mo_pattern_names.specs.declared.walk.Walk.{Walk}
use Rattle.mo_scopes.specs.Findings.{InScope}
use Rattle.mo_bindings.specs.ExpressionNames.{in_expression, in_declaration}

abbrev pub in_part : Part → InScope
in_part (part.Expression a) = (in_expression a.now).finds
in_part (part.Declaration x) = (in_declaration x.now).finds

-- A function value that walks parts of at most so many levels: it adds what is found in one, and leaves the scope as it is.
pub record Walks (walk : Walk) (depth : ℕ) (pre : Walk → ℕ → Part → MutBor Scope → MutBor (List Finding) → Type 0)
    (post : Walk → ℕ → Part → MutBor Scope → MutBor (List Finding) → Result (Unit {0}) Memory → MutBor Scope → MutBor (List Finding) → Type 0) : Type 0 where
  pub callable : (x : Part) (s : MutBor Scope) (f : MutBor (List Finding)) → pre walk depth x s f
  pub kept : (x : Part) (s t : MutBor Scope) (f g : MutBor (List Finding)) (r : Result (Unit {0}) Memory) → post walk depth x s f r t g → OnOk r (t.now ≡ s.now)
  pub found : (x : Part) (s t : MutBor Scope) (f g : MutBor (List Finding)) (r : Result (Unit {0}) Memory) → post walk depth x s f r t g
      → OnOk r (g.now ≡ f.now ++ in_part x s.now)
