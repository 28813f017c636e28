-- Labels, of which the innermost may be continued or not.
use Rattle.std.specs.Prelude.{ℕ, Bool, List, [], ◌∷◌}
use Rattle.value_scopes.specs.declared.scopes.Label.{Label}

-- the innermost may be continued, or not
abbrev pub first_looped : Bool → List (List ℕ × Label) → List (List ℕ × Label)
first_looped is [] = []
first_looped is (q ∷ qs) = (q.0, record { kind = q.1.kind; is_loop = is }) ∷ qs
