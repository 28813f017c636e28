-- How the names of a list that are defined late are reached through its functions.
use Rattle.std.specs.Prelude.{◌≡◌, ℕ, List, ◌∷◌, ◌++◌, take, IsTrue}
use Rattle.mo_name_table.specs.Places.{texts}
use Rattle.mo_scopes.specs.Findings.{Texts, contains}
use Rattle.mo_names.specs.Order.{Step, Uses}

-- The list grew at its end by names of these alone, and now it has all of them.
pub record Grown (old more new : Texts) : Type 0 where
  pub extra : Texts
  pub longer : new ≡ old ++ extra
  pub origin : (x : List ℕ) → IsTrue (contains extra x) → IsTrue (contains more x)
  pub every : (x : List ℕ) → IsTrue (contains more x) → IsTrue (contains new x)

-- Where the name is used, one of the targets is used.
abbrev pub Leads : List Step → Texts → List ℕ → Type 0
Leads steps targets x = (names : Texts) → Uses steps names x → (y : List ℕ) × IsTrue (contains targets y) × Uses steps names y

-- The names are the targets and functions that lead to them, and with the first n each function in whose body one of them occurs.
pub record Reached (steps : List Step) (targets late : Texts) (n : ℕ) : Type 0 where
  pub covers : (x : List ℕ) → IsTrue (contains targets x) → IsTrue (contains late x)
  pub leads : (x : List ℕ) → IsTrue (contains late x) → Leads steps targets x
  pub closed : (before after : List Step) (step : Step) (x f : List ℕ) → steps ≡ before ++ step ∷ after → IsTrue (contains (take n late) x)
      → IsTrue (contains (texts step.occurs) x) → IsTrue (contains step.functions f) → IsTrue (contains late f)
