-- What the scopes of the code stand for.
use Rattle.std.specs.Prelude.{◌≡◌, ℕ, List, ◌++◌, length, map}
use Rattle.elaboration.specs.Scopes.{Scope, Local, Own, Nowhere}
use Rattle.elaboration.specs.Scopes as scopes
use Rattle.core_scopes.specs.declared.place.Place.{Place}
use Rattle.core_scopes.specs.declared.place.Place.TheVariants as place
use Rattle.core_scopes.specs.declared.scope.Mark.{Mark}

abbrev pub seen_place : Place → scopes.Place
seen_place (place.Local level) = Local level
seen_place (place.Own i) = Own i
seen_place place.Nowhere = Nowhere

abbrev pub scope : List Place → ℕ → List ℕ → ℕ → Scope
scope places names exits labels = record { places = map seen_place places; names = names; exits = exits; labels = labels }

-- ---- places to come back to

pub record IsMark (m : Mark) (s : Scope) : Type 0 where
  pub places : m.places ≡ length s.places
  pub names : m.names ≡ s.names
  pub exits : m.exits ≡ length s.exits
  pub labels : m.labels ≡ s.labels

-- the names and labels of the first stand around those of the second
pub record IsWithin (s t : Scope) : Type 0 where
  pub names : List scopes.Place
  pub labels : List ℕ
  pub places : t.places ≡ names ++ s.places
  pub exits : t.exits ≡ labels ++ s.exits
