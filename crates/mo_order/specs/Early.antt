-- The names of a list that are used before they are defined, from behind.
use Rattle.std.specs.Prelude.{◌≡◌, ℕ, ◌≤◌, List, [], Option, drop, length, IsTrue}
use Rattle.std.specs.List.{flat_map}
use Rattle.mo_syntax.specs.declared.name.Name.{Name}
use Rattle.mo_syntax.specs.declared.place.Place.{Place}
use Rattle.mo_scopes.specs.Findings.{Names, Texts, contains}
use Rattle.mo_names.specs.Order.{Step, Among, IsEarly}
use Rattle.mo_order.specs.Least.{LeastOf}
use Rattle.mo_order.specs.Reach.{Reached}

-- One of the late names is among these, and stands here.
abbrev pub LateAt : Texts → Names → Place → Type 0
LateAt late names place = (name : Name) × Among name names × IsTrue (contains late name.bytes) × (name.place ≡ place)

-- The same in a declaration but a `func` or `class`.
abbrev pub LateIn : Texts → Step → Place → Type 0
LateIn late step place = (step.functions ≡ []) × LateAt late step.occurs place

-- A name that is used before it is defined stands here, in a declaration at index i or behind.
pub record EarlyFrom (steps : List Step) (i : ℕ) (place : Place) : Type 0 where
  pub name : Name
  pub early : IsEarly steps name
  pub behind : i ≤ length early.before
  pub here : name.place ≡ place

abbrev pub defined : List Step → Texts
defined steps = flat_map (λ s. s.defines) steps

-- Of the declarations at index i and behind all that leads to what they define is known, and the first name that is used before it is defined.
pub record Ahead (steps : List Step) (i : ℕ) (late : Texts) (least : Option Place) : Type 0 where
  pub reached : Reached steps (defined (drop i steps)) late (length late)
  pub first : LeastOf (EarlyFrom steps i) least
