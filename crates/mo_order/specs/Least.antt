-- The first of several.
use Rattle.std.specs.Prelude.{◌≡◌, ◌≤◌, ◌⊎◌, Option, Some, None}
use Rattle.mo_syntax.specs.declared.place.Place.{Place}

-- one of those, and before each of them; none only where there are none
abbrev pub Least : {A : Type 0} → (A → A → Type 0) → (A → Type 0) → Option A → Type 0
Least {A} Before Is None = (a : A) → Is a → ⊥
Least {A} Before Is (Some a) = Is a × ((b : A) → Is b → Before a b)

-- it starts no later
abbrev pub StartsBy : Place → Place → Type 0
StartsBy p q = p.start ≤ q.start

-- of those places one that starts first; none only where there are none
abbrev pub LeastOf : (Place → Type 0) → Option Place → Type 0
LeastOf = Least StartsBy

-- it is the one that is there, or one of the others
abbrev pub OneOf : {A : Type 0} → Option A → (A → Type 0) → A → Type 0
OneOf one Is a = (one ≡ Some a) ⊎ Is a
