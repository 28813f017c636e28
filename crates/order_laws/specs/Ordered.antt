-- The order of the declarations of a source: none but a function or class uses what it defines itself, or what is defined behind it, also through functions and
-- classes of its list (Motoko language manual, "Declarations", "Sequence of declarations").
use Rattle.std.specs.Prelude.{◌≡◌, ℕ, ◌<◌, List, [], ◌∷◌, None}
use Rattle.typed_tree.specs.Placing.{Declared}
use Rattle.typing_rules.specs.AbstractSyntax.{Declarations}
use Rattle.typing_rules.specs.AbstractSyntax as p
use Rattle.desugaring.specs.FreeNames.{declared}
use Rattle.kernel_places.specs.Reaching.{at, Hits}

abbrev pub declareds : {N : Type 0} → Declarations N → List Declared
declareds p.End = []
declareds (p.Then public n d rest) = declared d ∷ declareds rest

-- What the n-th declaration reaches and the m-th one defines stands before it.
abbrev pub IsOrdered : List Declared → Type 0
IsOrdered ds = (n m : ℕ) → (at ds n).function ≡ None → Hits ds (at ds n).occurs m → m < n
