-- Where a name stands among entries, and what it stands for.
use Rattle.std.specs.Prelude.{◌≡◌, ℕ, zero, List, [], ◌∷◌, Some, slice_get}
use Rattle.mo_types.specs.declared.node.TypeId.{TypeId}
use Rattle.mo_types.specs.Graph.{Slot}
use Rattle.typed_tree.specs.Wants.{Want}
use Rattle.typing_rules.specs.AbstractSyntax.{Bytes}
use Rattle.typing_rules.specs.AsyncPlaces.{Body}
use Rattle.typing_rules.specs.Contexts.{Bound}
use Rattle.typing_rules.specs.Definitions.{Definitions}
use Rattle.typing_rules.specs.Terms.{Term}
use Rattle.desugaring.specs.Frames.{Entry, Named, Kept, Unnamed, Use, found_from}
use Rattle.expression_laws.specs.Fitting.{StandsFor}

-- the names by which entries are found
abbrev pub entry_names : List Entry → List Bytes
entry_names [] = []
entry_names (Named x is_cell ∷ es) = x ∷ entry_names es
entry_names (Kept x ∷ es) = entry_names es
entry_names (Unnamed ∷ es) = entry_names es

-- none of these is what was kept of a stable variable
abbrev pub NoneKept : List Entry → Type 0
NoneKept [] = Unit {0}
NoneKept (Named x is_cell ∷ es) = NoneKept es
NoneKept (Kept x ∷ es) = ⊥
NoneKept (Unnamed ∷ es) = NoneKept es

module _ (defs : Definitions) (slots : List Slot) (terms : List Term) (number : Term → TypeId) (vs : List ℕ) (body : Body) where
  abbrev pub StandsAt : Use → List (Want TypeId) → Bound → Type 0
  StandsAt u ns b = (w : Want TypeId) × (slice_get ns u.index ≡ Some w) × StandsFor defs slots terms number vs body b u.cell w

  -- a name that is bound so stands so among these
  abbrev pub StandsIn : List Entry → List (Want TypeId) → Bytes → Bound → Type 0
  StandsIn es ns y b = StandsAt (found_from zero es y) ns b
