-- The values inside a value that go into a message, each at its type: Motoko language manual, section "Candid serialization".
use Rattle.std.specs.Prelude.{ℕ, ◌+◌, List, [], ◌∷◌, ◌++◌, Option, Some, None}
use Rattle.mo_types.specs.declared.node.Node.{Node}
use Rattle.mo_types.specs.declared.node.Node.TheVariants as node
use Rattle.mo_types.specs.declared.node.Field.{Field}
use Rattle.mo_types.specs.Values.{by_label}
use Rattle.mo_values.specs.Messages.{under, labels, types, types_inside}
use Rattle.mo_values.specs.Shapes.{Bytes, Head, Object, Shape, Shapes, NoShape, AShape, size, listed}

-- a value at a type
pub record At (A F : Type 0) : Type 0 where
  pub of_type : A
  pub value : Shape F

module _ {A F : Type 0} where
  abbrev pub at : A → Shape F → At A F
  at t v = record { of_type = t; value = v }

  -- those that have a type
  abbrev pub asked : List (Option A) → Shapes F → List (At A F)
  asked [] vs = []
  asked (t ∷ ts) NoShape = []
  asked (None ∷ ts) (AShape v vs) = asked ts vs
  asked (Some t ∷ ts) (AShape v vs) = at t v ∷ asked ts vs

  abbrev pub both_there : Option A → Option (Shape F) → List (At A F)
  both_there None v = []
  both_there (Some t) None = []
  both_there (Some t) (Some v) = at t v ∷ []

  -- of an object with these labels and values, at a type with these fields
  abbrev pub in_fields : List (Field A) → List Bytes → List (Shape F) → List (Field A) → List (At A F)
  in_fields all ls vs [] = []
  in_fields all ls vs (f ∷ fs) = both_there (under f.label (labels all) (types all)) (under f.label ls vs) ++ in_fields all ls vs fs

  -- in the order of the message
  abbrev pub in_order : Node A → Head → ℕ → Shapes F → List (At A F)
  in_order (node.Object fs) (Object ls) n inside = in_fields fs ls (listed inside) (by_label fs)
  in_order t h n inside = asked (types_inside t h n) inside

  -- the parts of values together
  abbrev pub total : List (At A F) → ℕ
  total [] = 0
  total (x ∷ xs) = size x.value + total xs
