-- The types of a header in the order of first visit, each once up to equality (Candid specification, section "Type
-- definition table").
use Rattle.std.specs.Prelude.{ℕ, suc, Bool, true, false, ◌||◌, List, [], ◌∷◌, ◌++◌, length, Option, Some, None}
use Rattle.mo_types.specs.declared.wire.Wire.{Wire}
use Rattle.mo_types.specs.declared.wire.Wire.TheVariants.{Simple}
use Rattle.mo_types.specs.Header.{parts_of}
use Rattle.mo_types.specs.Heads.{map_option}
use Rattle.mo_coding.specs.Walks.{visit}
use Rattle.mo_coding.specs.Heads.{Heads}
use Rattle.mo_coding.specs.Equality.{same}

abbrev pub is_simple : {B : Type 0} → Wire B → Bool
is_simple (Simple p) = true
is_simple _ = false

-- whether there is one
abbrev pub is_found : Option ℕ → Bool
is_found None = false
is_found (Some i) = true

module _ {B : Type 0} (g : Heads B) where
  -- the place of the first one that is equal
  abbrev pub place : List B → B → Option ℕ
  place [] t = None
  place (u ∷ us) t = elim (same g g u t) [ true ↦ Some 0 | false ↦ map_option suc (place us t) ]

  -- a type that needs no further entry
  abbrev pub is_placed : List B → B → Bool
  is_placed order t = is_simple (g.head t) || is_found (place order t)

  abbrev pub order_of : List B → List B
  order_of args = visit is_placed (λ t. parts_of (g.head t)) (length (args ++ g.parts)) [] args
