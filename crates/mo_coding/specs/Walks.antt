-- Visiting types in turn, a type before its parts, each once (Candid specification, section "Type definition table").
use Rattle.std.specs.Prelude.{ℕ, zero, suc, Bool, true, false, List, [], ◌∷◌, ◌++◌}

module _ {B : Type 0} (known : List B → B → Bool) (parts : B → List B) where
  -- takes the types that are known off the front, and then adds one
  abbrev pub step : (List B → List B → List B) → List B → List B → List B
  step next order [] = order
  step next order (t ∷ ts) = elim (known order t) [ true ↦ step next order ts | false ↦ next (order ++ t ∷ []) (parts t ++ ts) ]

  -- the order after these types, where at most so many are added
  abbrev pub visit : ℕ → List B → List B → List B
  visit zero order todo = order
  visit (suc n) order todo = step (visit n) order todo
