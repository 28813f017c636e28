-- Which values go into a message at their types, and the parts that they have there: Motoko language manual, section "Candid
-- serialization".
use Rattle.std.specs.Prelude.{List, [], ◌∷◌, ◌++◌, Bool, true, ◌&&◌, Some, is_some}
use Rattle.mo_types.specs.declared.datum.Datum.{Datum}
use Rattle.mo_types.specs.declared.node.Node.{Node}
use Rattle.mo_types.specs.Values.{flat}
use Rattle.mo_values.specs.Messages.{value_or_none, plain_at}
use Rattle.arena_messages.specs.Inside.{At}

module _ {A F : Type 0} (head : A → Node A) where
  abbrev pub goes : At A F → Bool
  goes x = is_some (plain_at head (Some x.of_type) x.value)

  abbrev pub all_go : List (At A F) → Bool
  all_go [] = true
  all_go (x ∷ xs) = goes x && all_go xs

  -- the parts of a value, each before the parts inside it
  abbrev pub parts : At A F → List Datum
  parts x = flat (value_or_none (plain_at head (Some x.of_type) x.value))

  abbrev pub all_parts : List (At A F) → List Datum
  all_parts [] = []
  all_parts (x ∷ xs) = parts x ++ all_parts xs
