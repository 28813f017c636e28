-- Values on their way into messages and out of them, and what that costs: Motoko language manual, section "Candid
-- serialization".
use Rattle.std.specs.Prelude.{ℕ, ◌+◌, ◌*◌, ◌-◌, List, [], ◌∷◌, length, map, Option, Some, None}
use Rattle.mo_types.specs.declared.node.TypeId.{TypeId}
use Rattle.mo_types.specs.Graph.{head_at}
use Rattle.mo_types.specs.Values as message
use Rattle.mo_values.specs.Costs.{Cost, sizes, most_levels}
use Rattle.mo_values.specs.Messages.{joined, plain_each, opened}
use Rattle.mo_values.specs.Shapes.{Bytes, Tuple, Shape, listed, shapes}
use Rattle.mo_actor.specs.Executions.{ReadingCost}
use Rattle.typed_tree.specs.Language.{Value, Made}
use Rattle.typed_tree.specs.Opening.{Code, value_of, shapes_list}
use Rattle.mo_meaning.specs.Places.{value_list, values_of_list}
use Rattle.mo_meaning.specs.Coding.{Types, Coding}

-- ---- results: none for (), the parts of a tuple for two or more types

abbrev pub unpacked : List TypeId → Value → List Value
unpacked [] v = []
unpacked (t ∷ []) v = v ∷ []
unpacked (t ∷ u ∷ ts) (Made Tuple inside) = value_list inside
unpacked (t ∷ u ∷ ts) _ = []

abbrev pub packed : List Value → Value
packed (v ∷ []) = v
packed vs = Made Tuple (values_of_list vs)

-- ---- into messages

abbrev pub joined_values : Option (List message.Values) → Option message.Values
joined_values None = None
joined_values (Some vs) = Some (joined vs)

-- none where they are no values of these types
abbrev pub plain_values : Types → List TypeId → List Value → Option message.Values
plain_values slots types vs = joined_values (plain_each (head_at slots) (map (λ t. Some t) types) (shapes (shapes_list vs)))

abbrev pub coded : Coding → Types → List TypeId → Option message.Values → Option Bytes
coded c slots types None = None
coded c slots types (Some values) = Some (c.code slots types values)

abbrev pub message_of : Coding → Types → List TypeId → List Value → Option Bytes
message_of c slots types vs = coded c slots types (plain_values slots types vs)

-- the values whole, and the bytes
abbrev pub message_cost : List Value → Bytes → Cost
message_cost vs bytes = record { weight = sizes (shapes_list vs) + length bytes; levels = most_levels (shapes_list vs) }

-- ---- out of them

abbrev pub values_at : Types → List TypeId → message.Values → List (Shape Code)
values_at slots types values = listed (opened (head_at slots) types values)

abbrev pub as_values : List (Shape Code) → List Value
as_values [] = []
as_values (v ∷ vs) = value_of v ∷ as_values vs

abbrev pub read_values : Coding → Types → List TypeId → Bytes → Option (List Value)
read_values c slots types bytes = opened_values (c.read slots types bytes)
  where
    opened_values : Option message.Values → Option (List Value)
    opened_values None = None
    opened_values (Some values) = Some (as_values (values_at slots types values))

-- the values that were read; none where the bytes do not read
abbrev pub read_shapes : Types → List TypeId → Option message.Values → List (Shape Code)
read_shapes slots types None = []
read_shapes slots types (Some values) = values_at slots types values

-- The header is looked at once for each node and entry of the declared types and once more, the bytes behind it once, and
-- the values are made.
abbrev pub message_weight : Coding → Types → List TypeId → Bytes → ℕ
message_weight c slots types bytes = c.header bytes * (1 + c.extent slots types) + (length bytes - c.header bytes)

abbrev pub cost_with : ℕ → List (Shape Code) → ReadingCost
cost_with weight vs = record { weight = weight + sizes vs; depth = 16 * most_levels vs }

abbrev pub reading_cost : Coding → Types → List TypeId → Bytes → ReadingCost
reading_cost c slots types bytes = cost_with (message_weight c slots types bytes) (read_shapes slots types (c.read slots types bytes))
