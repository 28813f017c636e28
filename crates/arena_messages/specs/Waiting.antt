-- Values of an arena at types, by their numbers, that wait for their turn.
use Rattle.std.specs.Prelude.{ℕ, ◌<◌, List, [], ◌∷◌, ◌++◌, Option, Some, None}
use Rattle.mo_types.specs.declared.node.Field.{Field}
use Rattle.mo_types.specs.declared.node.TypeId.{TypeId}
use Rattle.mo_values.specs.Messages.{under, labels, types}
use Rattle.mo_values.specs.Shapes.{Bytes}
use Rattle.mo_machine.specs.Values.{Value, Code, shape_of}
use Rattle.value_arena.specs.declared.node.ValueId.{ValueId}
use Rattle.value_arena.specs.Meaning.{value_at}
use Rattle.arena_messages.specs.declared.waiting.AtType.{AtType}
use Rattle.arena_messages.specs.Inside.{At, at}

abbrev pub typed : TypeId → ValueId → AtType
typed t id = record { of_type = t; value = id }

-- those that have a type
abbrev pub asked_ids : List (Option TypeId) → List ValueId → List AtType
asked_ids [] ids = []
asked_ids (t ∷ ts) [] = []
asked_ids (None ∷ ts) (id ∷ ids) = asked_ids ts ids
asked_ids (Some t ∷ ts) (id ∷ ids) = typed t id ∷ asked_ids ts ids

abbrev pub both_ids : Option TypeId → Option ValueId → List AtType
both_ids None id = []
both_ids (Some t) None = []
both_ids (Some t) (Some id) = typed t id ∷ []

-- of an object with these labels and values, at a type with these fields
abbrev pub field_ids : List (Field TypeId) → List Bytes → List ValueId → List (Field TypeId) → List AtType
field_ids all ls ids [] = []
field_ids all ls ids (f ∷ fs) = both_ids (under f.label (labels all) (types all)) (under f.label ls ids) ++ field_ids all ls ids fs

-- all of them are among the first n nodes
abbrev pub AreBelow : ℕ → List AtType → Type 0
AreBelow n [] = Unit {0}
AreBelow n (x ∷ xs) = (x.value.index < n) × AreBelow n xs

-- ---- what they stand for, of the values of all nodes

abbrev pub item : List Value → AtType → At TypeId Code
item vs x = at x.of_type (shape_of (value_at vs x.value))

abbrev pub items : List Value → List AtType → List (At TypeId Code)
items vs [] = []
items vs (x ∷ xs) = item vs x ∷ items vs xs
