-- One turn over the values that wait: what it asks of a value, and the parts that it puts.
use Rattle.std.specs.Prelude.{◌≡◌, ℕ, ◌+◌, ◌≤◌, List, [], ◌∷◌, ◌++◌, length, Bool, true, ◌&&◌}
use Rattle.mo_types.specs.declared.datum.Datum.{Datum}
use Rattle.mo_types.specs.declared.node.Node.{Node as TypeNode}
use Rattle.mo_types.specs.declared.node.Node.TheVariants as node
use Rattle.mo_types.specs.declared.node.TypeId.{TypeId}
use Rattle.mo_types.specs.Graph.{Slot, head_at}
use Rattle.mo_types.specs.Values.{by_label}
use Rattle.mo_values.specs.Messages.{types_inside}
use Rattle.mo_values.specs.Shapes.{Head, Object}
use Rattle.typed_tree.specs.Language.{Functions}
use Rattle.value_arena.specs.declared.node.Node.{Node}
use Rattle.value_arena.specs.declared.node.ValueId.{ValueId}
use Rattle.value_arena.specs.Meaning.{values}
use Rattle.arena_messages.specs.declared.waiting.AtType.{AtType}
use Rattle.arena_messages.specs.Goes.{goes, all_go, parts, all_parts}
use Rattle.arena_messages.specs.Inside.{total}
use Rattle.arena_messages.specs.Waiting.{asked_ids, field_ids, AreBelow, item, items}

-- the values inside a value, in the order of the message
abbrev pub ids_in_order : TypeNode TypeId → Head → List ValueId → List AtType
ids_in_order (node.Object fs) (Object ls) ids = field_ids fs ls ids (by_label fs)
ids_in_order t h ids = asked_ids (types_inside t h (length ids)) ids

module _ (types : List Slot) (ns : List Node) where
  -- a value was asked, and those inside it wait
  pub record IsAsked (x : AtType) (b : Bool) (old new : List AtType) : Type 0 where
    pub goes : (groups : ℕ → Functions) → (goes (head_at types) (item (values groups ns) x) && all_go (head_at types) (items (values groups ns) old)) ≡ (b && all_go (head_at types) (items (values groups ns) new))
    pub within : AreBelow (length ns) old → AreBelow (length ns) new
    pub smaller : (groups : ℕ → Functions) → b ≡ true → total (items (values groups ns) new) + 1 ≤ total (items (values groups ns) old) + total (items (values groups ns) (x ∷ []))

  -- the outermost part of a value was put, and those inside it wait, the next one first
  pub record IsPut (x : AtType) (old new : List AtType) (before after : List Datum) : Type 0 where
    pub puts : (groups : ℕ → Functions) → after ++ all_parts (head_at types) (items (values groups ns) new) ≡ before ++ (parts (head_at types) (item (values groups ns) x) ++ all_parts (head_at types) (items (values groups ns) old))
    pub goes : (groups : ℕ → Functions) → all_go (head_at types) (items (values groups ns) old) ≡ true → all_go (head_at types) (items (values groups ns) new) ≡ true
    pub within : AreBelow (length ns) old → AreBelow (length ns) new
    pub more : length after ≡ length before + 1
