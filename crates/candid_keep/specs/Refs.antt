-- The types of a graph as those of a header: Candid specification, section "Type definition table".
use Rattle.std.specs.Prelude.{◌≡◌, ℕ, List, [], ◌∷◌, map, drop}
use Rattle.mo_types.specs.declared.node.Node.{Node}
use Rattle.mo_types.specs.declared.node.TypeId.{TypeId}
use Rattle.mo_types.specs.declared.wire.Ref.{Ref}
use Rattle.mo_types.specs.declared.wire.Ref.TheVariants.{Just, Of}
use Rattle.mo_types.specs.declared.wire.TableRef.{TableRef}
use Rattle.mo_types.specs.declared.wire.TableRef.TheVariants.{Plainly, At}
use Rattle.mo_types.specs.declared.wire.Wire.{Wire}
use Rattle.mo_types.specs.Header.{table_head}
use Rattle.mo_types.specs.Wire.{map_wire, wire, SameWire}
use Rattle.candid_types.specs.Shapes.{ref_of}

-- a type of the graph is the entry of its number
abbrev pub graph_ref : TypeId → TableRef
graph_ref t = At t.index

abbrev pub ref_in : Ref TypeId → TableRef
ref_in (Just p) = Plainly p
ref_in (Of t) = graph_ref t

abbrev pub table_ref : ℕ → TableRef
table_ref n = ref_in (ref_of n)

-- the types of the graph stand behind the eighteen without parts
abbrev pub entries_of : List (Wire ℕ) → List (Wire TableRef)
entries_of shapes = map (map_wire table_ref) (drop 18 shapes)

-- each type has the head of its reference
pub record IsTableBy (head : TypeId → Node TypeId) (table : List (Wire TableRef)) : Type 0 where
  pub heads : (r : Ref TypeId) → table_head table (ref_in r) ≡ map_wire ref_in (wire head r)

-- the same Candid types, place by place
abbrev pub AreSame : (TypeId → Node TypeId) → (TypeId → Node TypeId) → List TypeId → List TypeId → Type 0
AreSame head next [] [] = Unit {0}
AreSame head next (t ∷ ts) (u ∷ us) = SameWire (wire head) (wire next) (Of t) (Of u) × AreSame head next ts us
AreSame head next _ _ = ⊥
