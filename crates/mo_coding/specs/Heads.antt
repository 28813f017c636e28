-- Collections of Candid types whose heads have finitely many parts in all, so that visiting them comes to an end: those of a
-- graph, of the table of a header, and of the record of stable variables.
use Rattle.std.specs.Prelude.{ℕ, ◌+◌, List, ◌++◌, map, flat_map}
use Rattle.mo_types.specs.declared.node.TypeId.{TypeId}
use Rattle.mo_types.specs.declared.wire.Ref.{Ref}
use Rattle.mo_types.specs.declared.wire.Ref.TheVariants.{Of, Just}
use Rattle.mo_types.specs.declared.wire.Wire.{Wire}
use Rattle.mo_types.specs.declared.wire.TableRef.{TableRef}
use Rattle.mo_types.specs.Graph.{node_of, node_or_bottom, head_at}
use Rattle.mo_types.specs.Wire.{plain_code, wire, wire_of_node}
use Rattle.mo_types.specs.Header.{parts_of, table_head}
use Rattle.mo_types.specs.Code.{Saved, Whole, Inner, Variable, saved_head}
use Rattle.candid_equal.specs.Refs.{ref_number}
use Rattle.mo_meaning.specs.Coding.{Types}

pub record Heads (A : Type 0) : Type 0 where
  pub head : A → Wire A
  -- by which types are told apart
  pub number : A → ℕ
  -- the parts of all heads
  pub parts : List A

abbrev pub type_number : Ref TypeId → ℕ
type_number (Just p) = plain_code p
type_number (Of t) = t.index + 256

abbrev pub graph_parts : Types → List (Ref TypeId)
graph_parts slots = flat_map (λ s. parts_of (wire_of_node (head_at slots) (node_or_bottom (node_of s)))) slots

abbrev pub of_graph : Types → Heads (Ref TypeId)
of_graph slots = record { head = wire (head_at slots); number = type_number; parts = graph_parts slots }

abbrev pub of_table : List (Wire TableRef) → Heads TableRef
of_table table = record { head = table_head table; number = ref_number; parts = flat_map (λ w. parts_of w) table }

abbrev pub saved_number : Saved TypeId → ℕ
saved_number Whole = 0
saved_number (Inner r) = type_number r + 1

abbrev pub of_saved : Types → List (Variable TypeId) → Heads (Saved TypeId)
of_saved slots variables = record {
  head = saved_head (head_at slots) variables;
  number = saved_number;
  parts = parts_of (saved_head (head_at slots) variables Whole) ++ map (λ r. Inner r) (graph_parts slots);
}
