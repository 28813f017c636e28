-- Reading messages as a function (Candid specification, sections "Memory" and "Binary Format").
use Rattle.std.specs.Prelude.{ℕ, zero, suc, ◌+◌, Bool, true, false, ◌&&◌, List, [], ◌∷◌, length, Option, Some, None, Result, Ok, Err}
use Rattle.mo_types.specs.declared.datum.Datum.{Datum}
use Rattle.mo_types.specs.declared.node.TypeId.{TypeId}
use Rattle.mo_types.specs.declared.wire.Ref.{Ref}
use Rattle.mo_types.specs.declared.wire.Ref.TheVariants.{Of}
use Rattle.mo_types.specs.declared.wire.Wire.{Wire}
use Rattle.mo_types.specs.declared.wire.TableRef.{TableRef}
use Rattle.mo_types.specs.Graph.{head_at}
use Rattle.mo_types.specs.Spelling.{bit}
use Rattle.mo_types.specs.Values.{Values, Nil, Value}
use Rattle.mo_types.specs.Wire.{map_wire, refs, wire}
use Rattle.candid_forms.specs.Forms.{inside_ref}
use Rattle.candid_header.specs.declared.fault.Fault.{Fault}
use Rattle.candid_header.specs.declared.fault.Fault.TheVariants.{BadValue}
use Rattle.candid_header.specs.declared.header.Header.{Header}
use Rattle.candid_header.specs.Header.{header_at}
use Rattle.candid_header.specs.Reading.{Reading}
use Rattle.candid_read.specs.Parts.{part_by, ref_part}
use Rattle.exact_reading.specs.Reading.{◌>>=◌}
use Rattle.mo_values.specs.Shapes.{Bytes}
use Rattle.mo_meaning.specs.Coding.{Types}
use Rattle.mo_coding.specs.Heads.{of_graph, of_table}
use Rattle.mo_coding.specs.Equality.{same}
use Rattle.mo_coding.specs.Levels.{all_levels, is_empty}

-- the second of these is of types without bytes
abbrev pub marks : List Bool
marks = false ∷ true ∷ []

module _ (slots : Types) where
  abbrev pub marked : Wire (Ref TypeId) → Wire ℕ
  marked w = map_wire (λ q. bit (is_empty (of_graph slots) q)) w

  -- the outermost part of a value
  abbrev pub part_at : Ref TypeId → Reading Datum
  part_at r bytes = ref_part slots r (part_by marks (marked (wire (head_at slots) r))) bytes

  abbrev pub read_none : List (Ref TypeId) → Reading Values
  read_none [] bytes = Ok (Nil, bytes)
  read_none (r ∷ rs) bytes = Err BadValue

  abbrev pub read_each : (List (Ref TypeId) → Reading Values) → List (Ref TypeId) → Reading Values
  read_each next [] bytes = Ok (Nil, bytes)
  read_each next (r ∷ rs) bytes = part_at r bytes >>= λ p. next (inside_ref (head_at slots) r p.0) p.1 >>= λ i. read_each next rs i.1 >>= λ o. Ok (Value p.0 i.0 o.0, o.1)

  -- values within one another to this depth
  abbrev pub read_by : ℕ → List (Ref TypeId) → Reading Values
  read_by zero = read_none
  read_by (suc depth) = read_each (read_by depth)

-- so many levels for each byte
abbrev pub budget : ℕ → ℕ → ℕ
budget levels zero = 0
budget levels (suc bytes) = suc levels + budget levels bytes

-- no values of so many bytes are deeper
abbrev pub most_depth : Types → ℕ → ℕ
most_depth slots bytes = all_levels (of_graph slots) + budget (all_levels (of_graph slots)) bytes

abbrev pub whole : Values → List ℕ → Option Values
whole values [] = Some values
whole values (b ∷ bs) = None

abbrev pub whole_of : Result (Values × List ℕ) Fault → Option Values
whole_of (Ok x) = whole x.0 x.1
whole_of (Err f) = None

abbrev pub same_each : List (Wire TableRef) → Types → List TableRef → List TypeId → Bool
same_each table slots [] [] = true
same_each table slots (r ∷ rs) (t ∷ ts) = same (of_table table) (of_graph slots) r (Of t) && same_each table slots rs ts
same_each table slots _ _ = false

-- the values behind a header whose types are these
abbrev pub read_behind : Types → List TypeId → Result (Header × List ℕ) Fault → Option Values
read_behind slots types (Ok x) = elim (same_each x.0.table slots x.0.arguments types) [ true ↦ whole_of (read_by slots (most_depth slots (length x.1)) (refs types) x.1) | false ↦ None ]
read_behind slots types (Err f) = None

abbrev pub read : Types → List TypeId → Bytes → Option Values
read slots types bytes = read_behind slots types (header_at bytes)
