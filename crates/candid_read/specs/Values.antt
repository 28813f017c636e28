-- Motoko values at the front of bytes, read from left to right.
use Rattle.std.specs.Prelude.{◌≡◌, ℕ, List, map}
use Rattle.mo_types.specs.declared.datum.Datum.{Datum}
use Rattle.mo_types.specs.declared.node.TypeId.{TypeId}
use Rattle.mo_types.specs.Graph.{Slot, head_at}
use Rattle.mo_types.specs.Wire.{refs, wire}
use Rattle.mo_types.specs.Values.{Values}
use Rattle.mo_types.specs.Spelling.{padded, FewEmpty}
use Rattle.candid_header.specs.declared.fault.Fault.{Fault}
use Rattle.candid_header.specs.Reading.{Reading}
use Rattle.candid_types.specs.Shapes.{IsTableOf, ref_of}
use Rattle.candid_types.specs.Inside.{below}
use Rattle.candid_forms.specs.Forms.{Forms}
use Rattle.candid_read.specs.declared.known.Known.{Known}
use Rattle.candid_read.specs.Parts.{part_at}
use Rattle.candid_read.specs.Empty.{AreEmpty}
use Rattle.candid_read.specs.Endless.{AreEndless}
use Rattle.candid_read.specs.Whole.{Stops}

-- values of the types with bytes that a reader takes
abbrev pub Read : List Slot → List TypeId → Values → List ℕ → Type 0
Read slots ids values bytes = Forms padded (FewEmpty (wire (head_at slots))) (head_at slots) (refs ids) values bytes

-- the Candid types of a graph, with the marks of those without bytes and of those without values
pub record IsKnown (slots : List Slot) (known : Known) : Type 0 where
  pub table : IsTableOf slots known.shapes
  pub empty : AreEmpty known.shapes known.empty.items
  pub endless : AreEndless known.shapes known.endless.items

abbrev pub known_part : List Slot → Known → ℕ → Reading Datum
known_part slots known t bytes = part_at slots known.shapes known.empty.items known.endless.items t bytes

-- The first fault in reading order.
pub record Breaks (slots : List Slot) (ids : List TypeId) (bytes : List ℕ) (f : Fault) : Type 0 where
  pub known : Known
  pub is : IsKnown slots known
  pub types : List ℕ
  pub declared : map ref_of types ≡ refs ids
  pub stops : Stops (known_part slots known) (below known.shapes) types bytes f
