-- The first fault of a message in reading order.
use Rattle.std.specs.Prelude.{◌≡◌, ◌≢◌, ℕ, List, [], Result, Ok, Err}
use Rattle.mo_types.specs.declared.datum.Datum.{Datum}
use Rattle.mo_types.specs.declared.node.TypeId.{TypeId}
use Rattle.mo_types.specs.Graph.{Slot, head_at}
use Rattle.mo_types.specs.Values.{Values}
use Rattle.mo_types.specs.Code.{SameEach}
use Rattle.candid_header.specs.declared.fault.Fault.{Fault}
use Rattle.candid_header.specs.declared.fault.Fault.TheVariants.{Trailing, NotSubtype}
use Rattle.exact_reading.specs.declared.stop.Stop.{Stop}
use Rattle.exact_reading.specs.declared.stop.Stop.TheVariants as stop
use Rattle.candid_header.specs.declared.header.Header.{Header}
use Rattle.candid_header.specs.Header.{header_at}
use Rattle.candid_read.specs.Whole.{Takes}
use Rattle.candid_read.specs.Values.{Read, Breaks}

module _ (slots : List Slot) (ids : List TypeId) where
  -- the header's types are as many as the declared ones, and equal to them
  abbrev pub Declares : Header → Type 0
  Declares h = SameEach (head_at slots) h.table h.arguments ids

  pub data FirstFault (bytes : List ℕ) : Fault → Type 0 where
    -- in the header
    InHeader : {f : Fault} → header_at bytes ≡ Err f → FirstFault bytes f
    -- behind it, where its types are not the declared ones
    OtherTypes : (h : Header) (rest : List ℕ) → header_at bytes ≡ Ok (h, rest) → (Declares h → ⊥) → FirstFault bytes NotSubtype
    -- in the values
    InValues : {f : Fault} (h : Header) (rest : List ℕ) → header_at bytes ≡ Ok (h, rest) → Declares h → Breaks slots ids rest f → FirstFault bytes f
    -- behind them, where bytes remain
    Behind : (h : Header) (rest left : List ℕ) (values : Values) → header_at bytes ≡ Ok (h, rest) → Declares h → Takes (Read slots ids values) rest left → left ≢ [] → FirstFault bytes Trailing

-- these parts, or memory ran out
abbrev pub Decodes : {X : Type 0} → (X → List Datum) → Result X (Stop Fault) → List Datum → Type 0
Decodes parts (Ok x) ps = parts x ≡ ps
Decodes parts (Err stop.Memory) ps = Unit {0}
Decodes parts (Err (stop.Fault f)) ps = ⊥
