-- Tables of messages that are read by the definition, with their marks: Candid specification, section "Type definition table". What is
-- wanted was written out by hand.
use Rattle.std.specs.Prelude.{ℕ, List, [], ◌∷◌, map, Option, Some, None, Result, Ok, Err}
use Rattle.mo_types.specs.declared.wire.Wire.{Wire}
use Rattle.mo_types.specs.declared.wire.TableRef.{TableRef}
use Rattle.candid_header.specs.declared.fault.Fault.{Fault}
use Rattle.wire_tables.specs.Tables.{table_read, mark_of}

abbrev pub marks_of : Result (List (Wire TableRef) × List ℕ) Fault → Option (List ℕ × List ℕ)
marks_of (Ok t) = Some (map (λ w. mark_of w) t.0, t.1)
marks_of (Err f) = None

abbrev pub didl : List ℕ → Option (List ℕ × List ℕ)
didl bytes = marks_of (table_read (0x44 ∷ 0x49 ∷ 0x44 ∷ 0x4c ∷ bytes))

-- No entry, with a byte behind the table; a record without fields; one with a field, then a function, in numbers that are longer than they
-- have to be; a service with a method of that function. A method that is no function, ids that do not rise, an entry that is a type
-- without parts, another first byte, and a table that ends too early are no tables.
abbrev pub marks : List (Option (List ℕ × List ℕ))
marks =
    didl (0x00 ∷ 0x01 ∷ [])
    ∷ didl (0x01 ∷ 0x6c ∷ 0x00 ∷ [])
    ∷ didl (0x82 ∷ 0x00 ∷ 0x6c ∷ 0x01 ∷ 0x80 ∷ 0x00 ∷ 0x7d ∷ 0x6a ∷ 0x00 ∷ 0x80 ∷ 0x00 ∷ 0x00 ∷ [])
    ∷ didl (0x02 ∷ 0x69 ∷ 0x01 ∷ 0x01 ∷ 0x66 ∷ 0x01 ∷ 0x6a ∷ 0x00 ∷ 0x00 ∷ 0x00 ∷ [])
    ∷ didl (0x01 ∷ 0x69 ∷ 0x01 ∷ 0x01 ∷ 0x66 ∷ 0x00 ∷ [])
    ∷ didl (0x01 ∷ 0x6c ∷ 0x02 ∷ 0x01 ∷ 0x7d ∷ 0x01 ∷ 0x7d ∷ [])
    ∷ didl (0x01 ∷ 0x7d ∷ [])
    ∷ marks_of (table_read (0x44 ∷ 0x49 ∷ 0x44 ∷ 0x4d ∷ 0x00 ∷ []))
    ∷ didl (0x01 ∷ 0x6e ∷ [])
    ∷ []

abbrev pub wanted : List (Option (List ℕ × List ℕ))
wanted =
    Some ([], 0x01 ∷ []) ∷ Some (2 ∷ [], []) ∷ Some (0 ∷ 1 ∷ [], []) ∷ Some (0 ∷ 1 ∷ [], [])
    ∷ None ∷ None ∷ None ∷ None ∷ None ∷ []
