-- What a routine does that reads the first bytes of a message and its table of types (Candid specification, section "Type definition
-- table"): it gives the place behind them, and what is to be known of the types stands in the memory from another place on.
use Rattle.std.specs.Prelude.{◌≡◌, ◌<◌, ◌≤◌, ◌^◌, ℕ, ◌+◌, ◌*◌, ◌-◌, List, [], length, take, drop, get_or, Some, slice_get, Result, Ok, Err}
use Rattle.mo_types.specs.declared.wire.Wire.{Wire}
use Rattle.mo_types.specs.declared.wire.Wire.TheVariants.{Record, Func}
use Rattle.mo_types.specs.declared.wire.TableRef.{TableRef}
use Rattle.candid_header.specs.declared.fault.Fault.{Fault}
use Rattle.candid_header.specs.Header.{magic_at}
use Rattle.candid_header.specs.Reading.{Reading}
use Rattle.candid_header.specs.Table.{table_at}
use Rattle.exact_reading.specs.Reading.{◌>>=◌}
use Rattle.wasm_tree.specs.Exec.{Store, number_of}
use Rattle.low_rules.specs.Rule.{CallEnd, Comes}
use Rattle.memory_routines.specs.Heaps.{HoldsBytes}
use Rattle.memory_routines.specs.Numerals.{with_memory}

-- the table behind the first bytes
abbrev pub table_read : Reading (List (Wire TableRef))
table_read bytes = magic_at bytes >>= λ rest. table_at rest

-- 1 of a function, 2 of a record without fields, and 0 of the other types
abbrev pub mark_of : {A : Type 0} → Wire A → ℕ
mark_of (Func ps rs ns) = 1
mark_of (Record []) = 2
mark_of _ = 0

-- the bytes that are changed: a word, and two bytes for each of 4,096 entries
abbrev pub marks_size : ℕ
marks_size = 8200

-- the memory is another one only between two places
pub record IsBeside (old new : List ℕ) (from size : ℕ) : Type 0 where
  pub same_length : length new ≡ length old
  pub below : take from new ≡ take from old
  pub above : drop (from + size) new ≡ drop (from + size) old
  pub bytes : HoldsBytes new

-- how many entries there are, and the mark of each
pub record Marks (memory : List ℕ) (at : ℕ) (table : List (Wire TableRef)) : Type 0 where
  pub count : number_of (take 8 (drop at memory)) ≡ length table
  pub marks : (i : ℕ) (w : Wire TableRef) → slice_get table i ≡ Some w → get_or memory (at + 8 + i) 0 ≡ mark_of w

-- What is asked: the bytes, and behind them the place for the marks.
pub record MayReadTable (memory : List ℕ) (at end marks : ℕ) : Type 0 where
  pub order : at ≤ end
  pub inside : end ≤ marks
  pub place : marks + marks_size ≤ length memory
  pub small : length memory < 2 ^ 32
  pub bytes : HoldsBytes memory

-- so many steps for so many bytes
abbrev pub table_steps : ℕ → ℕ
table_steps size = 2000 * (size + 1)

abbrev pub TableIsRead : {World : Type 0} → Store World → (at end marks : ℕ) → Result (List (Wire TableRef) × List ℕ) Fault → CallEnd World → Type 0
TableIsRead {World = World} store at end marks (Ok x) e =
    (cost : ℕ) × (memory : List ℕ) × (cost ≤ table_steps (end - at)) × IsBeside store.memory memory marks marks_size × Marks memory marks x.0 × (e ≡ Comes cost (with_memory store memory) (Some (end - length x.1)))
TableIsRead {World = World} store at end marks (Err f) e =
    (cost : ℕ) × (memory : List ℕ) × (cost ≤ table_steps (end - at)) × IsBeside store.memory memory marks marks_size × (e ≡ Comes cost (with_memory store memory) (Some 0))
