-- What the example coding counts of a message: the bytes of its header, and the nodes and entries of the declared types. The
-- numbers and names in a header are passed over without a look.
use Rattle.std.specs.Prelude.{ℕ, zero, suc, ◌+◌, ◌-◌, List, [], ◌∷◌, ◌++◌, length, take, drop, Bool, true, false, cond, nat_eq, Option, Some, None, sum_by}
use Rattle.std.specs.Str.{bytes_eq}
use Rattle.mo_types.specs.declared.node.TypeId.{TypeId}
use Rattle.mo_types.specs.declared.wire.Plain.{Plain}
use Rattle.mo_types.specs.Graph.{head_at}
use Rattle.mo_types.specs.Header.{magic}
use Rattle.mo_types.specs.Layout.{entries}
use Rattle.mo_types.specs.Wire.{plain_of_code}
use Rattle.mo_values.specs.Shapes.{Bytes}
use Rattle.mo_meaning.specs.Coding.{Types, Coding, parts_of}
use Rattle.mo_meaning.specs.ExampleCoding.{example_code, example_save}
use Rattle.mo_meaning.specs.ExampleReading.{on_read, read_leb, read_sleb, read_string, example_read, example_keep}

-- ---- the header

-- the bytes behind something, where it is there
abbrev pub Skip : Type 0
Skip = Bytes → Option Bytes

abbrev pub on_skip : Option Bytes → Skip → Option Bytes
on_skip None next = None
on_skip (Some rest) next = next rest

abbrev pub skip_leb : Skip
skip_leb bytes = on_read (read_leb bytes) (λ n rest. Some rest)

abbrev pub skip_string : Skip
skip_string bytes = on_read (read_string bytes) (λ t rest. Some rest)

abbrev pub skip_by : Option Plain → Bytes → Bytes → Option Bytes
skip_by (Some p) bytes rest = Some rest
skip_by None bytes rest = on_read (read_sleb bytes) (λ z rest. Some rest)

abbrev pub skip_ref : Skip
skip_ref [] = None
skip_ref (b ∷ rest) = skip_by (plain_of_code b) (b ∷ rest) rest

abbrev pub skip_times : Skip → ℕ → Skip
skip_times item zero bytes = Some bytes
skip_times item (suc n) bytes = on_skip (item bytes) (skip_times item n)

-- so many as a number in front says
abbrev pub skip_list : Skip → Skip
skip_list item bytes = on_read (read_leb bytes) (λ n rest. skip_times item n rest)

abbrev pub then_ref : Skip → Skip
then_ref first bytes = on_skip (first bytes) skip_ref

abbrev pub skip_function : Skip
skip_function bytes = on_skip (skip_list skip_ref bytes) (λ rest. on_skip (skip_list skip_ref rest) skip_string)

abbrev pub skip_entry_by : ℕ → Skip
skip_entry_by b rest =
    cond (nat_eq b 0x6e) (skip_ref rest) (cond (nat_eq b 0x6d) (skip_ref rest) (cond (nat_eq b 0x6c) (skip_list (then_ref skip_leb) rest)
    (cond (nat_eq b 0x6b) (skip_list (then_ref skip_leb) rest) (cond (nat_eq b 0x6a) (skip_function rest) (cond (nat_eq b 0x69) (skip_list (then_ref skip_string) rest) None)))))

abbrev pub skip_entry : Skip
skip_entry [] = None
skip_entry (b ∷ rest) = skip_entry_by b rest

abbrev pub skip_magic : Skip
skip_magic bytes = cond (bytes_eq (take 4 bytes) magic) (Some (drop 4 bytes)) None

abbrev pub skip_header : Skip
skip_header bytes = on_skip (skip_magic bytes) (λ rest. on_skip (skip_list skip_entry rest) (skip_list skip_ref))

abbrev pub bytes_before : Bytes → Option Bytes → ℕ
bytes_before bytes None = length bytes
bytes_before bytes (Some rest) = length bytes - length rest

abbrev pub example_begin : Bytes → ℕ
example_begin bytes = bytes_before bytes (skip_header bytes)

-- ---- the declared types

abbrev pub is_in : List TypeId → TypeId → Bool
is_in [] t = false
is_in (u ∷ us) t = cond (nat_eq u.index t.index) true (is_in us t)

abbrev pub reached_by : Types → ℕ → List TypeId → List TypeId → List TypeId
reached_by slots zero seen todo = seen
reached_by slots (suc fuel) seen [] = seen
reached_by slots (suc fuel) seen (t ∷ todo) =
    reached_by slots fuel (cond (is_in seen t) seen (t ∷ seen)) (cond (is_in seen t) todo (parts_of (head_at slots t) ++ todo))

abbrev pub extent_of : Types → List TypeId → ℕ
extent_of slots all = length all + sum_by (λ t. entries (head_at slots t)) all

abbrev pub example_extent : Types → List TypeId → ℕ
example_extent slots types = extent_of slots (reached_by slots 200 [] types)

-- ---- the coding

abbrev pub example : Coding
example = record {
  code = example_code;
  read = example_read;
  keep = example_keep;
  save = example_save;
  header = example_begin;
  extent = example_extent;
}
