-- Calls of the routines that are computed: what bytes read as (Candid specification, section "Memory"; WebAssembly Core 1.0 section
-- 5.2.2), and the bytes of numbers.
use Rattle.std.specs.Prelude.{ℕ, zero, suc, ◌-◌, List, [], ◌∷◌, ◌++◌, length, take, drop, replicate, Option, Some, None, false}
use Rattle.mo_num.specs.declared.kind.Kind.TheVariants as kind
use Rattle.wasm_tree.specs.declared.types.ValueType.TheVariants.{I32, I64}
use Rattle.wasm_tree.specs.Exec.{Store, Host, Refuses, number_of}
use Rattle.low_ir.specs.Tree.{Module}
use Rattle.low_ir.specs.Meaning.{Called, Gave, Fell, Lost}
use Rattle.low_ir.specs.Frames.{enter}
use Rattle.memory_routines.specs.Laws.{word_of}
use Rattle.wire_numbers.specs.Readers.{reader, read_kind, read_flag}
use Rattle.wire_numbers.specs.Writers.{writer, write_kind}

abbrev pub example : Module
example = record {
  types = word_of (I32 ∷ I32 ∷ I32 ∷ []) ∷ word_of (I32 ∷ I64 ∷ []) ∷ [];
  functions = reader (read_kind kind.Nat) 22 ∷ reader (read_kind kind.Int) 22 ∷ reader (read_kind kind.Int16) 22 ∷ reader read_flag 22 ∷ writer (write_kind kind.Nat) 23 ∷ writer (write_kind kind.Int) 23 ∷ writer (write_kind kind.Int16) 23 ∷ [];
  table = [];
  globals = [];
  pages = 1;
  bytes = [];
  exports = [];
}

abbrev pub no_host : Host ℕ
no_host function args memory w = Refuses w

abbrev pub first_store : List ℕ → Store ℕ
first_store memory = record { memory = memory; globals = []; table = []; refused = false; world = 0 }

-- how many bytes are left, and the word; none where they do not read
abbrev pub read_of : ℕ → Called ℕ → Option (ℕ × ℕ)
read_of end (Gave left store (Some zero)) = None
read_of end (Gave left store (Some (suc place))) = Some (end - suc place, number_of (take 8 (drop 16 store.memory)))
read_of end (Gave left store None) = None
read_of end (Fell cause store) = None
read_of end Lost = None

-- The bytes stand from place 1 on, and the word goes to place 16.
abbrev pub read_by : ℕ → List ℕ → Option (ℕ × ℕ)
read_by f bytes = read_of (suc (length bytes)) (enter 2 1 example no_host 30 f 500 (first_store (0 ∷ (bytes ++ replicate (23 - length bytes) 0))) (1 ∷ suc (length bytes) ∷ 16 ∷ []))

abbrev pub written_of : Called ℕ → List ℕ
written_of (Gave left store (Some place)) = take place store.memory
written_of (Gave left store None) = []
written_of (Fell cause store) = []
written_of Lost = []

abbrev pub written_by : ℕ → ℕ → List ℕ
written_by f word = written_of (enter 2 1 example no_host 30 f 400 (first_store (replicate 10 0)) (0 ∷ word ∷ []))

-- Numbers, of which one is longer than it has to be, and one is followed by a byte; the greatest one, the next one, and bytes that end
-- too early. With a sign: -1, 64, the least one, and what no number of 64 bits is. Two bytes: -2, and one byte alone. Truth values.
abbrev pub read : List (Option (ℕ × ℕ))
read =
    read_by 22 (0x05 ∷ [])
    ∷ read_by 22 (0x80 ∷ 0x00 ∷ [])
    ∷ read_by 22 (0x80 ∷ 0x01 ∷ 0x07 ∷ [])
    ∷ read_by 22 (0xff ∷ 0xff ∷ 0xff ∷ 0xff ∷ 0xff ∷ 0xff ∷ 0xff ∷ 0xff ∷ 0x7f ∷ [])
    ∷ read_by 22 (0xff ∷ 0xff ∷ 0xff ∷ 0xff ∷ 0xff ∷ 0xff ∷ 0xff ∷ 0xff ∷ 0xff ∷ 0x00 ∷ [])
    ∷ read_by 22 (0x80 ∷ 0x80 ∷ 0x80 ∷ 0x80 ∷ 0x80 ∷ 0x80 ∷ 0x80 ∷ 0x80 ∷ 0x80 ∷ 0x01 ∷ [])
    ∷ read_by 22 (0x80 ∷ [])
    ∷ read_by 22 []
    ∷ read_by 23 (0x7f ∷ [])
    ∷ read_by 23 (0xc0 ∷ 0x00 ∷ [])
    ∷ read_by 23 (0x80 ∷ 0x80 ∷ 0x80 ∷ 0x80 ∷ 0x80 ∷ 0x80 ∷ 0x80 ∷ 0x80 ∷ 0x80 ∷ 0x7f ∷ [])
    ∷ read_by 23 (0x80 ∷ 0x80 ∷ 0x80 ∷ 0x80 ∷ 0x80 ∷ 0x80 ∷ 0x80 ∷ 0x80 ∷ 0x80 ∷ 0x01 ∷ [])
    ∷ read_by 24 (0xfe ∷ 0xff ∷ [])
    ∷ read_by 24 (0xfe ∷ [])
    ∷ read_by 25 (0x01 ∷ [])
    ∷ read_by 25 (0x02 ∷ [])
    ∷ []

abbrev pub wanted_read : List (Option (ℕ × ℕ))
wanted_read =
    Some (0, 5) ∷ Some (0, 0) ∷ Some (1, 128) ∷ Some (0, 9223372036854775807) ∷ Some (0, 9223372036854775807) ∷ None ∷ None ∷ None
    ∷ Some (0, 18446744073709551615) ∷ Some (0, 64) ∷ Some (0, 9223372036854775808) ∷ None
    ∷ Some (0, 18446744073709551614) ∷ None ∷ Some (0, 1) ∷ None ∷ []

-- 0, 127, 128 and the greatest number; -1, 63, 64, -64, -65 and the least number; -2 in two bytes.
abbrev pub written : List (List ℕ)
written =
    written_by 26 0 ∷ written_by 26 127 ∷ written_by 26 128 ∷ written_by 26 9223372036854775807
    ∷ written_by 27 18446744073709551615 ∷ written_by 27 63 ∷ written_by 27 64 ∷ written_by 27 18446744073709551552 ∷ written_by 27 18446744073709551551 ∷ written_by 27 9223372036854775808
    ∷ written_by 28 18446744073709551614 ∷ []

abbrev pub wanted_written : List (List ℕ)
wanted_written =
    (0x00 ∷ []) ∷ (0x7f ∷ []) ∷ (0x80 ∷ 0x01 ∷ []) ∷ (0xff ∷ 0xff ∷ 0xff ∷ 0xff ∷ 0xff ∷ 0xff ∷ 0xff ∷ 0xff ∷ 0x7f ∷ [])
    ∷ (0x7f ∷ []) ∷ (0x3f ∷ []) ∷ (0xc0 ∷ 0x00 ∷ []) ∷ (0x40 ∷ []) ∷ (0xbf ∷ 0x7f ∷ []) ∷ (0x80 ∷ 0x80 ∷ 0x80 ∷ 0x80 ∷ 0x80 ∷ 0x80 ∷ 0x80 ∷ 0x80 ∷ 0x80 ∷ 0x7f ∷ [])
    ∷ (0xfe ∷ 0xff ∷ []) ∷ []
