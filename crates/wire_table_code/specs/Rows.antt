-- Calls of the routine that reads tables, of at most four entries, with what the definition reads.
use Rattle.std.specs.Prelude.{ℕ, suc, zero, ◌-◌, List, [], ◌∷◌, ◌++◌, length, map, take, drop, replicate, Option, Some, None, false}
use Rattle.wasm_tree.specs.declared.types.ValueType.TheVariants.{I32}
use Rattle.wasm_tree.specs.Exec.{Store, Host, Refuses}
use Rattle.low_ir.specs.Tree.{Module}
use Rattle.low_ir.specs.Meaning.{Called, Gave, Fell, Lost}
use Rattle.low_ir.specs.Frames.{enter}
use Rattle.memory_routines.specs.Laws.{word_of}
use Rattle.memory_routines.specs.Order.{ordering}
use Rattle.wire_tables.specs.Tables.{table_read}
use Rattle.wire_tables.specs.Rows.{marks_of}
use Rattle.wire_table_code.specs.TableCode.{table}

abbrev pub example : Module
example = record { types = word_of (I32 ∷ I32 ∷ I32 ∷ I32 ∷ []) ∷ word_of (I32 ∷ I32 ∷ I32 ∷ []) ∷ []; functions = ordering 22 ∷ table 22 4 23 ∷ []; table = []; globals = []; pages = 1; bytes = []; exports = [] }

abbrev pub no_host : Host ℕ
no_host function args memory w = Refuses w

abbrev pub first_store : List ℕ → Store ℕ
first_store memory = record { memory = memory; globals = []; table = []; refused = false; world = 0 }

abbrev pub nth : List ℕ → ℕ
nth [] = 0
nth (x ∷ xs) = x

-- the marks, and the bytes behind the table
abbrev pub found : List ℕ → Called ℕ → Option (List ℕ × List ℕ)
found bytes (Gave left store (Some zero)) = None
found bytes (Gave left store (Some (suc place))) = Some (take (nth (drop 40 store.memory)) (drop 48 store.memory), drop place bytes)
found bytes (Gave left store None) = None
found bytes (Fell cause store) = None
found bytes Lost = None

abbrev pub called : List ℕ → Option (List ℕ × List ℕ)
called bytes = found bytes (enter 3 1 example no_host 100 23 20000 (first_store (0 ∷ (bytes ++ replicate (59 - length bytes) 7))) (1 ∷ suc (length bytes) ∷ 40 ∷ []))

abbrev pub didl : List ℕ → List ℕ
didl bytes = 0x44 ∷ 0x49 ∷ 0x44 ∷ 0x4c ∷ bytes

abbrev pub tables : List (List ℕ)
tables =
    didl (0x00 ∷ 0x01 ∷ [])
    ∷ didl (0x01 ∷ 0x6c ∷ 0x00 ∷ [])
    ∷ didl (0x82 ∷ 0x00 ∷ 0x6c ∷ 0x01 ∷ 0x80 ∷ 0x00 ∷ 0x7d ∷ 0x6a ∷ 0x00 ∷ 0x80 ∷ 0x00 ∷ 0x00 ∷ [])
    ∷ didl (0x02 ∷ 0x69 ∷ 0x01 ∷ 0x01 ∷ 0x66 ∷ 0x01 ∷ 0x6a ∷ 0x00 ∷ 0x00 ∷ 0x00 ∷ [])
    ∷ didl (0x02 ∷ 0x6a ∷ 0x01 ∷ 0x01 ∷ 0x02 ∷ 0x7d ∷ 0x71 ∷ 0x01 ∷ 0x01 ∷ 0x69 ∷ 0x02 ∷ 0x01 ∷ 0x66 ∷ 0x00 ∷ 0x01 ∷ 0x67 ∷ 0x00 ∷ 0x00 ∷ [])
    ∷ didl (0x02 ∷ 0x6a ∷ 0x00 ∷ 0x00 ∷ 0x00 ∷ 0x69 ∷ 0x02 ∷ 0x01 ∷ 0x67 ∷ 0x00 ∷ 0x01 ∷ 0x66 ∷ 0x00 ∷ [])
    ∷ didl (0x01 ∷ 0x69 ∷ 0x01 ∷ 0x01 ∷ 0x66 ∷ 0x00 ∷ [])
    ∷ didl (0x01 ∷ 0x6b ∷ 0x02 ∷ 0x01 ∷ 0x7d ∷ 0x02 ∷ 0x68 ∷ [])
    ∷ didl (0x01 ∷ 0x6c ∷ 0x02 ∷ 0x01 ∷ 0x7d ∷ 0x01 ∷ 0x7d ∷ [])
    ∷ didl (0x01 ∷ 0x6d ∷ 0x01 ∷ [])
    ∷ didl (0x01 ∷ 0x6d ∷ 0x69 ∷ [])
    ∷ didl (0x01 ∷ 0x7d ∷ [])
    ∷ (0x44 ∷ 0x49 ∷ 0x44 ∷ 0x4d ∷ 0x00 ∷ [])
    ∷ didl (0x01 ∷ 0x6e ∷ [])
    ∷ []

abbrev pub answers : List (Option (List ℕ × List ℕ))
answers = map called tables

-- what the definition reads
abbrev pub wanted : List (Option (List ℕ × List ℕ))
wanted = map (λ bytes. marks_of (table_read bytes)) tables
