-- Replies that are computed (Candid specification, section "Binary Format"): functions of a small module write them from words.
use Rattle.std.specs.Prelude.{ℕ, List, [], ◌∷◌, ◌++◌, take, drop, replicate, Some, None, false, map}
use Rattle.mo_num.specs.declared.kind.Kind.TheVariants as kind
use Rattle.wasm_tree.specs.declared.types.ValueType.TheVariants.{I32, I64}
use Rattle.wasm_tree.specs.Exec.{Store, Host, Refuses, bytes_of}
use Rattle.low_ir.specs.Tree.{Function, Module}
use Rattle.low_ir.specs.Meaning.{Called, Gave, Fell, Lost}
use Rattle.low_ir.specs.Frames.{enter}
use Rattle.memory_routines.specs.Laws.{word_of}
use Rattle.wire_numbers.specs.Writers.{writer, write_kind, write_flag}
use Rattle.wire_messages.specs.declared.column.Wired.{Wired}
use Rattle.wire_messages.specs.declared.column.Wired.TheVariants.{Number, Truth, Unit as Nothing}
use Rattle.wire_messages.specs.Replies.{reply}

-- functions that write, of the kinds of numbers in their order and of truth values
abbrev pub writers : List Function
writers =
    map (λ k. writer (write_kind k) 22) (kind.Nat ∷ kind.Int ∷ kind.Nat8 ∷ kind.Nat16 ∷ kind.Nat32 ∷ kind.Nat64 ∷ kind.Int8 ∷ kind.Int16 ∷ kind.Int32 ∷ kind.Int64 ∷ [])
    ++ writer write_flag 22 ∷ []

abbrev pub example : List ℕ → List Wired → Module
example header ws = record {
  types = word_of (I32 ∷ I64 ∷ []) ∷ word_of (I32 ∷ I32 ∷ []) ∷ [];
  functions = writers ++ reply 22 header ws 23 ∷ [];
  table = [];
  globals = [];
  pages = 1;
  bytes = [];
  exports = [];
}

abbrev pub no_host : Host ℕ
no_host function args memory w = Refuses w

abbrev pub first_store : List ℕ → Store ℕ
first_store memory = record { memory = memory; globals = []; table = []; refused = false; world = 0 }

abbrev pub written_of : ℕ → Called ℕ → List ℕ
written_of from (Gave left store (Some place)) = drop from (take place store.memory)
written_of from (Gave left store None) = []
written_of from (Fell cause store) = []
written_of from Lost = []

abbrev pub bytes_of_words : List ℕ → List ℕ
bytes_of_words [] = []
bytes_of_words (w ∷ ws) = bytes_of 8 w ++ bytes_of_words ws

-- the words of two values stand at the front, and the message behind them
abbrev pub replied : List ℕ → List Wired → List ℕ → List ℕ
replied header ws words = written_of 16 (enter 3 1 (example header ws) no_host 40 33 2000 (first_store (take 16 (bytes_of_words words ++ replicate 16 0) ++ replicate 40 0)) (16 ∷ 0 ∷ []))

abbrev pub didl : List ℕ → List ℕ
didl bytes = 0x44 ∷ 0x49 ∷ 0x44 ∷ 0x4c ∷ bytes

-- nothing; 42; -1 and true; () and 258 in two bytes
abbrev pub replies : List (List ℕ)
replies =
    replied (didl (0 ∷ 0 ∷ [])) [] []
    ∷ replied (didl (0 ∷ 1 ∷ 0x7d ∷ [])) (Number kind.Nat ∷ []) (42 ∷ [])
    ∷ replied (didl (0 ∷ 2 ∷ 0x7c ∷ 0x7e ∷ [])) (Number kind.Int ∷ Truth ∷ []) (18446744073709551615 ∷ 1 ∷ [])
    ∷ replied (didl (1 ∷ 0x6c ∷ 0 ∷ 2 ∷ 0 ∷ 0x7a ∷ [])) (Nothing ∷ Number kind.Nat16 ∷ []) (0 ∷ 258 ∷ [])
    ∷ []

abbrev pub wanted : List (List ℕ)
wanted =
    didl (0 ∷ 0 ∷ []) ∷ didl (0 ∷ 1 ∷ 0x7d ∷ 0x2a ∷ []) ∷ didl (0 ∷ 2 ∷ 0x7c ∷ 0x7e ∷ 0x7f ∷ 0x01 ∷ [])
    ∷ didl (1 ∷ 0x6c ∷ 0 ∷ 2 ∷ 0 ∷ 0x7a ∷ 0x02 ∷ 0x01 ∷ []) ∷ []
