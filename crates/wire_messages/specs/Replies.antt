-- A function that writes the message of a method's results, from their words: the header of their types, which is known, and the values.
use Rattle.std.specs.Prelude.{◌≡◌, ◌<◌, ◌≤◌, ◌^◌, ℕ, suc, ◌+◌, ◌*◌, List, [], ◌∷◌, length, Some, pos}
use Rattle.mo_num.specs.declared.kind.Kind.{Kind}
use Rattle.mo_types.specs.Layout.{kind_number}
use Rattle.wasm_tree.specs.declared.types.ValueType.TheVariants.{I32, I64}
use Rattle.wasm_tree.specs.declared.op.BinaryOperator.TheVariants.{Add}
use Rattle.wasm_tree.specs.declared.op.LoadKind.TheVariants as load
use Rattle.wasm_tree.specs.declared.op.StoreKind.TheVariants as store
use Rattle.wasm_tree.specs.Exec.{Store}
use Rattle.low_ir.specs.declared.op.Operand.TheVariants.{Local, Word}
use Rattle.low_ir.specs.declared.op.Operation.TheVariants.{Binary, Load}
use Rattle.low_ir.specs.Tree.{Code, Return, Set, Call, Function}
use Rattle.low_ir.specs.Tree as code
use Rattle.low_rules.specs.Rule.{CallEnd, Comes}
use Rattle.memory_routines.specs.Numerals.{with_memory, between}
use Rattle.wire_messages.specs.declared.column.Wired.{Wired}
use Rattle.wire_messages.specs.declared.column.Wired.TheVariants.{Number, Truth, Unit as Nothing}

-- The functions that write stand one after the other: those of the kinds of numbers in their order, and that of truth values.
abbrev pub writes_kind : ℕ → Kind → ℕ
writes_kind first k = first + kind_number k

abbrev pub writes_truth : ℕ → ℕ
writes_truth first = first + 10

-- Locals: the place of the next byte, that of the next word, and a word.
abbrev pub put_bytes : List ℕ → ℕ → Code → Code
put_bytes [] i rest = rest
put_bytes (b ∷ bs) i rest = code.Store store.I32To8 (Local 0) i (Word (pos b)) (put_bytes bs (suc i) rest)

abbrev pub next_word : Code → Code
next_word rest = Set 1 (Binary I32 Add (Local 1) (Word (pos 8))) rest

abbrev pub put_value : ℕ → Code → Code
put_value writes rest = Set 2 (Load load.I64 (Local 1) 0) (Call (Some 0) writes (Local 0 ∷ Local 2 ∷ []) (next_word rest))

abbrev pub put_wired : ℕ → Wired → Code → Code
put_wired first (Number k) rest = put_value (writes_kind first k) rest
put_wired first Truth rest = put_value (writes_truth first) rest
put_wired first Nothing rest = next_word rest

abbrev pub put_values : ℕ → List Wired → Code
put_values first [] = Return (Some (Local 0))
put_values first (w ∷ ws) = put_wired first w (put_values first ws)

abbrev pub behind_header : ℕ → ℕ → List Wired → Code
behind_header first size ws = Set 0 (Binary I32 Add (Local 0) (Word (pos size))) (put_values first ws)

abbrev pub write_reply : ℕ → List ℕ → List Wired → Code
write_reply first header ws = put_bytes header 0 (behind_header first (length header) ws)

abbrev pub reply : ℕ → List ℕ → List Wired → ℕ → Function
reply first header ws signature = record { signature = signature; locals = I64 ∷ []; body = write_reply first header ws }

-- What is asked: behind the words of the values there is room for the header and for ten bytes of each value.
pub record MayReply (memory : List ℕ) (at from headed count : ℕ) : Type 0 where
  pub words : from + 8 * count ≤ at
  pub inside : at + headed + 10 * count + 10 ≤ length memory
  pub small : length memory < 2 ^ 32

-- The message stands from the place on, and the place behind it is given; the memory is else as it was.
abbrev pub IsReplied : {World : Type 0} → Store World → (at headed count : ℕ) → List ℕ → CallEnd World → Type 0
IsReplied {World = World} store at headed count text e =
    (cost : ℕ) × (cost ≤ 3 * headed + 420 * count + 10) × (e ≡ Comes cost (with_memory store (between store.memory at text (at + length text))) (Some (at + length text)))
