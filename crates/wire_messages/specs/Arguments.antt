-- A function that reads the arguments of a method, whose types are these, into words.
use Rattle.std.specs.Prelude.{◌≡◌, ◌<◌, ◌≤◌, ◌^◌, ℕ, ◌+◌, ◌*◌, ◌-◌, List, [], ◌∷◌, length, Option, Some, None, pos}
use Rattle.mo_num.specs.declared.kind.Kind.{Kind}
use Rattle.mo_types.specs.declared.wire.Plain.TheVariants as plain
use Rattle.mo_types.specs.Layout.{kind_number}
use Rattle.mo_types.specs.Values.{Values}
use Rattle.mo_types.specs.Wire.{plain_code, plain_number}
use Rattle.wasm_tree.specs.declared.types.ValueType.TheVariants.{I32, I64}
use Rattle.wasm_tree.specs.declared.op.Comparison.TheVariants.{Ne, GeU}
use Rattle.wasm_tree.specs.declared.op.BinaryOperator.TheVariants.{Add}
use Rattle.wasm_tree.specs.declared.op.Conversion.TheVariants.{Wrap}
use Rattle.wasm_tree.specs.declared.op.LoadKind.TheVariants as load
use Rattle.wasm_tree.specs.declared.op.StoreKind.TheVariants as store
use Rattle.wasm_tree.specs.Exec.{Store}
use Rattle.low_ir.specs.declared.op.Operand.TheVariants.{Local, Word, Long}
use Rattle.low_ir.specs.declared.op.Operation.TheVariants.{IsZero, Compare, Binary, Convert, Load}
use Rattle.low_ir.specs.Tree.{Code, Return, Set, Call, Function}
use Rattle.low_ir.specs.Tree as code
use Rattle.low_rules.specs.Rule.{CallEnd, Comes}
use Rattle.memory_routines.specs.Numerals.{with_memory}
use Rattle.memory_routines.specs.Heaps.{HoldsBytes}
use Rattle.wire_tables.specs.References.{unless, u32, ref}
use Rattle.wire_tables.specs.Tables.{marks_size, table_steps, IsBeside}
use Rattle.wire_messages.specs.declared.column.Wired.{Wired}
use Rattle.wire_messages.specs.declared.column.Wired.TheVariants.{Number, Truth, Unit as Nothing}
use Rattle.wire_messages.specs.Column.{AreValues, WordsAre}

-- The functions that read stand one after the other: those of the kinds of numbers in their order, and that of truth values.
abbrev pub reads_kind : ℕ → Kind → ℕ
reads_kind first k = first + kind_number k

abbrev pub reads_truth : ℕ → ℕ
reads_truth first = first + 10

-- ---- the types

-- a type without parts, by its code
abbrev pub is_code : ℕ → Code → Code
is_code c rest = Set 6 (Compare I64 Ne (Local 3) (Long (pos (4096 + c)))) (unless rest)

-- a record without fields, by its mark
abbrev pub is_marked : Code → Code
is_marked rest =
    Set 6 (Compare I64 GeU (Local 3) (Long (pos 4096)))
    (unless
    (Set 9 (Convert Wrap (Local 3))
    (Set 9 (Binary I32 Add (Local 9) (Local 2))
    (Set 5 (Load load.I64From8U (Local 9) 8)
    (Set 6 (Compare I64 Ne (Local 5) (Long (pos 2)))
    (unless rest))))))

abbrev pub is_wired : Wired → Code → Code
is_wired (Number k) rest = is_code (plain_code (plain_number k)) rest
is_wired Truth rest = is_code (plain_code plain.Bool) rest
is_wired Nothing rest = is_marked rest

abbrev pub refs_are : List Wired → Code → Code
refs_are [] rest = rest
refs_are (w ∷ ws) rest = ref (is_wired w (refs_are ws rest))

-- ---- the values

abbrev pub take_value : ℕ → Code → Code
take_value reads rest = Call (Some 0) reads (Local 0 ∷ Local 1 ∷ Local 2 ∷ []) (Set 6 (IsZero I32 (Local 0)) (unless (Set 2 (Binary I32 Add (Local 2) (Word (pos 8))) rest)))

abbrev pub take_nothing : Code → Code
take_nothing rest = code.Store store.I64 (Local 2) 0 (Long (pos 0)) (Set 2 (Binary I32 Add (Local 2) (Word (pos 8))) rest)

abbrev pub take_wired : ℕ → Wired → Code → Code
take_wired first (Number k) rest = take_value (reads_kind first k) rest
take_wired first Truth rest = take_value (reads_truth first) rest
take_wired first Nothing rest = take_nothing rest

-- the bytes have to end behind the last value
abbrev pub at_end : Code
at_end = Set 6 (Compare I32 Ne (Local 0) (Local 1)) (unless (Return (Some (Word (pos 1)))))

abbrev pub take_values : ℕ → List Wired → Code
take_values first [] = at_end
take_values first (w ∷ ws) = take_wired first w (take_values first ws)

-- ---- all of it

abbrev pub behind_count : ℕ → List Wired → Code
behind_count first ws = Set 6 (Compare I64 Ne (Local 3) (Long (pos (length ws)))) (unless (refs_are ws (take_values first ws)))

abbrev pub behind_table : ℕ → List Wired → Code
behind_table first ws = Set 6 (IsZero I32 (Local 0)) (unless (Set 8 (Load load.I64 (Local 2) 0) (u32 (behind_count first ws))))

-- Locals: the place of the bytes, their end and the place of the words; those of code that goes over bytes; how many entries the table
-- has, and the place of a mark. Where the words come, the marks of the table stand before.
abbrev pub read_arguments : (table first : ℕ) → List Wired → Code
read_arguments table first ws = Call (Some 0) table (Local 0 ∷ Local 1 ∷ Local 2 ∷ []) (behind_table first ws)

abbrev pub arguments : (table first : ℕ) → List Wired → ℕ → Function
arguments table first ws signature = record { signature = signature; locals = I64 ∷ I64 ∷ I64 ∷ I32 ∷ I64 ∷ I64 ∷ I32 ∷ []; body = read_arguments table first ws }

-- What is asked: behind the bytes there is room for the marks and for the words.
pub record MayReadAll (memory : List ℕ) (at end to count : ℕ) : Type 0 where
  pub order : at ≤ end
  pub inside : end ≤ to
  pub place : to + (marks_size + 8 * count) ≤ length memory
  pub small : length memory < 2 ^ 32
  pub bytes : HoldsBytes memory

abbrev pub all_steps : (size count : ℕ) → ℕ
all_steps size count = table_steps size + (900 * count + 400)

-- Where there are values, their words stand from the place on, and 1 is given; else 0. The memory is another one only from there on.
abbrev pub AreRead : {World : Type 0} → Store World → (at end to : ℕ) → List Wired → Option Values → CallEnd World → Type 0
AreRead {World = World} store at end to ws (Some values) e =
    (cost : ℕ) × (memory : List ℕ) × (cost ≤ all_steps (end - at) (length ws)) × IsBeside store.memory memory to (marks_size + 8 * length ws) × AreValues ws values × WordsAre memory to values × (e ≡ Comes cost (with_memory store memory) (Some 1))
AreRead {World = World} store at end to ws None e =
    (cost : ℕ) × (memory : List ℕ) × (cost ≤ all_steps (end - at) (length ws)) × IsBeside store.memory memory to (marks_size + 8 * length ws) × (e ≡ Comes cost (with_memory store memory) (Some 0))
