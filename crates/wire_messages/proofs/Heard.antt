-- Calls of functions that read arguments.
use Rattle.std.proofs.Common.{◌≡◌, ℕ, ◌+◌, ◌-◌, ◌≤◌, max, List, [], ◌∷◌, length, pos, sym, subst, arith}
use Rattle.mo_types.specs.declared.wire.Plain.TheVariants as plain
use Rattle.mo_types.specs.Wire.{plain_code, plain_number}
use Rattle.candid_read.specs.Parts.{plain_at}
use Rattle.mo_coding.specs.Reading.{read}
use Rattle.wasm_tree.specs.declared.types.ValueType.TheVariants.{I32, I64}
use Rattle.wasm_tree.specs.declared.op.Comparison.TheVariants.{Ne, LtU, GeU}
use Rattle.wasm_tree.specs.declared.op.BinaryOperator.TheVariants.{Add}
use Rattle.wasm_tree.specs.declared.op.Conversion.TheVariants.{Wrap}
use Rattle.wasm_tree.specs.declared.op.LoadKind.TheVariants.{I64From8U}
use Rattle.wasm_tree.specs.declared.op.LoadKind.TheVariants.{I64 as LoadI64}
use Rattle.low_ir.specs.declared.op.Operand.{Operand}
use Rattle.low_ir.specs.declared.op.Operand.TheVariants.{Local, Long}
use Rattle.low_ir.specs.declared.op.Operation.{Operation}
use Rattle.low_ir.specs.declared.op.Operation.TheVariants.{Copy, IsZero, Compare, Binary, Convert, Load}
use Rattle.low_ir.specs.Tree.{Code, Stop, Set, Block, Loop, If}
use Rattle.low_ir.specs.Meaning.{Calls}
use Rattle.low_ir.specs.Frames.{operands_of, height, depth, words, enter}
use Rattle.low_rules.specs.Rule.{Contracts, ComesTo}
use Rattle.low_rules.proofs.Entering.{routine, weaker}
use Rattle.wire_numbers.specs.Readers.{bytes_between, IsRead}
use Rattle.wire_numbers.proofs.Kept.{numbers_are_read, flags_are_read}
use Rattle.wire_numbers.specs.Scanning.{one_digit}
use Rattle.wire_tables.specs.References.{unless, five_digits, u32_tests, u32, entry_tests, code_tests, ref_tests, ref}
use Rattle.wire_tables.specs.Tables.{table_read, TableIsRead}
use Rattle.wire_messages.specs.declared.column.Wired.{Wired}
use Rattle.wire_messages.specs.declared.column.Wired.TheVariants.{Number, Truth, Unit as Nothing}
use Rattle.wire_messages.specs.Arguments.{reads_kind, reads_truth, is_code, is_marked, refs_are, take_values, behind_count, behind_table, read_arguments, arguments, AreRead}
use Rattle.wire_messages.specs.Laws.{arguments_type, ArgumentsAreRead}
use Rattle.wire_messages.proofs.Matched.{read_is}
use Rattle.wire_messages.proofs.Argued.{arguments_are}

-- ---- the frame

abbrev Small : Code → Type 0
Small c = (height c ≤ 3) × (depth c ≤ 4)

values_small : (first : ℕ) (ws : List Wired) → Small (take_values first ws)
values_small first [] = (omega arith, omega arith)
values_small first (Number k ∷ ws) = let r = values_small first ws in (omega (arith, r.0), omega (arith, r.1))
values_small first (Truth ∷ ws) = let r = values_small first ws in (omega (arith, r.0), omega (arith, r.1))
values_small first (Nothing ∷ ws) = let r = values_small first ws in (omega (arith, r.0), omega (arith, r.1))

within : (n a b : ℕ) → a ≤ n → b ≤ n → max a b ≤ n
within n a b h k = omega (arith, h, k)

unless_small : (rest : Code) → Small rest → Small (unless rest)
unless_small rest h = (within 3 1 (max 1 (max 0 (height rest))) (omega arith) (within 3 1 (max 0 (height rest)) (omega arith) (within 3 0 (height rest) (omega arith) h.0)), within 4 1 (max 1 (depth rest)) (omega arith) (within 4 1 (depth rest) (omega arith) h.1))

set_small : (x : ℕ) (o : Operation) (rest : Code) → operands_of o ≤ 3 → Small rest → Small (Set x o rest)
set_small x o rest few h = (within 3 (operands_of o) (height rest) few h.0, h.1)

-- a choice between codes that are small, and one that is
if_small : (a : Operand) (first second rest : Code) → height first ≤ 3 → height second ≤ 3 → depth first ≤ 3 → depth second ≤ 3 → Small rest → Small (If a first second rest)
if_small a first second rest h k l n r = (within 3 1 (max (height first) (max (height second) (height rest))) (omega arith) (within 3 (height first) (max (height second) (height rest)) h (within 3 (height second) (height rest) k r.0)), within 4 (1 + depth first) (max (1 + depth second) (depth rest)) (omega (arith, l)) (within 4 (1 + depth second) (depth rest) (omega (arith, n)) r.1))

block_small : (body rest : Code) → height body ≤ 3 → depth body ≤ 3 → Small rest → Small (Block body rest)
block_small body rest h k r = (within 3 (height body) (height rest) h r.0, within 4 (1 + depth body) (depth rest) (omega (arith, k)) r.1)

ref_small : (rest : Code) → Small rest → Small (ref rest)
ref_small rest h =
    set_small 3 (Copy (Long (pos 0))) (Set 4 (Copy (Long (pos 1))) (Block (Loop (one_digit (pos five_digits)) Stop) (ref_tests rest))) (omega arith)
    (set_small 4 (Copy (Long (pos 1))) (Block (Loop (one_digit (pos five_digits)) Stop) (ref_tests rest)) (omega arith)
    (block_small (Loop (one_digit (pos five_digits)) Stop) (ref_tests rest) (omega arith) (omega arith)
    (set_small 6 (Compare I64 LtU (Local 5) (Long (pos 64))) (If (Local 6) entry_tests code_tests rest) (omega arith)
    (if_small (Local 6) entry_tests code_tests rest (omega arith) (omega arith) (omega arith) (omega arith) h))))

code_small : (c : ℕ) (rest : Code) → Small rest → Small (is_code c rest)
code_small c rest h = set_small 6 (Compare I64 Ne (Local 3) (Long (pos (4096 + c)))) (unless rest) (omega arith) (unless_small rest h)

marked_small : (rest : Code) → Small rest → Small (is_marked rest)
marked_small rest h =
    let tested : Code = Set 6 (Compare I64 Ne (Local 5) (Long (pos 2))) (unless rest) in
    let loaded : Code = Set 5 (Load I64From8U (Local 9) 8) tested in
    let added : Code = Set 9 (Binary I32 Add (Local 9) (Local 2)) loaded in
    let wrapped : Code = Set 9 (Convert Wrap (Local 3)) added in
    set_small 6 (Compare I64 GeU (Local 3) (Long (pos 4096))) (unless wrapped) (omega arith)
    (unless_small wrapped
    (set_small 9 (Convert Wrap (Local 3)) added (omega arith)
    (set_small 9 (Binary I32 Add (Local 9) (Local 2)) loaded (omega arith)
    (set_small 5 (Load I64From8U (Local 9) 8) tested (omega arith)
    (set_small 6 (Compare I64 Ne (Local 5) (Long (pos 2))) (unless rest) (omega arith) (unless_small rest h))))))

refs_small : (ws : List Wired) (rest : Code) → Small rest → Small (refs_are ws rest)
refs_small [] rest h = h
refs_small (Number k ∷ ws) rest h = ref_small (is_code (plain_code (plain_number k)) (refs_are ws rest)) (code_small (plain_code (plain_number k)) (refs_are ws rest) (refs_small ws rest h))
refs_small (Truth ∷ ws) rest h = ref_small (is_code (plain_code plain.Bool) (refs_are ws rest)) (code_small (plain_code plain.Bool) (refs_are ws rest) (refs_small ws rest h))
refs_small (Nothing ∷ ws) rest h = ref_small (is_marked (refs_are ws rest)) (marked_small (refs_are ws rest) (refs_small ws rest h))

whole_small : (table first : ℕ) (ws : List Wired) → Small (read_arguments table first ws)
whole_small table first ws =
    let r = refs_small ws (take_values first ws) (values_small first ws) in
    let c : Small (behind_count first ws) = set_small 6 (Compare I64 Ne (Local 3) (Long (pos (length ws)))) (unless (refs_are ws (take_values first ws))) (omega arith) (unless_small (refs_are ws (take_values first ws)) r) in
    let large : Code = Set 6 (Compare I64 GeU (Local 3) (Long (pos 4294967296))) (unless (behind_count first ws)) in
    let loaded : Code = Set 8 (Load LoadI64 (Local 2) 0) (u32 (behind_count first ws)) in
    let u : Small (u32 (behind_count first ws)) =
    set_small 3 (Copy (Long (pos 0))) (Set 4 (Copy (Long (pos 1))) (Block (Loop (one_digit (pos five_digits)) Stop) (u32_tests (behind_count first ws)))) (omega arith)
    (set_small 4 (Copy (Long (pos 1))) (Block (Loop (one_digit (pos five_digits)) Stop) (u32_tests (behind_count first ws))) (omega arith)
    (block_small (Loop (one_digit (pos five_digits)) Stop) (u32_tests (behind_count first ws)) (omega arith) (omega arith)
    (set_small 6 (Compare I64 GeU (Local 5) (Long (pos 128))) (unless large) (omega arith) (unless_small large (set_small 6 (Compare I64 GeU (Local 3) (Long (pos 4294967296))) (unless (behind_count first ws)) (omega arith) (unless_small (behind_count first ws) c)))))) in
    let t : Small (behind_table first ws) = set_small 6 (IsZero I32 (Local 0)) (unless loaded) (omega arith) (unless_small loaded (set_small 8 (Load LoadI64 (Local 2) 0) (u32 (behind_count first ws)) (omega arith) u)) in
    (within 3 3 (max 1 (height (behind_table first ws))) (omega arith) (within 3 1 (height (behind_table first ws)) (omega arith) t.0), t.1)

frame : (table first : ℕ) (ws : List Wired) (signature : ℕ) → words arguments_type (arguments table first ws signature) ≤ 27
frame table first ws signature = let r = whole_small table first ws in omega (arith, r.0, r.1)

pub arguments_are_read : (World : Type 0) → ArgumentsAreRead World
arguments_are_read World pages m host f signature table first reads ws is readers = (
  frame table first ws signature,
  λ slots types of deep room less fits tables store at end to may.
      let own : ℕ = words arguments_type (arguments table first ws signature) in
      let inner : Calls World = enter deep pages m host (own + room - own) in
      let does : Contracts World = λ f store args q. ComesTo inner f store args q in
      let left : own + room - own ≡ room = omega arith in
      let same = read_is slots types ws (bytes_between store.memory at end) of in
      routine pages m host deep (own + room) f arguments_type (arguments table first ws signature) does store (at ∷ end ∷ to ∷ []) (AreRead store at end to ws (read slots types (bytes_between store.memory at end))) is.typed is.there (omega arith) (λ f store args q c. c)
      (arguments_are pages m does store at end to table first ws may (AreRead store at end to ws (read slots types (bytes_between store.memory at end)))
      (λ k store at to r may then. weaker inner (reads_kind first k) store (at ∷ end ∷ to ∷ []) (IsRead store end to (plain_at (plain_number k) (bytes_between store.memory at end))) r then (numbers_are_read World pages m host (reads_kind first k) reads k (readers.kinds k) deep (own + room - own) less (omega (arith, fits)) store at end to may))
      (λ store at to r may then. weaker inner (reads_truth first) store (at ∷ end ∷ to ∷ []) (IsRead store end to (plain_at plain.Bool (bytes_between store.memory at end))) r then (flags_are_read World pages m host (reads_truth first) reads readers.truths deep (own + room - own) less (omega (arith, fits)) store at end to may))
      (λ r then.
      weaker inner table store (at ∷ end ∷ to ∷ []) (TableIsRead store at end to (table_read (bytes_between store.memory at end))) r then
      (subst (λ room. ComesTo (enter deep pages m host room) table store (at ∷ end ∷ to ∷ []) (TableIsRead store at end to (table_read (bytes_between store.memory at end)))) (sym left)
      (tables store at end to (record { order = may.order; inside = may.inside; place = omega (arith, may.place); small = may.small; bytes = may.bytes }))))
      (λ e h. subst (λ o. AreRead store at end to ws o e) (sym same) h)),
)
