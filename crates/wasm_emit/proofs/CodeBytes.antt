-- How many bytes spell the code of a function: at most 33 for each instruction of low code.
use Rattle.std.proofs.Common.{◌≡◌, ℕ, ◌+◌, ◌*◌, ◌<◌, ◌≤◌, ◌^◌, List, [], ◌∷◌, ◌++◌, length, map, Option, Some, None, refl, sym, ap, ◌∙◌, subst, arith, append_assoc, length-append, negsuc}
use Rattle.std.proofs.lemmas.List.{length-map}
use Rattle.std.proofs.lemmas.List.Sums.{sum_by-cons}
use Rattle.std.specs.List.{AllByRecursion, sum_by}
use Rattle.wasm_tree.specs.declared.types.ValueType.{ValueType}
use Rattle.wasm_tree.specs.declared.types.ValueType.TheVariants.{I32, I64}
use Rattle.wasm_tree.specs.declared.op.Comparison.TheVariants.{Eq}
use Rattle.wasm_tree.specs.declared.op.LoadKind.{LoadKind}
use Rattle.wasm_tree.specs.declared.op.LoadKind.TheVariants as load
use Rattle.wasm_tree.specs.declared.op.StoreKind.{StoreKind}
use Rattle.wasm_tree.specs.declared.op.StoreKind.TheVariants as store
use Rattle.wasm_tree.specs.Rules.{load_align, store_align}
use Rattle.wasm_tree.specs.declared.op.Plain.TheVariants as plain
use Rattle.wasm_tree.specs.declared.op.Op.{Op}
use Rattle.wasm_tree.specs.declared.op.Op.TheVariants as op
use Rattle.wasm_tree.specs.declared.module_parts.Locals.{Locals}
use Rattle.wasm_tree.specs.Bounded.{Within}
use Rattle.wasm_tree.specs.Spelling.{IsByte, IsU32, IsEach, Then}
use Rattle.wasm_tree.specs.Binary.{IsOp, IsExpression, IsCode, IsBlockType}
use Rattle.wasm_tree.proofs.Within.{within_raised, exactly_within, byte_within, u32_within, then_within, none_within, more_within, op_within, code_within}
use Rattle.low_ir.specs.declared.op.Operand.{Operand}
use Rattle.low_ir.specs.declared.op.Operand.TheVariants.{Local, Word, Long}
use Rattle.low_ir.specs.declared.op.Operation.{Operation}
use Rattle.low_ir.specs.declared.op.Operation.TheVariants.{Copy, IsZero, Compare, Unary, Binary, Convert, Load, Global, Size}
use Rattle.low_ir.specs.declared.op.LowOp.{LowOp}
use Rattle.low_ir.specs.declared.op.LowOp.TheVariants as low
use Rattle.low_ir.specs.Tree.{Function}
use Rattle.low_ir.specs.Numbering.{stable_grow, host_trap}
use Rattle.low_ir.specs.Flat.{flat, flat_function}
use Rattle.low_ir.specs.Formed.{function_bytes}
use Rattle.wasm_emit.specs.Emit.{operand_op, operation_ops, result_ops, refusal_ops, ops_of, all_ops, emitted_function}
use Rattle.wasm_emit.specs.Trees.{emit}
use Rattle.wasm_emit.proofs.Flats.{flat_is}
use Rattle.wasm_emit.proofs.Smallness.{IsSmallOperand, IsSmallOperation, IsSmallResult, IsSmallOp}

-- Two lists in a row.
joined : {X : Type 0} (P : X → List ℕ → Type 0) (xs ys : List X) (a b : List ℕ) → IsEach P xs a → IsEach P ys b → IsEach P (xs ++ ys) (a ++ b)
joined P [] ys a b p q = subst (λ a. IsEach P ys (a ++ b)) (sym p) q
joined P (x ∷ xs) ys a b p q = record { front = p.front; back = p.back ++ b; whole = ap (λ l. l ++ b) p.whole ∙ append_assoc p.front p.back b; first = p.first; second = joined P xs ys p.back b p.second q }

pub both_within : {X : Type 0} (P : X → List ℕ → Type 0) (xs ys : List X) (m n : ℕ) → Within (IsEach P xs) m → Within (IsEach P ys) n → Within (IsEach P (xs ++ ys)) (m + n)
both_within P xs ys m n p q = record { bytes = p.bytes ++ q.bytes; spells = joined P xs ys p.bytes q.bytes p.spells q.spells; short = omega (arith, length-append p.bytes q.bytes, p.short, q.short) }

-- Instructions.

abbrev Ops : List Op → ℕ → Type 0
Ops ops bound = Within (IsEach IsOp ops) bound

first_op : (o : Op) (ops : List Op) (m n bound : ℕ) → m + n ≤ bound → Within (IsOp o) m → Ops ops n → Ops (o ∷ ops) bound
first_op o ops m n bound h p q = within_raised (IsEach IsOp (o ∷ ops)) (m + n) bound h (more_within IsOp o ops m n p q)

no_ops : (bound : ℕ) → Ops [] bound
no_ops bound = within_raised (IsEach IsOp []) 0 bound (omega arith) (none_within IsOp)

operand_within : (a : Operand) → IsSmallOperand a → Within (IsOp (operand_op a)) 11
operand_within (Local x) small = op_within (op.Plain (plain.LocalGet x)) small
operand_within (Word z) small = op_within (op.Plain (plain.I32Const z)) small
operand_within (Long z) small = op_within (op.Plain (plain.I64Const z)) small

indexed : (code index : ℕ) → index < 2 ^ 32 → Within (Then (IsByte code) (IsU32 index)) 6
indexed code index small = then_within (IsByte code) (IsU32 index) 1 5 (byte_within code) (u32_within index small)

local_within : (x : ℕ) → x < 2 ^ 32 → Within (IsOp (op.Plain (plain.LocalSet x))) 6
local_within x small = indexed 0x21 x small

call_within : (f : ℕ) → f < 2 ^ 32 → Within (IsOp (op.Call f)) 6
call_within f small = indexed 0x10 f small

one_operand : (a : Operand) (o : Op) (n bound : ℕ) → 11 + n ≤ bound → IsSmallOperand a → Within (IsOp o) n → Ops (operand_op a ∷ o ∷ []) bound
one_operand a o n bound h small p = first_op (operand_op a) (o ∷ []) 11 n bound h (operand_within a small) (first_op o [] n 0 n (omega arith) p (no_ops 0))

two_operands : (a b : Operand) (o : Op) → IsSmallOperand a → IsSmallOperand b → Within (IsOp o) 1 → Ops (operand_op a ∷ operand_op b ∷ o ∷ []) 27
two_operands a b o small small' p =
    first_op (operand_op a) (operand_op b ∷ o ∷ []) 11 16 27 (omega arith) (operand_within a small) (first_op (operand_op b) (o ∷ []) 11 1 16 (omega arith) (operand_within b small') (first_op o [] 1 0 1 (omega arith) p (no_ops 0)))

raised : (ops : List Op) (m n : ℕ) → m ≤ n → Ops ops m → Ops ops n
raised ops m n h p = within_raised (IsEach IsOp ops) m n h p

load_small : (kind : LoadKind) → load_align kind < 2 ^ 32
load_small load.I32 = omega arith
load_small load.I64 = omega arith
load_small load.I32From8S = omega arith
load_small load.I32From8U = omega arith
load_small load.I32From16S = omega arith
load_small load.I32From16U = omega arith
load_small load.I64From8S = omega arith
load_small load.I64From8U = omega arith
load_small load.I64From16S = omega arith
load_small load.I64From16U = omega arith
load_small load.I64From32S = omega arith
load_small load.I64From32U = omega arith

store_small : (kind : StoreKind) → store_align kind < 2 ^ 32
store_small store.I32 = omega arith
store_small store.I64 = omega arith
store_small store.I32To8 = omega arith
store_small store.I32To16 = omega arith
store_small store.I64To8 = omega arith
store_small store.I64To16 = omega arith
store_small store.I64To32 = omega arith

operation_within : (o : Operation) → IsSmallOperation o → Ops (operation_ops o) 27
operation_within (Copy a) small = first_op (operand_op a) [] 11 0 27 (omega arith) (operand_within a small) (no_ops 0)
operation_within (IsZero kind a) small = one_operand a (op.Plain (plain.EqualsZero kind)) 11 27 (omega arith) small (op_within (op.Plain (plain.EqualsZero kind)) tt)
operation_within (Compare kind o a b) small = two_operands a b (op.Plain (plain.Compare kind o)) small.0 small.1 (byte_within _)
operation_within (Unary kind o a) small = one_operand a (op.Plain (plain.Unary kind o)) 11 27 (omega arith) small (op_within (op.Plain (plain.Unary kind o)) tt)
operation_within (Binary kind o a b) small = two_operands a b (op.Plain (plain.Binary kind o)) small.0 small.1 (byte_within _)
operation_within (Convert o a) small = one_operand a (op.Plain (plain.Convert o)) 11 27 (omega arith) small (op_within (op.Plain (plain.Convert o)) tt)
operation_within (Load kind a offset) small = one_operand a (op.Plain (plain.Load kind (record { align = load_align kind; offset = offset }))) 11 27 (omega arith) small.0 (op_within (op.Plain (plain.Load kind (record { align = load_align kind; offset = offset }))) (load_small kind, small.1))
operation_within (Global x) small = first_op (op.Plain (plain.GlobalGet x)) [] 11 0 27 (omega arith) (op_within (op.Plain (plain.GlobalGet x)) small) (no_ops 0)
operation_within Size small = first_op (op.Plain plain.MemorySize) [] 11 0 27 (omega arith) (op_within (op.Plain plain.MemorySize) tt) (no_ops 0)

result_within : (result : Option ℕ) → IsSmallResult result → Ops (result_ops result) 6
result_within None small = no_ops 6
result_within (Some x) small = first_op (op.Plain (plain.LocalSet x)) [] 6 0 6 (omega arith) (local_within x small) (no_ops 0)

if_within : Within (IsOp (op.If None)) 2
if_within = then_within (IsByte 0x04) (IsBlockType None) 1 1 (byte_within 0x04) (byte_within 0x40)

-- What ends an execution after a refused growth, besides the constant.
ended : (kind : ValueType) → Ops (op.Plain (plain.Compare kind Eq) ∷ op.If None ∷ op.Unreachable ∷ op.End ∷ []) 5
ended kind =
    first_op (op.Plain (plain.Compare kind Eq)) (op.If None ∷ op.Unreachable ∷ op.End ∷ []) 1 4 5 (omega arith) (byte_within _)
    (first_op (op.If None) (op.Unreachable ∷ op.End ∷ []) 2 2 4 (omega arith) if_within (first_op op.Unreachable (op.End ∷ []) 1 1 2 (omega arith) (byte_within 0x00) (first_op op.End [] 1 0 1 (omega arith) (byte_within 0x0b) (no_ops 0))))

growing : Within (IsOp (op.Plain plain.MemoryGrow)) 6
growing = within_raised (IsOp (op.Plain plain.MemoryGrow)) 2 6 (omega arith) (exactly_within (0x40 ∷ 0x00 ∷ []))

-- An instruction of low code takes at most 33 bytes.
ops_within : (o : LowOp) → IsSmallOp o → Ops (ops_of o) 33
ops_within (low.Set x o) small =
    both_within IsOp (operation_ops o) (op.Plain (plain.LocalSet x) ∷ []) 27 6 (operation_within o small.1) (first_op (op.Plain (plain.LocalSet x)) [] 6 0 6 (omega arith) (local_within x small.0) (no_ops 0))
ops_within (low.SetGlobal x a) small = one_operand a (op.Plain (plain.GlobalSet x)) 11 33 (omega arith) small.1 (op_within (op.Plain (plain.GlobalSet x)) small.0)
ops_within (low.Store kind a offset b) small =
    let o : Op = op.Plain (plain.Store kind (record { align = store_align kind; offset = offset })) in
    first_op (operand_op a) (operand_op b ∷ o ∷ []) 11 22 33 (omega arith) (operand_within a small.0) (one_operand b o 11 22 (omega arith) small.2 (op_within o (store_small kind, small.1)))
ops_within (low.Grow a) small =
    first_op (operand_op a) (op.Plain plain.MemoryGrow ∷ refusal_ops I32 (plain.I32Const (negsuc 0))) 11 22 33 (omega arith) (operand_within a small)
    (first_op (op.Plain plain.MemoryGrow) (refusal_ops I32 (plain.I32Const (negsuc 0))) 6 16 22 (omega arith) (growing)
    (first_op (op.Plain (plain.I32Const (negsuc 0))) (op.Plain (plain.Compare I32 Eq) ∷ op.If None ∷ op.Unreachable ∷ op.End ∷ []) 11 5 16 (omega arith) (op_within (op.Plain (plain.I32Const (negsuc 0))) (record { sfits = omega arith })) (ended I32)))
ops_within (low.GrowStable a) small =
    first_op (operand_op a) (op.Call stable_grow ∷ refusal_ops I64 (plain.I64Const (negsuc 0))) 11 22 33 (omega arith) (operand_within a small)
    (first_op (op.Call stable_grow) (refusal_ops I64 (plain.I64Const (negsuc 0))) 6 16 22 (omega arith) (call_within stable_grow (omega arith))
    (first_op (op.Plain (plain.I64Const (negsuc 0))) (op.Plain (plain.Compare I64 Eq) ∷ op.If None ∷ op.Unreachable ∷ op.End ∷ []) 11 5 16 (omega arith) (op_within (op.Plain (plain.I64Const (negsuc 0))) (record { sfits = omega arith })) (ended I64)))
ops_within (low.Trap a b) small =
    first_op (operand_op a) (operand_op b ∷ op.Call host_trap ∷ op.Unreachable ∷ []) 11 18 33 (omega arith) (operand_within a small.0)
    (first_op (operand_op b) (op.Call host_trap ∷ op.Unreachable ∷ []) 11 7 18 (omega arith) (operand_within b small.1)
    (first_op (op.Call host_trap) (op.Unreachable ∷ []) 6 1 7 (omega arith) (call_within host_trap (omega arith)) (first_op op.Unreachable [] 1 0 1 (omega arith) (byte_within 0x00) (no_ops 0))))
ops_within low.Block small = first_op (op.Block None) [] 11 0 33 (omega arith) (op_within (op.Block None) tt) (no_ops 0)
ops_within low.Loop small = first_op (op.Loop None) [] 11 0 33 (omega arith) (op_within (op.Loop None) tt) (no_ops 0)
ops_within (low.If a) small = one_operand a (op.If None) 2 33 (omega arith) small if_within
ops_within low.Else small = first_op op.Else [] 11 0 33 (omega arith) (op_within op.Else tt) (no_ops 0)
ops_within low.End small = first_op op.End [] 11 0 33 (omega arith) (op_within op.End tt) (no_ops 0)
ops_within (low.Branch label) small = first_op (op.Br label) [] 11 0 33 (omega arith) (op_within (op.Br label) small) (no_ops 0)
ops_within (low.BranchIf a label) small = one_operand a (op.BrIf label) 11 33 (omega arith) small.0 (op_within (op.BrIf label) small.1)
ops_within (low.Argument a) small = first_op (operand_op a) [] 11 0 33 (omega arith) (operand_within a small) (no_ops 0)
ops_within (low.Call result f) small = first_op (op.Call f) (result_ops result) 6 6 33 (omega arith) (call_within f small.1) (result_within result small.0)
ops_within (low.CallIndirect result x a) small =
    first_op (operand_op a) (op.CallIndirect x ∷ result_ops result) 11 17 33 (omega arith) (operand_within a small.2)
    (first_op (op.CallIndirect x) (result_ops result) 11 6 17 (omega arith) (op_within (op.CallIndirect x) small.1) (result_within result small.0))
ops_within (low.Return None) small = first_op op.Return [] 11 0 33 (omega arith) (op_within op.Return tt) (no_ops 0)
ops_within (low.Return (Some a)) small = one_operand a op.Return 11 33 (omega arith) small (op_within op.Return tt)

all_within : (os : List LowOp) → AllByRecursion IsSmallOp os → Ops (all_ops os) (33 * length os)
all_within [] small = no_ops (33 * 0)
all_within (o ∷ os) small = raised (all_ops (o ∷ os)) (33 + 33 * length os) (33 * length (o ∷ os)) (omega arith) (both_within IsOp (ops_of o) (all_ops os) 33 (33 * length os) (ops_within o small.0) (all_within os small.1))

-- Functions.

body_within : (fn : Function) → AllByRecursion IsSmallOp (flat fn.body) → Within (IsExpression (all_ops (flat fn.body))) (33 * length (flat fn.body) + 1)
body_within fn small =
    let w : Within (Then (IsEach IsOp (all_ops (flat fn.body))) (IsByte 0x0b)) (33 * length (flat fn.body) + 1) =
    then_within (IsEach IsOp (all_ops (flat fn.body))) (IsByte 0x0b) (33 * length (flat fn.body)) 1 (all_within (flat fn.body) small) (byte_within 0x0b) in
    record { bytes = w.bytes; spells = record { tree = emit fn.body; nested = sym (flat_is fn.body); spells = w.spells }; short = w.short }

abbrev one_local : ValueType → Locals
one_local kind = record { count = 1; kind = kind }

each_one : (kinds : List ValueType) → AllByRecursion (λ (l : Locals). l.count < 2 ^ 32) (map one_local kinds)
each_one [] = tt
each_one (k ∷ ks) = (omega arith, each_one ks)

counted : (kinds : List ValueType) → sum_by (λ (l : Locals). l.count) (map one_local kinds) ≡ length kinds
counted [] = refl
counted (k ∷ ks) = sum_by-cons (λ (l : Locals). l.count) (one_local k) (map one_local ks) ∙ (let rest = counted ks in omega (arith, rest))

pub one_code : (fn : Function) → AllByRecursion IsSmallOp (flat fn.body) → function_bytes fn ≤ 67108864 → Within (IsCode (emitted_function (flat_function fn))) (function_bytes fn)
one_code fn small h =
    let same : length (map one_local fn.locals) ≡ length fn.locals = length-map fn.locals one_local in
    within_raised (IsCode (emitted_function (flat_function fn))) (10 + (6 * length (map one_local fn.locals) + (33 * length (flat fn.body) + 1))) (function_bytes fn) (omega (arith, same))
    (code_within (emitted_function (flat_function fn)) (33 * length (flat fn.body) + 1) (omega (arith, same, h)) (each_one fn.locals) (omega (arith, counted fn.locals, h)) (body_within fn small) (omega (arith, same, h)))
