-- The emitted list is the writing of the emitted tree.
use Rattle.std.proofs.Common.{◌≡◌, ℕ, List, [], ◌∷◌, ◌++◌, map, Option, Some, None, refl, sym, ap, ◌∙◌, append_assoc}
use Rattle.wasm_tree.specs.declared.op.Plain.TheVariants as plain
use Rattle.wasm_tree.specs.declared.op.Op.{Op}
use Rattle.wasm_tree.specs.declared.op.Op.TheVariants as op
use Rattle.wasm_tree.specs.Code.{flat}
use Rattle.wasm_tree.specs.Code as wasm
use Rattle.low_ir.specs.declared.op.Operand.{Operand}
use Rattle.low_ir.specs.declared.op.Operation.{Operation}
use Rattle.low_ir.specs.declared.op.Operation.TheVariants.{Copy, IsZero, Compare, Unary, Binary, Convert, Load, Global, Size}
use Rattle.low_ir.specs.declared.op.LowOp.{LowOp}
use Rattle.low_ir.specs.declared.op.LowOp.TheVariants as low
use Rattle.low_ir.specs.Tree.{Code, Stop, Return, Branch, Trap, Set, SetGlobal, Store, Grow, GrowStable, Block, Loop, If, BranchIf, Call, CallIndirect}
use Rattle.low_ir.specs.Flat.{flat as low_flat}
use Rattle.wasm_emit.specs.Emit.{operand_op, operation_ops, result_ops, ops_of, all_ops}
use Rattle.wasm_emit.specs.Trees.{push_all, compute, take_result, emit}

joined : (xs ys : List LowOp) → all_ops (xs ++ ys) ≡ all_ops xs ++ all_ops ys
joined [] ys = refl
joined (x ∷ xs) ys = ap (λ l. ops_of x ++ l) (joined xs ys) ∙ sym (append_assoc (ops_of x) (all_ops xs) (all_ops ys))

computed : (o : Operation) (k : wasm.Code) → flat (compute o k) ≡ operation_ops o ++ flat k
computed (Copy a) k = refl
computed (IsZero kind a) k = refl
computed (Compare kind o a b) k = refl
computed (Unary kind o a) k = refl
computed (Binary kind o a b) k = refl
computed (Convert o a) k = refl
computed (Load kind a offset) k = refl
computed (Global x) k = refl
computed Size k = refl

pushed : (args : List Operand) (k : wasm.Code) (rest : List LowOp) → flat k ≡ all_ops rest → flat (push_all args k) ≡ all_ops (map low.Argument args ++ rest)
pushed [] k rest e = e
pushed (a ∷ args) k rest e = ap (λ l. operand_op a ∷ l) (pushed args k rest e)

resulted : (result : Option ℕ) (k : wasm.Code) (rest : List Op) → flat k ≡ rest → flat (take_result result k) ≡ result_ops result ++ rest
resulted None k rest e = e
resulted (Some x) k rest e = ap (λ l. op.Plain (plain.LocalSet x) ∷ l) e

-- A body, the mark that closes it, and what follows.
closed : (c d : wasm.Code) (mark : Op) (closes : LowOp) (xs ys : List LowOp) → ops_of closes ≡ mark ∷ [] → flat c ≡ all_ops xs → flat d ≡ all_ops ys → flat c ++ mark ∷ flat d ≡ all_ops (xs ++ closes ∷ ys)
closed c d mark closes xs ys m e k = (λ i. e i ++ mark ∷ k i) ∙ ap (λ l. all_ops xs ++ (l ++ all_ops ys)) (sym m) ∙ sym (joined xs (closes ∷ ys))

pub flat_is : (c : Code) → flat (emit c) ≡ all_ops (low_flat c)
flat_is Stop = refl
flat_is (Return None) = refl
flat_is (Return (Some a)) = refl
flat_is (Branch label) = refl
flat_is (Trap a b) = refl
flat_is (Set x o rest) =
    computed o (wasm.Then (plain.LocalSet x) (emit rest)) ∙ ap (λ l. operation_ops o ++ op.Plain (plain.LocalSet x) ∷ l) (flat_is rest)
    ∙ sym (append_assoc (operation_ops o) (op.Plain (plain.LocalSet x) ∷ []) (all_ops (low_flat rest)))
flat_is (SetGlobal x a rest) = ap (λ l. ops_of (low.SetGlobal x a) ++ l) (flat_is rest)
flat_is (Store kind a offset b rest) = ap (λ l. ops_of (low.Store kind a offset b) ++ l) (flat_is rest)
flat_is (Grow a rest) = ap (λ l. ops_of (low.Grow a) ++ l) (flat_is rest)
flat_is (GrowStable a rest) = ap (λ l. ops_of (low.GrowStable a) ++ l) (flat_is rest)
flat_is (Block body rest) = ap (λ l. op.Block None ∷ l) (closed (emit body) (emit rest) op.End low.End (low_flat body) (low_flat rest) refl (flat_is body) (flat_is rest))
flat_is (Loop body rest) = ap (λ l. op.Loop None ∷ l) (closed (emit body) (emit rest) op.End low.End (low_flat body) (low_flat rest) refl (flat_is body) (flat_is rest))
flat_is (If a first second rest) =
    let tail : flat (emit second) ++ op.End ∷ flat (emit rest) ≡ all_ops (low_flat second ++ low.End ∷ low_flat rest) = closed (emit second) (emit rest) op.End low.End (low_flat second) (low_flat rest) refl (flat_is second) (flat_is rest) in
    (λ i. operand_op a ∷ op.If None ∷ (flat_is first i ++ op.Else ∷ tail i)) ∙ ap (λ l. operand_op a ∷ op.If None ∷ l) (sym (joined (low_flat first) (low.Else ∷ (low_flat second ++ low.End ∷ low_flat rest))))
flat_is (BranchIf a label rest) = ap (λ l. ops_of (low.BranchIf a label) ++ l) (flat_is rest)
flat_is (Call result f args rest) =
    pushed args (wasm.Call f (take_result result (emit rest))) (low.Call result f ∷ low_flat rest) (ap (λ l. op.Call f ∷ l) (resulted result (emit rest) (all_ops (low_flat rest)) (flat_is rest)))
flat_is (CallIndirect result x args a rest) =
    pushed args (wasm.Then _ (wasm.CallIndirect x (take_result result (emit rest)))) (low.CallIndirect result x a ∷ low_flat rest)
    (ap (λ l. operand_op a ∷ op.CallIndirect x ∷ l) (resulted result (emit rest) (all_ops (low_flat rest)) (flat_is rest)))
