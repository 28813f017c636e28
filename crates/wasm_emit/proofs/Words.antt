-- The stack words of a frame are those that the low language charges.
use Rattle.std.proofs.Common.{◌≡◌, ◌<◌, ℕ, zero, suc, ◌+◌, ◌-◌, max, List, [], ◌∷◌, ◌++◌, length, map, Option, Some, None, slice_get, slice_index, refl, sym, ap, ◌∙◌, subst, arith, negsuc, ◌≤◌}
use Rattle.wasm_tree.specs.declared.types.ValueType.{ValueType}
use Rattle.wasm_tree.specs.declared.types.ValueType.TheVariants.{I32, I64}
use Rattle.wasm_tree.specs.declared.types.FunctionType.{FunctionType}
use Rattle.wasm_tree.specs.declared.op.Plain.TheVariants as plain
use Rattle.wasm_tree.specs.declared.module_parts.Module.{Module as WasmModule}
use Rattle.wasm_tree.specs.Code as wasm
use Rattle.wasm_tree.specs.Rules.{type_of as wasm_type_of, grouped, load_align, store_align}
use Rattle.wasm_tree.specs.Tree.{tree_of}
use Rattle.wasm_tree.specs.Frames.{peak, nesting, frame_words, params_count, results_count}
use Rattle.wasm_layout.proofs.Trees.{tree_is}
use Rattle.low_ir.specs.declared.op.Operand.{Operand}
use Rattle.low_ir.specs.declared.op.Operand.TheVariants.{Local, Word, Long}
use Rattle.low_ir.specs.declared.op.Operation.{Operation}
use Rattle.low_ir.specs.declared.op.Operation.TheVariants.{Copy, IsZero, Compare, Unary, Binary, Convert, Load, Global, Size}
use Rattle.low_ir.specs.Tree.{Code, Stop, Return, Branch, Trap, Set, SetGlobal, Store, Grow, GrowStable, Block, Loop, If, BranchIf, Call, CallIndirect, Function, Module}
use Rattle.low_ir.specs.Numbering.{type_of, all_types, stable_grow, host_trap}
use Rattle.low_ir.specs.Flat.{flat_function}
use Rattle.low_ir.specs.Frames.{operands_of, value_count, height, depth, words}
use Rattle.low_ir.specs.Formed.{IsFormed}
use Rattle.wasm_emit.specs.Emit.{emitted_function}
use Rattle.wasm_emit.specs.Trees.{push, push_all, compute, take_result, unless, emit}
use Rattle.low_ir.proofs.Numbers.{stable_grow_typed, host_trap_typed}
use Rattle.wasm_emit.proofs.Asked.{HasArity, has_arity}
use Rattle.wasm_emit.proofs.Flats.{flat_is}

-- The tree of an emitted body.
pub body_tree : (fn : Function) → tree_of (emitted_function (flat_function fn)).body ≡ emit fn.body
body_tree fn = ap tree_of (sym (flat_is fn.body)) ∙ tree_is (emit fn.body)

nesting_all : (args : List Operand) (k : wasm.Code) → nesting (push_all args k) ≡ nesting k
nesting_all [] k = refl
nesting_all (a ∷ args) k = nesting_all args k

nesting_compute : (o : Operation) (k : wasm.Code) → nesting (compute o k) ≡ nesting k
nesting_compute (Copy a) k = refl
nesting_compute (IsZero kind a) k = refl
nesting_compute (Compare kind o a b) k = refl
nesting_compute (Unary kind o a) k = refl
nesting_compute (Binary kind o a b) k = refl
nesting_compute (Convert o a) k = refl
nesting_compute (Load kind a offset) k = refl
nesting_compute (Global x) k = refl
nesting_compute Size k = refl

nesting_result : (result : Option ℕ) (k : wasm.Code) → nesting (take_result result k) ≡ nesting k
nesting_result None k = refl
nesting_result (Some x) k = refl

nesting_is : (c : Code) → nesting (emit c) ≡ depth c
nesting_is Stop = refl
nesting_is (Return None) = refl
nesting_is (Return (Some a)) = refl
nesting_is (Branch label) = refl
nesting_is (Trap a b) = refl
nesting_is (Set x o rest) = nesting_compute o (wasm.Then (plain.LocalSet x) (emit rest)) ∙ nesting_is rest
nesting_is (SetGlobal x a rest) = nesting_is rest
nesting_is (Store kind a offset b rest) = nesting_is rest
nesting_is (Grow a rest) = ap (λ n. max 1 n) (nesting_is rest)
nesting_is (GrowStable a rest) = ap (λ n. max 1 n) (nesting_is rest)
nesting_is (Block body rest) = let a = nesting_is body in let b = nesting_is rest in λ i. max (1 + a i) (b i)
nesting_is (Loop body rest) = let a = nesting_is body in let b = nesting_is rest in λ i. max (1 + a i) (b i)
nesting_is (If v first second rest) = let a = nesting_is first in let b = nesting_is second in let c = nesting_is rest in λ i. max (1 + a i) (max (1 + b i) (c i))
nesting_is (BranchIf v label rest) = nesting_is rest
nesting_is (Call result f args rest) = nesting_all args (wasm.Call f (take_result result (emit rest))) ∙ nesting_result result (emit rest) ∙ nesting_is rest
nesting_is (CallIndirect result x args v rest) = nesting_all args (push v (wasm.CallIndirect x (take_result result (emit rest)))) ∙ nesting_result result (emit rest) ∙ nesting_is rest

-- Each local is a group of its own.
pub one_each : (ks : List ValueType) → grouped (map (λ k. record { count = 1; kind = k }) ks) ≡ ks
one_each [] = refl
one_each (k ∷ ks) = ap (λ l. k ∷ l) (one_each ks)

-- A branch to a construct takes no operands.
abbrev zeros : ℕ → List ℕ
zeros zero = []
zeros (suc n) = 0 ∷ zeros n

zero_at : (n label : ℕ) (last : List ℕ) → label < n → slice_index (zeros n ++ last) label ≡ 0
zero_at zero label last h = absurd (omega arith)
zero_at (suc n) zero last h = refl
zero_at (suc n) (suc label) last h = zero_at n label last (omega arith)

module _ (w : WasmModule) (m : Module) (types : (f : ℕ) → wasm_type_of w f ≡ type_of m f) (same_types : w.types ≡ all_types m) where
  peak_push : (labels : List ℕ) (a : Operand) (k : wasm.Code) (h : ℕ) → peak w labels 0 h (push a k) ≡ max h (peak w labels 0 (h + 1) k)
  peak_push labels (Local x) k h = let z : 0 + h ≡ h = omega arith in let e : h - 0 + 1 ≡ h + 1 = omega arith in λ i. max (z i) (peak w labels 0 (e i) k)
  peak_push labels (Word x) k h = let z : 0 + h ≡ h = omega arith in let e : h - 0 + 1 ≡ h + 1 = omega arith in λ i. max (z i) (peak w labels 0 (e i) k)
  peak_push labels (Long x) k h = let z : 0 + h ≡ h = omega arith in let e : h - 0 + 1 ≡ h + 1 = omega arith in λ i. max (z i) (peak w labels 0 (e i) k)

  -- What follows has a peak of at least its first height.
  peak_all : (labels : List ℕ) (args : List Operand) (k : wasm.Code) (h n : ℕ) → peak w labels 0 (length args + h) k ≡ max (length args + h) n → peak w labels 0 h (push_all args k) ≡ max (length args + h) n
  peak_all labels [] k h n e = ap (λ x. peak w labels 0 x k) (omega arith) ∙ e
  peak_all labels (a ∷ args) k h n e =
      let same : length args + (h + 1) ≡ length (a ∷ args) + h = omega arith in
      let more : peak w labels 0 (h + 1) (push_all args k) ≡ max (length args + (h + 1)) n = peak_all labels args k (h + 1) n (ap (λ x. peak w labels 0 x k) same ∙ e ∙ ap (λ x. max x n) (sym same)) in
      peak_push labels a (push_all args k) h ∙ ap (λ x. max h x) more ∙ top h (length args) n
    where
      top : (h l n : ℕ) → max h (max (l + (h + 1)) n) ≡ max (suc l + h) n
      top h l n = omega arith

  one : (labels : List ℕ) (a : Operand) (p : wasm.Code) (n : ℕ) → peak w labels 0 1 p ≡ max 1 n → peak w labels 0 0 (push a p) ≡ max 1 n
  one labels a p n e = peak_push labels a p 0 ∙ ap (λ x. max 0 x) e ∙ top n
    where
      top : (n : ℕ) → max 0 (max 1 n) ≡ max 1 n
      top n = omega arith

  two : (labels : List ℕ) (a b : Operand) (p : wasm.Code) (n : ℕ) → peak w labels 0 2 p ≡ max 2 n → peak w labels 0 0 (push a (push b p)) ≡ max 2 n
  two labels a b p n e = peak_push labels a (push b p) 0 ∙ ap (λ x. max 0 x) (peak_push labels b p 1 ∙ ap (λ x. max 1 x) e) ∙ top n
    where
      top : (n : ℕ) → max 0 (max 1 (max 2 n)) ≡ max 2 n
      top n = omega arith

  zero_one : (n : ℕ) → max 0 (max 1 n) ≡ max 1 n
  zero_one n = omega arith

  up : (a b n x : ℕ) → x ≡ max b n → b ≤ a → max a x ≡ max a n
  up a b n x e h = omega arith

  peak_compute : (labels : List ℕ) (o : Operation) (k : wasm.Code) (n : ℕ) → peak w labels 0 1 k ≡ max 1 n → peak w labels 0 0 (compute o k) ≡ max (operands_of o) n
  peak_compute labels (Copy a) k n e = one labels a k n e
  peak_compute labels (IsZero kind a) k n e = one labels a (wasm.Then (plain.EqualsZero kind) k) n (up 1 1 n _ e (omega arith))
  peak_compute labels (Compare kind o a b) k n e = two labels a b (wasm.Then (plain.Compare kind o) k) n (up 2 1 n _ e (omega arith))
  peak_compute labels (Unary kind o a) k n e = one labels a (wasm.Then (plain.Unary kind o) k) n (up 1 1 n _ e (omega arith))
  peak_compute labels (Binary kind o a b) k n e = two labels a b (wasm.Then (plain.Binary kind o) k) n (up 2 1 n _ e (omega arith))
  peak_compute labels (Convert o a) k n e = one labels a (wasm.Then (plain.Convert o) k) n (up 1 1 n _ e (omega arith))
  peak_compute labels (Load kind a offset) k n e = one labels a (wasm.Then (plain.Load kind (record { align = load_align kind; offset = offset })) k) n (up 1 1 n _ e (omega arith))
  peak_compute labels (Global x) k n e = ap (λ x. max 0 x) e ∙ zero_one n
  peak_compute labels Size k n e = ap (λ x. max 0 x) e ∙ zero_one n

  peak_result : (labels : List ℕ) (result : Option ℕ) (k : wasm.Code) (n : ℕ) → n ≡ value_count result → peak w labels 0 n (take_result result k) ≡ max (value_count result) (peak w labels 0 0 k)
  peak_result labels None k n e = ap (λ x. peak w labels 0 x k) e ∙ zero_max (peak w labels 0 0 k)
    where
      zero_max : (n : ℕ) → n ≡ max 0 n
      zero_max n = omega arith
  peak_result labels (Some x) k n e = ap (λ n. max (0 + n) (peak w labels 0 (n - 1 + 0) k)) e

  called : (labels : List ℕ) (result : Option ℕ) (found : Option FunctionType) (l x n : ℕ) (k : wasm.Code) → HasArity found l result → x ≡ l → peak w labels 0 0 k ≡ n
      → peak w labels 0 (x - params_count found + results_count found) (take_result result k) ≡ max (value_count result) n
  called labels result found l x n k c same e =
      let rest : peak w labels 0 (length c.type.results) (take_result result k) ≡ max (value_count result) n = peak_result labels result k (length c.type.results) c.results ∙ ap (λ x. max (value_count result) x) e in
      subst (λ f. peak w labels 0 (x - params_count f + results_count f) (take_result result k) ≡ max (value_count result) n) (sym c.is)
      (ap (λ h. peak w labels 0 h (take_result result k)) (omega (arith, c.arity)) ∙ rest)

  -- What ends an execution after a refused growth has two operands at most.
  peak_unless : (labels : List ℕ) (k : wasm.Code) (n : ℕ) → peak w labels 0 0 k ≡ n → (kind : ValueType) → peak w labels 0 1 (unless kind (plain.I32Const (negsuc 0)) k) ≡ max 2 n
  peak_unless labels k n e kind = ap (λ n. max 1 (max 2 (max 1 (max 0 n)))) e ∙ top n
    where
      top : (n : ℕ) → max 1 (max 2 (max 1 (max 0 n))) ≡ max 2 n
      top n = omega arith

  peak_unless_long : (labels : List ℕ) (k : wasm.Code) (n : ℕ) → peak w labels 0 0 k ≡ n → (kind : ValueType) → peak w labels 0 1 (unless kind (plain.I64Const (negsuc 0)) k) ≡ max 2 n
  peak_unless_long labels k n e kind = ap (λ n. max 1 (max 2 (max 1 (max 0 n)))) e ∙ top n
    where
      top : (n : ℕ) → max 1 (max 2 (max 1 (max 0 n))) ≡ max 2 n
      top n = omega arith

  module _ (locals results : List ValueType) (last : List ℕ) where
    peak_is : (labels : ℕ) (owed : List ValueType) (c : Code) → IsFormed m locals results labels owed c → peak w (zeros labels ++ last) 0 0 (emit c) ≡ height c
    peak_is labels owed Stop is = refl
    peak_is labels owed (Return None) is = refl
    peak_is labels owed (Return (Some v)) is = one (zeros labels ++ last) v (wasm.Return wasm.Stop) 0 refl
    peak_is labels owed (Branch label) is = refl
    peak_is labels owed (Trap a b) is =
        two (zeros labels ++ last) a b (wasm.Call host_trap (wasm.Unreachable wasm.Stop)) 0
        (ap (λ t. max 2 (peak w (zeros labels ++ last) 0 (2 - params_count t + results_count t) (wasm.Unreachable wasm.Stop))) (types host_trap ∙ host_trap_typed m))
    peak_is labels owed (Set x o rest) is = peak_compute (zeros labels ++ last) o (wasm.Then (plain.LocalSet x) (emit rest)) (height rest) (ap (λ n. max 1 n) (peak_is labels owed rest is.3))
    peak_is labels owed (SetGlobal x v rest) is = one (zeros labels ++ last) v (wasm.Then (plain.GlobalSet x) (emit rest)) (height rest) (ap (λ n. max 1 n) (peak_is labels owed rest is.3))
    peak_is labels owed (Store kind v offset v' rest) is =
        two (zeros labels ++ last) v v' (wasm.Then (plain.Store kind (record { align = store_align kind; offset = offset })) (emit rest)) (height rest) (ap (λ n. max 2 n) (peak_is labels owed rest is.3))
    peak_is labels owed (Grow v rest) is =
        peak_push (zeros labels ++ last) v (wasm.Then plain.MemoryGrow (unless I32 (plain.I32Const (negsuc 0)) (emit rest))) 0
        ∙ ap (λ n. max 0 (max 1 n)) (peak_unless (zeros labels ++ last) (emit rest) (height rest) (peak_is labels owed rest is.1) I32) ∙ top (height rest)
      where
        top : (n : ℕ) → max 0 (max 1 (max 2 n)) ≡ max 2 n
        top n = omega arith
    peak_is labels owed (GrowStable v rest) is =
        peak_push (zeros labels ++ last) v (wasm.Call stable_grow (unless I64 (plain.I64Const (negsuc 0)) (emit rest))) 0
        ∙ ap (λ t. max 0 (max 1 (peak w (zeros labels ++ last) 0 (1 - params_count t + results_count t) (unless I64 (plain.I64Const (negsuc 0)) (emit rest))))) (types stable_grow ∙ stable_grow_typed m)
        ∙ ap (λ n. max 0 (max 1 n)) (peak_unless_long (zeros labels ++ last) (emit rest) (height rest) (peak_is labels owed rest is.1) I64) ∙ top (height rest)
      where
        top : (n : ℕ) → max 0 (max 1 (max 2 n)) ≡ max 2 n
        top n = omega arith
    peak_is labels owed (Block body rest) is = let h = peak_is (suc labels) [] body is.0 in let k = peak_is labels owed rest is.1 in λ i. max (h i) (k i)
    peak_is labels owed (Loop body rest) is = let h = peak_is (suc labels) [] body is.0 in let k = peak_is labels owed rest is.1 in λ i. max (h i) (k i)
    peak_is labels owed (If v first second rest) is =
        let h = peak_is (suc labels) [] first is.1 in let k = peak_is (suc labels) [] second is.2 in let l = peak_is labels owed rest is.3 in
        one (zeros labels ++ last) v (wasm.IfElse None (emit first) (emit second) (emit rest)) _ (λ i. max 1 (max (h i) (max (k i) (l i))))
    peak_is labels owed (BranchIf v label rest) is =
        one (zeros labels ++ last) v (wasm.BrIf label (emit rest)) (height rest)
        (ap (λ n. max 1 (peak w (zeros labels ++ last) 0 (1 - (1 + n) + n) (emit rest))) (zero_at labels label last is.1) ∙ ap (λ n. max 1 n) (peak_is labels owed rest is.2))
    peak_is labels owed (Call result f args rest) is =
        let l : length args + 0 ≡ length args = omega arith in
        let call : HasArity (wasm_type_of w f) (length args) result = subst (λ t. HasArity t (length args) result) (sym (types f)) (has_arity locals (type_of m f) args result is.0) in
        peak_all (zeros labels ++ last) args (wasm.Call f (take_result result (emit rest))) 0 _
        (ap (λ n. max (0 + (length args + 0)) n) (called (zeros labels ++ last) result (wasm_type_of w f) (length args) (length args + 0) (height rest) (emit rest) call l (peak_is labels owed rest is.1)) ∙ zero (length args + 0) _)
        ∙ ap (λ n. max n (max (value_count result) (height rest))) l
      where
        zero : (x y : ℕ) → max (0 + x) y ≡ max x y
        zero x y = omega arith
    peak_is labels owed (CallIndirect result x args v rest) is =
        let call : HasArity (slice_get w.types x) (length args) result = subst (λ ts. HasArity (slice_get ts x) (length args) result) (sym same_types) (has_arity locals (slice_get (all_types m) x) args result is.0) in
        let l : length args + 0 + 1 - 1 ≡ length args = omega arith in
        let after = called (zeros labels ++ last) result (slice_get w.types x) (length args) (length args + 0 + 1 - 1) (height rest) (emit rest) call l (peak_is labels owed rest is.2) in
        peak_all (zeros labels ++ last) args (push v (wasm.CallIndirect x (take_result result (emit rest)))) 0 (max (1 + length args) (max (value_count result) (height rest)))
        (peak_push (zeros labels ++ last) v (wasm.CallIndirect x (take_result result (emit rest))) (length args + 0) ∙ ap (λ n. max (length args + 0) (max (0 + (length args + 0 + 1)) n)) after ∙ top (length args) (max (value_count result) (height rest)))
        ∙ same (length args) (max (value_count result) (height rest))
      where
        top : (l n : ℕ) → max (l + 0) (max (0 + (l + 0 + 1)) n) ≡ max (l + 0) (max (1 + l) n)
        top l n = omega arith

        same : (l n : ℕ) → max (l + 0) (max (1 + l) n) ≡ max (1 + l) n
        same l n = omega arith

  -- The words of a frame.
  pub words_are : (locals results : List ValueType) (owed : List ValueType) (t : FunctionType) (fn : Function) → IsFormed m locals results 0 owed fn.body → frame_words w t (emitted_function (flat_function fn)) ≡ words t fn
  words_are locals results owed t fn is =
      let own = one_each fn.locals in
      let high = peak_is locals results (length t.results ∷ []) 0 owed fn.body is in
      let deep = nesting_is fn.body in
      ap (λ c. 8 + length t.params + length (grouped (map (λ k. record { count = 1; kind = k }) fn.locals)) + peak w (length t.results ∷ []) 0 0 c + nesting c) (body_tree fn)
      ∙ λ i. 8 + length t.params + length (own i) + high i + deep i
