-- What formed code becomes is typed.
use Rattle.std.proofs.Common.{◌≡◌, ℕ, zero, suc, ◌<◌, List, [], ◌∷◌, ◌++◌, map, reverse, true, Option, Some, None, slice_get, refl, sym, ap, ◌∙◌, subst, arith, append_assoc, negsuc}
use Rattle.std.proofs.lemmas.List.{append-nil}
use Rattle.std.specs.List.{AllZip}
use Rattle.wasm_tree.specs.declared.types.ValueType.{ValueType}
use Rattle.wasm_tree.specs.declared.types.ValueType.TheVariants.{I32, I64}
use Rattle.wasm_tree.specs.declared.op.Conversion.TheVariants.{Wrap, ExtendS, ExtendU}
use Rattle.wasm_tree.specs.declared.op.Plain.{Plain}
use Rattle.wasm_tree.specs.declared.op.Plain.TheVariants as plain
use Rattle.wasm_tree.specs.Code as wasm
use Rattle.wasm_tree.specs.Imports.{bytes_type}
use Rattle.wasm_tree.specs.Rules.{every, Context, Takes, load_align, store_align, load_type, store_type}
use Rattle.wasm_tree.specs.Typing.{IsPlainTyped, IsTyped}
use Rattle.wasm_tree.proofs.Asked.{found, takes}
use Rattle.low_ir.specs.declared.op.Operand.{Operand}
use Rattle.low_ir.specs.declared.op.Operand.TheVariants.{Local, Word, Long}
use Rattle.low_ir.specs.declared.op.Operation.{Operation}
use Rattle.low_ir.specs.declared.op.Operation.TheVariants.{Copy, IsZero, Compare, Unary, Binary, Convert, Load, Global, Size}
use Rattle.low_ir.specs.declared.module_parts.LowGlobal.{LowGlobal}
use Rattle.low_ir.specs.Tree.{Code, Stop, Return, Branch, Trap, Set, SetGlobal, Store, Grow, GrowStable, Block, Loop, If, BranchIf, Call, CallIndirect, Module}
use Rattle.low_ir.specs.Numbering.{stable_grow, host_trap, kind_of}
use Rattle.low_ir.specs.Formed.{OperandIs, OperationIs, ResultIs, IsFormed}
use Rattle.wasm_emit.specs.Emit.{emitted_global}
use Rattle.wasm_emit.specs.Trees.{push, push_all, compute, take_result, unless, emit}
use Rattle.low_ir.proofs.Numbers.{stable_grow_type, stable_grow_typed, host_trap_typed}
use Rattle.wasm_emit.proofs.Calls.{to_wasm, types_are}

-- A branch to a construct takes no operands.
abbrev pub blanks : ℕ → List (List ValueType)
blanks zero = []
blanks (suc n) = [] ∷ blanks n

blank_at : (n label : ℕ) (last : List (List ValueType)) → label < n → slice_get (blanks n ++ last) label ≡ Some []
blank_at zero label last h = absurd (omega arith)
blank_at (suc n) zero last h = refl
blank_at (suc n) (suc label) last h = blank_at n label last (omega arith)

-- Kinds in the order of operands, the topmost first.
abbrev onto : List ValueType → List ValueType → List ValueType
onto [] before = before
onto (k ∷ kinds) before = onto kinds (k ∷ before)

onto_more : (kinds a b : List ValueType) → onto kinds (a ++ b) ≡ onto kinds a ++ b
onto_more [] a b = refl
onto_more (k ∷ kinds) a b = onto_more kinds (k ∷ a) b

onto_is : (kinds before : List ValueType) → onto kinds before ≡ reverse kinds ++ before
onto_is kinds before = onto_more kinds [] before

own_globals : (gs : List LowGlobal) (x : ℕ) (kind : ValueType) → slice_get (map kind_of gs) x ≡ Some kind → slice_get (map (λ g. g.kind) (map emitted_global gs)) x ≡ Some (record { mutable = true; kind = kind })
own_globals [] x kind e = absurd (cc)
own_globals (g ∷ gs) zero kind e = let same : kind_of g ≡ kind = cc in ap (λ k. Some (record { mutable = true; kind = k })) same
own_globals (g ∷ gs) (suc x) kind e = own_globals gs x kind e

module _ (m : Module) (locals results : List ValueType) where
  abbrev context : ℕ → Context
  context labels = record { within = to_wasm m; locals = locals; labels = blanks labels ++ reverse results ∷ []; results = reverse results }

  abbrev Types : ℕ → List ValueType → wasm.Code → List ValueType → Type 0
  Types labels before c after = IsTyped every (context labels) before c after

  pushes : (labels : ℕ) (a : Operand) (kind : ValueType) (before after : List ValueType) (k : wasm.Code) → OperandIs locals a kind → Types labels (kind ∷ before) k after → Types labels before (push a k) after
  pushes labels (Local x) kind before after k is t = (kind ∷ before, (kind, found is, takes [] (kind ∷ []) before), t)
  pushes labels (Word z) kind before after k is t = (I32 ∷ before, takes [] (I32 ∷ []) before, subst (λ x. Types labels (x ∷ before) k after) is.0 t)
  pushes labels (Long z) kind before after k is t = (I64 ∷ before, takes [] (I64 ∷ []) before, subst (λ x. Types labels (x ∷ before) k after) is.0 t)

  pushes_all : (labels : ℕ) (args : List Operand) (kinds before after : List ValueType) (k : wasm.Code) → AllZip (OperandIs locals) args kinds → Types labels (onto kinds before) k after → Types labels before (push_all args k) after
  pushes_all labels [] [] before after k is t = t
  pushes_all labels [] (kind ∷ kinds) before after k is t = absurd is
  pushes_all labels (a ∷ args) [] before after k is t = absurd is
  pushes_all labels (a ∷ args) (kind ∷ kinds) before after k is t = pushes labels a kind before after (push_all args k) is.0 (pushes_all labels args kinds (kind ∷ before) after k is.1 t)

  as_kind : (labels : ℕ) (of kind : ValueType) (after : List ValueType) (k : wasm.Code) → kind ≡ of → Types labels (kind ∷ []) k after → Types labels (of ∷ []) k after
  as_kind labels of kind after k e t = subst (λ x. Types labels (x ∷ []) k after) e t

  computes : (labels : ℕ) (o : Operation) (kind : ValueType) (after : List ValueType) (k : wasm.Code) → OperationIs m locals o kind → Types labels (kind ∷ []) k after → Types labels [] (compute o k) after
  computes labels (Copy a) kind after k is t = pushes labels a kind [] after k is t
  computes labels (IsZero of a) kind after k is t = pushes labels a of [] after (wasm.Then (plain.EqualsZero of) k) is.0 (I32 ∷ [], takes (of ∷ []) (I32 ∷ []) [], as_kind labels I32 kind after k is.1 t)
  computes labels (Compare of o a b) kind after k is t =
      pushes labels a of [] after (push b (wasm.Then (plain.Compare of o) k)) is.0 (pushes labels b of (of ∷ []) after (wasm.Then (plain.Compare of o) k) is.1 (I32 ∷ [], takes (of ∷ of ∷ []) (I32 ∷ []) [], as_kind labels I32 kind after k is.2 t))
  computes labels (Unary of o a) kind after k is t = pushes labels a of [] after (wasm.Then (plain.Unary of o) k) is.0 (of ∷ [], takes (of ∷ []) (of ∷ []) [], as_kind labels of kind after k is.1 t)
  computes labels (Binary of o a b) kind after k is t =
      pushes labels a of [] after (push b (wasm.Then (plain.Binary of o) k)) is.0 (pushes labels b of (of ∷ []) after (wasm.Then (plain.Binary of o) k) is.1 (of ∷ [], takes (of ∷ of ∷ []) (of ∷ []) [], as_kind labels of kind after k is.2 t))
  computes labels (Convert Wrap a) kind after k is t = pushes labels a I64 [] after (wasm.Then (plain.Convert Wrap) k) is.0 (I32 ∷ [], takes (I64 ∷ []) (I32 ∷ []) [], as_kind labels I32 kind after k is.1 t)
  computes labels (Convert ExtendS a) kind after k is t = pushes labels a I32 [] after (wasm.Then (plain.Convert ExtendS) k) is.0 (I64 ∷ [], takes (I32 ∷ []) (I64 ∷ []) [], as_kind labels I64 kind after k is.1 t)
  computes labels (Convert ExtendU a) kind after k is t = pushes labels a I32 [] after (wasm.Then (plain.Convert ExtendU) k) is.0 (I64 ∷ [], takes (I32 ∷ []) (I64 ∷ []) [], as_kind labels I64 kind after k is.1 t)
  computes labels (Load of a offset) kind after k is t =
      pushes labels a I32 [] after (wasm.Then (plain.Load of (record { align = load_align of; offset = offset })) k) is.0
      (load_type of ∷ [], (λ u. omega arith, λ u. omega arith, takes (I32 ∷ []) (load_type of ∷ []) []), as_kind labels (load_type of) kind after k is.2 t)
  computes labels (Global x) kind after k is t = (kind ∷ [], (record { mutable = true; kind = kind }, found (own_globals m.globals x kind is), takes [] (kind ∷ []) []), t)
  computes labels Size kind after k is t = (I32 ∷ [], (λ u. omega arith, takes [] (I32 ∷ []) []), as_kind labels I32 kind after k is t)

  results_taken : (labels : ℕ) (result : Option ℕ) (kinds after : List ValueType) (k : wasm.Code) → ResultIs locals result kinds → Types labels [] k after → Types labels (reverse kinds) (take_result result k) after
  results_taken labels None kinds after k is t = subst (λ x. Types labels (reverse x) k after) (sym is) t
  results_taken labels (Some x) kinds after k is t = subst (λ r. Types labels (reverse r) (wasm.Then (plain.LocalSet x) k) after) (sym is.1) ([], (is.0, found is.2, takes (is.0 ∷ []) [] []), t)

  -- What a call takes and gives, where other operands are first.
  taken : (first params gives : List ValueType) → Takes every (first ++ reverse params) (reverse gives) (first ++ onto params []) (reverse gives)
  taken first params gives =
      let e : first ++ (reverse params ++ []) ≡ first ++ onto params [] = ap (λ l. first ++ l) (sym (onto_is params [])) in
      let f : (first ++ reverse params) ++ [] ≡ first ++ onto params [] = append_assoc first (reverse params) [] ∙ e in
      let t : Takes every (first ++ reverse params) (reverse gives) (first ++ onto params []) (reverse gives ++ []) = subst (λ l. Takes every (first ++ reverse params) (reverse gives) l (reverse gives ++ [])) f (takes (first ++ reverse params) (reverse gives) []) in
      subst (λ l. Takes every (first ++ reverse params) (reverse gives) (first ++ onto params []) l) (append-nil (reverse gives)) t

  -- What ends an execution after a refused growth.
  refusal : (labels : ℕ) (owed : List ValueType) (of : ValueType) (p : Plain) (k : wasm.Code) → IsPlainTyped every (context labels) p (of ∷ []) (of ∷ of ∷ []) → Types labels [] k owed → Types labels (of ∷ []) (unless of p k) owed
  refusal labels owed of p k is t = (of ∷ of ∷ [], is, (I32 ∷ [], takes (of ∷ of ∷ []) (I32 ∷ []) [], ([], takes (I32 ∷ []) [] [], λ u. refl, ([], λ u. refl), t)))

  pub typed : (labels : ℕ) (owed : List ValueType) (c : Code) → IsFormed m locals results labels owed c → Types labels [] (emit c) owed
  typed labels owed Stop is = λ u. is
  typed labels owed (Return None) is = (λ u. record { rest = []; split = ap reverse (sym is) ∙ sym (append-nil _) }, owed, λ u. refl)
  typed labels owed (Return (Some a)) is =
      pushes labels a is.0 [] owed (wasm.Return wasm.Stop) is.1 (λ u. record { rest = []; split = ap reverse (sym is.2) ∙ sym (append-nil _) }, owed, λ u. refl)
  typed labels owed (Branch label) is = ([], found (blank_at labels label _ is), λ u. record { rest = []; split = refl }, owed, λ u. refl)
  typed labels owed (Trap a b) is =
      let code : wasm.Code = wasm.Call host_trap (wasm.Unreachable wasm.Stop) in
      pushes labels a I32 [] owed (push b code) is.0 (pushes labels b I32 (I32 ∷ []) owed code is.1 (bytes_type, found (types_are m host_trap ∙ host_trap_typed m), [], takes (I32 ∷ I32 ∷ []) [] [], (owed, λ u. refl)))
  typed labels owed (Set x o rest) is = computes labels o is.0 owed (wasm.Then (plain.LocalSet x) (emit rest)) is.2 ([], (is.0, found is.1, takes (is.0 ∷ []) [] []), typed labels owed rest is.3)
  typed labels owed (SetGlobal x a rest) is =
      pushes labels a is.0 [] owed (wasm.Then (plain.GlobalSet x) (emit rest)) is.2 ([], (record { mutable = true; kind = is.0 }, found (own_globals m.globals x is.0 is.1), λ u. refl, takes (is.0 ∷ []) [] []), typed labels owed rest is.3)
  typed labels owed (Store kind a offset b rest) is =
      let code : wasm.Code = wasm.Then (plain.Store kind (record { align = store_align kind; offset = offset })) (emit rest) in
      pushes labels a I32 [] owed (push b code) is.0 (pushes labels b (store_type kind) (I32 ∷ []) owed code is.2 ([], (λ u. omega arith, λ u. omega arith, takes (store_type kind ∷ I32 ∷ []) [] []), typed labels owed rest is.3))
  typed labels owed (Grow a rest) is =
      let tail : Types labels (I32 ∷ []) (unless I32 (plain.I32Const (negsuc 0)) (emit rest)) owed = refusal labels owed I32 (plain.I32Const (negsuc 0)) (emit rest) (takes [] (I32 ∷ []) (I32 ∷ [])) (typed labels owed rest is.1) in
      pushes labels a I32 [] owed (wasm.Then plain.MemoryGrow (unless I32 (plain.I32Const (negsuc 0)) (emit rest))) is.0 (I32 ∷ [], (λ u. omega arith, takes (I32 ∷ []) (I32 ∷ []) []), tail)
  typed labels owed (GrowStable a rest) is =
      let tail : Types labels (I64 ∷ []) (unless I64 (plain.I64Const (negsuc 0)) (emit rest)) owed = refusal labels owed I64 (plain.I64Const (negsuc 0)) (emit rest) (takes [] (I64 ∷ []) (I64 ∷ [])) (typed labels owed rest is.1) in
      pushes labels a I64 [] owed (wasm.Call stable_grow (unless I64 (plain.I64Const (negsuc 0)) (emit rest))) is.0 (stable_grow_type, found (types_are m stable_grow ∙ stable_grow_typed m), I64 ∷ [], takes (I64 ∷ []) (I64 ∷ []) [], tail)
  typed labels owed (Block body rest) is = (typed (suc labels) [] body is.0, typed labels owed rest is.1)
  typed labels owed (Loop body rest) is = (typed (suc labels) [] body is.0, typed labels owed rest is.1)
  typed labels owed (If a first second rest) is =
      pushes labels a I32 [] owed (wasm.IfElse None (emit first) (emit second) (emit rest)) is.0 ([], takes (I32 ∷ []) [] [], typed (suc labels) [] first is.1, typed (suc labels) [] second is.2, typed labels owed rest is.3)
  typed labels owed (BranchIf a label rest) is =
      pushes labels a I32 [] owed (wasm.BrIf label (emit rest)) is.0 ([], found (blank_at labels label _ is.1), [], takes (I32 ∷ []) [] [], typed labels owed rest is.2)
  typed labels owed (Call result f args rest) is =
      pushes_all labels args is.0.type.params [] owed (wasm.Call f (take_result result (emit rest))) is.0.kinds
      (is.0.type, found (types_are m f ∙ is.0.is), reverse is.0.type.results, taken [] is.0.type.params is.0.type.results, results_taken labels result is.0.type.results owed (emit rest) is.0.gives (typed labels owed rest is.1))
  typed labels owed (CallIndirect result x args a rest) is =
      let code : wasm.Code = wasm.CallIndirect x (take_result result (emit rest)) in
      pushes_all labels args is.0.type.params [] owed (push a code) is.0.kinds (pushes labels a I32 (onto is.0.type.params []) owed code is.1
      (λ u. omega arith, is.0.type, found is.0.is, reverse is.0.type.results, taken (I32 ∷ []) is.0.type.params is.0.type.results, results_taken labels result is.0.type.results owed (emit rest) is.0.gives (typed labels owed rest is.2)))
