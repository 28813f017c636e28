-- The numbers in formed code are small enough to be spelled.
use Rattle.std.proofs.Common.{◌≡◌, ◌<◌, ◌≤◌, ◌+◌, ◌^◌, ℕ, suc, List, [], ◌∷◌, ◌++◌, length, map, Option, Some, None, slice_get, arith, length-append, FitsSigned}
use Rattle.std.specs.Prelude.{⊤}
use Rattle.std.proofs.lemmas.List.{length-map}
use Rattle.std.specs.Int.{w32, w64}
use Rattle.std.specs.List.{AllByRecursion, AllZip}
use Rattle.wasm_tree.specs.declared.types.ValueType.{ValueType}
use Rattle.wasm_tree.specs.declared.types.FunctionType.{FunctionType}
use Rattle.wasm_tree.specs.declared.op.Conversion.TheVariants.{Wrap, ExtendS, ExtendU}
use Rattle.low_ir.specs.declared.op.Operand.{Operand}
use Rattle.low_ir.specs.declared.op.Operand.TheVariants.{Local, Word, Long}
use Rattle.low_ir.specs.declared.op.Operation.{Operation}
use Rattle.low_ir.specs.declared.op.Operation.TheVariants.{Copy, IsZero, Compare, Unary, Binary, Convert, Load, Global, Size}
use Rattle.low_ir.specs.declared.op.LowOp.{LowOp}
use Rattle.low_ir.specs.declared.op.LowOp.TheVariants as low
use Rattle.low_ir.specs.Tree.{Code, Stop, Return, Branch, Trap, Set, SetGlobal, Store, Grow, GrowStable, Block, Loop, If, BranchIf, Call, CallIndirect, Module}
use Rattle.low_ir.specs.Numbering.{host_types, all_types, all_signatures, type_of, kind_of}
use Rattle.low_ir.specs.Flat.{flat}
use Rattle.low_ir.specs.Formed.{OperandIs, OperationIs, ResultIs, IsFormed}
use Rattle.low_ir.proofs.Numbers.{past, type_inside}

abbrev pub IsSmallOperand : Operand → Type 0
IsSmallOperand (Local x) = x < 2 ^ 32
IsSmallOperand (Word z) = FitsSigned w32 z
IsSmallOperand (Long z) = FitsSigned w64 z

abbrev pub IsSmallOperation : Operation → Type 0
IsSmallOperation (Copy a) = IsSmallOperand a
IsSmallOperation (IsZero kind a) = IsSmallOperand a
IsSmallOperation (Compare kind o a b) = IsSmallOperand a × IsSmallOperand b
IsSmallOperation (Unary kind o a) = IsSmallOperand a
IsSmallOperation (Binary kind o a b) = IsSmallOperand a × IsSmallOperand b
IsSmallOperation (Convert o a) = IsSmallOperand a
IsSmallOperation (Load kind a offset) = IsSmallOperand a × (offset < 2 ^ 32)
IsSmallOperation (Global x) = x < 2 ^ 32
IsSmallOperation Size = ⊤

abbrev pub IsSmallResult : Option ℕ → Type 0
IsSmallResult None = ⊤
IsSmallResult (Some x) = x < 2 ^ 32

abbrev pub IsSmallOp : LowOp → Type 0
IsSmallOp (low.Set x o) = (x < 2 ^ 32) × IsSmallOperation o
IsSmallOp (low.SetGlobal x a) = (x < 2 ^ 32) × IsSmallOperand a
IsSmallOp (low.Store kind a offset b) = IsSmallOperand a × (offset < 2 ^ 32) × IsSmallOperand b
IsSmallOp (low.Grow a) = IsSmallOperand a
IsSmallOp (low.GrowStable a) = IsSmallOperand a
IsSmallOp (low.Trap a b) = IsSmallOperand a × IsSmallOperand b
IsSmallOp low.Block = ⊤
IsSmallOp low.Loop = ⊤
IsSmallOp (low.If a) = IsSmallOperand a
IsSmallOp low.Else = ⊤
IsSmallOp low.End = ⊤
IsSmallOp (low.Branch label) = label < 2 ^ 32
IsSmallOp (low.BranchIf a label) = IsSmallOperand a × (label < 2 ^ 32)
IsSmallOp (low.Argument a) = IsSmallOperand a
IsSmallOp (low.Call result f) = IsSmallResult result × (f < 2 ^ 32)
IsSmallOp (low.CallIndirect result x a) = IsSmallResult result × (x < 2 ^ 32) × IsSmallOperand a
IsSmallOp (low.Return None) = ⊤
IsSmallOp (low.Return (Some a)) = IsSmallOperand a

both : (xs ys : List LowOp) → AllByRecursion IsSmallOp xs → AllByRecursion IsSmallOp ys → AllByRecursion IsSmallOp (xs ++ ys)
both [] ys h k = k
both (x ∷ xs) ys h k = (h.0, both xs ys h.1 k)

module _ (m : Module) (few_functions : length (all_signatures m) ≤ 100000) (few_types : length m.types ≤ 100000) (few_globals : length m.globals ≤ 10000) (few_host : length host_types ≤ 100000) (locals results : List ValueType) (few : length locals ≤ 50000) where
  small_local : (x : ℕ) (kind : ValueType) → slice_get locals x ≡ Some kind → x < 2 ^ 32
  small_local x kind e = let less : x < length locals = past locals x kind e in omega (arith, less, few)

  small_operand : (a : Operand) (kind : ValueType) → OperandIs locals a kind → IsSmallOperand a
  small_operand (Local x) kind is = small_local x kind is
  small_operand (Word z) kind is = is.1
  small_operand (Long z) kind is = is.1

  small_global : (x : ℕ) (kind : ValueType) → slice_get (map kind_of m.globals) x ≡ Some kind → x < 2 ^ 32
  small_global x kind e = let less : x < length (map kind_of m.globals) = past (map kind_of m.globals) x kind e in omega (arith, less, few_globals, length-map m.globals kind_of)

  small_operation : (o : Operation) (kind : ValueType) → OperationIs m locals o kind → IsSmallOperation o
  small_operation (Copy a) kind is = small_operand a kind is
  small_operation (IsZero of a) kind is = small_operand a of is.0
  small_operation (Compare of o a b) kind is = (small_operand a of is.0, small_operand b of is.1)
  small_operation (Unary of o a) kind is = small_operand a of is.0
  small_operation (Binary of o a b) kind is = (small_operand a of is.0, small_operand b of is.1)
  small_operation (Convert Wrap a) kind is = small_operand a _ is.0
  small_operation (Convert ExtendS a) kind is = small_operand a _ is.0
  small_operation (Convert ExtendU a) kind is = small_operand a _ is.0
  small_operation (Load of a offset) kind is = (small_operand a _ is.0, is.1)
  small_operation (Global x) kind is = small_global x kind is
  small_operation Size kind is = tt

  small_result : (result : Option ℕ) (kinds : List ValueType) → ResultIs locals result kinds → IsSmallResult result
  small_result None kinds is = tt
  small_result (Some x) kinds is = small_local x is.0 is.2

  small_arguments : (args : List Operand) (kinds : List ValueType) → AllZip (OperandIs locals) args kinds → AllByRecursion IsSmallOp (map low.Argument args)
  small_arguments [] kinds is = tt
  small_arguments (a ∷ args) [] is = absurd is
  small_arguments (a ∷ args) (kind ∷ kinds) is = (small_operand a kind is.0, small_arguments args kinds is.1)

  small_type : (x : ℕ) (t : FunctionType) → slice_get (all_types m) x ≡ Some t → x < 2 ^ 32
  small_type x t e = let less : x < length (all_types m) = past (all_types m) x t e in omega (arith, less, few_types, few_host, length-append host_types m.types)

  small_function : (f : ℕ) (t : FunctionType) → type_of m f ≡ Some t → f < 2 ^ 32
  small_function f t e = let less : f < length (all_signatures m) = type_inside m f t e in omega (arith, less, few_functions)

  -- Labels are fewer than instructions.
  pub small_code : (labels : ℕ) (owed : List ValueType) (c : Code) → IsFormed m locals results labels owed c → labels + length (flat c) ≤ 100000000 → AllByRecursion IsSmallOp (flat c)
  small_code labels owed Stop is h = tt
  small_code labels owed (Return None) is h = (tt, tt)
  small_code labels owed (Return (Some a)) is h = (small_operand a is.0 is.1, tt)
  small_code labels owed (Branch label) is h = (omega arith, tt)
  small_code labels owed (Trap a b) is h = ((small_operand a _ is.0, small_operand b _ is.1), tt)
  small_code labels owed (Set x o rest) is h = ((small_local x is.0 is.1, small_operation o is.0 is.2), small_code labels owed rest is.3 (omega arith))
  small_code labels owed (SetGlobal x a rest) is h = ((small_global x is.0 is.1, small_operand a is.0 is.2), small_code labels owed rest is.3 (omega arith))
  small_code labels owed (Store kind a offset b rest) is h = ((small_operand a _ is.0, is.1, small_operand b _ is.2), small_code labels owed rest is.3 (omega arith))
  small_code labels owed (Grow a rest) is h = (small_operand a _ is.0, small_code labels owed rest is.1 (omega arith))
  small_code labels owed (GrowStable a rest) is h = (small_operand a _ is.0, small_code labels owed rest is.1 (omega arith))
  small_code labels owed (Block body rest) is h =
      let n = length-append (flat body) (low.End ∷ flat rest) in
      (tt, both (flat body) (low.End ∷ flat rest) (small_code (suc labels) [] body is.0 (omega (arith, n))) (tt, small_code labels owed rest is.1 (omega (arith, n))))
  small_code labels owed (Loop body rest) is h =
      let n = length-append (flat body) (low.End ∷ flat rest) in
      (tt, both (flat body) (low.End ∷ flat rest) (small_code (suc labels) [] body is.0 (omega (arith, n))) (tt, small_code labels owed rest is.1 (omega (arith, n))))
  small_code labels owed (If a first second rest) is h =
      let n = length-append (flat first) (low.Else ∷ (flat second ++ low.End ∷ flat rest)) in
      let k = length-append (flat second) (low.End ∷ flat rest) in (
        small_operand a _ is.0,
        both (flat first) (low.Else ∷ (flat second ++ low.End ∷ flat rest)) (small_code (suc labels) [] first is.1 (omega (arith, n, k)))
            (tt, both (flat second) (low.End ∷ flat rest) (small_code (suc labels) [] second is.2 (omega (arith, n, k))) (tt, small_code labels owed rest is.3 (omega (arith, n, k)))),
      )
  small_code labels owed (BranchIf a label rest) is h = ((small_operand a _ is.0, omega (arith, is.1)), small_code labels owed rest is.2 (omega arith))
  small_code labels owed (Call result f args rest) is h =
      let n = length-append (map low.Argument args) (low.Call result f ∷ flat rest) in
      both (map low.Argument args) (low.Call result f ∷ flat rest) (small_arguments args is.0.type.params is.0.kinds)
      ((small_result result is.0.type.results is.0.gives, small_function f is.0.type is.0.is), small_code labels owed rest is.1 (omega (arith, n)))
  small_code labels owed (CallIndirect result x args a rest) is h =
      let n = length-append (map low.Argument args) (low.CallIndirect result x a ∷ flat rest) in
      both (map low.Argument args) (low.CallIndirect result x a ∷ flat rest) (small_arguments args is.0.type.params is.0.kinds)
      ((small_result result is.0.type.results is.0.gives, small_type x is.0.type is.0.is, small_operand a _ is.1), small_code labels owed rest is.2 (omega (arith, n)))
