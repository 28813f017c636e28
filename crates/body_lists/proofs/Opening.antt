-- Codes of primitives come to their ends.
use Rattle.std.proofs.Common.{◌≡◌, ℕ, suc, length, ◌+◌, List, [], ◌∷◌, Bool, true, false, cond, Some, None, refl}
use Rattle.std.specs.Prelude.{nat_eq, nat_lt, ◌^◌}
use Rattle.mo_num.specs.declared.kind.Kind.{Kind}
use Rattle.mo_num.specs.declared.kind.Kind.TheVariants.{Nat, Int, Nat8, Nat16, Nat32, Nat64, Int8, Int16, Int32, Int64}
use Rattle.mo_num.specs.declared.operator.Operator.{Operator}
use Rattle.mo_num.specs.declared.operator.Operator.TheVariants as operator
use Rattle.mo_values.specs.declared.operation.Operation.{Operation}
use Rattle.mo_values.specs.declared.operation.Operation.TheVariants as op
use Rattle.mo_values.specs.declared.operation.Wrapping.{Wrapping}
use Rattle.core_ir.specs.declared.primitive.Primitive.{Primitive}
use Rattle.core_ir.specs.declared.primitive.Primitive.TheVariants as primitive
use Rattle.low_ir.specs.declared.op.Operand.{Operand}
use Rattle.low_ir.specs.declared.op.Operand.TheVariants.{Local, Word, Long}
use Rattle.low_ir.specs.declared.op.Operation.TheVariants.{Copy}
use Rattle.low_ir.specs.Tree as tree
use Rattle.low_ir.specs.Tree.{Code, Stop, Return, Set, If}
use Rattle.inlined_code.specs.Inlining.{Places, code_at, operand_at}
use Rattle.number_routines.specs.declared.places.TrapPlaces.{TrapPlaces}
use Rattle.number_routines.specs.Codes.{calculate, negate, wrap}
use Rattle.operation_codes.specs.Links.{Links}
use Rattle.operation_codes.specs.Codes.{at_once, settle, returns, Way, Inline, Spare, Calls, way, calculate_by, stores, tuple, operation_of, code_of}
use Rattle.code_sequences.specs.Sequences.{is_open}

-- code that does not trap at its own end
abbrev ends : Code → Bool
ends (tree.Trap a b) = false
ends (Set x o rest) = ends rest
ends (If a y n rest) = ends rest
ends c = true

settle_local : (to x : ℕ) (t : Bool) → is_open (cond t Stop (Set to (Copy (Local x)) Stop)) ≡ true
settle_local to x true = refl
settle_local to x false = refl

settled : (to : ℕ) (a : Operand) → is_open (settle to a) ≡ true
settled to (Local x) = settle_local to x (nat_eq x to)
settled to (Word z) = refl
settled to (Long z) = refl

moved : (at : Places) (to : ℕ) (c : Code) → ends c ≡ true → is_open (code_at at (settle to) c) ≡ true
moved at to Stop h = refl
moved at to (Return None) h = refl
moved at to (Return (Some a)) h = settled to (operand_at at a)
moved at to (tree.Branch label) h = refl
moved at to (tree.Trap a b) h = absurd (cc h)
moved at to (Set x o rest) h = moved at to rest h
moved at to (tree.SetGlobal x a rest) h = refl
moved at to (tree.Store kind a offset b rest) h = refl
moved at to (tree.Grow a rest) h = refl
moved at to (tree.GrowStable a rest) h = refl
moved at to (tree.Block body rest) h = refl
moved at to (tree.Loop body rest) h = refl
moved at to (If a one two rest) h = moved at to rest h
moved at to (tree.BranchIf a label rest) h = refl
moved at to (tree.Call result f args rest) h = refl
moved at to (tree.CallIndirect result x args a rest) h = refl

calculated : (at : TrapPlaces) (o : Operator) (k : Kind) → ends (calculate at 2 3 4 5 6 o k (Local 0) (Local 1) (returns 2)) ≡ true
calculated at operator.Add Nat = refl
calculated at operator.Add Int = refl
calculated at operator.Add Nat8 = refl
calculated at operator.Add Nat16 = refl
calculated at operator.Add Nat32 = refl
calculated at operator.Add Nat64 = refl
calculated at operator.Add Int8 = refl
calculated at operator.Add Int16 = refl
calculated at operator.Add Int32 = refl
calculated at operator.Add Int64 = refl
calculated at operator.Sub Nat = refl
calculated at operator.Sub Int = refl
calculated at operator.Sub Nat8 = refl
calculated at operator.Sub Nat16 = refl
calculated at operator.Sub Nat32 = refl
calculated at operator.Sub Nat64 = refl
calculated at operator.Sub Int8 = refl
calculated at operator.Sub Int16 = refl
calculated at operator.Sub Int32 = refl
calculated at operator.Sub Int64 = refl
calculated at operator.Mul Nat = refl
calculated at operator.Mul Int = refl
calculated at operator.Mul Nat8 = refl
calculated at operator.Mul Nat16 = refl
calculated at operator.Mul Nat32 = refl
calculated at operator.Mul Nat64 = refl
calculated at operator.Mul Int8 = refl
calculated at operator.Mul Int16 = refl
calculated at operator.Mul Int32 = refl
calculated at operator.Mul Int64 = refl
calculated at operator.Div Nat = refl
calculated at operator.Div Int = refl
calculated at operator.Div Nat8 = refl
calculated at operator.Div Nat16 = refl
calculated at operator.Div Nat32 = refl
calculated at operator.Div Nat64 = refl
calculated at operator.Div Int8 = refl
calculated at operator.Div Int16 = refl
calculated at operator.Div Int32 = refl
calculated at operator.Div Int64 = refl
calculated at operator.Rem Nat = refl
calculated at operator.Rem Int = refl
calculated at operator.Rem Nat8 = refl
calculated at operator.Rem Nat16 = refl
calculated at operator.Rem Nat32 = refl
calculated at operator.Rem Nat64 = refl
calculated at operator.Rem Int8 = refl
calculated at operator.Rem Int16 = refl
calculated at operator.Rem Int32 = refl
calculated at operator.Rem Int64 = refl
calculated at operator.Pow k = refl

negated : (at : TrapPlaces) (k : Kind) → ends (negate at 1 2 3 4 5 k (Local 0) (returns 1)) ≡ true
negated at Nat = refl
negated at Int = refl
negated at Nat8 = refl
negated at Nat16 = refl
negated at Nat32 = refl
negated at Nat64 = refl
negated at Int8 = refl
negated at Int16 = refl
negated at Int32 = refl
negated at Int64 = refl

wrapped : (w : Wrapping) (k : Kind) → ends (wrap 2 w k (Local 0) (Local 1) (returns 2)) ≡ true
wrapped w Nat = refl
wrapped w Int = refl
wrapped w Nat8 = refl
wrapped w Nat16 = refl
wrapped w Nat32 = refl
wrapped w Nat64 = refl
wrapped w Int8 = refl
wrapped w Int16 = refl
wrapped w Int32 = refl
wrapped w Int64 = refl

either : (t : Bool) (a b : Code) → is_open a ≡ true → is_open b ≡ true → is_open (cond t a b) ≡ true
either true a b p q = p
either false a b p q = q

open_by : (links : Links) (w : Way) (o : Operator) (k : Kind) (to free : ℕ) (a b : Operand) → is_open (calculate_by links w o k to free a b) ≡ true
open_by links Inline o k to free a b = moved _ to (calculate links.traps 2 3 4 5 6 o k (Local 0) (Local 1) (returns 2)) (calculated links.traps o k)
open_by links Calls o k to free a b = refl
open_by links Spare o k to free a b = either (at_once to free (a ∷ b ∷ [])) _ _ (moved _ to (calculate links.traps 2 3 4 5 6 o k (Local 0) (Local 1) (returns 2)) (calculated links.traps o k)) refl

stored : (free i : ℕ) (xs : List Operand) (rest : Code) → is_open rest ≡ true → is_open (stores free i xs rest) ≡ true
stored free i [] rest h = h
stored free i (x ∷ xs) rest h = stored free (1 + i) xs rest h

tupled : (links : Links) (to free : ℕ) (xs : List Operand) → is_open (tuple links to free xs) ≡ true
tupled links to free [] = refl
tupled links to free (x ∷ xs) = either (nat_lt (suc (suc (length xs))) (2 ^ 28)) _ _ (stored free 2 xs _ refl) refl

operated : (links : Links) (o : Operation) (to free : ℕ) (xs : List Operand) → is_open (operation_of links o to free xs) ≡ true
operated links (op.Arithmetic o k) to free (a ∷ b ∷ []) = open_by links (way o k) o k to free a b
operated links (op.Negate k) to free (a ∷ []) = moved _ to (negate links.traps 1 2 3 4 5 k (Local 0) (returns 1)) (negated links.traps k)
operated links (op.Wrap w k) to free (a ∷ b ∷ []) = moved _ to (wrap 2 w k (Local 0) (Local 1) (returns 2)) (wrapped w k)
operated links op.MakeTuple to free xs = tupled links to free xs
operated links o to free [] = refl
operated links o to free (a ∷ []) = refl
operated links o to free (a ∷ b ∷ []) = refl
operated links o to free (a ∷ b ∷ x ∷ xs) = refl

pub opened : (links : Links) (p : Primitive) (to free : ℕ) (xs : List Operand) → is_open (code_of links p to free xs) ≡ true
opened links (primitive.Operate o) to free xs = operated links o to free xs
opened links p to free [] = refl
opened links p to free (a ∷ []) = refl
opened links p to free (a ∷ b ∷ []) = refl
opened links p to free (a ∷ b ∷ x ∷ xs) = refl
