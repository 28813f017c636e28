-- Few operands at once and few constructs in one another.
use Rattle.std.proofs.Common.{◌≡◌, ℕ, suc, ◌+◌, ◌≤◌, ◌^◌, max, List, [], ◌∷◌, length, Bool, true, false, cond, nat_eq, Some, None, nat_lt, pos, refl, arith}
use Rattle.mo_num.specs.declared.kind.Kind.{Kind}
use Rattle.mo_num.specs.declared.kind.Kind.TheVariants.{Nat, Int, Nat8, Nat16, Nat32, Nat64, Int8, Int16, Int32, Int64}
use Rattle.mo_num.specs.declared.operator.Operator.{Operator}
use Rattle.mo_num.specs.declared.operator.Operator.TheVariants as operator
use Rattle.mo_values.specs.declared.operation.Operation.{Operation}
use Rattle.mo_values.specs.declared.operation.Operation.TheVariants as op
use Rattle.mo_values.specs.declared.operation.Wrapping.{Wrapping}
use Rattle.core_ir.specs.declared.primitive.Primitive.TheVariants as primitive
use Rattle.wasm_tree.specs.declared.op.Conversion.TheVariants.{ExtendU}
use Rattle.low_ir.specs.declared.op.Operand.{Operand}
use Rattle.low_ir.specs.declared.op.Operand.TheVariants.{Local, Word, Long}
use Rattle.low_ir.specs.declared.op.Operation as low
use Rattle.low_ir.specs.declared.op.Operation.TheVariants.{Copy, IsZero, Compare, Unary, Binary, Convert, Load, Global, Size}
use Rattle.low_ir.specs.Tree as tree
use Rattle.low_ir.specs.Tree.{Code, Stop, Return, Set, If}
use Rattle.low_ir.specs.Frames.{operands_of, height, depth}
use Rattle.inlined_code.specs.Inlining.{Places, operation_at, code_at}
use Rattle.number_routines.specs.declared.places.TrapPlaces.{TrapPlaces}
use Rattle.number_routines.specs.Codes.{calculate, negate, wrap}
use Rattle.operation_codes.specs.Links.{Links}
use Rattle.operation_codes.specs.Codes.{at_once, settle, returns, inline_one, inline_two, Way, Inline, Spare, Calls, way, calculate_by, stores, new_block, too_large, block, tuple, operation_of}
use Rattle.operation_codes.specs.Laws.{CodesAreShallow}

-- so many operands and constructs at most
abbrev Within : ℕ → ℕ → Code → Type 0
Within operands constructs c = (height c ≤ operands) × (depth c ≤ constructs)

settle_local : (to x : ℕ) (t : Bool) → Within 1 0 (cond t Stop (Set to (Copy (Local x)) Stop))
settle_local to x true = (omega arith, omega arith)
settle_local to x false = (omega arith, omega arith)

settled : (to : ℕ) (a : Operand) → Within 1 0 (settle to a)
settled to (Local x) = settle_local to x (nat_eq x to)
settled to (Word z) = (omega arith, omega arith)
settled to (Long z) = (omega arith, omega arith)

operands_same : (at : Places) (o : low.Operation) → operands_of (operation_at at o) ≡ operands_of o
operands_same at (Copy a) = refl
operands_same at (IsZero kind a) = refl
operands_same at (Compare kind o a b) = refl
operands_same at (Unary kind o a) = refl
operands_same at (Binary kind o a b) = refl
operands_same at (Convert o a) = refl
operands_same at (Load kind a offset) = refl
operands_same at (Global x) = refl
operands_same at Size = refl

-- code in other locals
moved : (at : Places) (to : ℕ) (c : Code) → Within (max 1 (height c)) (depth c) (code_at at (settle to) c)
moved at to Stop = (omega arith, omega arith)
moved at to (Return None) = (omega arith, omega arith)
moved at to (Return (Some a)) = let s = settled to (inner a) in (let h = s.0 in omega (arith, h), s.1)
  where
    inner : Operand → Operand
    inner (Local x) = at.read x
    inner (Word z) = Word z
    inner (Long z) = Long z
moved at to (tree.Branch label) = (omega arith, omega arith)
moved at to (tree.Trap a b) = (omega arith, omega arith)
moved at to (Set x o rest) = let r = moved at to rest in let h = r.0 in let e = operands_same at o in (omega (arith, h, e), r.1)
moved at to (tree.SetGlobal x a rest) = (omega arith, omega arith)
moved at to (tree.Store kind a offset b rest) = (omega arith, omega arith)
moved at to (tree.Grow a rest) = (omega arith, omega arith)
moved at to (tree.GrowStable a rest) = (omega arith, omega arith)
moved at to (tree.Block body rest) = (omega arith, omega arith)
moved at to (tree.Loop body rest) = (omega arith, omega arith)
moved at to (If a one two rest) =
    let r = moved at to rest in
    let p = moved at to one in
    let q = moved at to two in
    (let h = r.0 in let i = p.0 in let j = q.0 in omega (arith, h, i, j), let h = r.1 in let i = p.1 in let j = q.1 in omega (arith, h, i, j))
moved at to (tree.BranchIf a label rest) = (omega arith, omega arith)
moved at to (tree.Call result f args rest) = (omega arith, omega arith)
moved at to (tree.CallIndirect result x args a rest) = (omega arith, omega arith)

within_two : (at : Places) (to : ℕ) (c : Code) → Within 2 2 c → Within 2 2 (code_at at (settle to) c)
within_two at to c w = let m = moved at to c in (let h = m.0 in let k = w.0 in omega (arith, h, k), let h = m.1 in let k = w.1 in omega (arith, h, k))

-- ---- the routines' codes

calculated : (at : TrapPlaces) (o : Operator) (k : Kind) → Within 2 2 (calculate at 2 3 4 5 6 o k (Local 0) (Local 1) (returns 2))
calculated at operator.Add Nat = (omega arith, omega arith)
calculated at operator.Add Int = (omega arith, omega arith)
calculated at operator.Add Nat8 = (omega arith, omega arith)
calculated at operator.Add Nat16 = (omega arith, omega arith)
calculated at operator.Add Nat32 = (omega arith, omega arith)
calculated at operator.Add Nat64 = (omega arith, omega arith)
calculated at operator.Add Int8 = (omega arith, omega arith)
calculated at operator.Add Int16 = (omega arith, omega arith)
calculated at operator.Add Int32 = (omega arith, omega arith)
calculated at operator.Add Int64 = (omega arith, omega arith)
calculated at operator.Sub Nat = (omega arith, omega arith)
calculated at operator.Sub Int = (omega arith, omega arith)
calculated at operator.Sub Nat8 = (omega arith, omega arith)
calculated at operator.Sub Nat16 = (omega arith, omega arith)
calculated at operator.Sub Nat32 = (omega arith, omega arith)
calculated at operator.Sub Nat64 = (omega arith, omega arith)
calculated at operator.Sub Int8 = (omega arith, omega arith)
calculated at operator.Sub Int16 = (omega arith, omega arith)
calculated at operator.Sub Int32 = (omega arith, omega arith)
calculated at operator.Sub Int64 = (omega arith, omega arith)
calculated at operator.Mul Nat = (omega arith, omega arith)
calculated at operator.Mul Int = (omega arith, omega arith)
calculated at operator.Mul Nat8 = (omega arith, omega arith)
calculated at operator.Mul Nat16 = (omega arith, omega arith)
calculated at operator.Mul Nat32 = (omega arith, omega arith)
calculated at operator.Mul Nat64 = (omega arith, omega arith)
calculated at operator.Mul Int8 = (omega arith, omega arith)
calculated at operator.Mul Int16 = (omega arith, omega arith)
calculated at operator.Mul Int32 = (omega arith, omega arith)
calculated at operator.Mul Int64 = (omega arith, omega arith)
calculated at operator.Div Nat = (omega arith, omega arith)
calculated at operator.Div Int = (omega arith, omega arith)
calculated at operator.Div Nat8 = (omega arith, omega arith)
calculated at operator.Div Nat16 = (omega arith, omega arith)
calculated at operator.Div Nat32 = (omega arith, omega arith)
calculated at operator.Div Nat64 = (omega arith, omega arith)
calculated at operator.Div Int8 = (omega arith, omega arith)
calculated at operator.Div Int16 = (omega arith, omega arith)
calculated at operator.Div Int32 = (omega arith, omega arith)
calculated at operator.Div Int64 = (omega arith, omega arith)
calculated at operator.Rem Nat = (omega arith, omega arith)
calculated at operator.Rem Int = (omega arith, omega arith)
calculated at operator.Rem Nat8 = (omega arith, omega arith)
calculated at operator.Rem Nat16 = (omega arith, omega arith)
calculated at operator.Rem Nat32 = (omega arith, omega arith)
calculated at operator.Rem Nat64 = (omega arith, omega arith)
calculated at operator.Rem Int8 = (omega arith, omega arith)
calculated at operator.Rem Int16 = (omega arith, omega arith)
calculated at operator.Rem Int32 = (omega arith, omega arith)
calculated at operator.Rem Int64 = (omega arith, omega arith)
calculated at operator.Pow k = (omega arith, omega arith)

negated : (at : TrapPlaces) (k : Kind) → Within 2 2 (negate at 1 2 3 4 5 k (Local 0) (returns 1))
negated at Nat = (omega arith, omega arith)
negated at Int = (omega arith, omega arith)
negated at Nat8 = (omega arith, omega arith)
negated at Nat16 = (omega arith, omega arith)
negated at Nat32 = (omega arith, omega arith)
negated at Nat64 = (omega arith, omega arith)
negated at Int8 = (omega arith, omega arith)
negated at Int16 = (omega arith, omega arith)
negated at Int32 = (omega arith, omega arith)
negated at Int64 = (omega arith, omega arith)

wrapped : (w : Wrapping) (k : Kind) → Within 2 2 (wrap 2 w k (Local 0) (Local 1) (returns 2))
wrapped w Nat = (omega arith, omega arith)
wrapped w Int = (omega arith, omega arith)
wrapped w Nat8 = (omega arith, omega arith)
wrapped w Nat16 = (omega arith, omega arith)
wrapped w Nat32 = (omega arith, omega arith)
wrapped w Nat64 = (omega arith, omega arith)
wrapped w Int8 = (omega arith, omega arith)
wrapped w Int16 = (omega arith, omega arith)
wrapped w Int32 = (omega arith, omega arith)
wrapped w Int64 = (omega arith, omega arith)

-- ---- all codes

either : (t : Bool) (a b : Code) → Within 2 2 a → Within 2 2 b → Within 2 2 (cond t a b)
either true a b p q = p
either false a b p q = q

shallow_by : (links : Links) (w : Way) (o : Operator) (k : Kind) (to free : ℕ) (a b : Operand) → Within 2 2 (calculate_by links w o k to free a b)
shallow_by links Inline o k to free a b = within_two _ to (calculate links.traps 2 3 4 5 6 o k (Local 0) (Local 1) (returns 2)) (calculated links.traps o k)
shallow_by links Calls o k to free a b = (omega arith, omega arith)
shallow_by links Spare o k to free a b =
    either (at_once to free (a ∷ b ∷ [])) _ _ (within_two _ to (calculate links.traps 2 3 4 5 6 o k (Local 0) (Local 1) (returns 2)) (calculated links.traps o k)) (omega arith, omega arith)

stored : (free i : ℕ) (xs : List Operand) (rest : Code) → Within 2 0 rest → Within 2 0 (stores free i xs rest)
stored free i [] rest w = w
stored free i (x ∷ xs) rest w = let s = stored free (1 + i) xs rest w in (let h = s.0 in omega (arith, h), s.1)

looser : (n : ℕ) (c : Code) → Within 2 2 c → 1 ≤ n → Within (suc n) 2 c
looser n c w some = (let h = w.0 in omega (arith, h, some), w.1)

-- blocks of more words
blocked : (links : Links) (to free n : ℕ) (xs : List Operand) → 2 ≤ n → Within n 2 (block links to free xs)
blocked links to free n xs more = by (nat_lt (length xs) (2 ^ 28))
  where
    by : (t : Bool) → Within n 2 (cond t (new_block links to free xs) too_large)
    by true =
        let s = stored free 0 xs (Set to (Convert ExtendU (Local free)) Stop) (omega arith, omega arith) in
        (let h = s.0 in omega (arith, h, more), let h = s.1 in omega (arith, h))
    by false = (omega (arith, more), omega arith)

tupled : (links : Links) (to free : ℕ) (xs : List Operand) → Within (suc (length xs)) 2 (tuple links to free xs)
tupled links to free [] = (omega arith, omega arith)
tupled links to free (x ∷ xs) = blocked links to free (suc (length (x ∷ xs))) (Long (pos (1 + length xs)) ∷ x ∷ xs) (omega arith)

operated : (links : Links) (o : Operation) (to free : ℕ) (xs : List Operand) → Within (suc (length xs)) 2 (operation_of links o to free xs)
operated links (op.Arithmetic o k) to free (a ∷ b ∷ []) = looser 2 (calculate_by links (way o k) o k to free a b) (shallow_by links (way o k) o k to free a b) (omega arith)
operated links (op.Negate k) to free (a ∷ []) = looser 1 (inline_one to free a (negate links.traps 1 2 3 4 5 k)) (within_two _ to (negate links.traps 1 2 3 4 5 k (Local 0) (returns 1)) (negated links.traps k)) (omega arith)
operated links (op.Wrap w k) to free (a ∷ b ∷ []) = looser 2 (inline_two to free a b (wrap 2 w k)) (within_two _ to (wrap 2 w k (Local 0) (Local 1) (returns 2)) (wrapped w k)) (omega arith)
operated links op.MakeTuple to free xs = tupled links to free xs
operated links o to free [] = (omega arith, omega arith)
operated links o to free (a ∷ []) = (omega arith, omega arith)
operated links o to free (a ∷ b ∷ []) = (omega arith, omega arith)
operated links o to free (a ∷ b ∷ x ∷ xs) = (omega arith, omega arith)

pub shallow : CodesAreShallow
shallow links (primitive.Operate o) to free xs = operated links o to free xs
shallow links p to free [] = (omega arith, omega arith)
shallow links p to free (a ∷ []) = (omega arith, omega arith)
shallow links p to free (a ∷ b ∷ []) = (omega arith, omega arith)
shallow links p to free (a ∷ b ∷ x ∷ xs) = (omega arith, omega arith)
