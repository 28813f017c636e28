-- The low code of each primitive, which puts its value into a local, from operands. Three locals are free from one on: two for addresses
-- and tests, and one for a word.
use Rattle.std.specs.Prelude.{ℕ, ◌+◌, ◌*◌, ◌-◌, ◌-ℤ◌, ◌^◌, List, [], ◌∷◌, length, Bool, true, not, ◌&&◌, nat_eq, nat_le, nat_lt, int_le, cond, get_or, Some, None, ℤ, pos}
use Rattle.mo_num.specs.declared.kind.Kind.{Kind}
use Rattle.mo_num.specs.declared.kind.Kind.TheVariants.{Int8, Int16, Int32, Int, Int64}
use Rattle.mo_num.specs.declared.operator.Operator.{Operator}
use Rattle.mo_num.specs.declared.operator.Operator.TheVariants as operator
use Rattle.mo_types.specs.declared.datum.Datum.{Datum}
use Rattle.mo_types.specs.declared.datum.Datum.TheVariants as part
use Rattle.mo_types.specs.Label.{label_id}
use Rattle.mo_values.specs.declared.operation.Comparison.{Comparison}
use Rattle.mo_values.specs.declared.operation.Operation.{Operation}
use Rattle.mo_values.specs.declared.operation.Operation.TheVariants as op
use Rattle.mo_values.specs.declared.operation.Scalar.{Scalar}
use Rattle.mo_values.specs.declared.operation.Scalar.TheVariants as scalar
use Rattle.mo_values.specs.Operations.{assertion_failed}
use Rattle.mo_values.specs.Shapes.{Bytes}
use Rattle.wasm_tree.specs.declared.types.ValueType.TheVariants.{I32, I64}
use Rattle.wasm_tree.specs.declared.op.Comparison.{Comparison as NumericComparison}
use Rattle.wasm_tree.specs.declared.op.Comparison.TheVariants.{Eq, Ne}
use Rattle.wasm_tree.specs.declared.op.BinaryOperator.TheVariants.{Add}
use Rattle.wasm_tree.specs.declared.op.Conversion.TheVariants.{Wrap, ExtendU}
use Rattle.wasm_tree.specs.declared.op.LoadKind.TheVariants as load
use Rattle.wasm_tree.specs.declared.op.StoreKind.TheVariants as store
use Rattle.wasm_tree.specs.Numeric.{flag}
use Rattle.core_ir.specs.declared.primitive.Primitive.{Primitive}
use Rattle.core_ir.specs.declared.primitive.Primitive.TheVariants as primitive
use Rattle.low_ir.specs.declared.op.Operand.{Operand}
use Rattle.low_ir.specs.declared.op.Operand.TheVariants.{Local, Word, Long}
use Rattle.low_ir.specs.declared.op.Operation.TheVariants.{Copy, IsZero, Compare, Binary, Convert, Load}
use Rattle.low_ir.specs.Tree.{Code, Stop, Return, Set, Store, Grow, If, Call}
use Rattle.heap_layout.specs.Table.{host_print}
use Rattle.inlined_code.specs.Inlining.{Places, code_at}
use Rattle.number_routines.specs.Codes.{calculate, negate, wrap, test_of, unsigned_test}
use Rattle.operation_codes.specs.Links.{Links}

-- ---- code of a routine in the locals of a function

-- No operand is this local.
abbrev pub is_apart : ℕ → List Operand → Bool
is_apart to [] = true
is_apart to (Local x ∷ xs) = not (nat_eq x to) && is_apart to xs
is_apart to (Word z ∷ xs) = is_apart to xs
is_apart to (Long z ∷ xs) = is_apart to xs

-- The result may be made in its local: no operand stands there, and it is none of the three free ones.
abbrev pub at_once : (to free : ℕ) → List Operand → Bool
at_once to free xs = not (nat_le free to && nat_lt to (3 + free)) && is_apart to xs

-- where it is made
abbrev pub made_in : (to free : ℕ) → List Operand → ℕ
made_in to free xs = cond (at_once to free xs) to (2 + free)

-- An operand goes into a local,
abbrev pub copies : ℕ → Operand → Code
copies to a = Set to (Copy a) Stop

-- and what was made goes into its own.
abbrev pub settle : ℕ → Operand → Code
settle to (Local x) = cond (nat_eq x to) Stop (copies to (Local x))
settle to (Word z) = copies to (Word z)
settle to (Long z) = copies to (Long z)

abbrev pub places_from : List Operand → List ℕ → Places
places_from reads writes = record { read = λ x. get_or reads x (Word (pos 0)); write = λ x. get_or writes x 0 }

-- Of a routine of one operand or two, with a result, two words and two tests; the words are not used.
abbrev pub one_place : (free r : ℕ) → Operand → Places
one_place free r a = places_from (a ∷ Local r ∷ Word (pos 0) ∷ Word (pos 0) ∷ Local free ∷ Local (1 + free) ∷ []) (0 ∷ r ∷ 0 ∷ 0 ∷ free ∷ (1 + free) ∷ [])

abbrev pub two_places : (free r : ℕ) → (a b : Operand) → Places
two_places free r a b = places_from (a ∷ b ∷ Local r ∷ Word (pos 0) ∷ Word (pos 0) ∷ Local free ∷ Local (1 + free) ∷ []) (0 ∷ 0 ∷ r ∷ 0 ∷ 0 ∷ free ∷ (1 + free) ∷ [])

-- The first of the words is used, too.
abbrev pub spare_places : (free r : ℕ) → (a b : Operand) → Places
spare_places free r a b = places_from (a ∷ b ∷ Local r ∷ Local (2 + free) ∷ Word (pos 0) ∷ Local free ∷ Local (1 + free) ∷ []) (0 ∷ 0 ∷ r ∷ (2 + free) ∷ 0 ∷ free ∷ (1 + free) ∷ [])

abbrev pub returns : ℕ → Code
returns x = Return (Some (Local x))

abbrev pub inline_one : (to free : ℕ) → Operand → (Operand → Code → Code) → Code
inline_one to free a code = code_at (one_place free (made_in to free (a ∷ [])) a) (settle to) (code (Local 0) (returns 1))

abbrev pub inline_two : (to free : ℕ) → (a b : Operand) → (Operand → Operand → Code → Code) → Code
inline_two to free a b code = code_at (two_places free (made_in to free (a ∷ b ∷ [])) a b) (settle to) (code (Local 0) (Local 1) (returns 2))

abbrev pub inline_spare : (to free : ℕ) → (a b : Operand) → (Operand → Operand → Code → Code) → Code
inline_spare to free a b code = code_at (spare_places free to a b) (settle to) (code (Local 0) (Local 1) (returns 2))

-- ---- arithmetic

-- How the code of an operator at a kind goes: inline, inline where a further word is free, or as a call of its routine.
pub data Way : Type 0 where
  Inline : Way
  Spare : Way
  Calls : Way

abbrev pub sum_way : Kind → Way
sum_way Int8 = Spare
sum_way Int16 = Spare
sum_way Int32 = Spare
sum_way k = Inline

abbrev pub product_way : Kind → Way
product_way Int8 = Spare
product_way Int16 = Spare
product_way Int32 = Spare
product_way Int = Calls
product_way Int64 = Calls
product_way k = Inline

abbrev pub way : Operator → Kind → Way
way operator.Add k = sum_way k
way operator.Sub k = sum_way k
way operator.Mul k = product_way k
way operator.Div k = Inline
way operator.Rem k = Inline
way operator.Pow k = Calls

abbrev pub calls : (f to : ℕ) → List Operand → Code
calls f to xs = Call (Some to) f xs Stop

-- ---- truth values

-- the truth of a test of two words
abbrev pub tells : NumericComparison → (to free : ℕ) → (a b : Operand) → Code
tells test to free a b = Set free (Compare I64 test a b) (Set to (Convert ExtendU (Local free)) Stop)

-- characters are ordered as numbers without signs
abbrev pub order_test : Scalar → Comparison → NumericComparison
order_test (scalar.Number k) o = test_of k o
order_test s o = unsigned_test o

abbrev pub negates : (to free : ℕ) → Operand → Code
negates to free a = Set free (IsZero I64 a) (Set to (Convert ExtendU (Local free)) Stop)

-- The literal of a number's word, with a sign.
abbrev pub signed_long : ℤ → ℤ
signed_long n = cond (int_le n (pos (2 ^ 63 - 1))) n (n -ℤ pos (2 ^ 64))

abbrev pub literal : Datum → ℤ
literal (part.Number n) = signed_long n
literal (part.Flag b) = pos (flag b)
literal (part.Char c) = pos c
literal p = pos 0

-- ---- words of the heap

abbrev pub gives_unit : ℕ → Code
gives_unit to = copies to (Long (pos 0))

-- word i of the block at the address
abbrev pub loads : (to free i : ℕ) → Operand → Code
loads to free i a = Set free (Convert Wrap a) (Set to (Load load.I64 (Local free) (8 * i)) Stop)

abbrev pub writes : (to free : ℕ) → (c v : Operand) → Code
writes to free c v = Set free (Convert Wrap c) (Store store.I64 (Local free) 0 v (gives_unit to))

-- words from the i-th of a block on
abbrev pub stores : (free i : ℕ) → List Operand → Code → Code
stores free i [] rest = rest
stores free i (x ∷ xs) rest = Store store.I64 (Local free) (8 * i) x (stores free (1 + i) xs rest)

-- The memory grows by more pages than any has, so that the execution ends for want of memory.
abbrev pub too_large : Code
too_large = Grow (Word (pos 65537)) Stop

-- ---- prints

abbrev pub prints : (to free : ℕ) → Operand → Code
prints to free a =
    Set free (Convert Wrap a)
    (Set (2 + free) (Load load.I64 (Local free) 0)
    (Set (1 + free) (Convert Wrap (Local (2 + free)))
    (Set free (Binary I32 Add (Local free) (Word (pos 8))) (Call None host_print (Local free ∷ Local (1 + free) ∷ []) (gives_unit to)))))

module _ (links : Links) where
  abbrev pub calculate_by : Way → Operator → Kind → (to free : ℕ) → (a b : Operand) → Code
  calculate_by Inline o k to free a b = inline_two to free a b (calculate links.traps 2 3 4 5 6 o k)
  calculate_by Spare o k to free a b = cond (at_once to free (a ∷ b ∷ [])) (inline_spare to free a b (calculate links.traps 2 3 4 5 6 o k)) (calls (links.calculation o k) to (a ∷ b ∷ []))
  calculate_by Calls o k to free a b = calls (links.calculation o k) to (a ∷ b ∷ [])

  -- ---- ends

  abbrev pub fails : Bytes → Code
  fails t = Call None links.failing (Word (pos (8 * links.bytes_at t)) ∷ []) Stop

  abbrev pub asserts : (to free : ℕ) → Operand → Code
  asserts to free a = Set free (IsZero I64 a) (If (Local free) (fails assertion_failed) Stop (gives_unit to))

  -- with a text that is a value
  abbrev pub traps_with : ℕ → Operand → Code
  traps_with free a = Set free (Convert Wrap a) (Call None links.failing (Local free ∷ []) Stop)

  -- ---- blocks

  -- a new block of these words, whose address is the value
  abbrev pub new_block : (to free : ℕ) → List Operand → Code
  new_block to free xs = Call (Some free) links.allocation (Word (pos (8 * length xs)) ∷ []) (stores free 0 xs (Set to (Convert ExtendU (Local free)) Stop))

  -- unless its size is no literal
  abbrev pub block : (to free : ℕ) → List Operand → Code
  block to free xs = cond (nat_lt (length xs) (2 ^ 28)) (new_block to free xs) too_large

  -- () is no block
  abbrev pub tuple : (to free : ℕ) → List Operand → Code
  tuple to free [] = gives_unit to
  tuple to free (x ∷ xs) = block to free (Long (pos (1 + length xs)) ∷ x ∷ xs)

  -- ---- all of them, where there are as many operands as they take

  abbrev pub operation_of : Operation → (to free : ℕ) → List Operand → Code
  operation_of (op.Arithmetic o k) to free (a ∷ b ∷ []) = calculate_by (way o k) o k to free a b
  operation_of (op.Negate k) to free (a ∷ []) = inline_one to free a (negate links.traps 1 2 3 4 5 k)
  operation_of (op.Wrap w k) to free (a ∷ b ∷ []) = inline_two to free a b (wrap 2 w k)
  operation_of (op.Compare o s) to free (a ∷ b ∷ []) = tells (order_test s o) to free a b
  operation_of (op.Same s) to free (a ∷ b ∷ []) = tells Eq to free a b
  operation_of (op.Equal t) to free (a ∷ b ∷ []) = tells Eq to free a b
  operation_of (op.Unequal t) to free (a ∷ b ∷ []) = tells Ne to free a b
  operation_of op.Not to free (a ∷ []) = negates to free a
  operation_of op.Assert to free (a ∷ []) = asserts to free a
  operation_of op.MakeTuple to free xs = tuple to free xs
  operation_of op.MakeOption to free (a ∷ []) = block to free (a ∷ [])
  operation_of (op.MakeTag l) to free (a ∷ []) = block to free (Long (pos (label_id l)) ∷ a ∷ [])
  operation_of (op.Project i) to free (a ∷ []) = loads to free (1 + i) a
  operation_of op.Trap to free (a ∷ []) = traps_with free a
  operation_of (op.Fail t) to free [] = fails t
  operation_of _ to free xs = Stop

  abbrev pub code_of : Primitive → (to free : ℕ) → List Operand → Code
  code_of (primitive.Operate o) to free xs = operation_of o to free xs
  code_of primitive.Copy to free (a ∷ []) = copies to a
  code_of (primitive.Is c) to free (a ∷ []) = tells Eq to free (Long (literal c)) a
  code_of primitive.New to free (a ∷ []) = block to free (a ∷ Long (pos 0) ∷ [])
  code_of primitive.Read to free (a ∷ []) = loads to free 0 a
  code_of primitive.Write to free (c ∷ v ∷ []) = writes to free c v
  code_of primitive.Print to free (a ∷ []) = prints to free a
  code_of _ to free xs = Stop
