-- Arithmetic in low code. A number of any kind is a word: its bits, as a signed number has them. Operands a and b stand where they may;
-- r is a local for the result, x and y are two more for words, and c and d are locals for tests.
use Rattle.std.specs.Prelude.{ℕ, ◌-◌, ◌^◌, length, ℤ, pos, negsuc, neg_ℤ}
use Rattle.mo_num.specs.declared.kind.Kind.{Kind}
use Rattle.mo_num.specs.declared.kind.Kind.TheVariants.{Nat, Int, Nat8, Nat16, Nat32, Nat64, Int8, Int16, Int32, Int64}
use Rattle.mo_num.specs.declared.operator.Operator.{Operator}
use Rattle.mo_num.specs.declared.operator.Operator.TheVariants as operator
use Rattle.mo_num.specs.declared.operator.NumTrap.{NumTrap}
use Rattle.mo_num.specs.declared.operator.NumTrap.TheVariants.{Overflow, Underflow, DivideByZero}
use Rattle.mo_num.specs.Kinds.{least, greatest, modulus}
use Rattle.mo_num.specs.Arith.{below}
use Rattle.mo_values.specs.Operations.{number_text}
use Rattle.mo_values.specs.declared.operation.Comparison.{Comparison}
use Rattle.mo_values.specs.declared.operation.Comparison.TheVariants as comparison
use Rattle.mo_values.specs.declared.operation.Wrapping.{Wrapping}
use Rattle.mo_values.specs.declared.operation.Wrapping.TheVariants as wrapping
use Rattle.wasm_tree.specs.declared.types.ValueType.TheVariants.{I32, I64}
use Rattle.wasm_tree.specs.declared.op.Comparison.{Comparison as NumericComparison}
use Rattle.wasm_tree.specs.declared.op.Comparison.TheVariants.{Eq, Ne, LtS, LtU, GtS, GtU, LeS, LeU, GeS, GeU}
use Rattle.wasm_tree.specs.declared.op.BinaryOperator.{BinaryOperator}
use Rattle.wasm_tree.specs.declared.op.BinaryOperator.TheVariants as binary
use Rattle.wasm_tree.specs.declared.op.Conversion.TheVariants.{ExtendU}
use Rattle.low_ir.specs.declared.op.Operand.{Operand}
use Rattle.low_ir.specs.declared.op.Operand.TheVariants.{Local, Word, Long}
use Rattle.low_ir.specs.declared.op.Operation.TheVariants.{Copy, IsZero, Compare, Binary, Convert}
use Rattle.low_ir.specs.Tree.{Code, Stop, Trap, Set, If}
use Rattle.number_routines.specs.declared.places.TrapPlaces.{TrapPlaces}

-- The word of the address at which the text of a trap stands.
abbrev pub place : TrapPlaces → NumTrap → ℤ
place at Overflow = at.overflow
place at Underflow = at.underflow
place at DivideByZero = at.divide_by_zero

abbrev pub size : NumTrap → ℕ
size t = length (number_text t)

module _ (at : TrapPlaces) where
  abbrev pub fails : NumTrap → Code
  fails t = Trap (Word (place at t)) (Word (pos (size t)))

  -- the execution ends where a test is true
  abbrev pub unless : ℕ → NumTrap → Code → Code
  unless c t rest = If (Local c) (fails t) Stop rest

  -- where r is above a number, without signs
  abbrev pub at_most : ℤ → (r c : ℕ) → Code → Code
  at_most most r c rest = Set c (Compare I64 GtU (Local r) (Long most)) (unless c Overflow rest)

  -- where r, raised by a number that no negative one reaches, is above another
  abbrev pub between : (raised most : ℤ) → (r x c : ℕ) → Code → Code
  between raised most r x c rest = Set x (Binary I64 binary.Add (Local r) (Long raised)) (Set c (Compare I64 GtU (Local x) (Long most)) (unless c Overflow rest))

  -- where the tests in c and d differ
  abbrev pub unless_differ : (c d : ℕ) → Code → Code
  unless_differ c d rest = Set c (Compare I32 Ne (Local c) (Local d)) (unless c Overflow rest)

  -- where the divisor is 0
  abbrev pub with_divisor : Operand → (c : ℕ) → Code → Code
  with_divisor b c rest = Set c (IsZero I64 b) (unless c DivideByZero rest)

  module _ (r x y c d : ℕ) where
    -- the exact result of an operator that a word holds, where it is in a range from 0 on, or in one of as many numbers below 0
    abbrev pub natural : BinaryOperator → ℤ → Operand → Operand → Code → Code
    natural o most a b rest = Set r (Binary I64 o a b) (at_most most r c rest)

    abbrev pub narrow : BinaryOperator → (raised most : ℤ) → Operand → Operand → Code → Code
    narrow o raised most a b rest = Set r (Binary I64 o a b) (between raised most r x c rest)

    -- a sum of words that is below one of them where it is too large
    abbrev pub wide_sum : Operand → Operand → Code → Code
    wide_sum a b rest = Set r (Binary I64 binary.Add a b) (Set c (Compare I64 LtU (Local r) a) (unless c Overflow rest))

    -- A sum of numbers with signs: it is below the first exactly where the second is negative; a difference is above the first there.
    abbrev pub signed_sum : Operand → Operand → Code → Code
    signed_sum a b rest = Set r (Binary I64 binary.Add a b) (Set c (Compare I64 LtS (Local r) a) (Set d (Compare I64 LtS b (Long (pos 0))) (unless_differ c d rest)))

    abbrev pub signed_difference : Operand → Operand → Code → Code
    signed_difference a b rest = Set r (Binary I64 binary.Sub a b) (Set c (Compare I64 LtS a (Local r)) (Set d (Compare I64 LtS b (Long (pos 0))) (unless_differ c d rest)))

    abbrev pub add : Kind → Operand → Operand → Code → Code
    add Nat a b rest = natural binary.Add (greatest Nat) a b rest
    add Nat8 a b rest = natural binary.Add (greatest Nat8) a b rest
    add Nat16 a b rest = natural binary.Add (greatest Nat16) a b rest
    add Nat32 a b rest = natural binary.Add (greatest Nat32) a b rest
    add Nat64 a b rest = wide_sum a b rest
    add Int8 a b rest = narrow binary.Add (neg_ℤ (least Int8)) (pos (modulus Int8 - 1)) a b rest
    add Int16 a b rest = narrow binary.Add (neg_ℤ (least Int16)) (pos (modulus Int16 - 1)) a b rest
    add Int32 a b rest = narrow binary.Add (neg_ℤ (least Int32)) (pos (modulus Int32 - 1)) a b rest
    add Int a b rest = signed_sum a b rest
    add Int64 a b rest = signed_sum a b rest

    -- a difference of natural numbers
    abbrev pub less : NumTrap → Operand → Operand → Code → Code
    less t a b rest = Set c (Compare I64 LtU a b) (unless c t (Set r (Binary I64 binary.Sub a b) rest))

    abbrev pub sub : Kind → Operand → Operand → Code → Code
    sub Nat a b rest = less (below Nat) a b rest
    sub Nat8 a b rest = less (below Nat8) a b rest
    sub Nat16 a b rest = less (below Nat16) a b rest
    sub Nat32 a b rest = less (below Nat32) a b rest
    sub Nat64 a b rest = less (below Nat64) a b rest
    sub Int8 a b rest = narrow binary.Sub (neg_ℤ (least Int8)) (pos (modulus Int8 - 1)) a b rest
    sub Int16 a b rest = narrow binary.Sub (neg_ℤ (least Int16)) (pos (modulus Int16 - 1)) a b rest
    sub Int32 a b rest = narrow binary.Sub (neg_ℤ (least Int32)) (pos (modulus Int32 - 1)) a b rest
    sub Int a b rest = signed_difference a b rest
    sub Int64 a b rest = signed_difference a b rest

    -- A product of natural numbers, whose words are a and b, up to a number whose word is given: one of them is 0, or the other is at
    -- most the quotient of that number by the one.
    abbrev pub product_within : Operand → Operand → Operand → Code → Code
    product_within most a b rest =
        Set c (IsZero I64 a)
        (If (Local c) Stop (Set r (Binary I64 binary.DivU most a) (Set c (Compare I64 LtU (Local r) b) (unless c Overflow Stop))) rest)

    abbrev pub wide_product : ℤ → Operand → Operand → Code → Code
    wide_product most a b rest = product_within (Long most) a b (Set r (Binary I64 binary.Mul a b) rest)

    -- x and y are made the sizes of a and b; of a negative product one more is in the range
    abbrev pub signed_product : Operand → Operand → Code → Code
    signed_product a b rest =
        Set c (Compare I64 LtS a (Long (pos 0)))
        (Set d (Compare I64 LtS b (Long (pos 0)))
        (Set x (Copy a)
        (If (Local c) (Set x (Binary I64 binary.Sub (Long (pos 0)) a) Stop) Stop
        (Set y (Copy b)
        (If (Local d) (Set y (Binary I64 binary.Sub (Long (pos 0)) b) Stop) Stop
        (Set c (Compare I32 Ne (Local c) (Local d))
        (Set r (Convert ExtendU (Local c))
        (Set r (Binary I64 binary.Add (Local r) (Long (pos (2 ^ 63 - 1))))
        (product_within (Local r) (Local x) (Local y) (Set r (Binary I64 binary.Mul a b) rest))))))))))

    abbrev pub mul : Kind → Operand → Operand → Code → Code
    mul Nat a b rest = wide_product (greatest Nat) a b rest
    mul Nat8 a b rest = natural binary.Mul (greatest Nat8) a b rest
    mul Nat16 a b rest = natural binary.Mul (greatest Nat16) a b rest
    mul Nat32 a b rest = natural binary.Mul (greatest Nat32) a b rest
    -- the word of 2 ^ 64 - 1
    mul Nat64 a b rest = wide_product (negsuc 0) a b rest
    mul Int a b rest = signed_product a b rest
    mul Int8 a b rest = narrow binary.Mul (neg_ℤ (least Int8)) (pos (modulus Int8 - 1)) a b rest
    mul Int16 a b rest = narrow binary.Mul (neg_ℤ (least Int16)) (pos (modulus Int16 - 1)) a b rest
    mul Int32 a b rest = narrow binary.Mul (neg_ℤ (least Int32)) (pos (modulus Int32 - 1)) a b rest
    mul Int64 a b rest = signed_product a b rest

    abbrev pub naturals_divided : BinaryOperator → Operand → Operand → Code → Code
    naturals_divided o a b rest = with_divisor b c (Set r (Binary I64 o a b) rest)

    -- a quotient of numbers with signs, which is too large only for the least number and -1
    abbrev pub signed_quotient : ℤ → Operand → Operand → Code → Code
    signed_quotient first a b rest =
        with_divisor b c
        (Set c (Compare I64 Eq a (Long first))
        (If (Local c) (Set c (Compare I64 Eq b (Long (negsuc 0))) (unless c Overflow Stop)) Stop
        (Set r (Binary I64 binary.DivS a b) rest)))

    abbrev pub div : Kind → Operand → Operand → Code → Code
    div Nat a b rest = naturals_divided binary.DivU a b rest
    div Nat8 a b rest = naturals_divided binary.DivU a b rest
    div Nat16 a b rest = naturals_divided binary.DivU a b rest
    div Nat32 a b rest = naturals_divided binary.DivU a b rest
    div Nat64 a b rest = naturals_divided binary.DivU a b rest
    div Int a b rest = signed_quotient (least Int) a b rest
    div Int8 a b rest = signed_quotient (least Int8) a b rest
    div Int16 a b rest = signed_quotient (least Int16) a b rest
    div Int32 a b rest = signed_quotient (least Int32) a b rest
    div Int64 a b rest = signed_quotient (least Int64) a b rest

    abbrev pub rem : Kind → Operand → Operand → Code → Code
    rem Nat a b rest = naturals_divided binary.RemU a b rest
    rem Nat8 a b rest = naturals_divided binary.RemU a b rest
    rem Nat16 a b rest = naturals_divided binary.RemU a b rest
    rem Nat32 a b rest = naturals_divided binary.RemU a b rest
    rem Nat64 a b rest = naturals_divided binary.RemU a b rest
    rem Int a b rest = naturals_divided binary.RemS a b rest
    rem Int8 a b rest = naturals_divided binary.RemS a b rest
    rem Int16 a b rest = naturals_divided binary.RemS a b rest
    rem Int32 a b rest = naturals_divided binary.RemS a b rest
    rem Int64 a b rest = naturals_divided binary.RemS a b rest

    -- a natural number has no negative, but 0
    abbrev pub no_negative : Operand → Code → Code
    no_negative a rest = Set c (Compare I64 Ne a (Long (pos 0))) (unless c Overflow (Set r (Copy a) rest))

    -- the least number has none
    abbrev pub signed_negative : ℤ → Operand → Code → Code
    signed_negative first a rest = Set c (Compare I64 Eq a (Long first)) (unless c Overflow (Set r (Binary I64 binary.Sub (Long (pos 0)) a) rest))

    abbrev pub negate : Kind → Operand → Code → Code
    negate Nat a rest = no_negative a rest
    negate Nat8 a rest = no_negative a rest
    negate Nat16 a rest = no_negative a rest
    negate Nat32 a rest = no_negative a rest
    negate Nat64 a rest = no_negative a rest
    negate Int a rest = signed_negative (least Int) a rest
    negate Int8 a rest = signed_negative (least Int8) a rest
    negate Int16 a rest = signed_negative (least Int16) a rest
    negate Int32 a rest = signed_negative (least Int32) a rest
    negate Int64 a rest = signed_negative (least Int64) a rest

    -- the exact result of an operator, or its trap
    abbrev pub calculate : Operator → Kind → Operand → Operand → Code → Code
    calculate operator.Add k a b rest = add k a b rest
    calculate operator.Sub k a b rest = sub k a b rest
    calculate operator.Mul k a b rest = mul k a b rest
    calculate operator.Div k a b rest = div k a b rest
    calculate operator.Rem k a b rest = rem k a b rest
    calculate operator.Pow k a b rest = Stop

-- ---- arithmetic that wraps

abbrev pub wrapping_operator : Wrapping → BinaryOperator
wrapping_operator wrapping.AddWrap = binary.Add
wrapping_operator wrapping.SubWrap = binary.Sub
wrapping_operator wrapping.MulWrap = binary.Mul

module _ (r : ℕ) where
  -- what 64 bits make of a result
  abbrev pub turned : BinaryOperator → Operand → Operand → Code → Code
  turned o a b rest = Set r (Binary I64 o a b) rest

  -- its low bits, by the greatest number of as many
  abbrev pub low_bits : BinaryOperator → ℤ → Operand → Operand → Code → Code
  low_bits o most a b rest = Set r (Binary I64 o a b) (Set r (Binary I64 binary.And (Local r) (Long most)) rest)

  -- those of the result when it is raised by half of their range, which is taken away again
  abbrev pub signed_bits : BinaryOperator → (half most : ℤ) → Operand → Operand → Code → Code
  signed_bits o half most a b rest =
      Set r (Binary I64 o a b)
      (Set r (Binary I64 binary.Add (Local r) (Long half))
      (Set r (Binary I64 binary.And (Local r) (Long most))
      (Set r (Binary I64 binary.Sub (Local r) (Long half)) rest)))

  -- at a kind with a width
  abbrev pub wrap : Wrapping → Kind → Operand → Operand → Code → Code
  wrap w Nat a b rest = Stop
  wrap w Int a b rest = Stop
  wrap w Nat8 a b rest = low_bits (wrapping_operator w) (greatest Nat8) a b rest
  wrap w Nat16 a b rest = low_bits (wrapping_operator w) (greatest Nat16) a b rest
  wrap w Nat32 a b rest = low_bits (wrapping_operator w) (greatest Nat32) a b rest
  wrap w Nat64 a b rest = turned (wrapping_operator w) a b rest
  wrap w Int8 a b rest = signed_bits (wrapping_operator w) (neg_ℤ (least Int8)) (pos (modulus Int8 - 1)) a b rest
  wrap w Int16 a b rest = signed_bits (wrapping_operator w) (neg_ℤ (least Int16)) (pos (modulus Int16 - 1)) a b rest
  wrap w Int32 a b rest = signed_bits (wrapping_operator w) (neg_ℤ (least Int32)) (pos (modulus Int32 - 1)) a b rest
  wrap w Int64 a b rest = turned (wrapping_operator w) a b rest

-- ---- order

abbrev pub signed_test : Comparison → NumericComparison
signed_test comparison.Less = LtS
signed_test comparison.LessOrEqual = LeS
signed_test comparison.Greater = GtS
signed_test comparison.GreaterOrEqual = GeS

abbrev pub unsigned_test : Comparison → NumericComparison
unsigned_test comparison.Less = LtU
unsigned_test comparison.LessOrEqual = LeU
unsigned_test comparison.Greater = GtU
unsigned_test comparison.GreaterOrEqual = GeU

-- words have the order of their numbers, but those of the kind that has numbers from 2 ^ 63 on
abbrev pub test_of : Kind → Comparison → NumericComparison
test_of Nat64 o = unsigned_test o
test_of Nat o = signed_test o
test_of Nat8 o = signed_test o
test_of Nat16 o = signed_test o
test_of Nat32 o = signed_test o
test_of Int o = signed_test o
test_of Int8 o = signed_test o
test_of Int16 o = signed_test o
test_of Int32 o = signed_test o
test_of Int64 o = signed_test o

module _ (r c : ℕ) where
  -- a truth value as a word
  abbrev pub told : NumericComparison → Operand → Operand → Code → Code
  told test a b rest = Set c (Compare I64 test a b) (Set r (Convert ExtendU (Local c)) rest)

  abbrev pub order : Comparison → Kind → Operand → Operand → Code → Code
  order o k a b rest = told (test_of k o) a b rest

  abbrev pub sameness : Operand → Operand → Code → Code
  sameness a b rest = told Eq a b rest
