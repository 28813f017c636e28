-- The forms of arithmetic.
use Rattle.std.proofs.Common.{◌≡◌, ℕ, suc, ◌-◌, ◌<◌, ◌^◌, List, [], Some, ℤ, pos, negsuc, refl, arith, FitsSigned}
use Rattle.std.specs.Prelude.{slice_get}
use Rattle.std.specs.Int.{w32, w64}
use Rattle.mo_num.specs.declared.operator.NumTrap.{NumTrap}
use Rattle.mo_num.specs.declared.operator.NumTrap.TheVariants.{Overflow, Underflow, DivideByZero}
use Rattle.wasm_tree.specs.declared.types.ValueType.{ValueType}
use Rattle.wasm_tree.specs.declared.types.ValueType.TheVariants.{I32, I64}
use Rattle.wasm_tree.specs.declared.op.Comparison.TheVariants.{Eq}
use Rattle.wasm_tree.specs.declared.op.BinaryOperator.{BinaryOperator}
use Rattle.wasm_tree.specs.declared.op.BinaryOperator.TheVariants as binary
use Rattle.low_ir.specs.declared.op.Operand.{Operand}
use Rattle.low_ir.specs.declared.op.Operand.TheVariants.{Local, Long}
use Rattle.low_ir.specs.declared.op.Operation.TheVariants.{Copy, Compare, Binary}
use Rattle.low_ir.specs.Tree.{Code, Stop, Set, If, Module}
use Rattle.low_ir.specs.Formed.{OperandIs, IsFormed}
use Rattle.number_routines.specs.declared.places.TrapPlaces.{TrapPlaces}
use Rattle.number_routines.specs.Codes.{size, fails, unless, natural, narrow, wide_sum, signed_sum, signed_difference, less, product_within, wide_product, signed_product, naturals_divided, signed_quotient, no_negative, signed_negative, turned, low_bits, signed_bits}
use Rattle.operation_forms.specs.Laws.{TrapsFit}

pub word : (n : ℕ) → n < 2 ^ 31 → FitsSigned w32 (pos n)
word n h = record { sfits = h }

pub long : (n : ℕ) → n < 2 ^ 63 → FitsSigned w64 (pos n)
long n h = record { sfits = h }

pub below_zero : (n : ℕ) → n < 2 ^ 63 → FitsSigned w64 (negsuc n)
below_zero n h = record { sfits = h }

size_fits : (t : NumTrap) → FitsSigned w32 (pos (size t))
size_fits Overflow = word 19 (omega arith)
size_fits Underflow = word 29 (omega arith)
size_fits DivideByZero = word 14 (omega arith)

module _ (m : Module) (locals results owed : List ValueType) (labels : ℕ) (at : TrapPlaces) (fit : TrapsFit at) where
  abbrev pub Formed : Code → Type 0
  Formed c = IsFormed m locals results labels owed c

  abbrev pub IsLong : ℕ → Type 0
  IsLong x = slice_get locals x ≡ Some I64

  abbrev pub IsTest : ℕ → Type 0
  IsTest x = slice_get locals x ≡ Some I32

  abbrev pub IsWord : Operand → Type 0
  IsWord a = OperandIs locals a I64

  fails_formed : (inner : ℕ) (owed : List ValueType) (t : NumTrap) → IsFormed m locals results inner owed (fails at t)
  fails_formed inner owed t = ((refl, fit t), (refl, size_fits t))

  pub unless_formed : (c : ℕ) (t : NumTrap) (rest : Code) → IsTest c → Formed rest → Formed (unless at c t rest)
  unless_formed c t rest k h = (k, fails_formed (suc labels) [] t, refl, h)

  inner_unless : (c : ℕ) (t : NumTrap) → IsTest c → IsFormed m locals results (suc labels) [] (unless at c t Stop)
  inner_unless c t k = (k, fails_formed (suc (suc labels)) [] t, refl, refl)

  module _ (r x y c d : ℕ) (a b : Operand) (rest : Code) (ir : IsLong r) (ic : IsTest c) (ia : IsWord a) (ib : IsWord b) (h : Formed rest) where
    pub natural_formed : (o : BinaryOperator) (most : ℤ) → FitsSigned w64 most → Formed (natural at r x y c d o most a b rest)
    natural_formed o most f = (I64, ir, (ia, ib, refl), (I32, ic, (ir, (refl, f), refl), unless_formed c Overflow rest ic h))

    pub narrow_formed : IsLong x → (o : BinaryOperator) (raised most : ℤ) → FitsSigned w64 raised → FitsSigned w64 most → Formed (narrow at r x y c d o raised most a b rest)
    narrow_formed ix o raised most f e = (I64, ir, (ia, ib, refl), (I64, ix, (ir, (refl, f), refl), (I32, ic, (ix, (refl, e), refl), unless_formed c Overflow rest ic h)))

    pub wide_sum_formed : Formed (wide_sum at r x y c d a b rest)
    wide_sum_formed = (I64, ir, (ia, ib, refl), (I32, ic, (ir, ia, refl), unless_formed c Overflow rest ic h))

    pub signed_sum_formed : IsTest d → Formed (signed_sum at r x y c d a b rest)
    signed_sum_formed id = (I64, ir, (ia, ib, refl), (I32, ic, (ir, ia, refl), (I32, id, (ib, (refl, long 0 (omega arith)), refl), (I32, ic, (ic, id, refl), unless_formed c Overflow rest ic h))))

    pub signed_difference_formed : IsTest d → Formed (signed_difference at r x y c d a b rest)
    signed_difference_formed id = (I64, ir, (ia, ib, refl), (I32, ic, (ia, ir, refl), (I32, id, (ib, (refl, long 0 (omega arith)), refl), (I32, ic, (ic, id, refl), unless_formed c Overflow rest ic h))))

    pub less_formed : (t : NumTrap) → Formed (less at r x y c d t a b rest)
    less_formed t = (I32, ic, (ia, ib, refl), unless_formed c t (Set r (Binary I64 binary.Sub a b) rest) ic (I64, ir, (ia, ib, refl), h))

    pub product_formed : (most : Operand) → IsWord most → Formed (product_within at r x y c d most a b rest)
    product_formed most im = (I32, ic, (ia, refl), (ic, refl, (I64, ir, (im, ia, refl), (I32, ic, (ir, ib, refl), inner_unless c Overflow ic)), h))

    pub divided_formed : (o : BinaryOperator) → Formed (naturals_divided at r x y c d o a b rest)
    divided_formed o = (I32, ic, (ib, refl), unless_formed c DivideByZero (Set r (Binary I64 o a b) rest) ic (I64, ir, (ia, ib, refl), h))

    pub quotient_formed : (first : ℤ) → FitsSigned w64 first → Formed (signed_quotient at r x y c d first a b rest)
    quotient_formed first f =
        (I32, ic, (ib, refl), unless_formed c DivideByZero (Set c (Compare I64 Eq a (Long first)) (If (Local c) (Set c (Compare I64 Eq b (Long (negsuc 0))) (unless at c Overflow Stop)) Stop (Set r (Binary I64 binary.DivS a b) rest))) ic (I32, ic, (ia, (refl, f), refl), (ic, (I32, ic, (ib, (refl, below_zero 0 (omega arith)), refl), inner_unless c Overflow ic), refl, (I64, ir, (ia, ib, refl), h))))

    pub no_negative_formed : Formed (no_negative at r x y c d a rest)
    no_negative_formed = (I32, ic, (ia, (refl, long 0 (omega arith)), refl), unless_formed c Overflow (Set r (Copy a) rest) ic (I64, ir, ia, h))

    pub negative_formed : (first : ℤ) → FitsSigned w64 first → Formed (signed_negative at r x y c d first a rest)
    negative_formed first f = (I32, ic, (ia, (refl, f), refl), unless_formed c Overflow (Set r (Binary I64 binary.Sub (Long (pos 0)) a) rest) ic (I64, ir, ((refl, long 0 (omega arith)), ia, refl), h))

    pub turned_formed : (o : BinaryOperator) → Formed (turned r o a b rest)
    turned_formed o = (I64, ir, (ia, ib, refl), h)

    pub low_bits_formed : (o : BinaryOperator) (most : ℤ) → FitsSigned w64 most → Formed (low_bits r o most a b rest)
    low_bits_formed o most f = (I64, ir, (ia, ib, refl), (I64, ir, (ir, (refl, f), refl), h))

    pub signed_bits_formed : (o : BinaryOperator) (half most : ℤ) → FitsSigned w64 half → FitsSigned w64 most → Formed (signed_bits r o half most a b rest)
    signed_bits_formed o half most f e = (I64, ir, (ia, ib, refl), (I64, ir, (ir, (refl, f), refl), (I64, ir, (ir, (refl, e), refl), (I64, ir, (ir, (refl, f), refl), h))))

  module _ (r x y c d : ℕ) (a b : Operand) (rest : Code) (ir : IsLong r) (ic : IsTest c) (ia : IsWord a) (ib : IsWord b) (h : Formed rest) where
    pub wide_product_formed : (most : ℤ) → FitsSigned w64 most → Formed (wide_product at r x y c d most a b rest)
    wide_product_formed most f = product_formed r x y c d a b (Set r (Binary I64 binary.Mul a b) rest) ir ic ia ib (I64, ir, (ia, ib, refl), h) (Long most) (refl, f)

    pub signed_product_formed : IsLong x → IsLong y → IsTest d → Formed (signed_product at r x y c d a b rest)
    signed_product_formed ix iy id = (
      I32,
      ic,
      (ia, (refl, long 0 (omega arith)), refl),
      (
        I32,
        id,
        (ib, (refl, long 0 (omega arith)), refl),
        (
          I64,
          ix,
          ia,
          (
            ic,
            (I64, ix, ((refl, long 0 (omega arith)), ia, refl), refl),
            refl,
            (
              I64,
              iy,
              ib,
              (
                id,
                (I64, iy, ((refl, long 0 (omega arith)), ib, refl), refl),
                refl,
                (
                  I32,
                  ic,
                  (ic, id, refl),
                  (
                    I64,
                    ir,
                    (ic, refl),
                    (
                      I64,
                      ir,
                      (ir, (refl, long (2 ^ 63 - 1) (omega arith)), refl),
                      product_formed r x y c d (Local x) (Local y) (Set r (Binary I64 binary.Mul a b) rest) ir ic ix iy (I64, ir, (ia, ib, refl), h) (Local r) ir,
                    ),
                  ),
                ),
              ),
            ),
          ),
        ),
      ),
    )
