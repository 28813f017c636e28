-- Arithmetic at each kind, inline and as routines.
use Rattle.std.proofs.Common.{◌≡◌, ℕ, ◌+◌, ◌-◌, ◌^◌, List, [], ◌∷◌, Bool, true, false, cond, nat_eq, Some, ℤ, pos, negsuc, refl, arith, FitsSigned}
use Rattle.std.specs.Prelude.{slice_get}
use Rattle.std.specs.Int.{w64}
use Rattle.mo_num.specs.declared.kind.Kind.{Kind}
use Rattle.mo_num.specs.declared.kind.Kind.TheVariants.{Nat, Int, Nat8, Nat16, Nat32, Nat64, Int8, Int16, Int32, Int64}
use Rattle.mo_num.specs.declared.operator.Operator.{Operator}
use Rattle.mo_num.specs.declared.operator.Operator.TheVariants as operator
use Rattle.mo_num.specs.declared.operator.NumTrap.TheVariants.{Overflow}
use Rattle.mo_num.specs.Arith.{below}
use Rattle.mo_values.specs.declared.operation.Wrapping.{Wrapping}
use Rattle.wasm_tree.specs.declared.types.ValueType.{ValueType}
use Rattle.wasm_tree.specs.declared.types.ValueType.TheVariants.{I32, I64}
use Rattle.wasm_tree.specs.declared.op.BinaryOperator.TheVariants as binary
use Rattle.low_ir.specs.declared.op.Operand.{Operand}
use Rattle.low_ir.specs.declared.op.Operand.TheVariants.{Local}
use Rattle.low_ir.specs.declared.op.Operation.TheVariants.{Binary}
use Rattle.low_ir.specs.Tree.{Code, Stop, Branch, Set, Module}
use Rattle.low_ir.specs.Numbering.{all_types}
use Rattle.low_ir.specs.Formed.{OperandIs, IsFormed, FunctionIsFormed}
use Rattle.number_routines.specs.declared.places.TrapPlaces.{TrapPlaces}
use Rattle.number_routines.specs.Codes.{calculate, negate, wrap, wrapping_operator}
use Rattle.number_routines.specs.Powers.{sized, with_sign, squares, multiplies, digit, raised, natural_power, signed_power, power}
use Rattle.number_lines.specs.Laws.{arithmetic_routine}
use Rattle.operation_codes.specs.Codes.{Way, Inline, Spare, Calls, way, at_once, made_in, settle, copies, returns, inline_one, inline_two, inline_spare}
use Rattle.operation_forms.specs.Laws.{of_words, TrapsFit, LocalsFit, IsCalled}
use Rattle.operation_forms.proofs.Forms.{long, below_zero, unless_formed, product_formed, natural_formed, narrow_formed, wide_sum_formed, signed_sum_formed, signed_difference_formed, less_formed, wide_product_formed, signed_product_formed, divided_formed, quotient_formed, no_negative_formed, negative_formed, turned_formed, low_bits_formed, signed_bits_formed}

-- ---- in the locals of a function

module _ (m : Module) (locals results : List ValueType) (labels : ℕ) (at : TrapPlaces) (fit : TrapsFit at) (to free : ℕ) (there : LocalsFit locals to free) where
  abbrev pub Formed : Code → Type 0
  Formed c = IsFormed m locals results labels [] c

  copied_local : (x : ℕ) → slice_get locals x ≡ Some I64 → (t : Bool) → Formed (cond t Stop (copies to (Local x)))
  copied_local x e true = refl
  copied_local x e false = (I64, there.value, e, refl)

  pub settled : (x : ℕ) → slice_get locals x ≡ Some I64 → Formed (settle to (Local x))
  settled x e = copied_local x e (nat_eq x to)

  either_word : (t : Bool) → slice_get locals (cond t to (2 + free)) ≡ Some I64
  either_word true = there.value
  either_word false = there.third

  module _ (a : Operand) (ia : OperandIs locals a I64) where
    abbrev r : ℕ
    r = made_in to free (a ∷ [])

    ir : slice_get locals r ≡ Some I64
    ir = either_word (at_once to free (a ∷ []))

    pub negated : (k : Kind) → Formed (inline_one to free a (negate at 1 2 3 4 5 k))
    negated Nat = no_negative_formed m locals results [] labels at fit r 2 3 free (1 + free) a a (settle to (Local r)) ir there.first ia ia (settled r ir)
    negated Int = negative_formed m locals results [] labels at fit r 2 3 free (1 + free) a a (settle to (Local r)) ir there.first ia ia (settled r ir) (negsuc (2 ^ 63 - 1)) (below_zero (2 ^ 63 - 1) (omega arith))
    negated Nat8 = no_negative_formed m locals results [] labels at fit r 2 3 free (1 + free) a a (settle to (Local r)) ir there.first ia ia (settled r ir)
    negated Nat16 = no_negative_formed m locals results [] labels at fit r 2 3 free (1 + free) a a (settle to (Local r)) ir there.first ia ia (settled r ir)
    negated Nat32 = no_negative_formed m locals results [] labels at fit r 2 3 free (1 + free) a a (settle to (Local r)) ir there.first ia ia (settled r ir)
    negated Nat64 = no_negative_formed m locals results [] labels at fit r 2 3 free (1 + free) a a (settle to (Local r)) ir there.first ia ia (settled r ir)
    negated Int8 = negative_formed m locals results [] labels at fit r 2 3 free (1 + free) a a (settle to (Local r)) ir there.first ia ia (settled r ir) (negsuc (2 ^ 7 - 1)) (below_zero (2 ^ 7 - 1) (omega arith))
    negated Int16 = negative_formed m locals results [] labels at fit r 2 3 free (1 + free) a a (settle to (Local r)) ir there.first ia ia (settled r ir) (negsuc (2 ^ 15 - 1)) (below_zero (2 ^ 15 - 1) (omega arith))
    negated Int32 = negative_formed m locals results [] labels at fit r 2 3 free (1 + free) a a (settle to (Local r)) ir there.first ia ia (settled r ir) (negsuc (2 ^ 31 - 1)) (below_zero (2 ^ 31 - 1) (omega arith))
    negated Int64 = negative_formed m locals results [] labels at fit r 2 3 free (1 + free) a a (settle to (Local r)) ir there.first ia ia (settled r ir) (negsuc (2 ^ 63 - 1)) (below_zero (2 ^ 63 - 1) (omega arith))

  module _ (a b : Operand) (ia : OperandIs locals a I64) (ib : OperandIs locals b I64) where
    abbrev s : ℕ
    s = made_in to free (a ∷ b ∷ [])

    is : slice_get locals s ≡ Some I64
    is = either_word (at_once to free (a ∷ b ∷ []))

    pub wrapped : (w : Wrapping) (k : Kind) → Formed (inline_two to free a b (wrap 2 w k))
    wrapped w Nat = refl
    wrapped w Int = refl
    wrapped w Nat8 = low_bits_formed m locals results [] labels at fit s 3 4 free (1 + free) a b (settle to (Local s)) is there.first ia ib (settled s is) (wrapping_operator w) (pos (2 ^ 8 - 1)) (long (2 ^ 8 - 1) (omega arith))
    wrapped w Nat16 = low_bits_formed m locals results [] labels at fit s 3 4 free (1 + free) a b (settle to (Local s)) is there.first ia ib (settled s is) (wrapping_operator w) (pos (2 ^ 16 - 1)) (long (2 ^ 16 - 1) (omega arith))
    wrapped w Nat32 = low_bits_formed m locals results [] labels at fit s 3 4 free (1 + free) a b (settle to (Local s)) is there.first ia ib (settled s is) (wrapping_operator w) (pos (2 ^ 32 - 1)) (long (2 ^ 32 - 1) (omega arith))
    wrapped w Nat64 = turned_formed m locals results [] labels at fit s 3 4 free (1 + free) a b (settle to (Local s)) is there.first ia ib (settled s is) (wrapping_operator w)
    wrapped w Int8 = signed_bits_formed m locals results [] labels at fit s 3 4 free (1 + free) a b (settle to (Local s)) is there.first ia ib (settled s is) (wrapping_operator w) (pos (2 ^ 7)) (pos (2 ^ 8 - 1)) (long (2 ^ 7) (omega arith)) (long (2 ^ 8 - 1) (omega arith))
    wrapped w Int16 = signed_bits_formed m locals results [] labels at fit s 3 4 free (1 + free) a b (settle to (Local s)) is there.first ia ib (settled s is) (wrapping_operator w) (pos (2 ^ 15)) (pos (2 ^ 16 - 1)) (long (2 ^ 15) (omega arith)) (long (2 ^ 16 - 1) (omega arith))
    wrapped w Int32 = signed_bits_formed m locals results [] labels at fit s 3 4 free (1 + free) a b (settle to (Local s)) is there.first ia ib (settled s is) (wrapping_operator w) (pos (2 ^ 31)) (pos (2 ^ 32 - 1)) (long (2 ^ 31) (omega arith)) (long (2 ^ 32 - 1) (omega arith))
    wrapped w Int64 = turned_formed m locals results [] labels at fit s 3 4 free (1 + free) a b (settle to (Local s)) is there.first ia ib (settled s is) (wrapping_operator w)

    abbrev pub AsWay : Way → Operator → Kind → Type 0
    AsWay Inline o k = Formed (inline_two to free a b (calculate at 2 3 4 5 6 o k))
    AsWay Spare o k = Formed (inline_spare to free a b (calculate at 2 3 4 5 6 o k))
    AsWay Calls o k = Unit {0}

    id : slice_get locals (1 + free) ≡ Some I32
    id = there.second

    ix : slice_get locals (2 + free) ≡ Some I64
    ix = there.third

    pub calculated : (o : Operator) (k : Kind) → AsWay (way o k) o k
    calculated operator.Add Nat = natural_formed m locals results [] labels at fit s 3 4 free (1 + free) a b (settle to (Local s)) is there.first ia ib (settled s is) binary.Add (pos (2 ^ 63 - 1)) (long (2 ^ 63 - 1) (omega arith))
    calculated operator.Add Int = signed_sum_formed m locals results [] labels at fit s 3 4 free (1 + free) a b (settle to (Local s)) is there.first ia ib (settled s is) id
    calculated operator.Add Nat8 = natural_formed m locals results [] labels at fit s 3 4 free (1 + free) a b (settle to (Local s)) is there.first ia ib (settled s is) binary.Add (pos (2 ^ 8 - 1)) (long (2 ^ 8 - 1) (omega arith))
    calculated operator.Add Nat16 = natural_formed m locals results [] labels at fit s 3 4 free (1 + free) a b (settle to (Local s)) is there.first ia ib (settled s is) binary.Add (pos (2 ^ 16 - 1)) (long (2 ^ 16 - 1) (omega arith))
    calculated operator.Add Nat32 = natural_formed m locals results [] labels at fit s 3 4 free (1 + free) a b (settle to (Local s)) is there.first ia ib (settled s is) binary.Add (pos (2 ^ 32 - 1)) (long (2 ^ 32 - 1) (omega arith))
    calculated operator.Add Nat64 = wide_sum_formed m locals results [] labels at fit s 3 4 free (1 + free) a b (settle to (Local s)) is there.first ia ib (settled s is)
    calculated operator.Add Int8 = narrow_formed m locals results [] labels at fit to (2 + free) 4 free (1 + free) a b (settle to (Local to)) there.value there.first ia ib (settled to there.value) ix binary.Add (pos (2 ^ 7)) (pos (2 ^ 8 - 1)) (long (2 ^ 7) (omega arith)) (long (2 ^ 8 - 1) (omega arith))
    calculated operator.Add Int16 = narrow_formed m locals results [] labels at fit to (2 + free) 4 free (1 + free) a b (settle to (Local to)) there.value there.first ia ib (settled to there.value) ix binary.Add (pos (2 ^ 15)) (pos (2 ^ 16 - 1)) (long (2 ^ 15) (omega arith)) (long (2 ^ 16 - 1) (omega arith))
    calculated operator.Add Int32 = narrow_formed m locals results [] labels at fit to (2 + free) 4 free (1 + free) a b (settle to (Local to)) there.value there.first ia ib (settled to there.value) ix binary.Add (pos (2 ^ 31)) (pos (2 ^ 32 - 1)) (long (2 ^ 31) (omega arith)) (long (2 ^ 32 - 1) (omega arith))
    calculated operator.Add Int64 = signed_sum_formed m locals results [] labels at fit s 3 4 free (1 + free) a b (settle to (Local s)) is there.first ia ib (settled s is) id
    calculated operator.Sub Nat = less_formed m locals results [] labels at fit s 3 4 free (1 + free) a b (settle to (Local s)) is there.first ia ib (settled s is) (below Nat)
    calculated operator.Sub Int = signed_difference_formed m locals results [] labels at fit s 3 4 free (1 + free) a b (settle to (Local s)) is there.first ia ib (settled s is) id
    calculated operator.Sub Nat8 = less_formed m locals results [] labels at fit s 3 4 free (1 + free) a b (settle to (Local s)) is there.first ia ib (settled s is) (below Nat8)
    calculated operator.Sub Nat16 = less_formed m locals results [] labels at fit s 3 4 free (1 + free) a b (settle to (Local s)) is there.first ia ib (settled s is) (below Nat16)
    calculated operator.Sub Nat32 = less_formed m locals results [] labels at fit s 3 4 free (1 + free) a b (settle to (Local s)) is there.first ia ib (settled s is) (below Nat32)
    calculated operator.Sub Nat64 = less_formed m locals results [] labels at fit s 3 4 free (1 + free) a b (settle to (Local s)) is there.first ia ib (settled s is) (below Nat64)
    calculated operator.Sub Int8 = narrow_formed m locals results [] labels at fit to (2 + free) 4 free (1 + free) a b (settle to (Local to)) there.value there.first ia ib (settled to there.value) ix binary.Sub (pos (2 ^ 7)) (pos (2 ^ 8 - 1)) (long (2 ^ 7) (omega arith)) (long (2 ^ 8 - 1) (omega arith))
    calculated operator.Sub Int16 = narrow_formed m locals results [] labels at fit to (2 + free) 4 free (1 + free) a b (settle to (Local to)) there.value there.first ia ib (settled to there.value) ix binary.Sub (pos (2 ^ 15)) (pos (2 ^ 16 - 1)) (long (2 ^ 15) (omega arith)) (long (2 ^ 16 - 1) (omega arith))
    calculated operator.Sub Int32 = narrow_formed m locals results [] labels at fit to (2 + free) 4 free (1 + free) a b (settle to (Local to)) there.value there.first ia ib (settled to there.value) ix binary.Sub (pos (2 ^ 31)) (pos (2 ^ 32 - 1)) (long (2 ^ 31) (omega arith)) (long (2 ^ 32 - 1) (omega arith))
    calculated operator.Sub Int64 = signed_difference_formed m locals results [] labels at fit s 3 4 free (1 + free) a b (settle to (Local s)) is there.first ia ib (settled s is) id
    calculated operator.Mul Nat = wide_product_formed m locals results [] labels at fit s 3 4 free (1 + free) a b (settle to (Local s)) is there.first ia ib (settled s is) (pos (2 ^ 63 - 1)) (long (2 ^ 63 - 1) (omega arith))
    calculated operator.Mul Int = tt
    calculated operator.Mul Nat8 = natural_formed m locals results [] labels at fit s 3 4 free (1 + free) a b (settle to (Local s)) is there.first ia ib (settled s is) binary.Mul (pos (2 ^ 8 - 1)) (long (2 ^ 8 - 1) (omega arith))
    calculated operator.Mul Nat16 = natural_formed m locals results [] labels at fit s 3 4 free (1 + free) a b (settle to (Local s)) is there.first ia ib (settled s is) binary.Mul (pos (2 ^ 16 - 1)) (long (2 ^ 16 - 1) (omega arith))
    calculated operator.Mul Nat32 = natural_formed m locals results [] labels at fit s 3 4 free (1 + free) a b (settle to (Local s)) is there.first ia ib (settled s is) binary.Mul (pos (2 ^ 32 - 1)) (long (2 ^ 32 - 1) (omega arith))
    calculated operator.Mul Nat64 = wide_product_formed m locals results [] labels at fit s 3 4 free (1 + free) a b (settle to (Local s)) is there.first ia ib (settled s is) (negsuc 0) (below_zero 0 (omega arith))
    calculated operator.Mul Int8 = narrow_formed m locals results [] labels at fit to (2 + free) 4 free (1 + free) a b (settle to (Local to)) there.value there.first ia ib (settled to there.value) ix binary.Mul (pos (2 ^ 7)) (pos (2 ^ 8 - 1)) (long (2 ^ 7) (omega arith)) (long (2 ^ 8 - 1) (omega arith))
    calculated operator.Mul Int16 = narrow_formed m locals results [] labels at fit to (2 + free) 4 free (1 + free) a b (settle to (Local to)) there.value there.first ia ib (settled to there.value) ix binary.Mul (pos (2 ^ 15)) (pos (2 ^ 16 - 1)) (long (2 ^ 15) (omega arith)) (long (2 ^ 16 - 1) (omega arith))
    calculated operator.Mul Int32 = narrow_formed m locals results [] labels at fit to (2 + free) 4 free (1 + free) a b (settle to (Local to)) there.value there.first ia ib (settled to there.value) ix binary.Mul (pos (2 ^ 31)) (pos (2 ^ 32 - 1)) (long (2 ^ 31) (omega arith)) (long (2 ^ 32 - 1) (omega arith))
    calculated operator.Mul Int64 = tt
    calculated operator.Div Nat = divided_formed m locals results [] labels at fit s 3 4 free (1 + free) a b (settle to (Local s)) is there.first ia ib (settled s is) binary.DivU
    calculated operator.Div Int = quotient_formed m locals results [] labels at fit s 3 4 free (1 + free) a b (settle to (Local s)) is there.first ia ib (settled s is) (negsuc (2 ^ 63 - 1)) (below_zero (2 ^ 63 - 1) (omega arith))
    calculated operator.Div Nat8 = divided_formed m locals results [] labels at fit s 3 4 free (1 + free) a b (settle to (Local s)) is there.first ia ib (settled s is) binary.DivU
    calculated operator.Div Nat16 = divided_formed m locals results [] labels at fit s 3 4 free (1 + free) a b (settle to (Local s)) is there.first ia ib (settled s is) binary.DivU
    calculated operator.Div Nat32 = divided_formed m locals results [] labels at fit s 3 4 free (1 + free) a b (settle to (Local s)) is there.first ia ib (settled s is) binary.DivU
    calculated operator.Div Nat64 = divided_formed m locals results [] labels at fit s 3 4 free (1 + free) a b (settle to (Local s)) is there.first ia ib (settled s is) binary.DivU
    calculated operator.Div Int8 = quotient_formed m locals results [] labels at fit s 3 4 free (1 + free) a b (settle to (Local s)) is there.first ia ib (settled s is) (negsuc (2 ^ 7 - 1)) (below_zero (2 ^ 7 - 1) (omega arith))
    calculated operator.Div Int16 = quotient_formed m locals results [] labels at fit s 3 4 free (1 + free) a b (settle to (Local s)) is there.first ia ib (settled s is) (negsuc (2 ^ 15 - 1)) (below_zero (2 ^ 15 - 1) (omega arith))
    calculated operator.Div Int32 = quotient_formed m locals results [] labels at fit s 3 4 free (1 + free) a b (settle to (Local s)) is there.first ia ib (settled s is) (negsuc (2 ^ 31 - 1)) (below_zero (2 ^ 31 - 1) (omega arith))
    calculated operator.Div Int64 = quotient_formed m locals results [] labels at fit s 3 4 free (1 + free) a b (settle to (Local s)) is there.first ia ib (settled s is) (negsuc (2 ^ 63 - 1)) (below_zero (2 ^ 63 - 1) (omega arith))
    calculated operator.Rem Nat = divided_formed m locals results [] labels at fit s 3 4 free (1 + free) a b (settle to (Local s)) is there.first ia ib (settled s is) binary.RemU
    calculated operator.Rem Int = divided_formed m locals results [] labels at fit s 3 4 free (1 + free) a b (settle to (Local s)) is there.first ia ib (settled s is) binary.RemS
    calculated operator.Rem Nat8 = divided_formed m locals results [] labels at fit s 3 4 free (1 + free) a b (settle to (Local s)) is there.first ia ib (settled s is) binary.RemU
    calculated operator.Rem Nat16 = divided_formed m locals results [] labels at fit s 3 4 free (1 + free) a b (settle to (Local s)) is there.first ia ib (settled s is) binary.RemU
    calculated operator.Rem Nat32 = divided_formed m locals results [] labels at fit s 3 4 free (1 + free) a b (settle to (Local s)) is there.first ia ib (settled s is) binary.RemU
    calculated operator.Rem Nat64 = divided_formed m locals results [] labels at fit s 3 4 free (1 + free) a b (settle to (Local s)) is there.first ia ib (settled s is) binary.RemU
    calculated operator.Rem Int8 = divided_formed m locals results [] labels at fit s 3 4 free (1 + free) a b (settle to (Local s)) is there.first ia ib (settled s is) binary.RemS
    calculated operator.Rem Int16 = divided_formed m locals results [] labels at fit s 3 4 free (1 + free) a b (settle to (Local s)) is there.first ia ib (settled s is) binary.RemS
    calculated operator.Rem Int32 = divided_formed m locals results [] labels at fit s 3 4 free (1 + free) a b (settle to (Local s)) is there.first ia ib (settled s is) binary.RemS
    calculated operator.Rem Int64 = divided_formed m locals results [] labels at fit s 3 4 free (1 + free) a b (settle to (Local s)) is there.first ia ib (settled s is) binary.RemS
    calculated operator.Pow k = tt

-- ---- as routines

module _ (m : Module) (at : TrapPlaces) (fit : TrapsFit at) (signature : ℕ) (typed : slice_get (all_types m) signature ≡ Some of_words) where
  abbrev kinds : List ValueType
  kinds = I64 ∷ I64 ∷ I64 ∷ I64 ∷ I64 ∷ I32 ∷ I32 ∷ []

  -- ---- powers

  abbrev At : ℕ → List ValueType → Code → Type 0
  At labels owed c = IsFormed m kinds (I64 ∷ []) labels owed c

  Zero : FitsSigned w64 (pos 0)
  Zero = long 0 (omega arith)

  One : FitsSigned w64 (pos 1)
  One = long 1 (omega arith)

  multiplies_formed : At 3 [] (multiplies at)
  multiplies_formed = product_formed m kinds (I64 ∷ []) [] 3 at fit 0 3 4 5 6 (Local 2) (Local 3) (Set 2 (Binary I64 binary.Mul (Local 2) (Local 3)) Stop) refl refl refl refl (I64, refl, (refl, refl, refl), refl) (Local 4) refl

  squares_formed : At 2 [] (squares at)
  squares_formed = (
    I64,
    refl,
    (refl, (refl, One), refl),
    (
      I32,
      refl,
      (refl, refl),
      (
        refl,
        omega arith,
        product_formed m kinds (I64 ∷ []) [] 2 at fit 0 3 4 5 6 (Local 3) (Local 3) (Set 3 (Binary I64 binary.Mul (Local 3) (Local 3)) (Branch 0)) refl refl refl refl (I64, refl, (refl, refl, refl), omega arith) (Local 4) refl,
      ),
    ),
  )

  digit_formed : At 2 [] (digit at)
  digit_formed = (I64, refl, (refl, (refl, One), refl), (I32, refl, (refl, refl), (refl, multiplies_formed, refl, squares_formed)))

  raised_formed : (rest : Code) → At 0 (I64 ∷ []) rest → At 0 (I64 ∷ []) (raised at rest)
  raised_formed rest h = (I64, refl, (refl, One), ((I32, refl, (refl, refl), (refl, omega arith, (digit_formed, refl))), h))

  natural_power_formed : (most : ℤ) → FitsSigned w64 most → At 0 (I64 ∷ []) (natural_power at most)
  natural_power_formed most f = (I64, refl, refl, (I64, refl, (refl, f), raised_formed (returns 2) (I64, refl, refl)))

  sign_formed : At 0 (I64 ∷ []) with_sign
  sign_formed = (refl, (I64, refl, ((refl, Zero), refl, refl), refl), refl, (I64, refl, refl))

  sized_formed : (last : ℤ) → FitsSigned w64 last → (rest : Code) → At 0 (I64 ∷ []) rest → At 0 (I64 ∷ []) (sized last rest)
  sized_formed last f rest h = (
    I64,
    refl,
    refl,
    (
      I32,
      refl,
      (refl, (refl, Zero), refl),
      (
        refl,
        (I64, refl, ((refl, Zero), refl, refl), (I64, refl, (refl, (refl, One), refl), (I32, refl, (refl, refl), refl))),
        refl,
        (I64, refl, (refl, refl), (I64, refl, (refl, (refl, f), refl), h)),
      ),
    ),
  )

  signed_power_formed : (last : ℤ) → FitsSigned w64 last → At 0 (I64 ∷ []) (signed_power at last)
  signed_power_formed last f = (
    I32,
    refl,
    (refl, (refl, Zero), refl),
    unless_formed m kinds (I64 ∷ []) (I64 ∷ []) 0 at fit 5 Overflow (sized last (raised at with_sign)) refl (sized_formed last f (raised at with_sign) (raised_formed with_sign sign_formed)),
  )

  -- ---- all that are called

  abbrev body_of : Operator → Kind → Code
  body_of operator.Pow k = power at k
  body_of o k = calculate at 2 3 4 5 6 o k (Local 0) (Local 1) (returns 2)

  abbrev Routine : Way → Operator → Kind → Type 0
  Routine Inline o k = Unit {0}
  Routine w o k = IsFormed m kinds (I64 ∷ []) 0 (I64 ∷ []) (body_of o k)

  body : (o : Operator) (k : Kind) → Routine (way o k) o k
  body operator.Add Nat = tt
  body operator.Add Int = tt
  body operator.Add Nat8 = tt
  body operator.Add Nat16 = tt
  body operator.Add Nat32 = tt
  body operator.Add Nat64 = tt
  body operator.Add Int8 = narrow_formed m kinds (I64 ∷ []) (I64 ∷ []) 0 at fit 2 3 4 5 6 (Local 0) (Local 1) (returns 2) refl refl refl refl (I64, refl, refl) refl binary.Add (pos (2 ^ 7)) (pos (2 ^ 8 - 1)) (long (2 ^ 7) (omega arith)) (long (2 ^ 8 - 1) (omega arith))
  body operator.Add Int16 = narrow_formed m kinds (I64 ∷ []) (I64 ∷ []) 0 at fit 2 3 4 5 6 (Local 0) (Local 1) (returns 2) refl refl refl refl (I64, refl, refl) refl binary.Add (pos (2 ^ 15)) (pos (2 ^ 16 - 1)) (long (2 ^ 15) (omega arith)) (long (2 ^ 16 - 1) (omega arith))
  body operator.Add Int32 = narrow_formed m kinds (I64 ∷ []) (I64 ∷ []) 0 at fit 2 3 4 5 6 (Local 0) (Local 1) (returns 2) refl refl refl refl (I64, refl, refl) refl binary.Add (pos (2 ^ 31)) (pos (2 ^ 32 - 1)) (long (2 ^ 31) (omega arith)) (long (2 ^ 32 - 1) (omega arith))
  body operator.Add Int64 = tt
  body operator.Sub Nat = tt
  body operator.Sub Int = tt
  body operator.Sub Nat8 = tt
  body operator.Sub Nat16 = tt
  body operator.Sub Nat32 = tt
  body operator.Sub Nat64 = tt
  body operator.Sub Int8 = narrow_formed m kinds (I64 ∷ []) (I64 ∷ []) 0 at fit 2 3 4 5 6 (Local 0) (Local 1) (returns 2) refl refl refl refl (I64, refl, refl) refl binary.Sub (pos (2 ^ 7)) (pos (2 ^ 8 - 1)) (long (2 ^ 7) (omega arith)) (long (2 ^ 8 - 1) (omega arith))
  body operator.Sub Int16 = narrow_formed m kinds (I64 ∷ []) (I64 ∷ []) 0 at fit 2 3 4 5 6 (Local 0) (Local 1) (returns 2) refl refl refl refl (I64, refl, refl) refl binary.Sub (pos (2 ^ 15)) (pos (2 ^ 16 - 1)) (long (2 ^ 15) (omega arith)) (long (2 ^ 16 - 1) (omega arith))
  body operator.Sub Int32 = narrow_formed m kinds (I64 ∷ []) (I64 ∷ []) 0 at fit 2 3 4 5 6 (Local 0) (Local 1) (returns 2) refl refl refl refl (I64, refl, refl) refl binary.Sub (pos (2 ^ 31)) (pos (2 ^ 32 - 1)) (long (2 ^ 31) (omega arith)) (long (2 ^ 32 - 1) (omega arith))
  body operator.Sub Int64 = tt
  body operator.Mul Nat = tt
  body operator.Mul Int = signed_product_formed m kinds (I64 ∷ []) (I64 ∷ []) 0 at fit 2 3 4 5 6 (Local 0) (Local 1) (returns 2) refl refl refl refl (I64, refl, refl) refl refl refl
  body operator.Mul Nat8 = tt
  body operator.Mul Nat16 = tt
  body operator.Mul Nat32 = tt
  body operator.Mul Nat64 = tt
  body operator.Mul Int8 = narrow_formed m kinds (I64 ∷ []) (I64 ∷ []) 0 at fit 2 3 4 5 6 (Local 0) (Local 1) (returns 2) refl refl refl refl (I64, refl, refl) refl binary.Mul (pos (2 ^ 7)) (pos (2 ^ 8 - 1)) (long (2 ^ 7) (omega arith)) (long (2 ^ 8 - 1) (omega arith))
  body operator.Mul Int16 = narrow_formed m kinds (I64 ∷ []) (I64 ∷ []) 0 at fit 2 3 4 5 6 (Local 0) (Local 1) (returns 2) refl refl refl refl (I64, refl, refl) refl binary.Mul (pos (2 ^ 15)) (pos (2 ^ 16 - 1)) (long (2 ^ 15) (omega arith)) (long (2 ^ 16 - 1) (omega arith))
  body operator.Mul Int32 = narrow_formed m kinds (I64 ∷ []) (I64 ∷ []) 0 at fit 2 3 4 5 6 (Local 0) (Local 1) (returns 2) refl refl refl refl (I64, refl, refl) refl binary.Mul (pos (2 ^ 31)) (pos (2 ^ 32 - 1)) (long (2 ^ 31) (omega arith)) (long (2 ^ 32 - 1) (omega arith))
  body operator.Mul Int64 = signed_product_formed m kinds (I64 ∷ []) (I64 ∷ []) 0 at fit 2 3 4 5 6 (Local 0) (Local 1) (returns 2) refl refl refl refl (I64, refl, refl) refl refl refl
  body operator.Div Nat = tt
  body operator.Div Int = tt
  body operator.Div Nat8 = tt
  body operator.Div Nat16 = tt
  body operator.Div Nat32 = tt
  body operator.Div Nat64 = tt
  body operator.Div Int8 = tt
  body operator.Div Int16 = tt
  body operator.Div Int32 = tt
  body operator.Div Int64 = tt
  body operator.Rem Nat = tt
  body operator.Rem Int = tt
  body operator.Rem Nat8 = tt
  body operator.Rem Nat16 = tt
  body operator.Rem Nat32 = tt
  body operator.Rem Nat64 = tt
  body operator.Rem Int8 = tt
  body operator.Rem Int16 = tt
  body operator.Rem Int32 = tt
  body operator.Rem Int64 = tt
  body operator.Pow Nat = natural_power_formed (pos (2 ^ 63 - 1)) (long (2 ^ 63 - 1) (omega arith))
  body operator.Pow Int = signed_power_formed (pos (2 ^ 63 - 1)) (long (2 ^ 63 - 1) (omega arith))
  body operator.Pow Nat8 = natural_power_formed (pos (2 ^ 8 - 1)) (long (2 ^ 8 - 1) (omega arith))
  body operator.Pow Nat16 = natural_power_formed (pos (2 ^ 16 - 1)) (long (2 ^ 16 - 1) (omega arith))
  body operator.Pow Nat32 = natural_power_formed (pos (2 ^ 32 - 1)) (long (2 ^ 32 - 1) (omega arith))
  body operator.Pow Nat64 = natural_power_formed (negsuc 0) (below_zero 0 (omega arith))
  body operator.Pow Int8 = signed_power_formed (pos (2 ^ 7 - 1)) (long (2 ^ 7 - 1) (omega arith))
  body operator.Pow Int16 = signed_power_formed (pos (2 ^ 15 - 1)) (long (2 ^ 15 - 1) (omega arith))
  body operator.Pow Int32 = signed_power_formed (pos (2 ^ 31 - 1)) (long (2 ^ 31 - 1) (omega arith))
  body operator.Pow Int64 = signed_power_formed (pos (2 ^ 63 - 1)) (long (2 ^ 63 - 1) (omega arith))

  formed_by : (w : Way) → IsCalled w → (o : Operator) (k : Kind) → Routine w o k → IsFormed m kinds (I64 ∷ []) 0 (I64 ∷ []) (body_of o k)
  formed_by Inline c o k h = absurd c
  formed_by Spare c o k h = h
  formed_by Calls c o k h = h

  pub routine_formed : (o : Operator) (k : Kind) → IsCalled (way o k) → FunctionIsFormed m (arithmetic_routine signature at o k)
  routine_formed operator.Add k c = record { type = of_words; is = typed; few = omega arith; body = formed_by (way operator.Add k) c operator.Add k (body operator.Add k) }
  routine_formed operator.Sub k c = record { type = of_words; is = typed; few = omega arith; body = formed_by (way operator.Sub k) c operator.Sub k (body operator.Sub k) }
  routine_formed operator.Mul k c = record { type = of_words; is = typed; few = omega arith; body = formed_by (way operator.Mul k) c operator.Mul k (body operator.Mul k) }
  routine_formed operator.Div k c = absurd c
  routine_formed operator.Rem k c = absurd c
  routine_formed operator.Pow k c = record { type = of_words; is = typed; few = omega arith; body = formed_by (way operator.Pow k) c operator.Pow k (body operator.Pow k) }
