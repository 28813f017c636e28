-- The laws, as statements: calls of the routines in a module that has them, with a depth and stack words for their frames.
use Rattle.std.specs.Prelude.{⊤, ◌≡◌, ◌≤◌, ℕ, true, List, [], ◌∷◌, Some, ℤ, int_lt}
use Rattle.std.specs.Ordering.{int_eq}
use Rattle.mo_num.specs.declared.kind.Kind.{Kind}
use Rattle.mo_num.specs.declared.operator.Operator.{Operator}
use Rattle.mo_num.specs.declared.operator.Operator.TheVariants as operator
use Rattle.mo_num.specs.Kinds.{InRange}
use Rattle.mo_num.specs.Arith.{Arith, Negation}
use Rattle.mo_values.specs.declared.operation.Comparison.{Comparison}
use Rattle.mo_values.specs.declared.operation.Wrapping.{Wrapping}
use Rattle.mo_values.specs.Numbers.{has_width, exact, wrapped, compared}
use Rattle.wasm_tree.specs.declared.types.ValueType.{ValueType}
use Rattle.wasm_tree.specs.declared.types.ValueType.TheVariants.{I64}
use Rattle.wasm_tree.specs.Exec.{Store, Host, bits64}
use Rattle.low_ir.specs.Tree.{Function, Module}
use Rattle.low_ir.specs.Numbering.{type_of, defined}
use Rattle.low_ir.specs.Frames.{enter}
use Rattle.low_rules.specs.Rule.{ComesTo}
use Rattle.number_routines.specs.declared.places.TrapPlaces.{TrapPlaces}
use Rattle.number_routines.specs.Codes.{negate, wrap, order, sameness, calculate}
use Rattle.number_routines.specs.Powers.{power_routine}
use Rattle.number_routines.specs.Lines.{long_of, of_one, of_two, Results, Answers, Tells}

-- The operators whose code has no loop.
abbrev pub IsStraight : Operator → Type 0
IsStraight operator.Pow = ⊥
IsStraight _ = ⊤

-- The function of this number is the routine, with its type.
pub record IsThere (m : Module) (f : ℕ) (params : List ValueType) (fn : Function) : Type 0 where
  pub typed : type_of m f ≡ Some (long_of params)
  pub there : defined m f ≡ Some fn

-- The words of operands of a kind: the exact result's word, or the trap's text.
abbrev pub ArithmeticKeepsItsLine : Type 0 → Type 0
ArithmeticKeepsItsLine World =
    (pages : ℕ) (m : Module) (host : Host World) (at : TrapPlaces) (o : Operator) (k : Kind) → IsStraight o → (f signature : ℕ) → IsThere m f (I64 ∷ I64 ∷ []) (of_two signature (calculate at 2 3 4 5 6 o k))
    → (deep room : ℕ) → 2 ≤ deep → 20 ≤ room → (store : Store World) (a b : ℤ) → InRange k a → InRange k b
    → ComesTo (enter deep pages m host room) f store (bits64 a ∷ bits64 b ∷ []) (Answers host at store 60 (Arith o k a b))

-- The word of an operand: that of the number with the other sign, or the trap's text.
abbrev pub NegationKeepsItsLine : Type 0 → Type 0
NegationKeepsItsLine World =
    (pages : ℕ) (m : Module) (host : Host World) (at : TrapPlaces) (k : Kind) (f signature : ℕ) → IsThere m f (I64 ∷ []) (of_one signature (negate at 1 2 3 4 5 k))
    → (deep room : ℕ) → 2 ≤ deep → 20 ≤ room → (store : Store World) (a : ℤ) → InRange k a
    → ComesTo (enter deep pages m host room) f store (bits64 a ∷ []) (Answers host at store 60 (Negation k a))

-- The word of the value of the kind that differs from the exact result by whole turns.
abbrev pub WrappingKeepsItsLine : Type 0 → Type 0
WrappingKeepsItsLine World =
    (pages : ℕ) (m : Module) (host : Host World) (w : Wrapping) (k : Kind) → has_width k ≡ true → (f signature : ℕ) → IsThere m f (I64 ∷ I64 ∷ []) (of_two signature (wrap 2 w k))
    → (deep room : ℕ) → 2 ≤ deep → 20 ≤ room → (store : Store World) (a b : ℤ) → InRange k a → InRange k b
    → ComesTo (enter deep pages m host room) f store (bits64 a ∷ bits64 b ∷ []) (Results store 60 (wrapped k (exact w a b)))

-- Whether the first of two numbers of a kind comes before the second, and so on; and whether they are the same.
abbrev pub OrderKeepsItsLine : Type 0 → Type 0
OrderKeepsItsLine World =
    (pages : ℕ) (m : Module) (host : Host World) (o : Comparison) (k : Kind) (f signature : ℕ) → IsThere m f (I64 ∷ I64 ∷ []) (of_two signature (order 2 5 o k))
    → (deep room : ℕ) → 2 ≤ deep → 20 ≤ room → (store : Store World) (a b : ℤ) → InRange k a → InRange k b
    → ComesTo (enter deep pages m host room) f store (bits64 a ∷ bits64 b ∷ []) (Tells store 60 (compared o (int_lt a b) (int_lt b a)))

abbrev pub SamenessKeepsItsLine : Type 0 → Type 0
SamenessKeepsItsLine World =
    (pages : ℕ) (m : Module) (host : Host World) (k : Kind) (f signature : ℕ) → IsThere m f (I64 ∷ I64 ∷ []) (of_two signature (sameness 2 5))
    → (deep room : ℕ) → 2 ≤ deep → 20 ≤ room → (store : Store World) (a b : ℤ) → InRange k a → InRange k b
    → ComesTo (enter deep pages m host room) f store (bits64 a ∷ bits64 b ∷ []) (Tells store 60 (int_eq a b))

-- The words of a base and an exponent of a kind.
abbrev pub PowerKeepsItsLine : Type 0 → Type 0
PowerKeepsItsLine World =
    (pages : ℕ) (m : Module) (host : Host World) (at : TrapPlaces) (k : Kind) (f signature : ℕ) → IsThere m f (I64 ∷ I64 ∷ []) (power_routine signature at k)
    → (deep room : ℕ) → 2 ≤ deep → 24 ≤ room → (store : Store World) (a b : ℤ) → InRange k a → InRange k b
    → ComesTo (enter deep pages m host room) f store (bits64 a ∷ bits64 b ∷ []) (Answers host at store 3800 (Arith operator.Pow k a b))
