-- The laws, as statements: in a module that has a routine of numbers, and whose memory begins with the texts of traps, its calls keep the
-- line of its primitive.
use Rattle.std.specs.Prelude.{◌≡◌, ◌≤◌, ℕ, Bool, true, [], ◌∷◌, Some}
use Rattle.mo_num.specs.declared.kind.Kind.{Kind}
use Rattle.mo_num.specs.declared.operator.NumTrap.{NumTrap}
use Rattle.mo_num.specs.declared.operator.Operator.{Operator}
use Rattle.mo_num.specs.declared.operator.Operator.TheVariants as operator
use Rattle.mo_types.specs.declared.node.Node.{Node}
use Rattle.mo_types.specs.declared.node.TypeId.{TypeId}
use Rattle.mo_values.specs.declared.operation.Comparison.{Comparison}
use Rattle.mo_values.specs.declared.operation.Operation.TheVariants as op
use Rattle.mo_values.specs.declared.operation.Scalar.TheVariants as scalar
use Rattle.mo_values.specs.declared.operation.Wrapping.{Wrapping}
use Rattle.mo_values.specs.Numbers.{has_width}
use Rattle.mo_values.specs.Operations.{number_text}
use Rattle.core_ir.specs.declared.primitive.Primitive.TheVariants as primitive
use Rattle.wasm_tree.specs.declared.types.ValueType.TheVariants.{I64}
use Rattle.wasm_tree.specs.Exec.{Host, bits32}
use Rattle.low_ir.specs.Frames.{enter}
use Rattle.low_ir.specs.declared.op.Operand.TheVariants.{Local}
use Rattle.low_ir.specs.Tree.{Code, Return, Function, Module}
use Rattle.inlined_code.specs.Inlining.{goes_inline, arguments}
use Rattle.heap_layout.specs.Heaps.{Plan}
use Rattle.heap_layout.specs.Table.{StandsAt, KeepsLine}
use Rattle.number_routines.specs.declared.places.TrapPlaces.{TrapPlaces}
use Rattle.number_routines.specs.Codes.{place, calculate, negate, wrap, order, sameness}
use Rattle.number_routines.specs.Lines.{of_one, of_two}
use Rattle.number_routines.specs.Laws.{IsThere, IsStraight}
use Rattle.number_routines.specs.Powers.{power_routine}

-- The texts of traps stand at their places.
abbrev pub HaveTexts : Plan → TrapPlaces → Type 0
HaveTexts plan at = (t : NumTrap) → StandsAt plan.texts (bits32 (place at t)) (number_text t)

abbrev pub arithmetic_routine : ℕ → TrapPlaces → Operator → Kind → Function
arithmetic_routine signature at operator.Pow k = power_routine signature at k
arithmetic_routine signature at o k = of_two signature (calculate at 2 3 4 5 6 o k)

abbrev pub ArithmeticIsOfTheTable : Type 0 → Type 0
ArithmeticIsOfTheTable World =
    (pages : ℕ) (m : Module) (host : Host World) (head : TypeId → Node TypeId) (plan : Plan) (at : TrapPlaces) → HaveTexts plan at → (o : Operator) (k : Kind) (f signature : ℕ) → IsThere m f (I64 ∷ I64 ∷ []) (arithmetic_routine signature at o k)
    → (deep room : ℕ) → 2 ≤ deep → 24 ≤ room → (most : ℕ) → KeepsLine head plan host most pages (enter deep pages m host room) f (primitive.Operate (op.Arithmetic o k))

abbrev pub NegationIsOfTheTable : Type 0 → Type 0
NegationIsOfTheTable World =
    (pages : ℕ) (m : Module) (host : Host World) (head : TypeId → Node TypeId) (plan : Plan) (at : TrapPlaces) → HaveTexts plan at → (k : Kind) (f signature : ℕ) → IsThere m f (I64 ∷ []) (of_one signature (negate at 1 2 3 4 5 k))
    → (deep room : ℕ) → 2 ≤ deep → 24 ≤ room → (most : ℕ) → KeepsLine head plan host most pages (enter deep pages m host room) f (primitive.Operate (op.Negate k))

abbrev pub WrappingIsOfTheTable : Type 0 → Type 0
WrappingIsOfTheTable World =
    (pages : ℕ) (m : Module) (host : Host World) (head : TypeId → Node TypeId) (plan : Plan) (w : Wrapping) (k : Kind) → has_width k ≡ true → (f signature : ℕ) → IsThere m f (I64 ∷ I64 ∷ []) (of_two signature (wrap 2 w k))
    → (deep room : ℕ) → 2 ≤ deep → 24 ≤ room → (most : ℕ) → KeepsLine head plan host most pages (enter deep pages m host room) f (primitive.Operate (op.Wrap w k))

abbrev pub OrderIsOfTheTable : Type 0 → Type 0
OrderIsOfTheTable World =
    (pages : ℕ) (m : Module) (host : Host World) (head : TypeId → Node TypeId) (plan : Plan) (o : Comparison) (k : Kind) (f signature : ℕ) → IsThere m f (I64 ∷ I64 ∷ []) (of_two signature (order 2 5 o k))
    → (deep room : ℕ) → 2 ≤ deep → 24 ≤ room → (most : ℕ) → KeepsLine head plan host most pages (enter deep pages m host room) f (primitive.Operate (op.Compare o (scalar.Number k)))

abbrev pub SamenessIsOfTheTable : Type 0 → Type 0
SamenessIsOfTheTable World =
    (pages : ℕ) (m : Module) (host : Host World) (head : TypeId → Node TypeId) (plan : Plan) (k : Kind) (f signature : ℕ) → IsThere m f (I64 ∷ I64 ∷ []) (of_two signature (sameness 2 5))
    → (deep room : ℕ) → 2 ≤ deep → 24 ≤ room → (most : ℕ) → KeepsLine head plan host most pages (enter deep pages m host room) f (primitive.Operate (op.Same (scalar.Number k)))

-- The code of each routine but that of a power may stand in other functions: it has so many arguments, and so many locals with them.
abbrev pub goes : (arguments count : ℕ) → Code → Bool
goes arguments_of count code = goes_inline arguments_of count code (arguments arguments_of)

abbrev pub result_of_two : Code
result_of_two = Return (Some (Local 2))

abbrev pub NumbersGoInline : Type 0
NumbersGoInline =
    ((at : TrapPlaces) (o : Operator) (k : Kind) → IsStraight o → goes 2 7 (calculate at 2 3 4 5 6 o k (Local 0) (Local 1) result_of_two) ≡ true)
    × ((at : TrapPlaces) (k : Kind) → goes 1 6 (negate at 1 2 3 4 5 k (Local 0) (Return (Some (Local 1)))) ≡ true)
    × ((w : Wrapping) (k : Kind) → has_width k ≡ true → goes 2 7 (wrap 2 w k (Local 0) (Local 1) result_of_two) ≡ true)
    × ((o : Comparison) (k : Kind) → goes 2 7 (order 2 5 o k (Local 0) (Local 1) result_of_two) ≡ true)
    × (goes 2 7 (sameness 2 5 (Local 0) (Local 1) result_of_two) ≡ true)
