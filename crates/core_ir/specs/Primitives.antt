-- What primitives do: the table of operations, and what needs the store or prints (Motoko language manual, sections "Variable
-- declaration" and "Assignment"; base library, modules `Array` and `Debug`, and the iterators of arrays and texts).
use Rattle.std.specs.Prelude.{ℕ, suc, ◌+◌, ◌*◌, List, [], ◌∷◌, ◌++◌, length, replicate, Bool, true, false, ◌&&◌, ◌||◌, cond, Option, Some, None, slice_get, slice_set}
use Rattle.std.specs.Str.{chars}
use Rattle.mo_num.specs.declared.kind.Kind.TheVariants as kind
use Rattle.mo_num.specs.declared.operator.Operator.TheVariants as operator
use Rattle.mo_types.specs.declared.datum.Datum.{Datum}
use Rattle.mo_types.specs.declared.datum.Datum.TheVariants as part
use Rattle.mo_types.specs.declared.node.Node.{Node}
use Rattle.mo_types.specs.declared.node.TypeId.{TypeId}
use Rattle.mo_values.specs.declared.operation.Operation.{Operation}
use Rattle.mo_values.specs.declared.operation.Operation.TheVariants as op
use Rattle.mo_values.specs.Costs.{Cost, weighing, operation_cost}
use Rattle.mo_values.specs.Operations.{operate}
use Rattle.mo_values.specs.Parts.{is_in_range, same_part}
use Rattle.mo_values.specs.Shapes.{Bytes, Array, Cell, Made, AShape, size, leaf, unit}
use Rattle.mo_values.specs.Views as answer
use Rattle.mo_values.specs.Views.{Answer, leaf_of, natural_of, text_of, array_of}
use Rattle.core_ir.specs.declared.primitive.Primitive.{Primitive}
use Rattle.core_ir.specs.declared.primitive.Primitive.TheVariants as primitive
use Rattle.core_ir.specs.Choices.{on_some}
use Rattle.core_ir.specs.Values.{Handle, Value, null, flag_value, number, present, array, cell, cell_of}

-- the variables, mutable fields and elements of mutable arrays: what each holds
abbrev pub Store : Type 0
Store = List Value

-- a value with the store behind it, a text that is printed, or the text of a trap; operands that are not of the primitive have
-- none of these
pub data Done : Type 0 where
  Gives : (cost : Cost) → (v : Value) → (store : Store) → Done
  Prints : (cost : Cost) → (text : Bytes) → Done
  Fails : (cost : Cost) → (text : Bytes) → Done
  Stuck : Done

-- what a cell holds
abbrev pub held : Store → Option ℕ → Option Value
held store None = None
held store (Some at) = slice_get store at

-- what cells hold, where each of them is one
abbrev pub all_held : Store → List Value → Option (List Value)
all_held store [] = Some []
all_held store (c ∷ cs) = on_some None (held store (cell_of c)) (λ v. on_some None (all_held store cs) (λ vs. Some (v ∷ vs)))

-- new cells behind those of the store
abbrev pub cells_from : ℕ → List Value → List Value
cells_from n [] = []
cells_from n (v ∷ vs) = cell n ∷ cells_from (suc n) vs

-- the elements of a mutable array are cells
abbrev pub is_cell : Value → Bool
is_cell (Made (Cell at) inside) = true
is_cell _ = false

abbrev pub is_mutable : Value → Bool
is_mutable (Made Array (AShape v vs)) = is_cell v
is_mutable _ = false

-- ---- literals

-- values of one type without parts: of numbers, of one kind at least
abbrev pub comparable : Datum → Datum → Bool
comparable (part.Flag a) (part.Flag b) = true
comparable (part.Number m) (part.Number n) =
    (is_in_range kind.Int m && is_in_range kind.Int n) || (is_in_range kind.Nat64 m && is_in_range kind.Nat64 n)
comparable (part.Char c) (part.Char d) = true
comparable (part.Text t) (part.Text u) = true
comparable (part.Blob t) (part.Blob u) = true
comparable _ _ = false

-- a text or Blob is compared whole
abbrev pub literal_weight : Datum → Value → ℕ
literal_weight (part.Text t) v = 1 + length t + size v
literal_weight (part.Blob t) v = 1 + length t + size v
literal_weight _ v = 1

module _ (head : TypeId → Node TypeId) (store : Store) where
  abbrev pub gives : Value → Done
  gives v = Gives (weighing 1) v store

  abbrev pub answered : Cost → Answer Handle → Done
  answered cost (answer.Gives v) = Gives cost v store
  answered cost (answer.Traps text) = Fails cost text
  answered cost answer.Stuck = Stuck

  abbrev pub tested : Datum → Value → Option Datum → Done
  tested c v None = Stuck
  tested c v (Some d) = cond (comparable c d) (Gives (weighing (literal_weight c v)) (flag_value (same_part c d)) store) Stuck

  abbrev pub operated : Operation → List Value → Answer Handle → Done
  operated o vs a = answered (operation_cost o vs a) a

  abbrev pub written : Value → Option ℕ → Done
  written v None = Stuck
  written v (Some at) = Gives (weighing 1) unit (slice_set store at v)

  -- `a[i] := v`, where this is what stands at `a[i]`
  abbrev pub written_in : Value → Answer Handle → Done
  written_in v (answer.Gives c) = written v (cell_of c)
  written_in v (answer.Traps text) = Fails (weighing 1) text
  written_in v answer.Stuck = Stuck

  -- an array of values that stood ready, or of new cells that hold these: each was read or made, and put into the array
  abbrev pub whole_array : List Value → Done
  whole_array vs = Gives (weighing (2 + 2 * length vs)) (array vs) store

  abbrev pub celled : List Value → Done
  celled vs = Gives (weighing (2 + 2 * length vs)) (array (cells_from (length store) vs)) (store ++ vs)

  -- ---- iterators, over a cell with the place of the next element

  abbrev pub place_in : Value → Option ℕ
  place_in c = on_some None (held store (cell_of c)) natural_of

  -- the cell holds the next place
  abbrev pub advanced : ℕ → Value → Value → Answer Handle → Done
  advanced weight c v (answer.Gives n) = on_some Stuck (cell_of c) (λ at. Gives (weighing (3 + weight)) (present v) (slice_set store at n))
  advanced weight c v (answer.Traps text) = Fails (weighing weight) text
  advanced weight c v answer.Stuck = Stuck

  -- the element of this place as an option, where there is one
  abbrev pub next : ℕ → Value → ℕ → Option Value → Done
  next weight c i None = Gives (weighing weight) null store
  next weight c i (Some v) = advanced weight c v (operate head (op.Arithmetic operator.Add kind.Nat) (number i ∷ number 1 ∷ []))

  -- finding a character looks at the text
  abbrev pub next_char : Value → Value → ℕ → Bytes → Done
  next_char c t i bytes = next (1 + size t) c i (on_some None (slice_get (chars bytes) i) (λ c. Some (leaf (part.Char c))))

  abbrev pub perform : Primitive → List Value → Done
  perform (primitive.Operate o) vs = operated o vs (operate head o vs)
  perform primitive.Copy (v ∷ []) = gives v
  perform (primitive.Is c) (v ∷ []) = tested c v (leaf_of v)
  perform primitive.New (v ∷ []) = Gives (weighing 1) (cell (length store)) (store ++ v ∷ [])
  perform primitive.Read (c ∷ []) = on_some Stuck (held store (cell_of c)) gives
  perform primitive.Write (c ∷ v ∷ []) = written v (cell_of c)
  perform primitive.WriteElement (a ∷ i ∷ v ∷ []) = written_in v (operate head op.Element (a ∷ i ∷ []))
  perform primitive.ArrayInit (n ∷ v ∷ []) = on_some Stuck (natural_of n) (λ n. celled (replicate n v))
  perform primitive.ArrayFreeze (a ∷ []) = on_some Stuck (array_of a) (λ cs. on_some Stuck (all_held store cs) whole_array)
  perform primitive.ArrayThaw (a ∷ []) = on_some Stuck (array_of a) celled
  perform primitive.IsMutable (v ∷ []) = gives (flag_value (is_mutable v))
  perform primitive.NextChar (c ∷ t ∷ []) = on_some Stuck (text_of t) (λ bytes. on_some Stuck (place_in c) (λ i. next_char c t i bytes))
  perform primitive.Print (t ∷ []) = on_some Stuck (text_of t) (λ text. Prints (weighing (1 + 2 * length text)) text)
  perform _ _ = Stuck
