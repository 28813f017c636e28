-- Values of the core languages: those of typed programs, with handles for functions. They are the same in each of the
-- languages, whatever the groups of functions hold there.
use Rattle.std.specs.Prelude.{ℕ, zero, suc, List, [], ◌∷◌, Option, Some, None, Bool, pos}
use Rattle.mo_types.specs.declared.datum.Datum.TheVariants as part
use Rattle.mo_values.specs.Shapes.{Bytes, Leaf, Present, Array, Cell, Future, Shape, Made, Function, NoShape, AShape, shapes, leaf, unit}
use Rattle.core_ir.specs.declared.constant.Constant.{Constant}
use Rattle.core_ir.specs.declared.constant.Constant.TheVariants as constant

-- a function: the number of its group among those that were made, and its place in that
pub record Handle : Type 0 where
  pub group : ℕ
  pub member : ℕ

abbrev pub Value : Type 0
Value = Shape Handle

abbrev pub constant_value : Constant → Value
constant_value constant.Unit = unit
constant_value (constant.Leaf p) = leaf p

abbrev pub null : Value
null = leaf part.Null

abbrev pub flag_value : Bool → Value
flag_value b = leaf (part.Flag b)

abbrev pub number : ℕ → Value
number n = leaf (part.Number (pos n))

abbrev pub present : Value → Value
present v = Made Present (AShape v NoShape)

abbrev pub array : List Value → Value
array vs = Made Array (shapes vs)

abbrev pub cell : ℕ → Value
cell at = Made (Cell at) NoShape

abbrev pub future : ℕ → Value
future call = Made (Future call) NoShape

-- the functions of a group from the n-th one on, so many of them
abbrev pub members : (group n count : ℕ) → List Value
members group n zero = []
members group n (suc count) = Function (record { group = group; member = n }) ∷ members group (suc n) count

-- ---- what is seen of a value

abbrev pub handle_of : Value → Option Handle
handle_of (Function f) = Some f
handle_of _ = None

abbrev pub cell_of : Value → Option ℕ
cell_of (Made (Cell at) NoShape) = Some at
cell_of _ = None

abbrev pub future_of : Value → Option ℕ
future_of (Made (Future call) NoShape) = Some call
future_of _ = None

-- a shared function: the actor, and the name of its method
pub record SharedFunction : Type 0 where
  pub actor : Bytes
  pub method : Bytes

abbrev pub shared_of : Value → Option SharedFunction
shared_of (Made (Leaf (part.Method p name)) NoShape) = Some (record { actor = p; method = name })
shared_of _ = None
