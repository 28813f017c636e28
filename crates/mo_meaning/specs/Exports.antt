-- The value of an actor's declarations, and its parts: Motoko language manual, section "Actors". It is a tuple of four: the
-- functions of the methods, the hooks before and after an upgrade (options), and an object whose `var` fields are the stable
-- variables.
use Rattle.std.specs.Prelude.{ℕ, List, [], Option, Some, None, slice_get}
use Rattle.mo_values.specs.Shapes.{Present}
use Rattle.typed_tree.specs.Language.{Value, Made, NoValue, AValue, unit}
use Rattle.mo_meaning.specs.Places.{value_list}

abbrev pub value_or_unit : Option Value → Value
value_or_unit None = unit
value_or_unit (Some v) = v

abbrev pub values_in : Value → List Value
values_in (Made head inside) = value_list inside
values_in _ = []

abbrev pub part_at : ℕ → Value → Value
part_at i exports = value_or_unit (slice_get (values_in exports) i)

abbrev pub option_value : Value → Option Value
option_value (Made Present (AValue v NoValue)) = Some v
option_value _ = None

abbrev pub method_functions : Value → List Value
method_functions exports = values_in (part_at 0 exports)

abbrev pub before_upgrade : Value → Option Value
before_upgrade exports = option_value (part_at 1 exports)

abbrev pub after_upgrade : Value → Option Value
after_upgrade exports = option_value (part_at 2 exports)

abbrev pub stable_cells : Value → List Value
stable_cells exports = values_in (part_at 3 exports)
