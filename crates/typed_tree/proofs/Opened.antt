-- Values and their shapes are the same.
use Rattle.std.proofs.Common.{◌≡◌, refl, ap, ap₂}
use Rattle.mo_values.specs.Shapes.{Shape, Shapes, NoShape, AShape}
use Rattle.mo_values.specs.Shapes as shape
use Rattle.typed_tree.specs.Language.{Value, Values, Made, Function, BuiltIn, NoValue, AValue}
use Rattle.typed_tree.specs.Opening.{Code, Closed, BuiltInCode, coded, shape_of, shapes_of, value_of, values_of}

mutual
  pub value_shape : (v : Value) → value_of (shape_of v) ≡ v
  value_shape (Made head inside) = ap (Made head) (values_shapes inside)
  value_shape (Function group which) = refl
  value_shape (BuiltIn member holds) = refl

  values_shapes : (vs : Values) → values_of (shapes_of vs) ≡ vs
  values_shapes NoValue = refl
  values_shapes (AValue v vs) = ap₂ AValue (value_shape v) (values_shapes vs)

code_back : (f : Code) → shape_of (coded f) ≡ shape.Function f
code_back (Closed group which) = refl
code_back (BuiltInCode member holds) = refl

mutual
  pub shape_value : (s : Shape Code) → shape_of (value_of s) ≡ s
  shape_value (shape.Made head inside) = ap (shape.Made head) (shapes_values inside)
  shape_value (shape.Function f) = code_back f

  shapes_values : (ss : Shapes Code) → shapes_of (values_of ss) ≡ ss
  shapes_values NoShape = refl
  shapes_values (AShape s ss) = ap₂ AShape (shape_value s) (shapes_values ss)
