use Rattle.typed_tree.proofs.Opened.{value_shape, shape_value}
use Rattle.typed_tree.proofs.laws.values_and_shapes_are_the_same.Goals as goal

pub returns-clause-value : goal.returns-clause-value
returns-clause-value c = λ v. value_shape v

pub returns-clause-shape : goal.returns-clause-shape
returns-clause-shape c = λ s. shape_value s
