-- What the form of an expression is, as far as the rule of an expression around it looks at it.
use Rattle.std.specs.Prelude.{ℕ}
use Rattle.typing_rules.specs.AbstractSyntax.{Bytes, Literal, Expression}
use Rattle.typing_rules.specs.AbstractSyntax as p
use Rattle.typing_rules.specs.Spans.{literal_of}
use Rattle.abstract_tree.specs.TreeView.{plain}
use Rattle.expression_shapes.specs.declared.shape.Shape as value
use Rattle.expression_shapes.specs.declared.shape.Shape.TheVariants as shapes

pub data Shape : Type 0 where
  Constant : (literal : Literal) → Shape
  Name : (x : Bytes) → Shape
  Member : (a : Expression ℕ) → (x : Bytes) → Shape
  Negative : (a : Expression ℕ) → Shape
  ActorReference : (text : Bytes) → Shape
  Other : Shape

abbrev pub shape_of_form : p.Form ℕ → Shape
shape_of_form (p.Constant l) = Constant l
shape_of_form (p.Name x) = Name x
shape_of_form (p.Member a x) = Member a x
shape_of_form (p.Negative a) = Negative a
shape_of_form (p.ActorReference x) = ActorReference x
shape_of_form _ = Other

abbrev pub shape_of : Expression ℕ → Shape
shape_of (p.exp at f) = shape_of_form f

abbrev pub seen_shape : value.Shape → Shape
seen_shape (shapes.Constant l) = Constant (literal_of l.now)
seen_shape (shapes.Name x) = Name x.now
seen_shape (shapes.Member a x) = Member (plain a.now) x.now
seen_shape (shapes.Negative a) = Negative (plain a.now)
seen_shape (shapes.ActorReference x) = ActorReference x.now
seen_shape shapes.Other = Other
