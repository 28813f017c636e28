-- What an expression is, where the form around it looks at it, however the notes are seen.
use Rattle.std.specs.Prelude.{ℕ}
use Rattle.typing_rules.specs.AbstractSyntax.{Bytes, Expression, Pattern}
use Rattle.typing_rules.specs.AbstractSyntax as p
use Rattle.typing_rules.specs.TypedTrees.{Note}
use Rattle.abstract_tree.specs.TreeView.{expression}
use Rattle.abstract_types.specs.PatternView.{pattern}
use Rattle.judged_parts.specs.Parts.{See}
use Rattle.kernel_shapes.specs.declared.shapes.Shape as value
use Rattle.kernel_shapes.specs.declared.shapes.Shape.TheVariants as v

pub data Shape : Type 0 where
  Numeral : (m : ℕ) → Shape
  Name : (x : Bytes) → Shape
  Member : (a : Expression Note) → (x : Bytes) → Shape
  Element : (a i : Expression Note) → Shape
  While : (c a : Expression Note) → Shape
  Loop : (a : Expression Note) → Shape
  LoopWhile : (a c : Expression Note) → Shape
  For : (q : Pattern Note) → (a b : Expression Note) → Shape
  Other : Shape

abbrev pub shape_of : p.Form Note → Shape
shape_of (p.Constant (p.Number m)) = Numeral m
shape_of (p.Name x) = Name x
shape_of (p.Member a x) = Member a x
shape_of (p.Index a i) = Element a i
shape_of (p.While c a) = While c a
shape_of (p.Loop a) = Loop a
shape_of (p.LoopWhile a c) = LoopWhile a c
shape_of (p.For q a b) = For q a b
shape_of _ = Other

abbrev pub seen_shape : See → value.Shape → Shape
seen_shape see (v.Numeral m) = Numeral m
seen_shape see (v.Name x) = Name x.now
seen_shape see (v.Member a x) = Member (expression see a.now) x.now
seen_shape see (v.Element a i) = Element (expression see a.now) (expression see i.now)
seen_shape see (v.While c a) = While (expression see c.now) (expression see a.now)
seen_shape see (v.Loop a) = Loop (expression see a.now)
seen_shape see (v.LoopWhile a c) = LoopWhile (expression see a.now) (expression see c.now)
seen_shape see (v.For q a b) = For (pattern see q.now) (expression see a.now) (expression see b.now)
seen_shape see v.Other = Other
