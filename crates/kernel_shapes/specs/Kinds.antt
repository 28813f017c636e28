-- What is assigned to, what stands under a label, and what stands behind `-`, however the notes are seen.
use Rattle.std.specs.Prelude.{ℕ, Option, Some, None}
use Rattle.typing_rules.specs.AbstractSyntax.{Bytes, Expression, Pattern}
use Rattle.typing_rules.specs.AbstractSyntax as p
use Rattle.typing_rules.specs.TypedTrees.{Note}
use Rattle.abstract_tree.specs.TreeView.{expression}
use Rattle.abstract_types.specs.PatternView.{pattern}
use Rattle.judged_parts.specs.Parts.{See}
use Rattle.kernel_shapes.specs.Shapes.{Shape, shape_of}
use Rattle.kernel_shapes.specs.Shapes as shapes
use Rattle.kernel_shapes.specs.declared.kinds.Looped as value_looped
use Rattle.kernel_shapes.specs.declared.kinds.Looped.TheVariants as l
use Rattle.kernel_shapes.specs.declared.kinds.Place as value_place
use Rattle.kernel_shapes.specs.declared.kinds.Place.TheVariants as v

pub data Place : Type 0 where
  Name : (x : Bytes) → Place
  Member : (a : Expression Note) → (x : Bytes) → Place
  Element : (a i : Expression Note) → Place
  Other : Place

abbrev pub as_place : Shape → Place
as_place (shapes.Name x) = Name x
as_place (shapes.Member a x) = Member a x
as_place (shapes.Element a i) = Element a i
as_place _ = Other

abbrev pub place_of : p.Form Note → Place
place_of x = as_place (shape_of x)

abbrev pub seen_place : See → value_place.Place → Place
seen_place see (v.Name x) = Name x.now
seen_place see (v.Member a x) = Member (expression see a.now) x.now
seen_place see (v.Element a i) = Element (expression see a.now) (expression see i.now)
seen_place see v.Other = Other

pub data Looped : Type 0 where
  While : (c a : Expression Note) → Looped
  Loop : (a : Expression Note) → Looped
  LoopWhile : (a c : Expression Note) → Looped
  For : (q : Pattern Note) → (a b : Expression Note) → Looped
  NoLoop : Looped

abbrev pub as_looped : Shape → Looped
as_looped (shapes.While c a) = While c a
as_looped (shapes.Loop a) = Loop a
as_looped (shapes.LoopWhile a c) = LoopWhile a c
as_looped (shapes.For q a b) = For q a b
as_looped _ = NoLoop

abbrev pub looped_of : p.Form Note → Looped
looped_of x = as_looped (shape_of x)

abbrev pub seen_looped : See → value_looped.Looped → Looped
seen_looped see (l.While c a) = While (expression see c.now) (expression see a.now)
seen_looped see (l.Loop a) = Loop (expression see a.now)
seen_looped see (l.LoopWhile a c) = LoopWhile (expression see a.now) (expression see c.now)
seen_looped see (l.For q a b) = For (pattern see q.now) (expression see a.now) (expression see b.now)
seen_looped see l.Other = NoLoop

abbrev pub as_number : Shape → Option ℕ
as_number (shapes.Numeral m) = Some m
as_number _ = None

abbrev pub number_of : p.Form Note → Option ℕ
number_of x = as_number (shape_of x)
