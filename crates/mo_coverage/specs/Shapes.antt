-- What a shape says of a value.
use Rattle.std.specs.Prelude.{List, [], ◌∷◌, map, Option, Some, None}
use Rattle.pattern_coverage.specs.Known.{Known, Knowns, Unknown, Is, IsNot, Holds, Under, NotUnder, Parts, Fields, NoKnown, AKnown}
use Rattle.mo_coverage.specs.declared.shape.Shape.{Shape, fold-Shape}
use Rattle.mo_coverage.specs.declared.shape.Shape.TheOpen as S

abbrev pub knowns : List Known → Knowns
knowns [] = NoKnown
knowns (k ∷ ks) = AKnown k (knowns ks)

abbrev pub shape_step : S.Shape-F Known → Known
shape_step S.Unknown = Unknown
shape_step (S.Is c) = Is c
shape_step (S.IsNot cs) = IsNot cs
shape_step (S.Holds k) = Holds k.value
shape_step (S.Under l k) = Under l k.value
shape_step (S.NotUnder ls) = NotUnder ls
shape_step (S.Parts ks) = Parts (knowns ks.items)
shape_step (S.Fields ls ks) = Fields ls (knowns ks.items)

unfoldable pub known : Shape → Known
known = fold-Shape Known shape_step

abbrev pub all_known : List Shape → List Known
all_known ks = map known ks

abbrev pub one_known : Option Shape → Option Known
one_known None = None
one_known (Some k) = Some (known k)
