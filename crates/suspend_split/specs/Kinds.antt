-- What stands around a place, from the inside out.
use Rattle.std.specs.Prelude.{List, [], ◌∷◌}
use Rattle.core_laws.specs.Around.{Kind, Other, LabelHere, LabelAt, HandlerHere, HandlerAt}
use Rattle.suspend_split.specs.declared.around.Around.{Around}
use Rattle.suspend_split.specs.declared.around.Around.TheVariants as around

abbrev pub kind : Around → Kind
kind around.Other = Other
kind (around.LabelHere t) = LabelHere t
kind (around.LabelAt j t) = LabelAt j t
kind (around.HandlerHere t) = HandlerHere t
kind (around.HandlerAt j t) = HandlerAt j t

-- the last one is the innermost
abbrev pub stacked : List Kind → List Around → List Kind
stacked ls [] = ls
stacked ls (a ∷ rest) = stacked (kind a ∷ ls) rest

abbrev pub inner : List Kind → List Kind
inner [] = []
inner (l ∷ ls) = ls
