-- The same value with other functions.
use Rattle.std.specs.Prelude.{List, [], ◌∷◌}
use Rattle.mo_values.specs.Shapes.{Shape, Shapes, Made, Function, NoShape, AShape}
use Rattle.mo_values.specs.Views.{Answer, Gives, Traps, Stuck}

module _ {F G : Type 0} (code : F → G) where
  abbrev mutual
    pub recode : Shape F → Shape G
    recode (Made head inside) = Made head (recode_all inside)
    recode (Function f) = Function (code f)

    pub recode_all : Shapes F → Shapes G
    recode_all NoShape = NoShape
    recode_all (AShape v vs) = AShape (recode v) (recode_all vs)

  abbrev pub recodes : List (Shape F) → List (Shape G)
  recodes [] = []
  recodes (v ∷ vs) = recode v ∷ recodes vs

  abbrev pub recode_answer : Answer F → Answer G
  recode_answer (Gives v) = Gives (recode v)
  recode_answer (Traps text) = Traps text
  recode_answer Stuck = Stuck
