-- Values of two languages that are the same but for their functions, which a relation ties.
use Rattle.std.specs.Prelude.{◌≡◌, List, [], ◌∷◌}
use Rattle.mo_values.specs.Shapes.{Shape, Shapes, Made, Function, NoShape, AShape}
use Rattle.mo_values.specs.Views.{Answer, Gives, Traps, Stuck}

module _ {F G : Type 0} (R : F → G → Type 0) where
  abbrev mutual
    pub Alike : Shape F → Shape G → Type 0
    Alike (Made head inside) (Made other inside') = (head ≡ other) × AlikeAll inside inside'
    Alike (Function f) (Function g) = R f g
    Alike _ _ = ⊥

    pub AlikeAll : Shapes F → Shapes G → Type 0
    AlikeAll NoShape NoShape = Unit {0}
    AlikeAll (AShape v vs) (AShape w ws) = Alike v w × AlikeAll vs ws
    AlikeAll _ _ = ⊥

  abbrev pub AlikeEach : List (Shape F) → List (Shape G) → Type 0
  AlikeEach [] [] = Unit {0}
  AlikeEach (v ∷ vs) (w ∷ ws) = Alike v w × AlikeEach vs ws
  AlikeEach _ _ = ⊥

  abbrev pub AlikeAnswers : Answer F → Answer G → Type 0
  AlikeAnswers (Gives v) (Gives w) = Alike v w
  AlikeAnswers (Traps t) (Traps u) = t ≡ u
  AlikeAnswers Stuck Stuck = Unit {0}
  AlikeAnswers _ _ = ⊥
