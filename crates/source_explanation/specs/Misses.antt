-- What is said of a source that is accepted.
use Rattle.std.specs.Prelude.{◌≡◌, ℕ, List, [], ◌∷◌, ◌++◌, Bool, codes}
use Rattle.mo_types.specs.Graph.{Slot}
use Rattle.mo_syntax.specs.declared.token.Token.{Token}
use Rattle.typed_tree.specs.declared.program.Program.{Program}
use Rattle.pattern_coverage.specs.Cover.{Tells}
use Rattle.pattern_coverage.specs.Followed.{value_head}
use Rattle.pattern_coverage.specs.Inhabited.{in_table}
use Rattle.mo_coverage.specs.Shapes.{known}
use Rattle.shape_patterns.specs.Stands.{shape_pattern}
use Rattle.shape_patterns.specs.Writes.{IsCase}
use Rattle.switch_coverage.specs.declared.uncovered.Uncovered.{Uncovered}
use Rattle.switch_coverage.specs.Uncovered.{AreUncovered}
use Rattle.mo_front.specs.Fronts.{HasTokens}
use Rattle.mo_front.specs.Places.{token_start}
use Rattle.source_explanation.specs.Shown.{IsShown}

-- the line of a switch, and the case that stands for the values that it misses
abbrev pub IsMissedText : List ℕ → List Token → List Slot → List Bool → Uncovered → List ℕ → Type 0
IsMissedText source tokens types table u text =
    (case : List ℕ) × IsCase case (shape_pattern (value_head types) (in_table table) (known u.missed) u.of_type)
    × IsShown source (token_start tokens u.token) (codes "The switch misses values.") (codes "A case that it lacks:" ++ case) text

-- one for each, one behind another
abbrev pub AreMissedTexts : List ℕ → List Token → List Slot → List Bool → List Uncovered → List ℕ → Type 0
AreMissedTexts source tokens types table [] text = text ≡ []
AreMissedTexts source tokens types table (u ∷ us) text = (first rest : List ℕ) × IsMissedText source tokens types table u first × AreMissedTexts source tokens types table us rest × (text ≡ first ++ rest)

-- the texts of the switches of a program that miss a value
pub record AreMissed (source : List ℕ) (made : Program) (text : List ℕ) : Type 0 where
  pub tokens : List Token
  pub lexed : HasTokens source tokens
  pub found : List Uncovered
  pub uncovered : AreUncovered made found
  pub table : List Bool
  pub tells : Tells (value_head made.types) (in_table table)
  pub are : AreMissedTexts source tokens made.types table found text
