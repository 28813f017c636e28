-- The lines of `check`: one for each `switch` that misses a value, in the order of the source, with the place of its first token.
use Rattle.std.specs.Prelude.{◌≡◌, ℕ, List, [], ◌∷◌, ◌++◌, codes}
use Rattle.mo_syntax.specs.declared.token.Token.{Token}
use Rattle.typed_tree.specs.declared.program.Program.{Program}
use Rattle.typed_tree.specs.WellTyped.{WellTyped}
use Rattle.switch_coverage.specs.declared.uncovered.Uncovered.{Uncovered}
use Rattle.switch_coverage.specs.Uncovered.{AreUncovered}
use Rattle.mo_front.specs.Fronts.{Accepted, HasTokens}
use Rattle.mo_front.specs.Places.{IsAt, token_start}
use Rattle.mo_command.specs.Lines.{Numbered}

-- the line of a place
abbrev pub IsUncoveredLine : List ℕ → ℕ → List ℕ → Type 0
IsUncoveredLine source place line =
    (row column : ℕ) × (back : List ℕ) × IsAt source place (row, column) × Numbered (codes ":") column (codes "\n") back × Numbered (codes "uncovered ") row back line

-- a line for each
abbrev pub AreLines : List ℕ → List Token → List Uncovered → List (List ℕ) → Type 0
AreLines source tokens [] [] = Unit {0}
AreLines source tokens [] (l ∷ ls) = ⊥
AreLines source tokens (u ∷ us) [] = ⊥
AreLines source tokens (u ∷ us) (l ∷ ls) = IsUncoveredLine source (token_start tokens u.token) l × AreLines source tokens us ls

abbrev pub joined : List (List ℕ) → List ℕ
joined [] = []
joined (l ∷ ls) = l ++ joined ls

-- The source is accepted, and these are the lines of the switches of its program that miss a value.
pub record AreShown (source : List ℕ) (lines : List (List ℕ)) : Type 0 where
  pub made : Program
  pub accepted : Accepted source made
  pub typed : WellTyped made
  pub tokens : List Token
  pub lexed : HasTokens source tokens
  pub found : List Uncovered
  pub uncovered : AreUncovered made found
  pub are_lines : AreLines source tokens found lines

-- the text of these lines
abbrev pub IsChecked : List ℕ → List ℕ → Type 0
IsChecked source text = (lines : List (List ℕ)) × AreShown source lines × (text ≡ joined lines)
