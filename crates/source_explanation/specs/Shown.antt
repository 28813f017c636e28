-- A place of a source, shown.
use Rattle.std.specs.Prelude.{◌≡◌, ℕ, List, length, min, ◌++◌, codes}
use Rattle.play_script.specs.Numbers.{IsDecimal}
use Rattle.marked_lines.specs.Marks.{IsMarked}
use Rattle.mo_front.specs.Places.{IsAt}

-- the line and the column of a place, and what is said of it
pub record IsHead (source : List ℕ) (place : ℕ) (said text : List ℕ) : Type 0 where
  pub row : ℕ
  pub column : ℕ
  pub at : IsAt source place (row, column)
  pub row_digits : List ℕ
  pub column_digits : List ℕ
  pub row_is : IsDecimal row_digits row
  pub column_is : IsDecimal column_digits column
  pub is : text ≡ row_digits ++ (codes ":" ++ (column_digits ++ (codes " " ++ (said ++ codes "\n"))))

-- that, the line of the source with a mark below the place, and a text behind them
pub record IsShown (source : List ℕ) (place : ℕ) (said rest text : List ℕ) : Type 0 where
  pub head : List ℕ
  pub line : List ℕ
  pub is_head : IsHead source place said head
  pub is_line : IsMarked source (min place (length source)) line
  pub is : text ≡ head ++ (line ++ rest)
