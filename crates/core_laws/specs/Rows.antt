-- The examples, split and converted.
use Rattle.std.specs.Prelude.{ℕ, List, [], ◌∷◌, ◌++◌, false}
use Rattle.core_ir.specs.Code.{CodeProgram}
use Rattle.core_ir.specs.Executions.{Machine, Starts, Saves}
use Rattle.core_ir.specs.Values.{number}
use Rattle.core_ir.specs.Drives.{Counts, counts}
use Rattle.core_ir.specs.Examples.{examples}
use Rattle.core_ir.specs.Rows.{Row, played, entered, await_rows, refused_rows, plain_rows}
use Rattle.core_laws.specs.Conversion.{convert_program}
use Rattle.core_laws.specs.Split.{split_program}

abbrev pub split_examples : CodeProgram
split_examples = split_program examples

abbrev pub flat_examples : CodeProgram
flat_examples = convert_program split_examples

-- the weight and the depth of each execution
abbrev pub counted : {S W : Type 0} → Machine S W → ℕ → List Row → List Counts
counted m steps [] = []
counted m steps (r ∷ rs) = counts (played m steps r) ++ counted m steps rs

abbrev pub all_counted : {S W : Type 0} → Machine S W → List Counts
all_counted m = counted m 300 await_rows ++ (counted m 60 refused_rows ++ (counted m 300 plain_rows ++ (counts (entered m (Starts (number 1 ∷ []) false)) ++ counts (entered m Saves))))
