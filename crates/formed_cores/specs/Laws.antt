-- Programs that are formed.
use Rattle.std.specs.Prelude.{ℕ}
use Rattle.core_ir.specs.Expressions.{Core}
use Rattle.core_ir.specs.Formed.{FormedCore, NamedMethods}
use Rattle.core_measures.specs.Within.{Within}
use Rattle.elaboration_names.specs.Names.{NamedCore}

abbrev pub NamedProgramsWithinMeasuresAreFormed : Type 0
NamedProgramsWithinMeasuresAreFormed = (own : ℕ) (p : Core) → NamedCore own p → NamedMethods p → Within p → FormedCore own p
