-- What is elaborated of a judged program is formed, where its bodies keep within their measures.
use Rattle.std.specs.Prelude.{ℕ}
use Rattle.typed_tree.specs.declared.program.Program.{Program}
use Rattle.typed_tree.specs.ProgramView.{program}
use Rattle.core_ir.specs.Formed.{FormedCore}
use Rattle.core_measures.specs.Within.{Within}
use Rattle.elaboration.specs.Programs.{elaborated}
use Rattle.elaboration_judged.specs.Judged.{IsJudged}

-- with so many names of the actor's own
abbrev pub JudgedProgramsAreFormed : Type 0
JudgedProgramsAreFormed = (p : Program) → IsJudged p → Within (elaborated (program p)) → (own : ℕ) × FormedCore own (elaborated (program p))
