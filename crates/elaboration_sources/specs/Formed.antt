-- What is elaborated of an accepted source is formed, where its bodies keep within their measures.
use Rattle.std.specs.Prelude.{ℕ, List}
use Rattle.typed_tree.specs.declared.program.Program.{Program}
use Rattle.typed_tree.specs.ProgramView.{program}
use Rattle.mo_front.specs.Fronts.{Accepted}
use Rattle.core_ir.specs.Formed.{FormedCore}
use Rattle.core_measures.specs.Within.{Within}
use Rattle.elaboration.specs.Programs.{elaborated}

-- with so many names of the actor's own
abbrev pub AcceptedProgramsAreFormed : Type 0
AcceptedProgramsAreFormed = (source : List ℕ) (made : Program) → Accepted source made → Within (elaborated (program made)) → (own : ℕ) × FormedCore own (elaborated (program made))
