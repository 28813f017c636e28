-- The types of a program that is judged are lawful.
use Rattle.std.specs.Prelude.{ℕ, Ok}
use Rattle.typing_rules.specs.AbstractSyntax.{Program}
use Rattle.typing_rules.specs.Gathered.{gathered}
use Rattle.typing_rules.specs.Programs.{Checks}
use Rattle.typing_rules.specs.TypedTrees.{Note}
use Rattle.proper_laws.specs.Lawful.{AreTypesLawful}
use Rattle.meeting_laws.specs.Source.{IsProgramSource}

-- where it is typed, all types that are reached from those that are met are those of a program
abbrev pub TypesOfProgramsAreLawful : Type 0
TypesOfProgramsAreLawful = (program : Program ℕ) → IsProgramSource program → (made : Program Note) (c : Checks program (Ok made)) → AreTypesLawful (gathered program) c.met
