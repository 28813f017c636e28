use Rattle.program_soundness.proofs.Given.{lawful_types}
use Rattle.program_soundness.proofs.Programs.{program_declared}
use Rattle.program_soundness.proofs.laws.declarations_are_typed.Goals as goal

pub returns : goal.returns
returns c = λ p w answers kinds. program_declared p w (lawful_types p.types w.types w.basics) answers kinds
