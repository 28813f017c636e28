use Rattle.typed_tree.specs.ProgramView.{program}
use Rattle.mo_meaning.specs.Actor.{surroundings}
use Rattle.program_soundness.proofs.Bodies.{body_ends, body_left}
use Rattle.program_soundness.proofs.Given.{lawful_types, program_shares}
use Rattle.program_soundness.proofs.laws.bodies_end_as_typed.Goals as goal

pub returns-clause-ends : goal.returns-clause-ends
returns-clause-ends c = λ coding p w own table answers kinds fields body n may h a b.
    body_ends (surroundings coding p.types own table) (lawful_types p.types w.types w.basics) w.types (program p) (program_shares p w) answers kinds fields body n may h a b

pub returns-clause-left : goal.returns-clause-left
returns-clause-left c = λ coding p w own table answers kinds fields body n effects may h a b q.
    body_left (surroundings coding p.types own table) (lawful_types p.types w.types w.basics) w.types (program p) (program_shares p w) answers kinds fields body n effects may h a b q
