use Rattle.mo_actor.specs.Measures.{Spent, Unmeasured}
use Rattle.program_soundness.proofs.Actors.{event_keeps, reached_typed}
use Rattle.program_soundness.proofs.laws.actors_stay_typed.Goals as goal

pub returns-clause-event : goal.returns-clause-event
returns-clause-event c = λ coding faithful programs typed own short e state reached proper st h. event_keeps coding faithful Unmeasured programs typed own short e state reached proper st h

pub returns-clause-run : goal.returns-clause-run
returns-clause-run c = λ coding faithful programs typed own short events last proper h. reached_typed coding faithful Unmeasured programs typed own short events last proper h

pub returns-clause-measured : goal.returns-clause-measured
returns-clause-measured c = λ coding faithful programs typed own short steps stack pages e state reached proper st h. event_keeps coding faithful (Spent steps stack pages) programs typed own short e state reached proper st h
