use Rattle.program_soundness.proofs.Goes.{event_comes, run_of}
use Rattle.program_soundness.proofs.laws.actors_go_on.Goals as goal

pub returns-clause-event : goal.returns-clause-event
returns-clause-event c = λ coding faithful programs typed own short steps stack pages e state proper said st. event_comes coding faithful steps stack pages programs typed own short e state proper said st

pub returns-clause-run : goal.returns-clause-run
returns-clause-run c = λ coding faithful programs typed own short steps stack pages number events proper said. run_of coding faithful steps stack pages programs typed own short number events proper said
