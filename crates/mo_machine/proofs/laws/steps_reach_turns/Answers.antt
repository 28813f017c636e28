use Rattle.mo_machine.proofs.Steps.{reaches, reaches_given}
use Rattle.mo_machine.proofs.laws.steps_reach_turns.Goals as goal

pub returns-clause-reaches : goal.returns-clause-reaches
returns-clause-reaches c = λ s m c. reaches s m c

pub returns-clause-given : goal.returns-clause-given
returns-clause-given c = λ s g m c. reaches_given s g m c
