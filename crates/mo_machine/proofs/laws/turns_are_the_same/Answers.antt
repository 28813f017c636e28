use Rattle.mo_machine.proofs.Runs.{turns_same, turns_given_same}
use Rattle.mo_machine.proofs.laws.turns_are_the_same.Goals as goal

pub returns-clause-turns : goal.returns-clause-turns
returns-clause-turns c = λ s n c. turns_same s n c

pub returns-clause-given : goal.returns-clause-given
returns-clause-given c = λ s g n c. turns_given_same s g n c
