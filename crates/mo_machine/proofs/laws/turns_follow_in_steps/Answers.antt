use Rattle.mo_machine.proofs.Steps.{follows, follows_given}
use Rattle.mo_machine.proofs.laws.turns_follow_in_steps.Goals as goal

pub returns-clause-follows : goal.returns-clause-follows
returns-clause-follows c = λ s n c. follows s n c

pub returns-clause-given : goal.returns-clause-given
returns-clause-given c = λ s g n c. follows_given s g n c
