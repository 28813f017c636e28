use Rattle.mo_actor.proofs.Shares.{steps_share, stack_share, heap_share, other_shares, first_memories}
use Rattle.mo_actor.proofs.rows.shares_are_as_wanted.Goals as goal

pub returns-clause-steps : goal.returns-clause-steps
returns-clause-steps c = steps_share

pub returns-clause-stack : goal.returns-clause-stack
returns-clause-stack c = stack_share

pub returns-clause-heap : goal.returns-clause-heap
returns-clause-heap c = heap_share

pub returns-clause-others : goal.returns-clause-others
returns-clause-others c = other_shares

pub returns-clause-first : goal.returns-clause-first
returns-clause-first c = first_memories
