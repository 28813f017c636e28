use Rattle.elaboration_formed.proofs.Groups.{groups, functions_groups, start_fits}
use Rattle.elaboration_formed.proofs.laws.groups_are_formed.Goals as goal

pub returns-clause-groups : goal.returns-clause-groups
returns-clause-groups c = λ globals table b s n e t h f k. groups globals table b s n e t h f k

pub returns-clause-inner : goal.returns-clause-inner
returns-clause-inner c = λ globals table s n fns t h f k. functions_groups globals table s n fns t h f k

pub returns-clause-starts : goal.returns-clause-starts
returns-clause-starts c = λ globals methods kept h. start_fits globals methods kept h
