use Rattle.fault_places.proofs.Rows.{is_below, is_last, is_refused}
use Rattle.fault_places.proofs.laws.the_last_token_may_be_at_fault.Goals as goal

pub returns-clause-refused : goal.returns-clause-refused
returns-clause-refused c = is_refused

pub returns-clause-below : goal.returns-clause-below
returns-clause-below c = is_below

pub returns-clause-last : goal.returns-clause-last
returns-clause-last c = is_last
