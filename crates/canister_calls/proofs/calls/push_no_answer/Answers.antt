use Rattle.canister_calls.proofs.calls.push_no_answer.Goals as goal

pub returns-then-is_left : goal.returns-then-is_left
returns-then-is_left c = rw c.if-is_left.true c.push_rejection.ensures
