use Rattle.std.proofs.Common.{ap, Some, codes}
use Rattle.canister_host.specs.HostRun.{enter_query, refuse}
use Rattle.canister_calls.specs.Calling.{state_with}
use Rattle.canister_messages.specs.States.{canister_at, limits_of, state_at}
use Rattle.canister_messages.proofs.Ending.{ok_along}
use Rattle.canister_messages.proofs.state.State.enter_query.Goals as goal

pub returns-in-None-clause-ok : goal.returns-in-None-clause-ok
returns-in-None-clause-ok c =
    let s = c.args.self.now in
    let m = c.args.tree.now in
    let was = canister_at m s.memories.kept in
    ok_along c.refuse.result (enter_query (limits_of s) s.own was c.args.query c.args.owner c.args.argument.now (state_at m s)) (refuse c.args.owner 5 (codes "no method") (state_at m s)) (state_with (Some was) c.refuse.new.self)
    (ap (λ q. enter_query (limits_of s) s.own was q c.args.owner c.args.argument.now (state_at m s)) c.in-None.is)
    (c.refuse.ensures.ok (Some was))
