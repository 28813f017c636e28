use Rattle.std.proofs.Common.{Some}
use Rattle.canister_calls.specs.Calling.{during}
use Rattle.canister_messages.specs.States.{canister_at, state_at}
use Rattle.canister_messages.proofs.Ending.{cleanup_broken}
use Rattle.canister_messages.proofs.state.State.end_cleanup.Goals as goal

pub returns-clause-ok : goal.returns-clause-ok
returns-clause-ok c = λ m.
    cleanup_broken c.args.owner c.args.items c.push_prints.new.items c.push.new.self c.args.word c.in-Some.second (canister_at m c.args.self.now.memories.standing) c.args.effects (during (Some c.args.number) (state_at m c.args.self.now))
    c.break_off.result (state_at m c.break_off.new.self) c.in-Some.is c.in-Ok.ensures c.in-Ok-push.ensures.ok (c.break_off.ensures.ok m)
