use Rattle.std.proofs.Common.{◌∙◌, sym, ap, Some}
use Rattle.canister_calls.specs.Calling.{during, state_with}
use Rattle.canister_execution.specs.Executed.{execution_limits}
use Rattle.canister_messages.specs.Received.{received_of}
use Rattle.canister_messages.specs.States.{canister_at, limits_of, message_of, state_at}
use Rattle.canister_messages.proofs.Ending.{callback_ended}
use Rattle.canister_messages.proofs.state.State.enter_callback.Goals as goal

pub returns-in-Ok-clause-ok : goal.returns-in-Ok-clause-ok
returns-in-Ok-clause-ok c = λ call same.
    let s = c.args.self.now in
    let m = c.args.tree.now in
    let x = c.call_back.new.self in
    let was = canister_at m s.memories.kept in
    callback_ended (limits_of s) (execution_limits x.limits) s.own m s.memories.kept x.kept x.standing (received_of c.args.received) c.kind_of-kind.result c.callback_for-callback.result call (Some c.args.number) c.args.call.owner s.calls
    c.with_received-message.result c.message-asked.result c.in-Ok.effects c.end_callback.result (state_at m c.end_callback.new.self)
    (ap execution_limits c.call_back.ensures.limits) c.call_back.ensures.kept (sym (ap (λ a. a.owner) same)) c.kind_of-kind.ensures (c.callback_for-callback.ensures call same) c.with_received-message.ensures
    (c.message-asked.ensures.is (Some was) ∙ ap (λ a. message_of c.args.call.owner a (during (Some c.args.number) (state_with (Some was) s.calls))) c.new.ensures)
    c.in-Ok.ensures.leaves (c.end_callback.ensures.ok call same)
