use Rattle.std.proofs.Common.{◌∙◌, ap, Some}
use Rattle.canister_calls.specs.Calling.{state_with}
use Rattle.canister_messages.specs.States.{canister_at, limits_of, message_of, state_at}
use Rattle.canister_messages.proofs.Ending.{method_ended}
use Rattle.canister_messages.proofs.state.State.enter_method.Goals as goal

pub returns-in-Ok-enter-clause-ok : goal.returns-in-Ok-enter-clause-ok
returns-in-Ok-enter-clause-ok c =
    let s = c.args.self.now in
    let m = c.args.tree.now in
    let was = canister_at m s.memories.kept in
    method_ended (limits_of s) s.own m s.memories.kept c.enter.new.self.kept c.enter.new.self.standing c.args.kind c.args.puts_back c.args.function c.args.owner c.args.argument.now s.calls c.message-message.result c.in-Ok-enter.effects
    c.end_method.result (state_at m c.end_method.new.self)
    c.enter.ensures.kept
    (c.message-message.ensures.is (Some was) ∙ ap (λ a. message_of c.args.owner a (state_with (Some was) s.calls)) (c.in-Ok.ensures ∙ c.as_slice.ensures))
    c.in-Ok-enter.ensures.leaves (c.end_method.ensures.ok m)
