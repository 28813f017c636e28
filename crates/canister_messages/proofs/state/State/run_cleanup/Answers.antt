use Rattle.std.proofs.Common.{◌∙◌, ap, Some}
use Rattle.canister_calls.specs.Calling.{during, state_with}
use Rattle.canister_messages.specs.States.{canister_at, limits_of, message_of, state_at}
use Rattle.canister_messages.proofs.Ending.{cleanup_ended}
use Rattle.canister_messages.proofs.state.State.run_cleanup.Goals as goal

pub returns-in-Ok-clause-ok : goal.returns-in-Ok-clause-ok
returns-in-Ok-clause-ok c = λ call prints owner_so set items_so.
    let s = c.args.self.now in
    let m = c.args.tree.now in
    let was = canister_at m s.memories.kept in
    cleanup_ended (limits_of s) s.own m s.memories.kept c.call_back.new.self.kept c.call_back.new.self.standing c.args.callback call c.args.word prints (Some c.args.number) c.args.owner c.args.items s.calls c.message-message.result c.in-Ok.effects
    c.end_cleanup.result (state_at m c.end_cleanup.new.self)
    c.call_back.ensures.kept owner_so set items_so
    (c.message-message.ensures.is (Some was) ∙ ap (λ a. message_of c.args.owner a (during (Some c.args.number) (state_with (Some was) s.calls))) c.new.ensures)
    c.in-Ok.ensures.leaves (c.end_cleanup.ensures.ok m)
