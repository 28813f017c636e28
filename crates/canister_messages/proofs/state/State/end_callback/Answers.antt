use Rattle.std.proofs.Common.{◌∙◌, sym, ap, Some}
use Rattle.canister_host.specs.HostRun.{clean_up, printed}
use Rattle.canister_calls.specs.Calling.{during, finished, state_with}
use Rattle.canister_messages.specs.Left.{callback_left}
use Rattle.canister_messages.specs.States.{canister_at, limits_of, state_at}
use Rattle.canister_messages.proofs.Ending.{ok_along}
use Rattle.canister_messages.proofs.state.State.end_callback.Goals as goal

pub returns-in-None-clause-ok : goal.returns-in-None-clause-ok
returns-in-None-clause-ok c = λ call same.
    let s = c.args.self.now in
    let m = c.args.tree.now in
    let e = c.args.effects in
    let left = canister_at m s.memories.standing in
    let state = during (Some c.args.number) (state_with (Some left) s.calls) in
    ok_along c.finish.result (callback_left (limits_of s) s.own (canister_at m s.memories.kept) left call e (during (Some c.args.number) (state_at m s)) e.trap) (finished c.args.call.owner c.in-Ok.items e.performed e.answer state) (state_at m c.finish.new.self)
    (ap (λ t. callback_left (limits_of s) s.own (canister_at m s.memories.kept) left call e (during (Some c.args.number) (state_at m s)) t) c.in-None.is
    ∙ ap (λ o. finished o (printed e.prints) e.performed e.answer state) (ap (λ a. a.owner) same)
    ∙ ap (λ l. finished c.args.call.owner l e.performed e.answer state) (sym c.in-Ok.ensures))
    (c.finish.ensures.ok m)

pub returns-in-Some-clause-ok : goal.returns-in-Some-clause-ok
returns-in-Some-clause-ok c = λ call same.
    let s = c.args.self.now in
    let m = c.args.tree.now in
    let e = c.args.effects in
    let state = during (Some c.args.number) (state_at m s) in
    ok_along c.clean_up.result (callback_left (limits_of s) s.own (canister_at m s.memories.kept) (canister_at m s.memories.standing) call e state e.trap) (clean_up (limits_of s) s.own (canister_at m s.memories.kept) call c.in-Some.word e.prints state) (state_at m c.clean_up.new.self)
    (ap (λ t. callback_left (limits_of s) s.own (canister_at m s.memories.kept) (canister_at m s.memories.standing) call e state t) c.in-Some.is)
    (c.clean_up.ensures.ok call e.prints same c.in-Ok.ensures)
