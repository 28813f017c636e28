use Rattle.std.proofs.Common.{ap, sym, ◌∙◌, Some, nat_eq, arith}
use Rattle.std.specs.Prelude.{find, not}
use Rattle.canister_host.specs.declared.calls.OpenCall.{OpenCall}
use Rattle.canister_host.specs.HostRun.{answered, answer, enter_callback}
use Rattle.canister_calls.specs.Calling.{during, state_with}
use Rattle.canister_messages.specs.Received.{received_of}
use Rattle.canister_messages.specs.States.{canister_at, limits_of, state_at}
use Rattle.canister.specs.Shown.{canister_of, shown_state}
use Rattle.canister.proofs.Showing.{module_at, can_run_at, shown_at, installed_still, sound_still, ok_between, found_call, few_filtered, Found}
use Rattle.canister.proofs.events.answer.Goals as goal

pub enter_callback-requires-clause-runs : goal.enter_callback-requires-clause-runs
enter_callback-requires-clause-runs c =
    let s = c.args.state.now in
    can_run_at c.args.modules.now s c.index-modules-installed.result c.requires.sound (module_at c.args.modules.now s c.in-Some.installed c.index-modules-installed.result c.requires.sound c.in-Some.is c.index-modules-installed.is)

pub enter_callback-requires-clause-few : goal.enter_callback-requires-clause-few
enter_callback-requires-clause-few c = omega (arith, few_filtered (λ (other : OpenCall). not (nat_eq other.number c.args.number)) c.args.state.now.calls.waiting.items, c.requires.sound.waiting)

pub returns-in-Some-awaiting-clause-ok : goal.returns-in-Some-awaiting-clause-ok
returns-in-Some-awaiting-clause-ok c =
    let s = c.args.state.now in
    let modules = c.args.modules.now in
    let m = c.index-modules-installed.result in
    let at = module_at modules s c.in-Some.installed m c.requires.sound c.in-Some.is c.index-modules-installed.is in
    let n = c.enter_callback.new.self in
    let sought = find (λ (call : OpenCall). nat_eq call.number c.args.number) s.calls.waiting.items in
    let found : Found sought c.in-Some-awaiting.call = found_call sought c.in-Some-awaiting.call (sym c.awaiting.ensures ∙ c.in-Some-awaiting.is) in
    ok_between c.enter_callback.result
    (answer (limits_of s) s.own c.args.number (received_of c.args.received) (shown_state modules s))
    (enter_callback (limits_of s) s.own (received_of c.args.received) (canister_at m s.memories.kept) found.call (during (Some c.args.number) (state_at m s)))
    (shown_state modules n) (state_at m n)
    (ap (λ o. answered (limits_of s) s.own c.args.number (received_of c.args.received) (canister_of o s.memories.kept) sought (state_with (canister_of o s.memories.kept) s.calls)) at
    ∙ ap (λ o. answered (limits_of s) s.own c.args.number (received_of c.args.received) (Some (canister_at m s.memories.kept)) o (state_at m s)) found.there)
    (shown_at modules n m (installed_still modules s n m c.enter_callback.ensures.rest.installed at))
    (c.enter_callback.ensures.ok found.call found.same)

pub returns-in-Some-awaiting-clause-sound : goal.returns-in-Some-awaiting-clause-sound
returns-in-Some-awaiting-clause-sound c =
    let s = c.args.state.now in
    let m = c.index-modules-installed.result in
    sound_still c.enter_callback.result c.args.modules.now s c.enter_callback.new.self m c.requires.sound (module_at c.args.modules.now s c.in-Some.installed m c.requires.sound c.in-Some.is c.index-modules-installed.is) c.enter_callback.ensures.runs c.enter_callback.ensures.rest
