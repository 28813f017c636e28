use Rattle.std.proofs.Common.{ap, Some, None, codes}
use Rattle.canister_host.specs.HostRun.{enter_call, refuse}
use Rattle.canister_calls.specs.Calling.{state_with}
use Rattle.canister_messages.specs.States.{canister_at, limits_of, state_at}
use Rattle.canister.specs.Shown.{canister_of, module_of, shown_state}
use Rattle.canister.proofs.Showing.{module_at, can_run_at, shown_at, installed_still, sound_still, ok_between}
use Rattle.canister.proofs.events.answer_call.Goals as goal

pub enter_call-requires-clause-runs : goal.enter_call-requires-clause-runs
enter_call-requires-clause-runs c =
    let s = c.args.state.now in
    can_run_at c.args.modules.now s c.index-modules-number.result c.requires.sound (module_at c.args.modules.now s c.in-Some.number c.index-modules-number.result c.requires.sound c.in-Some.is c.index-modules-number.is)

pub returns-in-Some-clause-ok : goal.returns-in-Some-clause-ok
returns-in-Some-clause-ok c =
    let s = c.args.state.now in
    let modules = c.args.modules.now in
    let m = c.index-modules-number.result in
    let at = module_at modules s c.in-Some.number m c.requires.sound c.in-Some.is c.index-modules-number.is in
    let n = c.enter_call.new.self in
    ok_between c.enter_call.result
    (enter_call (limits_of s) s.own c.args.query c.args.method.now c.args.argument.now (canister_of (module_of modules s.installed) s.memories.kept) c.args.owner (shown_state modules s))
    (enter_call (limits_of s) s.own c.args.query c.args.method.now c.args.argument.now (Some (canister_at m s.memories.kept)) c.args.owner (state_at m s))
    (shown_state modules n) (state_at m n)
    (ap (λ o. enter_call (limits_of s) s.own c.args.query c.args.method.now c.args.argument.now (canister_of o s.memories.kept) c.args.owner (state_with (canister_of o s.memories.kept) s.calls)) at)
    (shown_at modules n m (installed_still modules s n m c.enter_call.ensures.rest.installed at))
    c.enter_call.ensures.ok

pub returns-in-Some-clause-sound : goal.returns-in-Some-clause-sound
returns-in-Some-clause-sound c =
    let s = c.args.state.now in
    let m = c.index-modules-number.result in
    sound_still c.enter_call.result c.args.modules.now s c.enter_call.new.self m c.requires.sound (module_at c.args.modules.now s c.in-Some.number m c.requires.sound c.in-Some.is c.index-modules-number.is) c.enter_call.ensures.runs c.enter_call.ensures.rest

pub returns-in-None-clause-ok : goal.returns-in-None-clause-ok
returns-in-None-clause-ok c =
    let s = c.args.state.now in
    let modules = c.args.modules.now in
    ok_between c.refuse.result
    (enter_call (limits_of s) s.own c.args.query c.args.method.now c.args.argument.now (canister_of (module_of modules s.installed) s.memories.kept) c.args.owner (shown_state modules s))
    (refuse c.args.owner 3 (codes "no canister") (state_with None s.calls))
    (state_with (canister_of (module_of modules s.installed) s.memories.kept) c.refuse.new.self) (state_with None c.refuse.new.self)
    (ap (λ o. enter_call (limits_of s) s.own c.args.query c.args.method.now c.args.argument.now (canister_of (module_of modules o) s.memories.kept) c.args.owner (state_with (canister_of (module_of modules o) s.memories.kept) s.calls)) c.in-None.is)
    (ap (λ o. state_with (canister_of (module_of modules o) s.memories.kept) c.refuse.new.self) c.in-None.is)
    (c.refuse.ensures.ok None)
