use Rattle.std.proofs.Common.{ap, ◌∙◌, Some}
use Rattle.std.specs.Prelude.{slice_get}
use Rattle.canister_host.specs.HostRun.{upgrade}
use Rattle.canister_messages.specs.States.{canister_at, limits_of}
use Rattle.canister.specs.Shown.{canister_of, module_of, shown_state}
use Rattle.canister.proofs.Beginning.{ok_along}
use Rattle.canister.proofs.Showing.{module_at, can_run_at, sound_after, slice_at}
use Rattle.canister.proofs.events.upgrade_from.Goals as goal

pub upgrade-requires : goal.upgrade-requires
upgrade-requires c =
    let s = c.args.state.now in
    record { runs = can_run_at c.args.modules.now s c.index-modules-old.result c.requires.sound (module_at c.args.modules.now s c.in-Some.old c.index-modules-old.result c.requires.sound c.in-Some.is c.index-modules-old.is) }

pub returns-in-Some-clause-ok : goal.returns-in-Some-clause-ok
returns-in-Some-clause-ok c =
    let s = c.args.state.now in
    let modules = c.args.modules.now in
    let old = c.index-modules-old.result in
    let m = c.index-modules-number.result in
    let there = slice_at modules c.args.number m c.requires.below c.index-modules-number.is in
    ok_along c.upgrade.result
    (upgrade (limits_of s) s.own (slice_get modules c.args.number) (canister_of (module_of modules s.installed) s.memories.kept) (shown_state modules s))
    (upgrade (limits_of s) s.own (Some m) (Some (canister_at old s.memories.kept)) (shown_state modules s))
    (shown_state modules c.upgrade.new.state)
    (ap (λ o. upgrade (limits_of s) s.own o (canister_of (module_of modules s.installed) s.memories.kept) (shown_state modules s)) there
    ∙ ap (λ o. upgrade (limits_of s) s.own (Some m) (canister_of o s.memories.kept) (shown_state modules s)) (module_at modules s c.in-Some.old old c.requires.sound c.in-Some.is c.index-modules-old.is))
    (c.upgrade.ensures.ok modules there)

pub returns-in-Some-clause-sound : goal.returns-in-Some-clause-sound
returns-in-Some-clause-sound c =
    let m = c.index-modules-number.result in
    sound_after c.upgrade.result c.args.modules.now c.args.state.now c.upgrade.new.state m c.args.number c.requires.below (slice_at c.args.modules.now c.args.number m c.requires.below c.index-modules-number.is) c.requires.sound c.upgrade.ensures.keeps c.upgrade.ensures.comes c.upgrade.ensures.settled
