use Rattle.std.proofs.Common.{◌≡◌, ◌∙◌, List, [], ap, subst, codes}
use Rattle.std.specs.Prelude.{IfOk}
use Rattle.play_script.specs.declared.item.Item.{Item}
use Rattle.play_script.specs.declared.item.Item.TheVariants as item
use Rattle.ic0_world.specs.declared.kind.ExecutionKind.TheVariants as kind
use Rattle.canister_host.specs.HostRun.{begin, outcome}
use Rattle.canister_messages.specs.States.{limits_of}
use Rattle.canister.specs.Shown.{shown_state}
use Rattle.canister.proofs.Beginning.{begin_moved, with_memories}
use Rattle.canister.proofs.installing.install.Goals as goal

pub returns-clause-ok : goal.returns-clause-ok
returns-clause-ok c = λ modules there.
    let s = c.args.state.now in
    let m = c.args.tree.now in
    let x = c.prepare.new.self in
    let new = shown_state modules c.begin.new.state in
    let P : List Item → Type 0 = λ before. IfOk c.begin.result (λ done. begin (limits_of (with_memories s x)) s.own m kind.Init (codes "canister_init") item.Installed x.standing.stable before (shown_state modules (with_memories s x)) ≡ outcome done new) in
    begin_moved s.own m kind.Init (codes "canister_init") item.Installed [] s x [] modules c.begin.result new
    c.prepare.ensures.limits (ap (λ v. v.standing.stable) c.in_ok-prepare.ensures.ok ∙ c.requires.empty) c.prepare.ensures.kept
    (subst P c.new-items.ensures (c.begin.ensures.ok modules there))
