use Rattle.std.proofs.Common.{◌∙◌, [], ap}
use Rattle.ic0_world.specs.declared.kind.ExecutionKind.TheVariants as kind
use Rattle.canister_host.specs.HostRun.{entry_of}
use Rattle.canister_calls.specs.Calling.{state_with}
use Rattle.canister_execution.specs.Executed.{entries_of, execution_limits}
use Rattle.canister_messages.specs.States.{limits_of}
use Rattle.canister.specs.Shown.{canister_of, module_of, shown_state}
use Rattle.canister.proofs.Beginning.{preparation_ended, with_memories}
use Rattle.canister.proofs.installing.upgrade.Goals as goal

pub returns-in-Ok-clause-ok : goal.returns-in-Ok-clause-ok
returns-in-Ok-clause-ok c = λ modules there.
    let s = c.args.state.now in
    let x = c.enter.new.self in
    preparation_ended (limits_of s) (execution_limits x.limits) s.own c.args.tree.now c.args.old.now s.memories.kept (shown_state modules s) (shown_state modules (with_memories s x)) c.no_message-message.result (entries_of c.entry_at-entry.result) x.standing c.in-Ok.effects
    c.end_preparation.result (shown_state modules c.end_preparation.new.state)
    (ap execution_limits c.enter.ensures.limits)
    (ap (λ k. state_with (canister_of (module_of modules s.installed) k) s.calls) c.enter.ensures.kept)
    c.no_message-message.ensures
    (c.entry_at-entry.ensures.is ∙ ap (λ f. entry_of kind.PreUpgrade f []) c.exported.ensures.is)
    c.in-Ok.ensures.leaves (c.end_preparation.ensures.ok modules there)
