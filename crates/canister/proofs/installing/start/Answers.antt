use Rattle.std.proofs.Common.{[], ap, ◌∙◌}
use Rattle.ic0_world.specs.declared.kind.ExecutionKind.TheVariants as kind
use Rattle.canister_host.specs.HostRun.{entry_of}
use Rattle.canister_calls.specs.Calling.{state_with}
use Rattle.canister_execution.specs.Executed.{entries_of}
use Rattle.canister_messages.specs.States.{limits_of}
use Rattle.canister.specs.Shown.{canister_of, module_of, shown_state}
use Rattle.canister.proofs.Beginning.{start_ended, with_memories}
use Rattle.canister.proofs.installing.start.Goals as goal

pub returns-in-Ok-clause-ok : goal.returns-in-Ok-clause-ok
returns-in-Ok-clause-ok c = λ modules there loaded.
    let s = c.args.state.now in
    let m = c.args.tree.now in
    start_ended (limits_of s) s.own m c.args.kind c.args.name.now c.args.last s.memories.standing.stable c.args.items (shown_state modules s) (shown_state modules (with_memories s c.execute.new.self)) s.memories.standing.instance c.no_message-message.result
    (entries_of c.entry_at-start.result) (entries_of c.entry_at-entry.result) c.execute.new.self.standing c.in-Ok.effects c.end_start.result (shown_state modules c.end_start.new.state)
    (ap (λ k. state_with (canister_of (module_of modules s.installed) k) s.calls) c.execute.ensures.kept)
    c.no_message-message.ensures
    (c.entry_at-start.ensures.is ∙ ap (λ f. entry_of kind.Start f []) c.start_function.ensures.is)
    (c.entry_at-entry.ensures.is ∙ ap (λ f. entry_of c.args.kind f []) c.exported.ensures.is)
    loaded c.in-Ok.ensures.leaves (c.end_start.ensures.ok m modules there)
