use Rattle.std.proofs.Common.{sym, subst, List}
use Rattle.ic0_world.specs.declared.function.Ic0.{Ic0}
use Rattle.canister_execution.specs.Executed.{AreImported}
use Rattle.canister_execution.proofs.execution.execute.Goals as goal

pub enter_both-requires-clause-imported : goal.enter_both-requires-clause-imported
enter_both-requires-clause-imported c =
    let P : List Ic0 → Type 0 = λ functions. AreImported c.args.tree.now functions in
    subst P (sym c.new-host.ensures.functions) (record { made_for = c.in-Ok.ensures.made_for; each = c.in-Ok.ensures.each })
