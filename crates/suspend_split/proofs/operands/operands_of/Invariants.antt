use Rattle.std.proofs.Common.{◌≡◌, ◌++◌, drop, map}
use Rattle.core_ir.specs.ScopeNames.{scope_names}
use Rattle.core_ir.specs.View.{exps, expression}
use Rattle.core_laws.specs.Slots.{operands}
use Rattle.suspend_split.proofs.operands.operands_of.Given as goal

abbrev pub invariant-loop-argument : goal.invariant-loop-argument
invariant-loop-argument l =
    let names = scope_names l.scopes l.outermost l.scope in
    l.operands ++ operands names (exps (map expression (drop l.argument-index l.arguments))) l.next ≡ operands names (exps (map expression l.arguments)) l.free
