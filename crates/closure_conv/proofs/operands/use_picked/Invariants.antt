use Rattle.std.proofs.Common.{◌≡◌, drop}
use Rattle.core_ir.specs.CodeView.{seen_names}
use Rattle.core_ir.specs.ScopeNames.{scope_names}
use Rattle.core_laws.specs.Uses.{picked, use_all}
use Rattle.closure_conv.proofs.operands.use_picked.Given as goal

abbrev pub invariant-loop-place : goal.invariant-loop-place
invariant-loop-place l =
    let seen = seen_names (scope_names l.scopes l.outermost) l.seen in
    use_all (picked seen (drop l.place-index l.needs)) l.used ≡ use_all (picked seen l.needs) l.fn.used
