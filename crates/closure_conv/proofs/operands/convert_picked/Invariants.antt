use Rattle.std.proofs.Common.{◌≡◌, take, map}
use Rattle.core_ir.specs.CodeView.{seen_names}
use Rattle.core_ir.specs.ScopeNames.{scope_names}
use Rattle.core_laws.specs.Conversion.{seen_as}
use Rattle.core_laws.specs.Uses.{picked}
use Rattle.closure_conv.proofs.operands.convert_picked.Given as goal

abbrev pub invariant-loop-place : goal.invariant-loop-place
invariant-loop-place l =
    let seen = seen_names (scope_names l.scopes l.outermost) l.seen in
    l.made ≡ map (seen_as l.used) (picked seen (take l.place-index l.needs))
