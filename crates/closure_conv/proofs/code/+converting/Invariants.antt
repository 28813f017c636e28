use Rattle.std.proofs.Common.{◌≡◌, drop}
use Rattle.core_ir.specs.CodeView.{Names, exit_code}
use Rattle.core_ir.specs.ScopeNames.{scope_names}
use Rattle.core_laws.specs.Conversion.{convert}
use Rattle.core_ir.proofs.CodeViews.{begun}
use Rattle.closure_conv.proofs.code.+converting.Given as goal

abbrev pub invariant-convert_code-loop-instruction : goal.invariant-convert_code-loop-instruction
invariant-convert_code-loop-instruction l =
    let outer : Names = scope_names l.scopes l.outermost in
    let rest = begun (drop l.instruction-index l.instruction-items) outer (exit_code l.code.exit) in
    let all = begun l.instruction-items outer (exit_code l.code.exit) in
    (names : Names) → begun l.instructions names (convert l.needs l.used rest) ≡ convert l.needs l.used all
