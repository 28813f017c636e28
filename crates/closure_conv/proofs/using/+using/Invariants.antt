use Rattle.std.proofs.Common.{◌≡◌, drop}
use Rattle.core_ir.specs.CodeView.{Names, exit_code}
use Rattle.core_ir.specs.ScopeNames.{scope_names}
use Rattle.core_laws.specs.Uses.{uses}
use Rattle.core_ir.proofs.CodeViews.{begun}
use Rattle.closure_conv.proofs.using.+using.Given as goal

abbrev pub invariant-use_code-loop-instruction : goal.invariant-use_code-loop-instruction
invariant-use_code-loop-instruction l =
    let names : Names = scope_names l.scopes l.outermost in
    let rest = begun (drop l.instruction-index l.instruction-items) names (exit_code l.code.exit) in
    let all = begun l.instruction-items names (exit_code l.code.exit) in
    uses l.needs rest l.used ≡ uses l.needs all l.fn.used
