use Rattle.std.proofs.Common.{◌≡◌, drop, map}
use Rattle.core_ir.specs.CodeView.{code_of}
use Rattle.core_ir.specs.ScopeNames.{scope_names}
use Rattle.core_laws.specs.Uses.{uses_segments}
use Rattle.closure_conv.proofs.program.use_body.Given as goal

abbrev pub invariant-loop-segment : goal.invariant-loop-segment
invariant-loop-segment l =
    let all = map (λ c. code_of c (scope_names l.body.scopes l.outermost)) l.segment-items in
    uses_segments l.needs (map (λ c. code_of c (scope_names l.body.scopes l.outermost)) (drop l.segment-index l.segment-items)) l.used ≡ uses_segments l.needs all l.fn.used
