use Rattle.std.proofs.Common.{◌≡◌, take, map}
use Rattle.core_ir.specs.CodeView.{Names, code_of}
use Rattle.core_ir.specs.ScopeNames.{scope_names}
use Rattle.core_laws.specs.Conversion.{convert}
use Rattle.closure_conv.proofs.program.convert_body.Given as goal

abbrev pub invariant-loop-segment : goal.invariant-loop-segment
invariant-loop-segment l =
    (names : Names) → map (λ c. code_of c names) l.segments
    ≡ map (λ c. convert l.needs l.used (code_of c (scope_names l.body.scopes l.outermost))) (take l.segment-index l.segment-items)
