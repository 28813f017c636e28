use Rattle.std.proofs.Common.{◌≡◌, ℕ, take, map}
use Rattle.core_ir.specs.CodeView.{code_body}
use Rattle.core_laws.specs.Conversion.{convert_body}
use Rattle.closure_conv.proofs.program.convert_group.Given as goal

abbrev pub invariant-loop-body : goal.invariant-loop-body
invariant-loop-body l =
    (f s : ℕ) → map (code_body f s) l.bodies ≡ map (λ b. convert_body l.needs l.used (code_body l.functions l.group.sees b)) (take l.body-index l.sources)
