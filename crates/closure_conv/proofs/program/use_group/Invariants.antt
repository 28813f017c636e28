use Rattle.std.proofs.Common.{◌≡◌, [], drop, map}
use Rattle.core_ir.specs.CodeView.{code_body}
use Rattle.core_laws.specs.Uses.{uses_bodies}
use Rattle.closure_conv.proofs.program.use_group.Given as goal

abbrev pub invariant-loop-body : goal.invariant-loop-body
invariant-loop-body l =
    uses_bodies l.needs (map (code_body l.functions l.group.sees) (drop l.body-index l.bodies)) l.used ≡ uses_bodies l.needs (map (code_body l.functions l.group.sees) l.bodies) []
