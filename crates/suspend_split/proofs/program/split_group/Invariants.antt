use Rattle.std.proofs.Common.{◌≡◌, take, map}
use Rattle.core_ir.specs.CodeView.{code_body}
use Rattle.core_ir.specs.View.{core_body}
use Rattle.core_laws.specs.Split.{split_body}
use Rattle.suspend_split.specs.Makes.{size_of}
use Rattle.suspend_split.proofs.program.split_group.Given as goal

abbrev pub invariant-loop-body : goal.invariant-loop-body
invariant-loop-body l =
    map (code_body l.functions l.group.sees) l.bodies ≡ map (λ b. split_body (size_of l.sizes) l.functions l.group.sees (core_body b)) (take l.body-index l.sources)
