use Rattle.std.proofs.Common.{◌≡◌, ℕ, drop, map}
use Rattle.core_ir.specs.CodeView.{code_body}
use Rattle.low_emit.specs.Texts.{bodies_texts}
use Rattle.program_texts.proofs.program.add_bodies.Given as goal

abbrev pub invariant-loop-body : goal.invariant-loop-body
invariant-loop-body l = (functions sees : ℕ) → bodies_texts (map (code_body functions sees) (drop l.body-index l.bodies)) l.table ≡ bodies_texts (map (code_body functions sees) l.bodies) l.fn.table
