use Rattle.std.proofs.Common.{◌≡◌, ℕ, drop, map}
use Rattle.core_ir.specs.CodeView.{code_of, names_of}
use Rattle.low_emit.specs.Texts.{segments_texts}
use Rattle.program_texts.proofs.program.add_body.Given as goal

abbrev pub invariant-loop-segment : goal.invariant-loop-segment
invariant-loop-segment l =
    (functions sees : ℕ) → segments_texts (map (λ c. code_of c (names_of functions sees l.body)) (drop l.segment-index l.segment-items)) l.table ≡ segments_texts (map (λ c. code_of c (names_of functions sees l.body)) l.segment-items) l.fn.table
