use Rattle.std.proofs.Common.{◌≡◌, drop, map}
use Rattle.core_ir.specs.CodeView.{code_body}
use Rattle.core_ir.specs.ProgramView.{method}
use Rattle.low_emit.specs.Texts.{methods_texts}
use Rattle.program_texts.proofs.program.add_methods.Given as goal

abbrev pub invariant-loop-method : goal.invariant-loop-method
invariant-loop-method l = methods_texts (map (method code_body) (drop l.method-index l.methods)) l.table ≡ methods_texts (map (method code_body) l.methods) l.fn.table
