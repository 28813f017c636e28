use Rattle.std.proofs.Common.{◌≡◌, ◌++◌, drop, map}
use Rattle.std.specs.Prelude.{reverse}
use Rattle.core_ir.specs.View.{core_body}
use Rattle.typed_tree.specs.ProgramView as source
use Rattle.elaboration.specs.Programs.{methods_of}
use Rattle.mo_elab.proofs.Serving.{method_view}
use Rattle.mo_elab.proofs.methods.methods_of.Given as goal

abbrev pub invariant-loop-method : goal.invariant-loop-method
invariant-loop-method l = map method_view l.made ++ methods_of (map source.method (drop l.method-index l.methods)) (map core_body (reverse l.rest.items)) ≡ methods_of (map source.method l.methods) (map core_body l.fn.bodies)
