use Rattle.std.proofs.Common.{◌≡◌, take, map}
use Rattle.core_laws.specs.Conversion.{convert_method}
use Rattle.closure_conv.specs.Parts.{method_view}
use Rattle.closure_conv.proofs.program.convert_methods.Given as goal

abbrev pub invariant-loop-method : goal.invariant-loop-method
invariant-loop-method l = map method_view l.made ≡ map (λ m. convert_method l.needs (method_view m)) (take l.method-index l.methods)
