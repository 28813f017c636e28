use Rattle.std.proofs.Common.{◌≡◌, take, map}
use Rattle.core_laws.specs.Split.{split_method}
use Rattle.suspend_split.specs.Makes.{size_of}
use Rattle.suspend_split.specs.Parts.{code_method, core_method}
use Rattle.suspend_split.proofs.program.split_methods.Given as goal

abbrev pub invariant-loop-method : goal.invariant-loop-method
invariant-loop-method l = map code_method l.made ≡ map (λ m. split_method (size_of l.sizes) (core_method m)) (take l.method-index l.methods)
