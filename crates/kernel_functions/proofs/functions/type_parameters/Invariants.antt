use Rattle.std.proofs.Common.{◌≡◌, map, take}
use Rattle.kernel_functions.specs.Functions.{parameter_of}
use Rattle.kernel_functions.proofs.functions.type_parameters.Given as goal

abbrev pub invariant-loop-one : goal.invariant-loop-one
invariant-loop-one l = l.made ≡ map (parameter_of l.types) (take l.one-index l.generics)
