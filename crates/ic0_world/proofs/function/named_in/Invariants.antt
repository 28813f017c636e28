use Rattle.std.proofs.Common.{◌≡◌, drop}
use Rattle.std.specs.List.{find}
use Rattle.std.specs.Str.{bytes_eq}
use Rattle.ic0_world.specs.Names.{function_name}
use Rattle.ic0_world.proofs.function.named_in.Given as goal

abbrev pub invariant-loop-function : goal.invariant-loop-function
invariant-loop-function l = find (λ function. bytes_eq (function_name function) l.name) (drop l.function-index l.functions) ≡ find (λ function. bytes_eq (function_name function) l.name) l.functions
