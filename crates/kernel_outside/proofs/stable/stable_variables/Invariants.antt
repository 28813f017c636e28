use Rattle.std.proofs.Common.{◌≡◌, ◌++◌, drop}
use Rattle.desugaring.specs.Programs as programs
use Rattle.kernel_types.specs.Numbers.{definitions, number}
use Rattle.kernel_parts.specs.Views.{list_in}
use Rattle.kernel_outside.proofs.stable.stable_variables.Given as goal

abbrev pub invariant-loop-one : goal.invariant-loop-one
invariant-loop-one l = l.made ++ programs.stable_of (definitions l.types) (number l.types) l.frames (list_in l.types (drop l.one-index l.fields)) ≡ programs.stable_of (definitions l.types) (number l.types) l.frames (list_in l.types l.fields)
