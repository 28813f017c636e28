use Rattle.std.proofs.Common.{◌≡◌, ◌++◌, drop}
use Rattle.std.specs.List.{flat_map}
use Rattle.mo_names.specs.ProgramNames.{field_methods}
use Rattle.mo_names.proofs.program.ProgramWalk.method_names.Given as goal

abbrev pub invariant-loop-one : goal.invariant-loop-one
invariant-loop-one l = flat_map field_methods l.fields ≡ l.names ++ flat_map field_methods (drop l.one-index l.fields)
