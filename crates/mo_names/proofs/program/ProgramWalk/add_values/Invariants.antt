use Rattle.std.proofs.Common.{◌≡◌, ◌++◌, drop}
use Rattle.std.specs.List.{flat_map}
use Rattle.mo_names.specs.ProgramNames.{field_values}
use Rattle.mo_names.proofs.program.ProgramWalk.add_values.Given as goal

abbrev pub invariant-loop-one : goal.invariant-loop-one
invariant-loop-one l = l.initial.names ++ flat_map field_values l.fields ≡ l.names ++ flat_map field_values (drop l.one-index l.fields)
