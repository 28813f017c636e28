use Rattle.std.proofs.Common.{◌≡◌, ◌++◌, drop}
use Rattle.std.specs.List.{flat_map}
use Rattle.mo_names.specs.ProgramNames.{field_systems}
use Rattle.mo_names.proofs.program.ProgramWalk.system_names.Given as goal

abbrev pub invariant-loop-one : goal.invariant-loop-one
invariant-loop-one l = flat_map field_systems l.fields ≡ l.names ++ flat_map field_systems (drop l.one-index l.fields)
