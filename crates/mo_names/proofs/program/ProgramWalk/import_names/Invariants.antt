use Rattle.std.proofs.Common.{◌≡◌, ◌++◌, drop}
use Rattle.mo_names.specs.ProgramNames.{import_names}
use Rattle.mo_names.proofs.program.ProgramWalk.import_names.Given as goal

abbrev pub invariant-loop-one : goal.invariant-loop-one
invariant-loop-one l = import_names l.imports ≡ l.names ++ import_names (drop l.one-index l.imports)
