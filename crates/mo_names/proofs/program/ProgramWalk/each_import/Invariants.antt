use Rattle.std.proofs.Common.{◌≡◌, ◌++◌, drop}
use Rattle.std.specs.List.{flat_map}
use Rattle.mo_names.specs.ProgramNames.{in_import}
use Rattle.mo_names.proofs.program.ProgramWalk.each_import.Given as goal

abbrev pub invariant-loop-one : goal.invariant-loop-one
invariant-loop-one l =
    l.initial.found ++ flat_map in_import l.imports ≡ l.found ++ flat_map in_import (drop l.one-index l.imports)
