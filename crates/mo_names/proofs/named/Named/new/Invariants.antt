use Rattle.std.proofs.Common.{◌≡◌, ◌++◌, drop}
use Rattle.mo_names.specs.ProgramNames.{meanings}
use Rattle.mo_names.proofs.named.Named.new.Given as goal

abbrev pub invariant-loop-finding : goal.invariant-loop-finding
invariant-loop-finding l = meanings l.found ≡ l.list ++ meanings (drop l.finding-index l.found)
