use Rattle.std.proofs.Common.{◌≡◌, ◌++◌, drop}
use Rattle.mo_scopes.specs.Findings.{together, behind}
use Rattle.mo_scopes.proofs.names.together.Given as goal

abbrev pub invariant-loop-name : goal.invariant-loop-name
invariant-loop-name l = l.initial.found ++ together l.names ≡ l.found ++ behind l.front (drop l.name-index l.names)
