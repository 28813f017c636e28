use Rattle.std.proofs.Common.{◌≡◌, ◌++◌, drop}
use Rattle.mo_scopes.specs.Findings.{labels, numbered_behind}
use Rattle.mo_scopes.proofs.names.labels.Given as goal

abbrev pub invariant-loop-name : goal.invariant-loop-name
invariant-loop-name l = l.initial.found ++ labels l.names ≡ l.found ++ numbered_behind l.front.keys (drop l.name-index l.names)
