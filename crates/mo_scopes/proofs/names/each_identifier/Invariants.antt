use Rattle.std.proofs.Common.{◌≡◌, ◌++◌, drop}
use Rattle.mo_scopes.specs.Findings.{each_identifier}
use Rattle.mo_scopes.proofs.names.each_identifier.Given as goal

abbrev pub invariant-loop-name : goal.invariant-loop-name
invariant-loop-name l =
    l.initial.found ++ each_identifier l.names ≡ l.found ++ each_identifier (drop l.name-index l.names)
