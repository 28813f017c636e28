use Rattle.std.proofs.Common.{◌≡◌, ◌++◌, drop}
use Rattle.mo_scopes.specs.Findings.{each_label}
use Rattle.mo_scopes.proofs.names.each_label.Given as goal

abbrev pub invariant-loop-name : goal.invariant-loop-name
invariant-loop-name l =
    l.initial.found ++ each_label l.names ≡ l.found ++ each_label (drop l.name-index l.names)
