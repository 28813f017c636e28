use Rattle.std.proofs.Common.{◌≡◌, drop}
use Rattle.mo_scopes.specs.Findings.{digits_and_mark}
use Rattle.mo_scopes.proofs.names.digits_and_mark.Given as goal

abbrev pub invariant-loop-index : goal.invariant-loop-index
invariant-loop-index l = digits_and_mark l.name ≡ digits_and_mark (drop l.index l.name)
