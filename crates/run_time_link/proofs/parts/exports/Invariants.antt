use Rattle.std.proofs.Common.{◌≡◌, ◌+◌, ◌++◌, drop}
use Rattle.run_time_link.specs.Linking.{exports_from}
use Rattle.run_time_link.proofs.parts.exports.Given as goal

abbrev pub invariant-loop-entry : goal.invariant-loop-entry
invariant-loop-entry l = (exports_from l.first l.entries ≡ l.exports ++ exports_from l.function (drop l.entry-index l.entries)) × (l.function ≡ l.first + l.entry-index)
