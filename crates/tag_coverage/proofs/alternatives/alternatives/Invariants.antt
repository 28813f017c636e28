use Rattle.std.proofs.Common.{◌≡◌, ◌++◌, drop}
use Rattle.tag_coverage.specs.Alternatives.{all_alternatives}
use Rattle.tag_coverage.specs.Payloads.{patterns_in}
use Rattle.tag_coverage.proofs.alternatives.alternatives.Given as goal

abbrev pub invariant-loop-typed : goal.invariant-loop-typed
invariant-loop-typed l = patterns_in l.made.items ++ all_alternatives (patterns_in (drop l.typed-index l.patterns)) ≡ all_alternatives (patterns_in l.patterns)
