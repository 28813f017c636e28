use Rattle.std.proofs.Common.{◌≡◌, ◌++◌, drop}
use Rattle.tag_coverage.specs.Options.{insides}
use Rattle.tag_coverage.specs.Payloads.{patterns_in}
use Rattle.tag_coverage.proofs.options.insides.Given as goal

abbrev pub invariant-loop-typed : goal.invariant-loop-typed
invariant-loop-typed l = patterns_in l.made.items ++ insides (patterns_in (drop l.typed-index l.patterns)) ≡ insides (patterns_in l.patterns)
