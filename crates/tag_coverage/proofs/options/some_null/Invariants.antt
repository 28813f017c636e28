use Rattle.std.proofs.Common.{◌≡◌, drop}
use Rattle.tag_coverage.specs.Options.{some_null}
use Rattle.tag_coverage.specs.Payloads.{patterns_in}
use Rattle.tag_coverage.proofs.options.some_null.Given as goal

abbrev pub invariant-loop-typed : goal.invariant-loop-typed
invariant-loop-typed l = some_null (patterns_in (drop l.typed-index l.patterns)) ≡ some_null (patterns_in l.patterns)
