use Rattle.std.proofs.Common.{◌≡◌, drop}
use Rattle.tag_coverage.specs.Options.{all_of_option}
use Rattle.tag_coverage.specs.Payloads.{patterns_in}
use Rattle.tag_coverage.proofs.options.all_of_option.Given as goal

abbrev pub invariant-loop-typed : goal.invariant-loop-typed
invariant-loop-typed l = all_of_option (patterns_in (drop l.typed-index l.patterns)) ≡ all_of_option (patterns_in l.patterns)
