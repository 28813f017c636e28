use Rattle.std.proofs.Common.{◌≡◌, [], drop, map, reverse}
use Rattle.mo_types.specs.Sub.{Each}
use Rattle.typed_tree.specs.PatternView.{pattern}
use Rattle.mo_coverage.specs.Met.{IsEasyTag, IsMet, met}
use Rattle.mo_coverage.proofs.tagged.meet_all.Given as goal

abbrev pub invariant-loop-typed : goal.invariant-loop-typed
invariant-loop-typed l =
    (Each (IsEasyTag l.tags) (map (λ p. pattern p.now) (drop l.typed-index l.patterns)) → Each (IsEasyTag l.tags) (map (λ p. pattern p.now) l.patterns))
    × IsMet l.tags l.found
    × (met (map (λ p. pattern p.now) (drop l.typed-index l.patterns)) (reverse l.found.labels.items) ≡ met (map (λ p. pattern p.now) l.patterns) [])
