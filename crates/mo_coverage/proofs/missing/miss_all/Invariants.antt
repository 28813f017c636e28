use Rattle.std.proofs.Common.{◌≡◌, [], ◌∷◌, drop, map}
use Rattle.typed_tree.specs.PatternView.{pattern}
use Rattle.pattern_coverage.specs.Followed.{value_head}
use Rattle.pattern_coverage.specs.Inhabited.{in_table}
use Rattle.pattern_coverage.specs.Known.{Unknown}
use Rattle.mo_coverage.specs.Covering.{missed_by_all}
use Rattle.mo_coverage.specs.Shapes.{all_known}
use Rattle.mo_coverage.proofs.missing.miss_all.Given as goal

abbrev pub invariant-loop-typed : goal.invariant-loop-typed
invariant-loop-typed l =
    missed_by_all (value_head l.types) (in_table l.table) (map (λ p. pattern p.now) (drop l.typed-index l.patterns)) l.id (all_known l.shapes.items)
    ≡ missed_by_all (value_head l.types) (in_table l.table) (map (λ p. pattern p.now) l.patterns) l.id (Unknown ∷ [])
