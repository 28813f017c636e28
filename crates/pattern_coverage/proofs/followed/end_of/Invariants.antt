use Rattle.std.proofs.Common.{◌≡◌, ◌-◌, length}
use Rattle.pattern_coverage.specs.Followed.{end_of, followed}
use Rattle.pattern_coverage.specs.Inhabited.{type_at}
use Rattle.pattern_coverage.proofs.followed.end_of.Given as goal

abbrev pub invariant-loop : goal.invariant-loop
invariant-loop l = followed l.types (length l.types - l.counter) (type_at l.reached) ≡ end_of l.types (type_at l.index)
