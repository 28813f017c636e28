use Rattle.std.proofs.Common.{◌≡◌, ◌++◌, map}
use Rattle.std.specs.Prelude.{reverse}
use Rattle.elaboration.specs.Checks.{locals}
use Rattle.core_scopes.specs.Seen.{seen_place}
use Rattle.core_scopes.proofs.scope.add_bound.Given as goal

abbrev pub invariant-loop-level : goal.invariant-loop-level
invariant-loop-level l = map seen_place l.places ≡ locals (reverse l.yielded) ++ map seen_place l.fn.places
