use Rattle.std.proofs.Common.{◌≡◌, ◌-◌, drop, length, map}
use Rattle.first_scopes.specs.Beginning.{with_path}
use Rattle.first_scopes.proofs.scopes.imported.Given as goal

abbrev pub invariant-loop-i : goal.invariant-loop-i
invariant-loop-i l = l.made ≡ map with_path (drop (length l.list - l.i) l.list)
