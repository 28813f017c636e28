use Rattle.std.proofs.Common.{◌≡◌}
use Rattle.mo_types.specs.Values.{copies}
use Rattle.part_types.proofs.inside.copied.Given as goal

abbrev pub invariant-loop : goal.invariant-loop
invariant-loop l = l.found.items ≡ copies l.counter l.of_type
