use Rattle.std.proofs.Common.{◌≡◌, drop, reverse, take}
use Rattle.arena_reading.proofs.opening.take_inside.Given as goal

abbrev pub invariant-loop : goal.invariant-loop
invariant-loop l = record {
  inside : l.inside ≡ take l.counter (reverse l.initial.values.items);
  left : reverse l.values.items ≡ drop l.counter (reverse l.initial.values.items);
}
