use Rattle.std.proofs.Common.{◌≡◌, ◌+◌, ◌≤◌, ℕ, [], length, get_or, take}
use Rattle.kernel_groups.specs.Indexes.{indexes_from}
use Rattle.kernel_groups.proofs.groups.groups_of.Given as goal

abbrev pub invariant-loop-index : goal.invariant-loop-index
invariant-loop-index l = record {
  all : length l.groups.items ≡ length l.numbers + 1;
  each : (n : ℕ) → n ≤ length l.numbers → get_or l.groups.items n [] ≡ indexes_from n 0 (take l.index l.numbers);
}
