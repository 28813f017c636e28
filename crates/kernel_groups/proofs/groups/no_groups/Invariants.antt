use Rattle.std.proofs.Common.{◌≡◌, [], replicate}
use Rattle.kernel_groups.proofs.groups.no_groups.Given as goal

abbrev pub invariant-loop-count : goal.invariant-loop-count
invariant-loop-count l = l.groups.items ≡ replicate l._count []
