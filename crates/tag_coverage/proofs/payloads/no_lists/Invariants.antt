use Rattle.std.proofs.Common.{◌≡◌, [], replicate}
use Rattle.tag_coverage.proofs.payloads.no_lists.Given as goal

abbrev pub invariant-loop-count : goal.invariant-loop-count
invariant-loop-count l = l.lists.items ≡ replicate l._count []
