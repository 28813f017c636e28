use Rattle.std.proofs.Common.{take}
use Rattle.tag_coverage.proofs.Sorting.{SoFar}
use Rattle.tag_coverage.proofs.payloads.payloads.Given as goal

abbrev pub invariant-loop-typed : goal.invariant-loop-typed
invariant-loop-typed l = SoFar l.tags (take l.typed-index l.patterns) l.lists.items
