use Rattle.std.proofs.Common.{◌≡◌, List, length}
use Rattle.typing_rules.specs.AbstractSyntax.{Bytes}
use Rattle.kernel_places.specs.Marking.{Closing}
use Rattle.kernel_places.proofs.rounds.close.Given as goal

abbrev pub invariant-loop-next : goal.invariant-loop-next
invariant-loop-next l = (before : List Bytes) → length before ≡ l.from → Closing l.steps l.index before l.initial.marks l.initial.late l.from → Closing l.steps l.index before l.marks l.late l.next
