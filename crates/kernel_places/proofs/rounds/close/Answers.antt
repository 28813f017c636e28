use Rattle.std.proofs.Common.{List, length, ◌≤◌, arith}
use Rattle.typing_rules.specs.AbstractSyntax.{Bytes}
use Rattle.kernel_places.proofs.Closed.{ended}
use Rattle.kernel_places.proofs.rounds.close.Goals as goal

pub returns-then-next-len : goal.returns-then-next-len
returns-then-next-len c = λ (before : List Bytes) e h.
    let le : length c.loop-next.late ≤ c.loop-next.next = omega arith in
    ended c.args.steps.now c.args.index before c.loop-next.marks c.loop-next.late c.loop-next.next le (c.loop-next.invariant before e h)
