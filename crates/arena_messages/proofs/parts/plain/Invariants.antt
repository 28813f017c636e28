use Rattle.std.proofs.Common.{◌-◌, reverse, vec_len}
use Rattle.arena_messages.specs.Waiting.{typed}
use Rattle.arena_messages.proofs.Turns.{Putting}
use Rattle.arena_messages.proofs.parts.plain.Given as goal

abbrev pub invariant-loop-next : goal.invariant-loop-next
invariant-loop-next l = Putting l.types l.arena (typed l.fn.of_type l.fn.value) (reverse l.waiting.items) l.parts.items

abbrev pub decreases-loop-next : goal.decreases-loop-next
decreases-loop-next l = 18446744073709551616 - vec_len l.parts
