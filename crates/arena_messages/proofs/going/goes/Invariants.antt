use Rattle.value_arena.specs.Meaning.{values}
use Rattle.value_arena.specs.Rows.{no_groups}
use Rattle.arena_messages.specs.Inside.{total}
use Rattle.arena_messages.specs.Waiting.{items, typed}
use Rattle.arena_messages.proofs.Turns.{Going}
use Rattle.arena_messages.proofs.going.goes.Given as goal

abbrev pub invariant-loop-asked : goal.invariant-loop-asked
invariant-loop-asked l = Going l.types l.arena (typed l.fn.of_type l.fn.value) l.waiting.items

abbrev pub decreases-loop-asked : goal.decreases-loop-asked
decreases-loop-asked l = total (items (values no_groups l.arena) l.waiting.items)
