use Rattle.std.proofs.Common.{◌≡◌, ◌++◌, drop, map}
use Rattle.mo_names.specs.Order.{field_step}
use Rattle.mo_order.specs.Parts.{steps_of, step_lists}
use Rattle.mo_order.proofs.program.lists_of_program.Given as goal

abbrev pub invariant-loop-one : goal.invariant-loop-one
invariant-loop-one l =
    (steps_of (map field_step l.tree.actor.fields) ≡ l.steps ++ steps_of (map field_step (drop l.one-index l.tree.actor.fields)))
    × (step_lists (map field_step l.tree.actor.fields) ≡ l.inner ++ step_lists (map field_step (drop l.one-index l.tree.actor.fields)))
