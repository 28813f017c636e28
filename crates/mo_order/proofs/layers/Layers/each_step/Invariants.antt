use Rattle.std.proofs.Common.{◌≡◌, ◌++◌, drop, map}
use Rattle.mo_names.specs.Order.{found_step}
use Rattle.mo_order.specs.Parts.{found_member, steps_of, step_lists}
use Rattle.mo_order.proofs.layers.Layers.each_step.Given as goal

abbrev pub invariant-loop-one : goal.invariant-loop-one
invariant-loop-one g l =
    (l.initial.steps ++ steps_of (map found_step l.declarations) ≡ l.steps ++ steps_of (map found_step (drop l.one-index l.declarations)))
    × (l.initial.lists ++ step_lists (map found_step l.declarations) ≡ l.lists ++ step_lists (map found_step (drop l.one-index l.declarations)))
