use Rattle.std.proofs.Common.{◌≡◌, ◌++◌, drop, map}
use Rattle.mo_names.specs.Order.{found}
use Rattle.mo_order.specs.Parts.{found_case, found_field, free_of, lists_of}
use Rattle.mo_order.proofs.layers.Layers.expressions.Given as goal

abbrev pub invariant-loop-one : goal.invariant-loop-one
invariant-loop-one g l =
    (l.initial.free ++ free_of (map found l.items) ≡ l.free ++ free_of (map found (drop l.one-index l.items)))
    × (l.initial.lists ++ lists_of (map found l.items) ≡ l.lists ++ lists_of (map found (drop l.one-index l.items)))
