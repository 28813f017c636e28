use Rattle.std.proofs.Common.{◌≡◌, map, take}
use Rattle.abstract_types.specs.TypeView.{type_node}
use Rattle.application_rules.proofs.calls.copied_types.Given as goal

abbrev pub invariant-loop-i : goal.invariant-loop-i
invariant-loop-i l = map type_node l.made ≡ map type_node (take l.i l.written)
