use Rattle.std.proofs.Common.{◌≡◌, map, take}
use Rattle.met_types.specs.States.{State}
use Rattle.kernel_declarations.specs.Becoming.{name_of}
use Rattle.kernel_pieces.specs.Ordered.{group_in}
use Rattle.kernel_pieces.proofs.groups.group_names.Given as goal

abbrev pub invariant-loop-index : goal.invariant-loop-index
invariant-loop-index l = (s : State) → l.names ≡ map name_of (group_in s l.declarations (take l.index-index l.indexes))
