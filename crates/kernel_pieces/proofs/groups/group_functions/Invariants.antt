use Rattle.std.proofs.Common.{◌≡◌, map, take}
use Rattle.kernel_declarations.specs.Becoming.{made_in}
use Rattle.kernel_pieces.specs.Ordered.{group_in}
use Rattle.kernel_pieces.proofs.groups.group_functions.Given as goal

abbrev pub invariant-loop-index : goal.invariant-loop-index
invariant-loop-index g l = record {
  made : l.made ≡ map (made_in l.initial.frames) (group_in l.lists.layer.types.now l.declarations (take l.index-index l.indexes));
  same : l.frames ≡ l.initial.frames;
}
