use Rattle.std.proofs.Common.{◌≡◌, map, take}
use Rattle.kernel_parts.specs.Views.{tree_of}
use Rattle.kernel_parts.proofs.layer.Layer.each.Given as goal

abbrev pub invariant-loop-item : goal.invariant-loop-item
invariant-loop-item g l = record {
  made : l.made ≡ map (tree_of l.self.types.now l.initial.frames) (take l.item-index l.items);
  same : l.frames ≡ l.initial.frames;
}
