use Rattle.std.proofs.Common.{◌≡◌, map, take}
use Rattle.kernel_data.specs.Fields.{cells_of}
use Rattle.kernel_data.proofs.data.cells.Given as goal

abbrev pub invariant-loop-item : goal.invariant-loop-item
invariant-loop-item g l = record {
  made : l.made ≡ map (cells_of l.layer.types.now l.initial.frames l.of_type) (take l.item-index l.items);
  same : l.frames ≡ l.initial.frames;
}
