use Rattle.std.proofs.Common.{◌≡◌, ◌∷◌, map, take}
use Rattle.kernel_parts.specs.Views.{tree_of}
use Rattle.kernel_data.proofs.data.operands.Given as goal

abbrev pub invariant-loop-argument : goal.invariant-loop-argument
invariant-loop-argument g l = record {
  made : l.made ≡ tree_of l.layer.types.now l.fn.frames l.fn.function ∷ map (tree_of l.layer.types.now l.fn.frames) (take l.argument-index l.arguments);
  same : l.frames ≡ l.fn.frames;
}
