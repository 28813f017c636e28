use Rattle.std.proofs.Common.{◌≡◌, map, take}
use Rattle.kernel_loops.specs.Loops.{case_of}
use Rattle.kernel_loops.proofs.binding.case_values.Given as goal

abbrev pub invariant-loop-one : goal.invariant-loop-one
invariant-loop-one g l = record {
  made : l.made ≡ map (case_of l.layer.types.now l.initial.frames) (take l.one-index l.list);
  same : l.frames ≡ l.initial.frames;
}
