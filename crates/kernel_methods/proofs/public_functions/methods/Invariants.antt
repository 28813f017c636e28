use Rattle.std.proofs.Common.{◌≡◌, ◌++◌, drop}
use Rattle.desugaring.specs.Programs as programs
use Rattle.kernel_types.specs.Numbers.{definitions, number}
use Rattle.kernel_parts.specs.Views.{list_in}
use Rattle.kernel_methods.proofs.public_functions.methods.Given as goal

abbrev pub invariant-loop-one : goal.invariant-loop-one
invariant-loop-one g l = record {
  made : l.made ++ programs.methods_of (definitions l.layer.types.now) (number l.layer.types.now) l.initial.frames (list_in l.layer.types.now (drop l.one-index l.fields)) ≡ programs.methods_of (definitions l.layer.types.now) (number l.layer.types.now) l.initial.frames (list_in l.layer.types.now l.fields);
  same : l.frames ≡ l.initial.frames;
}
