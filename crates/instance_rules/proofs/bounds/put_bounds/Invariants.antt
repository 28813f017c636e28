use Rattle.std.proofs.Common.{take}
use Rattle.instance_rules.specs.Instances.{AreBoundsWith, PutsEach}
use Rattle.instance_rules.proofs.bounds.put_bounds.Given as goal

abbrev pub invariant-loop-parameter : goal.invariant-loop-parameter
invariant-loop-parameter l =
    PutsEach l.initial.types (AreBoundsWith l.arguments.parameters.now l.arguments.arguments.now l.initial.types.listed (take l.parameter-index l.parameters) l.made) (take l.parameter-index l.parameters) l.made l.types
