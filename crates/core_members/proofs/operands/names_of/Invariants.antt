use Rattle.std.proofs.Common.{◌≡◌, map}
use Rattle.core_ir.specs.View.{exps, expression}
use Rattle.elaboration.specs.Members.{names_of}
use Rattle.core_members.proofs.operands.names_of.Given as goal

abbrev pub invariant-loop-level : goal.invariant-loop-level
invariant-loop-level l = exps (map expression l.made) ≡ names_of l.names l.yielded
