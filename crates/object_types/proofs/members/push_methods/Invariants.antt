use Rattle.std.proofs.Common.{map, take}
use Rattle.type_scopes.specs.Scopes.{seen}
use Rattle.object_types.specs.Adding.{Adds}
use Rattle.object_types.specs.Joining.{method_before, together}
use Rattle.object_types.proofs.members.push_methods.Given as goal

abbrev pub invariant-loop-one : goal.invariant-loop-one
invariant-loop-one l = Adds l.initial.types l.types (together (map (method_before (seen l.scope)) (take l.one-index l.list))) l.initial.made.items l.made.items
