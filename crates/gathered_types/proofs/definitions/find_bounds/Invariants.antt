use Rattle.std.proofs.Common.{map, take}
use Rattle.type_scopes.specs.Scopes.{seen}
use Rattle.gathered_types.specs.Finding.{Finds}
use Rattle.gathered_types.proofs.Defining.{one_of}
use Rattle.gathered_types.proofs.Finding.{all_of}
use Rattle.gathered_types.proofs.definitions.find_bounds.Given as goal

abbrev pub invariant-loop-one : goal.invariant-loop-one
invariant-loop-one l = Finds l.initial.types l.types (all_of (map (one_of (seen l.scope)) (take l.one-index l.generics))) l.initial.found l.found
