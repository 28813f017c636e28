use Rattle.std.proofs.Common.{◌≡◌, map, take}
use Rattle.type_scopes.specs.Scopes.{seen}
use Rattle.object_types.specs.Adding.{Adds}
use Rattle.object_types.specs.Joining.{member_before, together}
use Rattle.object_types.proofs.members.push_members.Given as goal

abbrev pub invariant-loop-one : goal.invariant-loop-one
invariant-loop-one l = record {
  made : Adds l.initial.types l.types (together (map (member_before (seen l.initial.scope)) (take l.one-index l.list))) l.initial.made.items l.made.items;
  scope : l.scope ≡ l.initial.scope;
}
