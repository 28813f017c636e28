use Rattle.std.proofs.Common.{◌≡◌, ◌++◌, drop}
use Rattle.std.specs.List.{flat_map}
use Rattle.mo_names.specs.ProgramNames.{in_actor_field}
use Rattle.mo_names.proofs.program.ProgramWalk.each_actor_field.Given as goal

abbrev pub invariant-loop-one : goal.invariant-loop-one
invariant-loop-one l =
    (l.initial.found ++ flat_map (in_actor_field l.initial.scope) l.fields ≡ l.found ++ flat_map (in_actor_field l.initial.scope) (drop l.one-index l.fields))
    × (l.scope ≡ l.initial.scope)
