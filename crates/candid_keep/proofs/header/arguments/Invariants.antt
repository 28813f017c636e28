use Rattle.std.proofs.Common.{◌≡◌, map, take}
use Rattle.candid_keep.specs.Refs.{graph_ref}
use Rattle.candid_keep.proofs.header.arguments.Given as goal

abbrev pub invariant-loop-id : goal.invariant-loop-id
invariant-loop-id l = l.made ≡ map graph_ref (take l.id-index l.ids)
