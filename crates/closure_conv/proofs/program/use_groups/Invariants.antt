use Rattle.std.proofs.Common.{◌≡◌, [], drop, map}
use Rattle.core_laws.specs.Uses.{needs_of}
use Rattle.closure_conv.specs.Parts.{group_view}
use Rattle.closure_conv.proofs.program.use_groups.Given as goal

abbrev pub invariant-loop-group : goal.invariant-loop-group
invariant-loop-group l = needs_of l.needs.items (map group_view (drop l.group-index l.groups)) ≡ needs_of [] (map group_view l.groups)
