use Rattle.std.proofs.Common.{◌≡◌, drop}
use Rattle.std.specs.List.{list_all}
use Rattle.ic0_world.specs.Act.{is_visible}
use Rattle.ic0_world.proofs.call.are_visible.Given as goal

abbrev pub invariant-loop-byte : goal.invariant-loop-byte
invariant-loop-byte l = list_all is_visible (drop l.byte-index l.bytes) ≡ list_all is_visible l.bytes
