use Rattle.std.proofs.Common.{◌≡◌, drop, map}
use Rattle.typed_tree.specs.ProgramView.{method}
use Rattle.mo_meaning.specs.Actor.{method_from}
use Rattle.arena_events.proofs.methods.find_method.Given as goal

abbrev pub invariant-loop-place : goal.invariant-loop-place
invariant-loop-place l = method_from l.place l.query l.name (map method (drop l.place l.methods)) ≡ method_from 0 l.query l.name (map method l.methods)
