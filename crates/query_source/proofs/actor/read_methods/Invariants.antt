use Rattle.std.proofs.Common.{length}
use Rattle.query_source.proofs.Lists.{Collects}
use Rattle.query_source.proofs.actor.read_methods.Given as goal

abbrev pub invariant-loop-found : goal.invariant-loop-found
invariant-loop-found l = Collects l.methods l.text l.rest

abbrev pub decreases-loop-found : goal.decreases-loop-found
decreases-loop-found l = length l.rest
