use Rattle.mo_types.specs.Graph.{head_at}
use Rattle.mo_subtype.proofs.Turns.{Turning}
use Rattle.mo_subtype.proofs.search.turn.Given as goal

abbrev pub invariant-loop-place : goal.invariant-loop-place
invariant-loop-place l = Turning (head_at l.types) l.fn.pairs.keys l.place l.pairs.keys
