use Rattle.std.proofs.Common.{◌≡◌, map, take}
use Rattle.mo_types.specs.Graph.{node_of}
use Rattle.graph_copies.proofs.graph.graph_again.Given as goal

abbrev pub invariant-loop-number : goal.invariant-loop-number
invariant-loop-number l = map node_of l.made ≡ map node_of (take l.number l.graph)
