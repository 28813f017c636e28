-- What the programs of actors are typed by where they run: their types with nothing in the place of type parameters at first (Motoko language manual,
-- sections "Type parameters" and "Actors").
use Rattle.std.specs.Prelude.{List, [], length}
use Rattle.mo_types.specs.declared.node.TypeId.{TypeId}
use Rattle.mo_types.specs.Graph.{Slot}
use Rattle.closed_types.specs.Expanded.{close_in}
use Rattle.mo_soundness.specs.Worlds.{World}
use Rattle.closed_trees.specs.Worlds.{Stays, closed_world}

abbrev pub running : List Slot → World
running types = closed_world types (length types)

-- a type of the program whose values go into messages
abbrev pub IsCarried : List Slot → TypeId → Type 0
IsCarried types t = Stays types (length types) t

-- a type of a stable variable, which need not be in the graph if there are no values of it
abbrev pub kept_type : List Slot → TypeId → TypeId
kept_type types t = close_in types (length types) [] t
