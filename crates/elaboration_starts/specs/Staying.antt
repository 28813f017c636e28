-- What is asked of the start of an actor on its way: no jump leaves the declarations, nothing is called or awaited, and no error is thrown (Motoko language
-- manual, sections "Actors" and "Return").
use Rattle.std.specs.Prelude.{[], ◌∷◌, None}
use Rattle.mo_types.specs.declared.node.Node.{Node}
use Rattle.mo_types.specs.declared.node.TypeId.{TypeId}
use Rattle.mo_machine.specs.Acts.{Store, Act, Goes, Prints, Leaves, Traps, Stuck}
use Rattle.mo_machine.specs.Actions.{act}
use Rattle.mo_machine.specs.Frames.{Returning, Labelled, Trying, Stack, Focus, Ready}

-- a label, a handler or the end of a body, but for that of the declarations
abbrev pub Inward : Stack → Type 0
Inward [] = ⊥
Inward (Returning n ∷ []) = ⊥
Inward (Returning n ∷ f ∷ k) = Unit {0}
Inward (Labelled ∷ k) = Unit {0}
Inward (Trying p b env ∷ k) = Unit {0}
Inward (f ∷ k) = Inward k

abbrev pub StaysInside : Act → Stack → Type 0
StaysInside (Goes cost store f k) around = Unit {0}
StaysInside (Prints cost text f k) around = Unit {0}
StaysInside (Traps cost text) around = Unit {0}
StaysInside Stuck around = Unit {0}
StaysInside (Leaves labels v) around = Inward around
StaysInside _ around = ⊥

module _ (head : TypeId → Node TypeId) (store : Store) where
  abbrev pub StaysAt : Focus → Stack → Type 0
  StaysAt (Ready a vs) k = StaysInside (act head None store a vs) k
  StaysAt _ k = Unit {0}
