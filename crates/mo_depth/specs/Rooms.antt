-- The brackets that the code holds.
use Rattle.mo_depth.specs.declared.room.Room.{Room}
use Rattle.mo_depth.specs.Stack.{State}

abbrev pub state : Room → State
state r = (r.inner, r.outer.items)
