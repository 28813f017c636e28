-- The groups of an elaborated program make groups before them alone.
use Rattle.core_laws.specs.Makes.{MakesEarlier}
use Rattle.typed_tree.specs.Programs.{Program}
use Rattle.elaboration.specs.Programs.{elaborated}

abbrev pub GroupsAreInOrder : Type 0
GroupsAreInOrder = (p : Program) → MakesEarlier (elaborated p)
