-- What the host shows of texts that low code hands to it: IC interface specification, section Debugging aids.
use Rattle.std.specs.Prelude.{List, [], ◌∷◌, ◌++◌}
use Rattle.mo_values.specs.Shapes.{Bytes}
use Rattle.ic0_world.specs.declared.world.World.{World}

abbrev pub told : World → Bytes → World
told w text = record w { prints = w.prints ++ text ∷ [] }

abbrev pub fell : World → Bytes → World
fell w text = record w { trap_text = text }

abbrev pub prints_of : World → List Bytes
prints_of w = w.prints
