use Rattle.std.proofs.Common.{◌≡◌, ◌++◌, ◌∷◌, drop, map}
use Rattle.wasm_tree.specs.Imports.{entry_type}
use Rattle.run_time_link.specs.Linking.{type_of_routine}
use Rattle.run_time_link.proofs.parts.types.Given as goal

abbrev pub invariant-loop-routine : goal.invariant-loop-routine
invariant-loop-routine l = entry_type ∷ map type_of_routine l.routines ≡ l.types ++ map type_of_routine (drop l.routine-index l.routines)
