-- Where a routine is in a linked module.
use Rattle.std.specs.Prelude.{◌≡◌, ◌+◌, ℕ, suc, List, Some, slice_get}
use Rattle.low_ir.specs.declared.routines.Routine.{Routine}
use Rattle.run_time_link.specs.declared.linking.Entry.{Entry}
use Rattle.run_time_link.specs.declared.linking.Surroundings.{Surroundings}
use Rattle.run_time_link.specs.Linking.{linked, type_of_routine, function_of, first_signature}

-- The k-th routine is the k-th function, with its type, its locals and its body.
pub record IsPlaced (routines : List Routine) (entries : List Entry) (around : Surroundings) (k : ℕ) (r : Routine) : Type 0 where
  pub typed : slice_get (linked routines entries around).types (suc k) ≡ Some (type_of_routine r)
  pub there : slice_get (linked routines entries around).functions k ≡ Some (function_of (first_signature + k) r)

abbrev pub RoutinesArePlaced : Type 0
RoutinesArePlaced = (routines : List Routine) (entries : List Entry) (around : Surroundings) (k : ℕ) (r : Routine) → slice_get routines k ≡ Some r → IsPlaced routines entries around k r
