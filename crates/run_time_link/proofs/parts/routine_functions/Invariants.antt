use Rattle.std.proofs.Common.{◌≡◌, ◌+◌, ◌++◌, drop}
use Rattle.run_time_link.specs.Linking.{functions_from, first_signature}
use Rattle.run_time_link.proofs.parts.routine_functions.Given as goal

abbrev pub invariant-loop-routine : goal.invariant-loop-routine
invariant-loop-routine l = (functions_from first_signature l.routines ≡ l.functions ++ functions_from l.signature (drop l.routine-index l.routines)) × (l.signature ≡ 23 + l.routine-index)
