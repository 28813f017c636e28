use Rattle.std.proofs.Common.{◌≡◌, ◌++◌, drop, map}
use Rattle.run_time_link.specs.Linking.{functions_from, first_signature, entry_function}
use Rattle.run_time_link.proofs.parts.functions.Given as goal

abbrev pub invariant-loop-entry : goal.invariant-loop-entry
invariant-loop-entry l = functions_from first_signature l.routines ++ map entry_function l.entries ≡ l.functions ++ map entry_function (drop l.entry-index l.entries)
