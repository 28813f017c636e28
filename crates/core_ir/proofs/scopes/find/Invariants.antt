use Rattle.std.proofs.Common.{◌≤◌, length}
use Rattle.core_ir.specs.ScopeNames.{named}
use Rattle.core_ir.proofs.Scoping.{Searches}
use Rattle.core_ir.proofs.scopes.find.Given as goal

abbrev pub invariant-loop-at : goal.invariant-loop-at
invariant-loop-at l = record { within : l.at ≤ length l.entries; searches : Searches (named l.entries) l.scope l.place l.at l.left }

abbrev pub decreases-loop-at : goal.decreases-loop-at
decreases-loop-at l = l.at
