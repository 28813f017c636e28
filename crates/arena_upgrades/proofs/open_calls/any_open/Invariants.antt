use Rattle.std.proofs.Common.{◌≡◌, drop}
use Rattle.arena_upgrades.specs.Outstanding.{any_open}
use Rattle.arena_upgrades.proofs.open_calls.any_open.Given as goal

abbrev pub invariant-loop-call : goal.invariant-loop-call
invariant-loop-call l = any_open (drop l.call-index l.calls) ≡ any_open l.calls
