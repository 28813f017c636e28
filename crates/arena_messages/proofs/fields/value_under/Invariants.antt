use Rattle.std.proofs.Common.{◌≡◌, drop}
use Rattle.mo_values.specs.Messages.{under}
use Rattle.arena_messages.proofs.fields.value_under.Given as goal

abbrev pub invariant-loop-place : goal.invariant-loop-place
invariant-loop-place l = under l.label (drop l.place l.labels) (drop l.place l.values) ≡ under l.label l.labels l.values
