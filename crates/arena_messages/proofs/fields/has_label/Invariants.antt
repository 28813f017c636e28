use Rattle.std.proofs.Common.{◌≡◌, ℕ, drop}
use Rattle.std.specs.Prelude.{is_some}
use Rattle.mo_values.specs.Messages.{place}
use Rattle.arena_messages.proofs.fields.has_label.Given as goal

abbrev pub invariant-loop-name : goal.invariant-loop-name
invariant-loop-name l = (first : ℕ) → is_some (place l.label (drop l.name-index l.labels) first) ≡ is_some (place l.label l.labels first)
