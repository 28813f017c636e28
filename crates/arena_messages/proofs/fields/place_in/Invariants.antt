use Rattle.std.proofs.Common.{◌≡◌, drop, map}
use Rattle.mo_values.specs.Messages.{labels, place}
use Rattle.arena_messages.proofs.fields.place_in.Given as goal

abbrev pub invariant-loop-place : goal.invariant-loop-place
invariant-loop-place l = place l.label (drop l.place (labels (map (λ f. f.now) l.order))) l.place ≡ place l.label (labels (map (λ f. f.now) l.order)) 0
