use Rattle.std.proofs.Common.{◌≡◌, ◌++◌, drop, map}
use Rattle.arena_messages.specs.Waiting.{field_ids}
use Rattle.arena_messages.proofs.waiting.push_fields.Given as goal

abbrev pub invariant-loop-field : goal.invariant-loop-field
invariant-loop-field l =
    l.waiting.items ++ field_ids l.fields l.names l.values (drop l.field-index (map (λ f. f.now) l.order)) ≡ l.initial.waiting.items ++ field_ids l.fields l.names l.values (map (λ f. f.now) l.order)
