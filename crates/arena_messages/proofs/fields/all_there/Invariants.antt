use Rattle.std.proofs.Common.{◌≡◌, drop}
use Rattle.mo_values.specs.Messages.{all_there}
use Rattle.arena_messages.proofs.fields.all_there.Given as goal

abbrev pub invariant-loop-field : goal.invariant-loop-field
invariant-loop-field l = all_there (drop l.field-index l.fields) l.labels ≡ all_there l.fields l.labels
