use Rattle.std.proofs.Common.{◌≡◌, take}
use Rattle.query_source.specs.Labels.{label_id}
use Rattle.query_source.proofs.labels.label_id.Given as goal

abbrev pub invariant-loop-byte : goal.invariant-loop-byte
invariant-loop-byte l = l.id ≡ label_id (take l.byte-index l.name)
