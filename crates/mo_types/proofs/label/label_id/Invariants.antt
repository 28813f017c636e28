use Rattle.std.proofs.Common.{◌≡◌, ◌<◌, take}
use Rattle.mo_types.specs.Label.{label_id}
use Rattle.mo_types.proofs.label.label_id.Given as goal

abbrev pub invariant-loop-byte : goal.invariant-loop-byte
invariant-loop-byte l = record {
  sofar : l.id ≡ label_id (take l.byte-index l.label);
  fits : l.id < 4294967296;
}
