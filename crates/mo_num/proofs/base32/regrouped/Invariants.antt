use Rattle.std.proofs.Common.{◌≡◌, take}
use Rattle.mo_num.proofs.Numbers.{Writes}
use Rattle.mo_num.proofs.base32.regrouped.Given as goal

abbrev pub invariant-loop-digit : goal.invariant-loop-digit
invariant-loop-digit l = record {
  room : l.bytes.capacity ≡ 40;
  writes : Writes l.bytes.items (take l.digit-index l.digits) l.pending l.count;
}
