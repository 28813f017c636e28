use Rattle.std.proofs.Common.{◌≡◌, take}
use Rattle.mo_num.proofs.Letters.{Reads}
use Rattle.mo_num.proofs.base32.read_letters.Given as goal

abbrev pub invariant-loop-byte : goal.invariant-loop-byte
invariant-loop-byte l = record {
  room : l.digits.capacity ≡ 64;
  reads : Reads l.initial.digits.items l.digits.items (take l.byte-index l.text);
}
