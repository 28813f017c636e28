use Rattle.std.proofs.Common.{◌≡◌, ◌<◌, ◌^◌, drop}
use Rattle.mo_num.specs.Crc.{bits, message, remainder}
use Rattle.mo_num.proofs.crc.crc32.Given as goal

abbrev pub invariant-loop-byte : goal.invariant-loop-byte
invariant-loop-byte l = record {
  left : remainder (bits 32 0xffff_ffff) (message l.bytes) ≡ remainder (bits 32 l.register) (message (drop l.byte-index l.bytes));
  small : l.register < 2 ^ 32;
}
