use Rattle.std.proofs.Common.{◌≡◌, ◌≤◌, [], length, drop, map, ap, ◌∙◌, arith}
use Rattle.std.specs.Prelude.{not}
use Rattle.std.proofs.Math.ListN.{drop_of_length-le}
use Rattle.mo_num.specs.Crc.{bits, bits_value, message, remainder, crc32_of}
use Rattle.mo_num.proofs.Register.{first_register, last_register}
use Rattle.mo_num.proofs.crc.crc32.Goals as goal

pub returns : goal.returns
returns c =
    let past : length c.args.bytes.now ≤ c.loop-byte.byte-index = omega arith in
    let none : drop c.loop-byte.byte-index c.args.bytes.now ≡ [] = drop_of_length-le c.args.bytes.now past in
    let left : remainder (bits 32 0xffff_ffff) (message c.args.bytes.now) ≡ remainder (bits 32 c.loop-byte.register) [] = c.loop-byte.invariant.left ∙ ap (λ l. remainder (bits 32 c.loop-byte.register) (message l)) none in
    let whole : crc32_of c.args.bytes.now ≡ bits_value (map not (remainder (bits 32 c.loop-byte.register) [])) = first_register c.args.bytes.now ∙ ap (λ r. bits_value (map not r)) left in
    let last = last_register c.loop-byte.register c.loop-byte.invariant.small in
    omega (arith, whole, last)
