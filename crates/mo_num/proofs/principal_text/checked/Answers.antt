use Rattle.std.proofs.Common.{◌≡◌, ◌<◌, ◌≤◌, ◌^◌, length, take, drop, ap, subst, sym, ◌∙◌, arith}
use Rattle.std.specs.Int.{from_be_bytes, w32}
use Rattle.mo_num.specs.Crc.{crc32_of}
use Rattle.mo_num.proofs.PrincipalTexts.{checksum_length, checksum_other, checksum_same, checked_answer, bytes_below}
use Rattle.mo_num.proofs.principal_text.checked.Goals as goal

pub returns-in_default : goal.returns-in_default
returns-in_default c = λ p is e. let few = c.in_default.ensures.cases in omega (arith, few, ap length e, checksum_length p)

pub returns-then-crc32-from_be_bytes : goal.returns-then-crc32-from_be_bytes
returns-then-crc32-from_be_bytes c = λ p is e.
    let parts = c.in-Some.ensures.cases in
    let sum : c.crc32.result ≡ crc32_of (drop 4 c.args.bytes.now) = c.crc32.ensures ∙ ap crc32_of parts.1 in
    let read : c.from_be_bytes.result ≡ from_be_bytes w32 (take 4 c.args.bytes.now) = c.from_be_bytes.ensures ∙ ap (λ l. from_be_bytes w32 l) parts.0 in
    let small : crc32_of (drop 4 c.args.bytes.now) < 2 ^ 32 = subst (λ n. n < 2 ^ 32) sum c.crc32.type_inv in
    checksum_other c.args.bytes.now p small (λ h. c.if-crc32-from_be_bytes.true (sum ∙ h ∙ sym read)) e

pub returns : goal.returns
returns c =
    let parts = c.in-Some.ensures.cases in
    let sum : c.crc32.result ≡ crc32_of (drop 4 c.args.bytes.now) = c.crc32.ensures ∙ ap crc32_of parts.1 in
    let read : c.from_be_bytes.result ≡ from_be_bytes w32 (take 4 c.args.bytes.now) = c.from_be_bytes.ensures ∙ ap (λ l. from_be_bytes w32 l) parts.0 in
    let enough : 4 ≤ length c.args.bytes.now = omega (arith, parts.2) in
    let below = bytes_below c.args.bytes.now c.type_inv.bytes in
    checked_answer c.principal_of.result c.args.bytes.now c.in-Some.rest.now parts.1 below (checksum_same c.args.bytes.now enough c.type_inv.bytes (sym sum ∙ c.if-crc32-from_be_bytes.false ∙ read)) c.principal_of.ensures
