use Rattle.std.proofs.Common.{Ok, Err, subst, sym, ap, ◌∙◌, arith}
use Rattle.mo_num.specs.Leb.{IsLeb}
use Rattle.mo_num.specs.LebRead.{ReadsLeb}
use Rattle.exact_reading.proofs.Numbers.{unsigned_reads, unsigned_short, unsigned_wide, begins_within, are_bytes}
use Rattle.exact_reading.proofs.number.read_unsigned.Goals as goal

pub split_at-requires : goal.split_at-requires
split_at-requires g c = begins_within IsLeb _ c.args.bytes.now c.in-Ok.value c.in-Ok.count c.in-Ok.ensures.0

pub returns-in-Ok-clause-told : goal.returns-in-Ok-clause-told
returns-in-Ok-clause-told g c = unsigned_reads c.args.short c.args.wide c.args.bits c.args.bytes.now c.in-Ok.value c.in-Ok.count c.in-Ok.ensures ∙ ap (λ l. Ok (c.in-Ok.value, l)) (sym c.split_at.ensures.back)

pub returns-in-Err-Short-clause-told : goal.returns-in-Err-Short-clause-told
returns-in-Err-Short-clause-told g c = unsigned_short c.args.short c.args.wide c.args.bits c.args.bytes.now (are_bytes c.args.bytes.now (λ i. omega (arith, c.type_inv.bytes i))) (subst (λ f. ReadsLeb c.args.bits c.args.bytes.now (Err f)) c.in-Err-Short.field-0-is c.in-Err-Short.ensures)

pub returns-in-Err-TooWide-clause-told : goal.returns-in-Err-TooWide-clause-told
returns-in-Err-TooWide-clause-told g c = unsigned_wide c.args.short c.args.wide c.args.bits c.args.bytes.now (subst (λ f. ReadsLeb c.args.bits c.args.bytes.now (Err f)) c.in-Err-TooWide.field-0-is c.in-Err-TooWide.ensures)
