use Rattle.std.proofs.Common.{Ok, Err, subst, sym, ap, ◌∙◌, arith, rules}
use mir.Syntax.{w128}
use mir.Val.{SFits}
use Rattle.std.proofs.lemmas.Int.{to_z-of_z}
use Rattle.mo_num.specs.Leb.{IsSleb}
use Rattle.mo_num.specs.LebRead.{ReadsSleb}
use Rattle.exact_reading.proofs.Numbers.{signed_reads, signed_short, signed_wide, begins_within, are_bytes}
use Rattle.exact_reading.proofs.number.read_signed.Goals as goal

pub split_at-requires : goal.split_at-requires
split_at-requires g c = begins_within IsSleb _ c.args.bytes.now c.in-Ok.value c.in-Ok.count c.in-Ok.ensures.0

pub returns-in-Ok-clause-told : goal.returns-in-Ok-clause-told
returns-in-Ok-clause-told g c =
    let v : SFits w128 c.in-Ok.value = search rules in
    simp to_z-of_z (signed_reads c.args.short c.args.wide c.args.bits c.args.bytes.now c.in-Ok.value c.in-Ok.count c.in-Ok.ensures ∙ ap (λ l. Ok (c.in-Ok.value, l)) (sym c.split_at.ensures.back))

pub returns-in-Err-Short-clause-told : goal.returns-in-Err-Short-clause-told
returns-in-Err-Short-clause-told g c = signed_short c.args.short c.args.wide c.args.bits c.args.bytes.now (are_bytes c.args.bytes.now (λ i. omega (arith, c.type_inv.bytes i))) (subst (λ f. ReadsSleb c.args.bits c.args.bytes.now (Err f)) c.in-Err-Short.field-0-is c.in-Err-Short.ensures)

pub returns-in-Err-TooWide-clause-told : goal.returns-in-Err-TooWide-clause-told
returns-in-Err-TooWide-clause-told g c = signed_wide c.args.short c.args.wide c.args.bits c.args.bytes.now (subst (λ f. ReadsSleb c.args.bits c.args.bytes.now (Err f)) c.in-Err-TooWide.field-0-is c.in-Err-TooWide.ensures)
