use Rattle.std.proofs.Common.{◌<◌, length, sym, ap₂, ◌∙◌, add-one, arith}
use Rattle.mo_types.specs.declared.datum.Datum.{Datum}
use Rattle.mo_values.specs.Parts.{same_part}
use Rattle.kept_parts.proofs.Compared.{part_other, part_same}
use Rattle.kept_parts.proofs.comparing.same_parts.Goals as goal

pub returns-then-not-same_part : goal.returns-then-not-same_part
returns-then-not-same_part c =
    let there : c.loop-place.place < length c.args.right.now = omega arith in
    part_other c.args.left.now c.args.right.now c.loop-place.place c.index-left-place.result c.index-right-place.result c.loop-place-test.true there
    (sym (ap₂ (λ (p q : Datum). same_part p q) c.index-left-place.is c.index-right-place.is) ∙ sym c.if-not-same_part.ensures)

pub loop-place-preserved : goal.loop-place-preserved
loop-place-preserved c =
    let there : c.loop-place.place < length c.args.right.now = omega arith in
    rw add-one
    (part_same c.args.left.now c.args.right.now c.loop-place.place c.index-left-place.result c.index-right-place.result c.loop-place-test.true there
    (sym (ap₂ (λ (p q : Datum). same_part p q) c.index-left-place.is c.index-right-place.is) ∙ sym c.if-not-same_part.ensures) c.loop-place.invariant)
