use Rattle.std.proofs.Common.{◌≡◌, ◌-◌, ◌∙◌, ap, arith}
use Rattle.mo_types.specs.declared.wire.Plain.TheVariants as plain
use Rattle.mo_types.specs.declared.wire.Ref.TheVariants.{Of, Just}
use Rattle.mo_types.specs.Graph.{head_at}
use Rattle.candid_types.specs.Shapes.{ref_of}
use Rattle.candid_types.proofs.NumberLemmas.{ref_of_past}
use Rattle.candid_encode.proofs.Heads.{at_ref, of_is, unit_is, no_plain}
use Rattle.candid_encode.proofs.part.put_part.Goals as goal

pub returns-then-of-ge18 : goal.returns-then-of-ge18
returns-then-of-ge18 c =
    at_ref (head_at c.args.types.now) (ref_of c.args.of) (Of (record { index = c.args.of - 18 })) c.args.part.now c.put_defined.result c.args.out.now c.put_defined.new.out (ref_of_past c.args.of (omega arith))
    (of_is (head_at c.args.types.now) (record { index = c.args.of - 18 }) c.args.part.now c.put_defined.result c.args.out.now c.put_defined.new.out c.put_defined.ensures)

pub returns-then-of-plain : goal.returns-then-of-plain
returns-then-of-plain c =
    let e : c.args.of ≡ c.plain.result = omega arith in
    at_ref (head_at c.args.types.now) (ref_of c.args.of) (Just plain.Null) c.args.part.now c.put_record.result c.args.out.now c.args.out.now (ap ref_of e ∙ c.plain.ensures.stands)
    (unit_is (head_at c.args.types.now) c.args.part.now c.put_record.result c.args.out.now c.args.out.now (c.put_record.ensures c.args.out.now))

pub returns-else-of-plain : goal.returns-else-of-plain
returns-else-of-plain c = no_plain (head_at c.args.types.now) c.args.part.now c.args.of (omega arith) (omega (arith, c.plain.ensures.value))
