use Rattle.std.proofs.Common.{map, sym, subst}
use Rattle.std.proofs.lemmas.Result.{err_from_is_err_and}
use Rattle.mo_types.specs.Graph.{head_at}
use Rattle.candid_types.specs.Shapes.{ref_of}
use Rattle.candid_encode.specs.Puts.{Fits}
use Rattle.candid_encode.specs.Flat.{Goes, Holds}
use Rattle.candid_encode.proofs.Heads.{refused_as}
use Rattle.candid_encode.proofs.Goings.{goes_none, turn, next_fits, all_written}
use Rattle.candid_encode.proofs.values.put_parts.Goals as goal

pub loop-part-init : goal.loop-part-init
loop-part-init c = subst (λ ts. Goes (head_at c.args.types.now) (map ref_of c.args.numbers.now) c.args.parts.now (map ref_of ts) c.args.parts.now c.args.out.now c.args.out.now) (sym c.in_ok-goals.ensures.ok) (goes_none c.args.types.now (map ref_of c.args.numbers.now) c.args.parts.now c.args.out.now)

pub returns-in_err-put_part-in-Some : goal.returns-in_err-put_part-in-Some
returns-in_err-put_part-in-Some c =
    let p = err_from_is_err_and c.from_residual-in_err-put_part-in-Some.result c.from_residual-in_err-put_part-in-Some.ensures.1 in
    let taken = rw c.in-Some.is at c.in_ok-next.ensures in
    rw (p.1, p.2)
    (refused_as (Fits (head_at c.args.types.now) (ref_of c.in-Some.of) c.part-item.result) (Holds (head_at c.args.types.now) (map ref_of c.args.numbers.now) c.args.parts.now) c.in_err-put_part-in-Some.field-0.0
    (next_fits c.args.types.now (map ref_of c.args.numbers.now) c.args.parts.now c.loop-part.part-index c.part-item.result c.args.out.now c.loop-part.out c.in-Some.of _ _ c.loop-part.invariant c.loop-part-test.true taken (sym c.part-item.is)) c.in_err-put_part-in-Some.ensures)

pub loop-part-preserved : goal.loop-part-preserved
loop-part-preserved c =
    let taken = rw c.in-Some.is at c.in_ok-next.ensures in
    turn c.args.types.now c.args.shapes.now c.requires (map ref_of c.args.numbers.now) c.args.parts.now c.loop-part.part-index c.part-item.result c.args.out.now c.loop-part.out c.put_part.new.out c.in-Some.of _ _ _ c.loop-part.invariant c.loop-part-test.true taken (sym c.part-item.is) c.in_ok-put_part-in-Some.ensures.1 c.in_ok-put-in-Some.ensures.ok

pub returns-in-None-2 : goal.returns-in-None-2
returns-in-None-2 c =
    let none = rw c.in-None-2.is at c.in_ok-next-2.ensures in
    all_written c.args.types.now (map ref_of c.args.numbers.now) c.args.parts.now c.loop-part.part-index c.args.out.now c.loop-part.out _ c.loop-part.invariant c.loop-part-test.false none
