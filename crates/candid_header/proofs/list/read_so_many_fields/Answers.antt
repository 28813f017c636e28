use Rattle.std.proofs.Common.{None, refl}
use Rattle.std.proofs.lemmas.Result.{err_from_is_err_and}
use Rattle.candid_header.specs.Reading.{many}
use Rattle.candid_header.specs.Table.{field_at, id_of}
use Rattle.exact_reading.proofs.Loops.{begins, goes_on, ends, is_done}
use Rattle.candid_header.proofs.list.read_so_many_fields.Goals as goal

pub loop-init : goal.loop-init
loop-init c = rw c.new-fields.ensures (begins (field_at c.args.entries) (λ _ a. id_of a) c.args.number None c.args.bytes.now)

pub returns-in_err-next : goal.returns-in_err-next
returns-in_err-next c =
    let p = err_from_is_err_and c.from_residual.result c.from_residual.ensures.1 in
    rw (p.1, p.2) (ends (field_at c.args.entries) (λ _ a. id_of a) c.in_err-next.field-0.0 c.loop.fields c.args.number c.loop.counter (c.loop.previous) c.loop.rest.now (many (field_at c.args.entries) id_of c.args.number None c.args.bytes.now) c.loop-test.true c.in_err-next.ensures c.loop.invariant)

pub loop-preserved : goal.loop-preserved
loop-preserved c = goes_on (field_at c.args.entries) (λ _ a. id_of a) c.loop.fields c.push.new.self c.args.number c.loop.counter (c.loop.previous) _ c.loop.rest.now c.in_ok-next.after.now c.in_ok-next.next (many (field_at c.args.entries) id_of c.args.number None c.args.bytes.now) c.loop-test.true c.in_ok-next.ensures c.in_ok-push.ensures.ok (refl) c.loop.invariant

pub returns : goal.returns
returns c = is_done (field_at c.args.entries) (λ _ a. id_of a) c.loop.fields c.args.number c.loop.counter (c.loop.previous) c.loop.rest.now (many (field_at c.args.entries) id_of c.args.number None c.args.bytes.now) c.loop-test.false c.loop.invariant
