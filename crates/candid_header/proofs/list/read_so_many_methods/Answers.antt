use Rattle.std.proofs.Common.{None, sym, ap, subst, ◌∙◌}
use Rattle.std.proofs.lemmas.Result.{err_from_is_err_and}
use Rattle.exact_reading.specs.Reading.{Fails}
use Rattle.candid_header.specs.Reading.{many}
use Rattle.candid_header.specs.Table.{method_at, name_of, last_name}
use Rattle.candid_header.proofs.Names.{last_name_after}
use Rattle.exact_reading.proofs.Loops.{begins, goes_on, ends, is_done}
use Rattle.candid_header.proofs.list.read_so_many_methods.Goals as goal

pub loop-init : goal.loop-init
loop-init c = rw c.new-methods.ensures (begins (method_at c.args.entries) (λ _ a. name_of a) c.args.number None c.args.bytes.now)

pub returns-in_err-next : goal.returns-in_err-next
returns-in_err-next c =
    let p = err_from_is_err_and c.from_residual.result c.from_residual.ensures.1 in
    rw (p.1, p.2) (ends (method_at c.args.entries) (λ _ a. name_of a) c.in_err-next.field-0.0 c.loop.methods c.args.number c.loop.counter (last_name c.loop.methods) c.loop.rest.now (many (method_at c.args.entries) name_of c.args.number None c.args.bytes.now) c.loop-test.true (subst (λ l. Fails c.in_err-next.field-0.0 (method_at c.args.entries (last_name l) c.loop.rest.now)) c.as_slice.ensures c.in_err-next.ensures) c.loop.invariant)

pub loop-preserved : goal.loop-preserved
loop-preserved c = goes_on (method_at c.args.entries) (λ _ a. name_of a) c.loop.methods c.push.new.self c.args.number c.loop.counter (last_name c.loop.methods) _ c.loop.rest.now c.in_ok-next.after.now c.in_ok-next.next (many (method_at c.args.entries) name_of c.args.number None c.args.bytes.now) c.loop-test.true (ap (λ l. method_at c.args.entries (last_name l) c.loop.rest.now) (sym c.as_slice.ensures) ∙ c.in_ok-next.ensures) c.in_ok-push.ensures.ok (last_name_after c.loop.methods c.push.new.self c.in_ok-next.next c.in_ok-push.ensures.ok) c.loop.invariant

pub returns : goal.returns
returns c = is_done (method_at c.args.entries) (λ _ a. name_of a) c.loop.methods c.args.number c.loop.counter (last_name c.loop.methods) c.loop.rest.now (many (method_at c.args.entries) name_of c.args.number None c.args.bytes.now) c.loop-test.false c.loop.invariant
