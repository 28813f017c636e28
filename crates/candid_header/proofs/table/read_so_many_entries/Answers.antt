use Rattle.std.proofs.Common.{None, refl}
use Rattle.std.proofs.lemmas.Result.{err_from_is_err_and}
use Rattle.candid_header.specs.Reading.{many}
use Rattle.candid_header.specs.Table.{entry_item, no_state}
use Rattle.exact_reading.proofs.Loops.{begins, goes_on, ends, is_done}
use Rattle.candid_header.proofs.table.read_so_many_entries.Goals as goal

pub loop-init : goal.loop-init
loop-init c = rw c.new-table.ensures (begins (entry_item c.args.number) (λ _ a. no_state a) c.args.number None c.args.bytes.now)

pub returns-in_err-next : goal.returns-in_err-next
returns-in_err-next c =
    let p = err_from_is_err_and c.from_residual.result c.from_residual.ensures.1 in
    rw (p.1, p.2) (ends (entry_item c.args.number) (λ _ a. no_state a) c.in_err-next.field-0.0 c.loop.table c.args.number c.loop.counter (None) c.loop.rest.now (many (entry_item c.args.number) no_state c.args.number None c.args.bytes.now) c.loop-test.true c.in_err-next.ensures c.loop.invariant)

pub loop-preserved : goal.loop-preserved
loop-preserved c = goes_on (entry_item c.args.number) (λ _ a. no_state a) c.loop.table c.push.new.self c.args.number c.loop.counter (None) _ c.loop.rest.now c.in_ok-next.after.now c.in_ok-next.next (many (entry_item c.args.number) no_state c.args.number None c.args.bytes.now) c.loop-test.true c.in_ok-next.ensures c.in_ok-push.ensures.ok (refl) c.loop.invariant

pub returns : goal.returns
returns c = is_done (entry_item c.args.number) (λ _ a. no_state a) c.loop.table c.args.number c.loop.counter (None) c.loop.rest.now (many (entry_item c.args.number) no_state c.args.number None c.args.bytes.now) c.loop-test.false c.loop.invariant
