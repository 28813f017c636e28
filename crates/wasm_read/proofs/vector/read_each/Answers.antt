use Rattle.std.proofs.Common.{refl}
use Rattle.std.proofs.lemmas.Result.{err_from_is_err_and}
use Rattle.exact_reading.proofs.Loops.{goes_on, ends}
use Rattle.wasm_read.specs.Fields.{each_at}
use Rattle.wasm_read.proofs.vector.read_each.Goals as goal

pub returns-in_err-item : goal.returns-in_err-item
returns-in_err-item g c =
    let p = err_from_is_err_and c.from_residual.result c.from_residual.ensures.1 in
    rw (p.1, p.2) (ends (λ _. g.I.Item.at) (λ _ _. tt) c.in_err-item.field-0.0 c.loop.items.items c.args.count c.loop.counter tt c.loop.rest.now (each_at g.I.Item.at c.args.count c.args.bytes.now) c.loop-test.true c.in_err-item.ensures c.loop.invariant)

pub loop-preserved : goal.loop-preserved
loop-preserved g c =
    goes_on (λ _. g.I.Item.at) (λ _ _. tt) c.loop.items.items _ c.args.count c.loop.counter tt tt c.loop.rest.now c.in_ok-item.left.now c.in_ok-item.item (each_at g.I.Item.at c.args.count c.args.bytes.now) c.loop-test.true c.in_ok-item.ensures c.in_ok-push.ensures.items refl c.loop.invariant
