use Rattle.std.proofs.Common.{◌≡◌, ◌-◌, [], length, arith}
use Rattle.std.specs.Prelude.{reverse}
use Rattle.std.proofs.lemmas.Result.{err_from_is_err_and}
use Rattle.exact_reading.specs.declared.stop.Stop.TheVariants as stop
use Rattle.wasm_read.specs.Codes.{body_at, expression_at}
use Rattle.exact_reading.proofs.Loops.{unframed}
use Rattle.wasm_read.proofs.Loops.{faults, goes_on, closes, stops, runs_out}
use Rattle.wasm_read.proofs.expression.read_ops.Goals as goal

pub returns-in_err-next : goal.returns-in_err-next
returns-in_err-next c =
    let p = err_from_is_err_and c.from_residual.result c.from_residual.ensures.1 in
    rw (p.1, p.2) (faults c.loop.ops.items (length c.args.bytes.now) c.loop.counter c.loop.owed (reverse c.loop.opens.items) c.loop.rest.now _ c.loop-test.true c.loop.invariant (stop.Fault c.in_err-next.field-0.0) c.in_err-next.ensures)

pub loop-init : goal.loop-init
unfolding expression_at
loop-init c =
    let z : length c.args.bytes.now - 0 ≡ length c.args.bytes.now = omega arith in
    rw (c.new-ops.ensures.items, c.new-opens.ensures.items, z) (unframed (body_at (length c.args.bytes.now) 0 [] c.args.bytes.now))

pub returns-in_err-track : goal.returns-in_err-track
returns-in_err-track c =
    let p = err_from_is_err_and c.from_residual-in_err-track.result c.from_residual-in_err-track.ensures.1 in
    rw (p.1, p.2) (stops c.loop.ops.items (length c.args.bytes.now) c.loop.counter c.loop.owed (reverse c.loop.opens.items) c.loop.rest.now _ c.loop-test.true c.loop.invariant c.in_ok-next.next c.in_ok-next.left.now c.in_err-track.field-0.0 (reverse c.track.new.opens.items) c.in_ok-next.ensures c.in_err-track.ensures)

pub returns-in-Closed : goal.returns-in-Closed
returns-in-Closed c =
    let t = rw c.in-Closed.is at c.in_ok-track.ensures in
    closes c.loop.ops.items (length c.args.bytes.now) c.loop.counter c.loop.owed (reverse c.loop.opens.items) c.loop.rest.now _ c.loop-test.true c.loop.invariant c.in_ok-next.next c.in_ok-next.left.now c.in_ok-next.ensures t

pub loop-preserved : goal.loop-preserved
loop-preserved c =
    let t = rw c.in-Open.is at c.in_ok-track.ensures in
    rw c.in_ok-push-in-Open.ensures.items (goes_on c.loop.ops.items (length c.args.bytes.now) c.loop.counter c.loop.owed (reverse c.loop.opens.items) c.loop.rest.now _ c.loop-test.true c.loop.invariant c.in_ok-next.next c.in_ok-next.left.now c.in-Open.now (reverse c.track.new.opens.items) c.in_ok-next.ensures t)

pub returns : goal.returns
returns c = runs_out c.loop.ops.items (length c.args.bytes.now) c.loop.counter c.loop.owed (reverse c.loop.opens.items) c.loop.rest.now _ c.loop-test.false c.loop.invariant
