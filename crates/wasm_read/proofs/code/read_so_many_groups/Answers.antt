use Rattle.std.proofs.Common.{refl}
use Rattle.std.proofs.lemmas.Result.{err_from_is_err_and}
use Rattle.exact_reading.specs.Reading.{many}
use Rattle.exact_reading.proofs.Loops.{goes_on, ends}
use Rattle.wasm_read.specs.Parts.{locals_at, with_group}
use Rattle.wasm_read.proofs.code.read_so_many_groups.Goals as goal

pub returns-in_err-group : goal.returns-in_err-group
returns-in_err-group c =
    let p = err_from_is_err_and c.from_residual.result c.from_residual.ensures.1 in
    rw (p.1, p.2) (ends locals_at with_group c.in_err-group.field-0.0 c.loop.groups.items c.args.number c.loop.counter c.loop.before c.loop.rest.now (many locals_at with_group c.args.number 0 c.args.bytes.now) c.loop-test.true c.in_err-group.ensures.told c.loop.invariant)

pub loop-preserved : goal.loop-preserved
loop-preserved c =
    goes_on locals_at with_group c.loop.groups.items _ c.args.number c.loop.counter c.loop.before _ c.loop.rest.now c.in_ok-group.left.now c.in_ok-group.group (many locals_at with_group c.args.number 0 c.args.bytes.now) c.loop-test.true c.in_ok-group.ensures.told c.in_ok-push.ensures.items refl c.loop.invariant
