use Rattle.std.proofs.Common.{◌≡◌, ◌-◌, length, ap, arith}
use Rattle.wasm_read.specs.Sections.{customs, customs_at}
use Rattle.wasm_read.proofs.Customs.{skips}
use Rattle.wasm_read.proofs.section.skip_customs.Goals as goal

pub loop-init : goal.loop-init
unfolding customs
loop-init c =
    let z : length c.args.bytes.now - 0 ≡ length c.args.bytes.now = omega arith in
    ap (λ n. customs_at n c.args.bytes.now) z

pub loop-preserved : goal.loop-preserved
loop-preserved c =
    let h = rw c.in-Ok-Some.field-0-is at c.in-Ok-Some.ensures in
    skips (length c.args.bytes.now) c.loop.counter c.loop.rest.now (customs c.args.bytes.now) c.loop.invariant c.in-Ok-Some.left.now c.loop-test.true h
