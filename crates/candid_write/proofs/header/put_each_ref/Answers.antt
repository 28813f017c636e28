use Rattle.candid_write.specs.Appends.{IsRefIn}
use Rattle.candid_write.proofs.Adds.{each_more, each_all, nothing_is}
use Rattle.candid_write.proofs.header.put_each_ref.Goals as goal

pub loop-number-init : goal.loop-number-init
loop-number-init c = nothing_is c.args.out.now

pub loop-number-preserved : goal.loop-number-preserved
loop-number-preserved c = each_more (λ x b. IsRefIn c.args.table.now x b) c.args.numbers.now c.loop-number.number-index 0 c.args.out.now c.loop-number.out _ c.loop-number-test.true c.loop-number.invariant c.in_ok-put_ref.ensures

pub returns : goal.returns
returns c = each_all (λ x b. IsRefIn c.args.table.now x b) c.args.numbers.now c.loop-number.number-index c.args.out.now c.loop-number.out c.loop-number.invariant c.loop-number-test.false
