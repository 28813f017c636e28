use Rattle.std.proofs.Common.{subst}
use Rattle.mo_types.specs.Spelling.{shortest}
use Rattle.mo_types.specs.Header.{IsMethod}
use Rattle.candid_write.specs.Appends.{Appends, IsRefIn}
use Rattle.candid_write.proofs.Adds.{each_more, each_all, nothing_is}
use Rattle.candid_write.proofs.header.put_each_method.Goals as goal

pub loop-method-init : goal.loop-method-init
loop-method-init c = nothing_is c.args.out.now

pub loop-method-preserved : goal.loop-method-preserved
loop-method-preserved c = each_more (λ x b. IsMethod shortest (IsRefIn c.args.table.now) x b) c.args.methods.now c.loop-method.method-index c.method-item.result c.args.out.now c.loop-method.out _ c.loop-method-test.true c.loop-method.invariant (subst (λ m. Appends (λ b. IsMethod shortest (IsRefIn c.args.table.now) m b) c.loop-method.out c.put_method.new.out) c.method-item.is c.in_ok-put_method.ensures)

pub returns : goal.returns
returns c = each_all (λ x b. IsMethod shortest (IsRefIn c.args.table.now) x b) c.args.methods.now c.loop-method.method-index c.args.out.now c.loop-method.out c.loop-method.invariant c.loop-method-test.false
