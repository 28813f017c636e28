use Rattle.kernel_methods.specs.Shared.{SharedIn}
use Rattle.kernel_methods.proofs.Typed.{each_all, each_end, each_more}
use Rattle.kernel_methods.proofs.shared.are_shared.Goals as goal

pub loop-one-init : goal.loop-one-init
loop-one-init c = λ h. each_all (SharedIn c.args.types.now) c.args.fields.now h

pub loop-one-preserved : goal.loop-one-preserved
loop-one-preserved c = λ more.
    c.loop-one.invariant (each_more (SharedIn c.args.types.now) c.args.fields.now c.loop-one.one-index _ c.loop-one-test.true c.one-item.is (rw c.get.ensures at (c.has_shared.ensures c.if-not-has_shared.false)) more)

pub returns : goal.returns
returns c = λ h. c.loop-one.invariant (each_end (SharedIn c.args.types.now) c.args.fields.now c.loop-one.one-index c.loop-one-test.false)
