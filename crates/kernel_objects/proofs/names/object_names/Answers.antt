use Rattle.judged_parts.specs.Parts.{See}
use Rattle.kernel_objects.proofs.Collected.{all_left, none_left, one_less}
use Rattle.kernel_objects.proofs.names.object_names.Goals as goal

pub loop-one-init : goal.loop-one-init
loop-one-init c = λ (see : See). all_left see c.args.list.now c.new-names.result c.new-names.ensures

pub loop-one-preserved : goal.loop-one-preserved
loop-one-preserved c = λ (see : See). one_less see c.args.list.now _ _ _ _ c.loop-one-test.true c.one-item.is (c.in_ok-add_public.ensures see) (c.loop-one.invariant see)

pub returns : goal.returns
returns c = λ (see : See). none_left see c.args.list.now _ _ c.loop-one-test.false (c.loop-one.invariant see)
