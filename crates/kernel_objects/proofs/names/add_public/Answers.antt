use Rattle.judged_parts.specs.Parts.{See}
use Rattle.kernel_objects.proofs.Collected.{none_more, own_hidden, own_public, same_more}
use Rattle.kernel_objects.proofs.names.add_public.Goals as goal

pub returns-then-one : goal.returns-then-one
returns-then-one c = λ (see : See). same_more c.add_fields.result _ _ _ _ (c.add_fields.ensures see) (own_public see c.args.one.now c.get.result.now c.get.ensures c.if-one.true)

pub returns-else-one : goal.returns-else-one
returns-else-one c = λ (see : See). none_more _ _ (own_hidden see c.args.one.now c.if-one.false)
