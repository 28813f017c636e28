use Rattle.std.proofs.Common.{◌∙◌, false, sym, true}
use Rattle.judged_parts.specs.Parts.{See}
use Rattle.kernel_methods.proofs.Found.{found_here, found_later, found_never, none_before, seen_some}
use Rattle.kernel_methods.proofs.system_functions.find_body.Goals as goal

pub loop-one-init : goal.loop-one-init
loop-one-init c = λ (see : See). none_before see c.args.name.now c.args.fields.now

pub returns : goal.returns
returns c = λ (see : See). found_never see c.args.name.now c.args.fields.now c.loop-one.one-index c.loop-one-test.false (c.loop-one.invariant see)

pub loop-one-preserved : goal.loop-one-preserved
loop-one-preserved c = λ (see : See).
    found_later see c.args.name.now c.args.fields.now c.loop-one.one-index c.one-item.result _ c.loop-one-test.true c.one-item.is (rw c.get.ensures at (c.body_of-body.ensures see)) (seen_some _ _ false (sym c.is_some.ensures ∙ c.if-is_some.false)) (c.loop-one.invariant see)

pub returns-then-is_some : goal.returns-then-is_some
returns-then-is_some c = λ (see : See).
    found_here see c.args.name.now c.args.fields.now c.loop-one.one-index c.one-item.result _ c.loop-one-test.true c.one-item.is (rw c.get.ensures at (c.body_of-body.ensures see)) (seen_some _ _ true (sym c.is_some.ensures ∙ c.if-is_some.true)) (c.loop-one.invariant see)
