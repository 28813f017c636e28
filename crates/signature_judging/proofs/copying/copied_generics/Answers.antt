use Rattle.std.proofs.Common.{◌+◌, ◌∙◌, ap, map, take}
use Rattle.definition_rules.proofs.Adding.{take_all}
use Rattle.abstract_types.specs.TypeView.{parameter}
use Rattle.typed_patterns.proofs.Several.{item_more}
use Rattle.signature_judging.proofs.Copied.{next_again}
use Rattle.signature_judging.proofs.copying.copied_generics.Goals as goal

pub loop-one-preserved : goal.loop-one-preserved
loop-one-preserved c =
    next_again c.loop-one.made c.push.new.self (take c.loop-one.one-index c.args.generics.now) (take (c.loop-one.one-index + 1) c.args.generics.now) c.in_ok-copied_parameter.field-0 c.one-item.result c.in_ok-push.ensures.ok
    (item_more c.args.generics.now c.loop-one.one-index c.one-item.result c.loop-one-test.true c.one-item.is) c.in_ok-copied_parameter.ensures c.loop-one.invariant

pub returns : goal.returns
returns c = c.loop-one.invariant ∙ ap (map parameter) (take_all c.args.generics.now c.loop-one.one-index c.loop-one-test.false)
