use Rattle.std.proofs.Common.{◌++◌, ◌∷◌, [], ap, ◌∙◌, arith}
use Rattle.play_script.specs.declared.item.Item.{Item}
use Rattle.arena_outcomes.proofs.ItemLists.{calls_on}
use Rattle.arena_outcomes.proofs.items.with_calls.Goals as goal

pub loop-call-preserved : goal.loop-call-preserved
loop-call-preserved c = record {
  all = calls_on c.args.items c.loop-call.all c.push.new.self c.args.first c.loop-call.number c.args.calls.now c.loop-call.call-index c.call-item.result c.loop-call-test.true c.call-item.is c.loop-call.invariant.number c.loop-call.invariant.all
      (c.in_ok-push.ensures.ok ∙ ap (λ (i : Item). c.loop-call.all ++ i ∷ []) c.in_ok-call_item.ensures);
  number = omega (arith, c.in_ok-number.ensures, c.loop-call.invariant.number);
}
