use Rattle.std.proofs.Common.{◌≡◌, ◌++◌, ◌∷◌, [], ap, ◌∙◌}
use Rattle.play_script.specs.declared.item.Item.TheVariants as item
use Rattle.canister_calls.proofs.Numbering.{next_number, next_opened, next_items}
use Rattle.canister_calls.proofs.items.open_calls.Goals as goal

pub loop-call-preserved : goal.loop-call-preserved
loop-call-preserved c =
    let at = c.loop-call.invariant.number in
    let call = c.in-Some.call in
    let opened : c.push-in-loop-call.new.self.items ≡ c.loop-call.opened.items ++ record { number = c.loop-call.number; owner = c.args.owner; call = call } ∷ [] = c.in_ok-push-2.ensures.items in
    let items : c.push.new.self ≡ c.loop-call.items ++ item.Call c.loop-call.number call.callee call.method call.argument ∷ [] = c.in_ok-push.ensures.ok ∙ ap (λ i. c.loop-call.items ++ i ∷ []) c.in_ok-item_of_call.ensures in
    record {
      number = next_number c.args.first c.loop-call.number c.loop-call.yielded call at;
      opened = next_opened c.args.owner c.args.first c.loop-call.number c.loop-call.yielded call c.loop-call.opened.items c.push-in-loop-call.new.self.items at c.loop-call.invariant.opened opened;
      items = next_items c.args.owner c.args.first c.loop-call.number c.loop-call.yielded call c.args.items.now c.loop-call.items c.push.new.self at c.loop-call.invariant.items items;
    }
