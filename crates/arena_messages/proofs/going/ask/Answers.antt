use Rattle.std.proofs.Common.{◌≡◌, ◌++◌, length, ap, ◌∙◌}
use Rattle.std.specs.Prelude.{is_some}
use Rattle.mo_types.specs.declared.node.Node.{Node}
use Rattle.mo_types.specs.declared.node.TypeId.{TypeId}
use Rattle.mo_types.specs.Graph.{head_at, node_or_bottom}
use Rattle.mo_values.specs.Messages.{part_at, types_inside}
use Rattle.value_arena.specs.Heads.{head_of}
use Rattle.arena_messages.specs.Waiting.{asked_ids}
use Rattle.arena_messages.proofs.Asking.{asks, refuses}
use Rattle.arena_messages.proofs.going.ask.Goals as goal

pub returns-then-not-fits : goal.returns-then-not-fits
returns-then-not-fits c =
    let own : c.in-Some.node.now ≡ head_at c.args.types.now c.args.asked.of_type = ap node_or_bottom c.in-Some.ensures in
    refuses c.args.types.now c.args.arena.now c.args.asked (head_of c.in-Some-made.head.now) c.in-Some-made.values.now c.in-Some-made.ensures.means
    (c.if-not-fits.ensures ∙ ap (λ (n : Node TypeId). is_some (part_at n (head_of c.in-Some-made.head.now) (length c.in-Some-made.values.now))) own) c.args.waiting.now.items

pub returns-in_ok-push_inside-in-Some-made : goal.returns-in_ok-push_inside-in-Some-made
returns-in_ok-push_inside-in-Some-made c =
    let own : c.in-Some.node.now ≡ head_at c.args.types.now c.args.asked.of_type = ap node_or_bottom c.in-Some.ensures in
    asks c.args.types.now c.args.arena.now c.args.asked (head_of c.in-Some-made.head.now) c.in-Some-made.values.now c.in-Some-made.ensures.means c.in-Some-made.ensures.within
    (c.if-not-fits.ensures ∙ ap (λ (n : Node TypeId). is_some (part_at n (head_of c.in-Some-made.head.now) (length c.in-Some-made.values.now))) own) c.args.waiting.now.items c.push_inside.new.waiting.items
    (c.in_ok-push_inside-in-Some-made.ensures
    ∙ ap (λ (n : Node TypeId). c.args.waiting.now.items ++ asked_ids (types_inside n (head_of c.in-Some-made.head.now) (length c.in-Some-made.values.now)) c.in-Some-made.values.now) own)
