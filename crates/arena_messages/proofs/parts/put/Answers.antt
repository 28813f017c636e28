use Rattle.std.proofs.Common.{◌≡◌, ◌++◌, List, length, reverse, sym, ap, ◌∙◌}
use Rattle.std.specs.Prelude.{is_some}
use Rattle.mo_types.specs.declared.node.Node.{Node}
use Rattle.mo_types.specs.declared.node.TypeId.{TypeId}
use Rattle.mo_types.specs.Graph.{head_at, node_or_bottom}
use Rattle.mo_values.specs.Messages.{part_at}
use Rattle.value_arena.specs.Heads.{head_of}
use Rattle.arena_messages.specs.declared.waiting.AtType.{AtType}
use Rattle.arena_messages.specs.Asking.{ids_in_order}
use Rattle.arena_messages.proofs.Asking.{defined, part_there, puts}
use Rattle.arena_messages.proofs.parts.put.Goals as goal

pub node-node-requires : goal.node-node-requires
node-node-requires c = defined c.args.types.now c.args.arena.now c.args.next c.requires.goes

pub part_of-requires : goal.part_of-requires
part_of-requires c =
    let own : c.node-node.result.now ≡ head_at c.args.types.now c.args.next.of_type = sym (ap node_or_bottom c.node-node.ensures) in
    ap (λ (n : Node TypeId). is_some (part_at n (head_of c.in-Some.head.now) (length c.in-Some.values.now))) own
    ∙ part_there c.args.types.now c.args.arena.now c.args.next (head_of c.in-Some.head.now) c.in-Some.values.now c.in-Some.ensures.means c.requires.goes

pub returns-in_ok-put_first-in-Some : goal.returns-in_ok-put_first-in-Some
returns-in_ok-put_first-in-Some c =
    let own : c.node-node.result.now ≡ head_at c.args.types.now c.args.next.of_type = sym (ap node_or_bottom c.node-node.ensures) in
    puts c.args.types.now c.args.arena.now c.args.next (head_of c.in-Some.head.now) c.in-Some.values.now c.in-Some.ensures.means c.in-Some.ensures.within c.requires.goes c.in_ok-part-in-Some.part
    (sym (ap (λ (n : Node TypeId). part_at n (head_of c.in-Some.head.now) (length c.in-Some.values.now)) own) ∙ c.in_ok-part-in-Some.ensures) (reverse c.args.waiting.now.items) (reverse c.put_first.new.waiting.items)
    (c.in_ok-put_first-in-Some.ensures
    ∙ ap (λ (l : List AtType). l ++ reverse c.args.waiting.now.items) (c.in_ok-first-in-Some.ensures ∙ ap (λ (n : Node TypeId). ids_in_order n (head_of c.in-Some.head.now) c.in-Some.values.now) own))
    c.args.parts.now.items c.push.new.self.items c.in_ok-push-in-Some.ensures.items
