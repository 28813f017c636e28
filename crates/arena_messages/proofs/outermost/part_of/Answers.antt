use Rattle.std.proofs.Common.{◌≡◌, true, Some, sym, ap, ◌∙◌}
use Rattle.std.specs.Prelude.{is_some}
use Rattle.mo_types.specs.declared.datum.Datum.{Datum}
use Rattle.mo_values.specs.Messages.{part_at}
use Rattle.value_arena.specs.declared.node.ValueHead.{ValueHead}
use Rattle.value_arena.specs.Heads.{head_of}
use Rattle.mo_values.specs.Shapes.{Leaf}
use Rattle.arena_messages.proofs.Leaves.{leaf_part, then_ok}
use Rattle.arena_messages.proofs.outermost.part_of.Goals as goal

pub returns-in-Leaf : goal.returns-in-Leaf
returns-in-Leaf c =
    let at = ap (λ (h : ValueHead). part_at c.args.node.now (head_of h) c.args.count) c.in-Leaf.is in
    let there : is_some (part_at c.args.node.now (Leaf c.in-Leaf.part) c.args.count) ≡ true = ap is_some (sym at) ∙ c.requires in
    then_ok _ _ c.copied.result c.copied.ensures (λ p e. at ∙ leaf_part c.args.node.now c.args.count c.in-Leaf.part (sym c.if-is_any.ensures) there ∙ ap (λ (x : Datum). Some x) (sym e))
