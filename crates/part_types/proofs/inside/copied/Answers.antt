use Rattle.std.proofs.Common.{List, sym, ap, ◌++◌, ◌∷◌, [], ◌∙◌}
use Rattle.mo_types.specs.declared.node.TypeId.{TypeId}
use Rattle.part_types.proofs.Lists.{copies_more}
use Rattle.part_types.proofs.inside.copied.Goals as goal

pub loop-preserved : goal.loop-preserved
loop-preserved c = c.in_ok-push.ensures.items ∙ ap (λ (l : List TypeId). l ++ c.args.of_type ∷ []) c.loop.invariant ∙ sym (copies_more c.loop.counter c.args.of_type)
