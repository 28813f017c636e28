use Rattle.std.proofs.Common.{List, Bool, ◌++◌, map, reverse, ap₂, ◌∙◌}
use Rattle.std.proofs.lemmas.Result.{on_ok_weaker}
use Rattle.mo_types.specs.declared.node.TypeId.{TypeId}
use Rattle.kept_parts.proofs.waiting.put_asked.Goals as goal

pub returns : goal.returns
returns c =
    on_ok_weaker c.put_first.result
    (λ h. h ∙ ap₂ (λ (b : Bool) (l : List TypeId). map (λ t. (t, b)) l ++ reverse c.args.waiting.now.items) c.is_tag-under.ensures c.in_ok-inside.ensures)
    c.put_first.ensures
