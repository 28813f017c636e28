use Rattle.std.proofs.Common.{List, [], ◌∷◌, ◌++◌, ap, ap₂, ◌∙◌}
use Rattle.play_script.specs.declared.item.Item.{Item}
use Rattle.play_script.specs.declared.item.Item.TheVariants as item
use Rattle.mo_values.specs.Shapes.{Bytes}
use Rattle.arena_actors.specs.declared.actor.Actor.{Actor}
use Rattle.arena_outcomes.specs.declared.ran.Over.{Over}
use Rattle.arena_outcomes.proofs.closing.rejected.Goals as goal

pub returns : goal.returns
returns c =
    let made : List Item → Actor → Over = λ l x. record { items = l; actor = x } in
    ap₂ made (c.in_ok-items.ensures ∙ ap (λ (text : Bytes). c.args.over.items ++ item.Rejected c.args.owner 5 text ∷ []) c.in_ok-text.ensures) c.with_activation.ensures
