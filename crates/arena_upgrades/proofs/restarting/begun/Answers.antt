use Rattle.std.proofs.Common.{List, ◌++◌, ◌∷◌, [], map, refl, ap, ◌∙◌, append_assoc}
use Rattle.play_script.specs.declared.item.Item.{Item}
use Rattle.play_script.specs.declared.item.Item.TheVariants as item
use Rattle.mo_values.specs.Shapes.{Bytes}
use Rattle.arena_upgrades.proofs.restarting.begun.Goals as goal

pub returns : goal.returns
returns c = record {
  over = record { items = c.in_ok-items.items; actor = c.actor_on-actor.result };
  is = refl;
  items =
      c.in_ok-items.ensures
      ∙ ap (λ (l : List Item). l ++ item.Upgraded ∷ []) c.in_ok-printed.ensures
      ∙ append_assoc c.args.before (map item.Print c.as_slice.result.now) (item.Upgraded ∷ [])
      ∙ ap (λ (ps : List Bytes). c.args.before ++ (map item.Print ps ++ item.Upgraded ∷ [])) c.as_slice.ensures;
  actor = c.actor_on-actor.ensures;
}
