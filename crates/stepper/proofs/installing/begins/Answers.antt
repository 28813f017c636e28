use Rattle.std.proofs.Common.{◌≡◌, List, [], ◌∷◌, ◌++◌, map, refl, ap, ◌∙◌}
use Rattle.play_script.specs.declared.item.Item.{Item}
use Rattle.play_script.specs.declared.item.Item.TheVariants as item
use Rattle.mo_values.specs.Shapes.{Bytes}
use Rattle.stepper.specs.declared.state.Next.TheVariants as next
use Rattle.stepper.specs.declared.state.Running.{Running}
use Rattle.stepper.specs.declared.state.State.TheVariants as state
use Rattle.stepper.proofs.installing.begins.Goals as goal

pub returns : goal.returns
returns c =
    let r : Running = record { program = c.args.program; actor = c.in_ok-actor.actor } in
    let prints : c.in_ok-items.items ≡ map item.Print c.args.beginning.prints =
    c.in_ok-items.ensures ∙ ap (λ (l : List Item). l ++ map item.Print c.as_slice.result.now) c.new.ensures ∙ ap (λ (ls : List Bytes). map item.Print ls) c.as_slice.ensures in
    let items : c.in_ok-items-2.items ≡ map item.Print c.args.beginning.prints ++ item.Installed ∷ [] = c.in_ok-items-2.ensures ∙ ap (λ (l : List Item). l ++ item.Installed ∷ []) prints in
    (r, ap (λ (l : List Item). next.Behind (record { items = l; state = state.Running r })) items, refl, c.in_ok-actor.ensures)
