use Rattle.std.proofs.Common.{List, [], ◌∷◌, ◌++◌, map, ap, subst, ◌∙◌}
use Rattle.std.proofs.lemmas.Result.{IfOk-weaker}
use Rattle.play_script.specs.declared.item.Item.{Item}
use Rattle.play_script.specs.declared.item.Item.TheVariants as item
use Rattle.play_script.specs.declared.item.Word.TheVariants as word
use Rattle.arena_actors.specs.declared.actor.Activation.TheVariants as activation
use Rattle.arena_outcomes.specs.Leaving.{IsLeftWith}
use Rattle.arena_events.proofs.calling.trapped.Goals as goal

pub returns : goal.returns
returns c =
    IfOk-weaker c.left_with.result _ _
    (λ o h.
    let Of : List Item → Type 0 = λ l. IsLeftWith c.args.actor.now c.args.table.items activation.Dead l o in
    subst Of (c.in_ok-items.ensures ∙ ap (λ (l : List Item). l ++ map item.Print c.args.prints.now ++ item.Trapped (word.Text c.args.text) ∷ []) c.new.ensures) h)
    c.left_with.ensures
