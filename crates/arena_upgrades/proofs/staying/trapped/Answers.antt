use Rattle.std.proofs.Common.{List, ◌∷◌, [], map, subst, ◌∙◌, append_assoc}
use Rattle.std.proofs.lemmas.Result.{IfOk-weaker}
use Rattle.play_script.specs.declared.item.Item.{Item}
use Rattle.play_script.specs.declared.item.Item.TheVariants as item
use Rattle.play_script.specs.declared.item.Word.TheVariants as word
use Rattle.arena_upgrades.specs.Staying.{IsStayingWith}
use Rattle.arena_upgrades.proofs.staying.trapped.Goals as goal

pub returns : goal.returns
returns c =
    IfOk-weaker c.stay.result _ _
    (λ u h. let Of : List Item → Type 0 = λ l. IsStayingWith c.args.actor.now c.args.table l u in
    subst Of (c.in_ok-items.ensures ∙ append_assoc c.args.before (map item.Print c.args.prints.now) (item.Trapped (word.Text c.args.text) ∷ [])) h)
    c.stay.ensures
