use Rattle.std.proofs.Common.{List, [], ◌∷◌, ◌++◌, map, Vec, Global, sym, ap, ap₂, ◌∙◌}
use Rattle.std.proofs.lemmas.Result.{IfOk-weaker}
use Rattle.play_script.specs.declared.item.Item.{Item}
use Rattle.play_script.specs.declared.item.Item.TheVariants as item
use Rattle.play_script.specs.declared.item.Word.TheVariants as word
use Rattle.mo_values.specs.Shapes.{Bytes}
use Rattle.arena_states.specs.declared.group.GroupOf.{GroupOf}
use Rattle.arena_actors.specs.declared.actor.Actor.{Actor}
use Rattle.arena_outcomes.specs.declared.ran.Over.{Over}
use Rattle.arena_outcomes.specs.Books.{closed}
use Rattle.arena_events.proofs.answering.broken_off.Goals as goal

pub returns : goal.returns
returns c =
    let copy : Actor = c.in_ok-copied_actor.field-0 in
    let known : Actor = c.with_table-copy.result in
    let owner = c.args.asked.call.now.owner in
    let over : List Item → Actor → Over = λ l x. record { items = l; actor = x } in
    let written : List Item → List Bytes → List Item = λ l prints. l ++ map item.Print prints ++ item.Trapped (word.Text c.args.text) ∷ [] in
    IfOk-weaker c.close.result _ _
    (λ o is. record {
      copy = copy;
      copied = c.in_ok-copied_actor.ensures;
      known = known;
      tabled = ap (λ (x : Actor). x.table.items) c.with_table-copy.ensures;
      grown = c.with_table-copy.ensures ∙ ap (λ (t : Vec GroupOf Global). record copy { table = t }) (sym (ap (λ (x : Actor). x.table) c.with_table-copy.ensures));
      over = is ∙ ap (λ (z : Over). closed owner z) (ap₂ over (c.in_ok-items.ensures ∙ ap₂ written c.new.ensures c.as_slice.ensures) c.broken-actor.ensures);
    })
    c.close.ensures
