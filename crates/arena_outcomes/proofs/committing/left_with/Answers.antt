use Rattle.std.proofs.Common.{[], ◌∷◌, ◌++◌, Vec, Global, sym, ap, ◌∙◌}
use Rattle.std.proofs.lemmas.Result.{IfOk-weaker}
use Rattle.arena_states.specs.declared.group.GroupOf.{GroupOf}
use Rattle.arena_actors.specs.declared.actor.Actor.{Actor}
use Rattle.arena_outcomes.specs.Books.{closed}
use Rattle.arena_outcomes.proofs.committing.left_with.Goals as goal

pub returns : goal.returns
returns c =
    IfOk-weaker c.close.result _ _
    (λ o is. record {
      copy = c.in_ok-copy.copy;
      copied = c.in_ok-copy.ensures;
      arrived = c.with_table-actor.result;
      tabled = ap (λ (x : Actor). x.table.items) c.with_table-actor.ensures;
      grown =
          c.with_table-actor.ensures
          ∙ ap (λ (x : Actor). record x { table = c.args.table }) c.in_ok-actor.ensures
          ∙ ap (λ (t : Vec GroupOf Global). record c.in_ok-copy.copy { table = t; came = c.in_ok-copy.copy.came ++ c.args.activation ∷ [] }) (sym (ap (λ (x : Actor). x.table) c.with_table-actor.ensures));
      over = is ∙ ap (λ n. closed n (record { items = c.args.items; actor = c.with_table-actor.result })) c.len-owner.ensures;
    })
    c.close.ensures
