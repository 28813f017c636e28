use Rattle.std.proofs.Common.{◌<◌, ◌≤◌, List, length, set, Vec, Global, ap, ◌∙◌, arith}
use Rattle.arena_actors.specs.declared.actor.Filled.{Filled}
use Rattle.arena_actors.specs.declared.actor.Made.{Made}
use Rattle.arena_outcomes.specs.Books.{state_set}
use Rattle.arena_outcomes.proofs.Placing.{state_set_beyond, state_set_there}
use Rattle.arena_outcomes.proofs.lists.with_state.Goals as goal
use Rattle.arena_outcomes.proofs.lists.with_state.Goals.{then-index-len, else-index-len}

pub returns : goal.returns
returns c =
    let ms : List Made = c.into_vec-list.result.items in
    elim c.if-index-len.branch [
      | then-index-len w ↦ (
          let m : Made = w.index_mut.result.now in
          let below : c.args.place < length ms = omega (arith, w.if-index-len.true, c.len.ensures, c.into_vec-list.result.ok.0) in
          c.from_vec.ensures
          ∙ ap (λ (v : Vec Made Global). v.items) w.list-is
          ∙ ap (λ (s : Filled). set ms c.args.place (record m { state = s })) w.swap.ensures.x_after
          ∙ state_set_there ms c.args.place m c.args.state below w.index_mut.ensures.value
          ∙ ap (λ (l : List Made). state_set l c.args.place c.args.state) c.into_vec-list.ensures)
      | else-index-len w ↦ (
          let beyond : length ms ≤ c.args.place = omega (arith, w.if-index-len.false, c.len.ensures, c.into_vec-list.result.ok.0) in
          c.from_vec.ensures
          ∙ ap (λ (v : Vec Made Global). v.items) w.list-is
          ∙ state_set_beyond ms c.args.place c.args.state beyond
          ∙ ap (λ (l : List Made). state_set l c.args.place c.args.state) c.into_vec-list.ensures)
    ]
