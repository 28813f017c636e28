use Rattle.std.proofs.Common.{◌≡◌, ℕ, List, [], ◌∷◌, ◌++◌, length, ap, ap₂, ◌∙◌, subst}
use Rattle.std.specs.Prelude.{codes}
use Rattle.play_script.specs.declared.item.Item.{Item}
use Rattle.play_script.specs.declared.item.Item.TheVariants as item
use Rattle.mo_values.specs.Shapes.{Bytes}
use Rattle.mo_actor.specs.States.{IsAnswered}
use Rattle.arena_actors.specs.declared.actor.Activation.TheVariants as activation
use Rattle.arena_outcomes.specs.Leaving.{IsLeftWith}
use Rattle.arena_events.proofs.Calls.{missing_so, plain_answered}
use Rattle.arena_outcomes.proofs.Grown.{left_so}
use Rattle.arena_events.proofs.calling.no_method.Goals as goal

pub returns : goal.returns
returns c =
    let x = c.args.actor.now in
    let o = c.in_ok-left_with.field-0 in
    let items : List Item = item.Rejected (length x.came) 5 (codes "no method") ∷ [] in
    let same : c.in_ok-items.items ≡ items =
    c.in_ok-items.ensures
    ∙ ap (λ (l : List Item). l ++ item.Rejected c.len-owner.result 5 c.in_ok-text.text ∷ []) c.new.ensures
    ∙ ap₂ (λ (n : ℕ) (text : Bytes). item.Rejected n 5 text ∷ []) c.len-owner.ensures c.in_ok-text.ensures in
    let Of : List Item → Type 0 = λ l. IsLeftWith x c.in_ok-table.table.items activation.Answered l o in
    missing_so x o c.in_ok-table.table.items (c.in_ok-table.ensures.items ∙ c.as_slice.ensures.value)
    (left_so x c.in_ok-table.table.items activation.Answered IsAnswered items o plain_answered (subst Of same c.in_ok-left_with.ensures))
