use Rattle.std.proofs.Common.{List, ◌++◌, ◌∷◌, [], ap, ◌∙◌}
use Rattle.std.proofs.lemmas.Result.{IfOk-weaker}
use Rattle.play_script.specs.declared.item.Item.{Item}
use Rattle.arena_upgrades.proofs.OpenCalls.{outstanding_first, outstanding_later}
use Rattle.arena_upgrades.proofs.outstanding.outstanding.Goals as goal

pub returns-then-turns-eq0 : goal.returns-then-turns-eq0
returns-then-turns-eq0 c = λ old new own opened.
    outstanding_first old new own c.args.actor.now opened c.args.turns c.in_ok-table.table c.if-turns-eq0.true (c.in_ok-table.ensures.items ∙ c.as_slice.ensures.value)

pub returns : goal.returns
returns c =
    IfOk-weaker c.stays.result _ _
    (λ upgrade staying old new own opened.
    outstanding_later old new own c.args.actor.now opened c.args.turns c.in_ok-items.items upgrade c.if-turns-eq0.false
    (c.in_ok-items.ensures ∙ ap (λ (l : List Item). l ++ c.in_ok-item.item ∷ []) c.new.ensures ∙ ap (λ (item : Item). item ∷ []) c.in_ok-item.ensures) staying)
    c.stays.ensures
