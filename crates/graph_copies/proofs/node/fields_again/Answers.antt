use Rattle.std.proofs.Common.{[], ◌∷◌, ◌++◌, ap, sym, take, ◌∙◌}
use Rattle.std.proofs.lemmas.List.{take_all, take_more}
use Rattle.graph_copies.proofs.node.fields_again.Goals as goal

pub loop-field-preserved : goal.loop-field-preserved
loop-field-preserved c =
    let all = c.as_slice-field-items.result.now in
    let i = c.loop-field.field-index in
    let x = c.field-item.result in
    c.in_ok-push.ensures.items ∙ ap (λ l. l ++ c.in_ok-field_again.field-0 ∷ []) c.loop-field.invariant ∙ ap (λ y. take i all ++ y ∷ []) (c.in_ok-field_again.ensures ∙ c.field-item.is)
    ∙ sym (take_more all i x c.loop-field-test.true)

pub returns : goal.returns
returns c = c.from_vec.ensures ∙ c.loop-field.invariant ∙ take_all c.loop-field.field-index c.as_slice-field-items.result.now c.loop-field-test.false ∙ c.as_slice-field-items.ensures
