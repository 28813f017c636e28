use Rattle.std.proofs.Common.{[], ◌∷◌, ◌++◌, ap, sym, take, ◌∙◌}
use Rattle.std.proofs.lemmas.List.{take_all, take_more}
use Rattle.core_forms.proofs.copies.labels_again.Goals as goal

pub loop-label-preserved : goal.loop-label-preserved
loop-label-preserved c =
    let all = c.as_slice-label-items.result.now in
    let i = c.loop-label.label-index in
    let x = c.label-item.result in
    c.in_ok-push.ensures.items ∙ ap (λ l. l ++ c.in_ok-bytes_again.field-0 ∷ []) c.loop-label.invariant ∙ ap (λ y. take i all ++ y ∷ []) (c.in_ok-bytes_again.ensures ∙ c.label-item.is)
    ∙ sym (take_more all i x c.loop-label-test.true)

pub returns : goal.returns
returns c = c.from_vec.ensures ∙ c.loop-label.invariant ∙ take_all c.loop-label.label-index c.as_slice-label-items.result.now c.loop-label-test.false ∙ c.as_slice-label-items.ensures
