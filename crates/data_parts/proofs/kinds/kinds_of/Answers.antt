use Rattle.std.proofs.Common.{◌∙◌, ◌++◌, [], ◌∷◌, List, ap, sym}
use Rattle.type_terms.specs.declared.form.TermId.{TermId}
use Rattle.data_parts.proofs.TypesOf.{map_more}
use Rattle.judging.proofs.TypedParts.{Given}
use Rattle.data_parts.proofs.kinds.kinds_of.Goals as goal

pub loop-item-preserved : goal.loop-item-preserved
loop-item-preserved c =
    c.in_ok-push.ensures.ok ∙ (ap (λ (ids : List TermId). ids ++ c.item-item.result.note.kind ∷ []) c.loop-item.invariant
    ∙ sym (map_more (λ (a : Given). a.note.kind) c.args.items.now c.loop-item.item-index c.item-item.result c.loop-item-test.true c.item-item.is))
