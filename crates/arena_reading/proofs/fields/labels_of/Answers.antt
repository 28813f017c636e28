use Rattle.std.proofs.Common.{List, take, map, ◌++◌, ◌∷◌, [], ◌∙◌, ap, sym, add-one}
use Rattle.mo_values.specs.Messages.{labels}
use Rattle.mo_values.specs.Shapes.{Bytes}
use Rattle.arena_reading.proofs.Ordered.{labels_next}
use Rattle.arena_reading.proofs.fields.labels_of.Goals as goal

pub loop-field-preserved : goal.loop-field-preserved
loop-field-preserved c =
    c.in_ok-push.ensures.ok
    ∙ ap (λ (l : List Bytes). l ++ c.in_ok-from_slice.field-0 ∷ []) c.loop-field.invariant
    ∙ ap (λ (b : Bytes). take c.loop-field.field-index (labels (map (λ f. f.now) c.args.order.now)) ++ b ∷ []) (c.in_ok-from_slice.ensures ∙ c.as_slice.ensures ∙ ap (λ f. f.now.label) c.field-item.is)
    ∙ sym (ap (λ n. take n (labels (map (λ f. f.now) c.args.order.now))) (add-one c.loop-field.field-index) ∙ labels_next c.args.order.now c.loop-field.field-index c.field-item.result c.loop-field-test.true)
