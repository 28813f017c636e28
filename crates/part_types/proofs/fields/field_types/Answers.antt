use Rattle.std.proofs.Common.{List, take, map, ◌++◌, ◌∷◌, [], ◌∙◌, ap, sym, add-one}
use Rattle.mo_types.specs.declared.node.TypeId.{TypeId}
use Rattle.mo_types.specs.Values.{types_of}
use Rattle.part_types.proofs.Ordered.{types_next}
use Rattle.part_types.proofs.fields.field_types.Goals as goal

pub loop-field-preserved : goal.loop-field-preserved
loop-field-preserved c =
    c.in_ok-push.ensures.items
    ∙ ap (λ (l : List TypeId). l ++ c.field-item.result.now.part ∷ []) c.loop-field.invariant
    ∙ ap (λ (t : TypeId). take c.loop-field.field-index (types_of (map (λ f. f.now) c.args.order.now)) ++ t ∷ []) (ap (λ f. f.now.part) c.field-item.is)
    ∙ sym (ap (λ n. take n (types_of (map (λ f. f.now) c.args.order.now))) (add-one c.loop-field.field-index) ∙ types_next c.args.order.now c.loop-field.field-index c.field-item.result c.loop-field-test.true)
