use Rattle.std.proofs.Common.{suc, List, Option, ◌++◌, drop, map, sym, ap, ap₂, ◌∙◌, add-one}
use Rattle.mo_types.specs.declared.node.TypeId.{TypeId}
use Rattle.mo_values.specs.Messages.{labels, types, under}
use Rattle.mo_values.specs.Shapes.{Bytes}
use Rattle.value_arena.specs.declared.node.ValueId.{ValueId}
use Rattle.arena_messages.specs.declared.waiting.AtType.{AtType}
use Rattle.arena_messages.specs.Waiting.{both_ids, field_ids}
use Rattle.arena_messages.proofs.Orders.{field_step}
use Rattle.arena_messages.proofs.Waits.{more}
use Rattle.arena_messages.proofs.waiting.push_fields.Goals as goal

pub loop-field-preserved : goal.loop-field-preserved
loop-field-preserved c =
    let i = c.loop-field.field-index in
    rw add-one
    (more c.loop-field.waiting.items c.push_both.new.waiting.items _ (field_ids c.args.fields.now c.args.names.now c.args.values.now (drop (suc i) (map (λ f. f.now) c.args.order.now))) _
    (ap (λ (l : List AtType). c.loop-field.waiting.items ++ l) (sym (field_step c.args.fields.now c.args.names.now c.args.values.now c.args.order.now i c.field-item.result c.loop-field-test.true c.field-item.is)) ∙ c.loop-field.invariant)
    (c.in_ok-push_both.ensures
    ∙ ap₂ (λ (t : Option TypeId) (o : Option ValueId). c.loop-field.waiting.items ++ both_ids t o) (c.type_under-of_type.ensures ∙ ap (λ (m : Bytes). under m (labels c.args.fields.now) (types c.args.fields.now)) c.as_slice-label.ensures)
    (c.value_under.ensures ∙ ap (λ (m : Bytes). under m c.args.names.now c.args.values.now) c.as_slice-label.ensures)))
