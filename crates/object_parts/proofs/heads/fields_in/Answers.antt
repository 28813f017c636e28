use Rattle.std.proofs.Common.{List, subst}
use Rattle.mo_types.specs.declared.node.Field.{Field}
use Rattle.mo_types.specs.declared.node.TypeId.{TypeId}
use Rattle.judging.proofs.NodeParts.{take_all}
use Rattle.object_parts.specs.Found.{FieldsFound}
use Rattle.object_parts.proofs.FieldParts.{next_field}
use Rattle.object_parts.proofs.heads.fields_in.Goals as goal

pub loop-field-preserved : goal.loop-field-preserved
loop-field-preserved c =
    next_field c.args.types.now c.args.fields.now c.loop-field.field-index c.field-item.result c.loop-field.made.items c.push.new.self.items c.in_ok-field_in.field-0 c.loop-field-test.true c.field-item.is c.in_ok-push.ensures.items
    c.loop-field.invariant c.in_ok-field_in.ensures

pub returns : goal.returns
returns c = subst (λ (fs : List (Field TypeId)). FieldsFound c.args.types.now fs c.loop-field.made.items) (take_all c.args.fields.now c.loop-field.field-index c.loop-field-test.false) c.loop-field.invariant
