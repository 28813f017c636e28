use Rattle.std.proofs.Common.{List, ap, ◌∙◌, map, refl}
use Rattle.typing_rules.specs.AbstractSyntax as p
use Rattle.typing_rules.specs.AbstractTypes.{type_fields, type_nodes}
use Rattle.typing_rules.specs.Nodes.{in_type_fields, in_types}
use Rattle.abstract_types.specs.declared.types.TypeNode.{TypeNode}
use Rattle.abstract_types.specs.declared.types.TypeField.{TypeField}
use Rattle.abstract_types.specs.TypeView.{type_field, type_form, type_node}
use Rattle.abstract_types.proofs.TypeViews as V
use Rattle.kernel_counts.proofs.Adding.{all_left, empty_field, field_less, node_field, node_one, node_two, none_left, one_less}
use Rattle.kernel_counts.proofs.Parted.{of_type}
use Rattle.kernel_counts.proofs.types.+types.Goals as goal

pub count_type_within-returns-in_ok-first-in-Function : goal.count_type_within-returns-in_ok-first-in-Function
count_type_within-returns-in_ok-first-in-Function t c = node_two _ _ _ _ _ _ c.count_type_within.result c.in_ok-here.ensures (rw c.as_slice.ensures at c.in_ok-first-in-Function.ensures) c.count_type_within.ensures (of_type c.args.node.now _ _ c.get.ensures (ap type_form c.in-Function.is ∙ V.seen_Function _ _ _))

pub count_type_within-returns-in-Optional : goal.count_type_within-returns-in-Optional
count_type_within-returns-in-Optional t c = node_one _ _ _ _ c.count_type_within-in-Optional.result c.in_ok-here.ensures c.count_type_within-in-Optional.ensures (of_type c.args.node.now _ _ c.get.ensures (ap type_form c.in-Optional.is ∙ V.seen_Optional _))

pub count_type_within-returns-in-Async : goal.count_type_within-returns-in-Async
count_type_within-returns-in-Async t c = node_one _ _ _ _ c.count_type_within-in-Async.result c.in_ok-here.ensures c.count_type_within-in-Async.ensures (of_type c.args.node.now _ _ c.get.ensures (ap type_form c.in-Async.is ∙ V.seen_Async _))

pub count_type_within-returns-in-Use : goal.count_type_within-returns-in-Use
count_type_within-returns-in-Use t c = node_one _ _ _ _ c.count_types_within-in-Use.result c.in_ok-here.ensures (rw c.as_slice-in-Use.ensures at c.count_types_within-in-Use.ensures) (of_type c.args.node.now _ _ c.get.ensures (ap type_form c.in-Use.is ∙ V.seen_Use _ _))

pub count_type_within-returns-in-Tuple : goal.count_type_within-returns-in-Tuple
count_type_within-returns-in-Tuple t c = node_one _ _ _ _ c.count_types_within-in-Tuple.result c.in_ok-here.ensures (rw c.as_slice-in-Tuple.ensures at c.count_types_within-in-Tuple.ensures) (of_type c.args.node.now _ _ c.get.ensures (ap type_form c.in-Tuple.is ∙ V.seen_Tuple _))

pub count_type_within-returns-in-Array : goal.count_type_within-returns-in-Array
count_type_within-returns-in-Array t c = node_one _ _ _ _ c.count_type_within-in-Array.result c.in_ok-here.ensures c.count_type_within-in-Array.ensures (of_type c.args.node.now _ _ c.get.ensures (ap type_form c.in-Array.is ∙ V.seen_Array _ _))

pub count_type_within-returns-in-Object : goal.count_type_within-returns-in-Object
count_type_within-returns-in-Object t c = node_one _ _ _ _ c.count_fields_within.result c.in_ok-here.ensures (rw c.as_slice-in-Object.ensures at c.count_fields_within.ensures) (of_type c.args.node.now _ _ c.get.ensures (ap type_form c.in-Object.is ∙ V.seen_Object _))

pub count_type_within-returns-in-Variant : goal.count_type_within-returns-in-Variant
count_type_within-returns-in-Variant t c = node_one _ _ _ _ c.count_fields_within-in-Variant.result c.in_ok-here.ensures (rw c.as_slice-in-Variant.ensures at c.count_fields_within-in-Variant.ensures) (of_type c.args.node.now _ _ c.get.ensures (ap type_form c.in-Variant.is ∙ V.seen_Variant _))

pub count_type_within-returns-in-Actor : goal.count_type_within-returns-in-Actor
count_type_within-returns-in-Actor t c = node_one _ _ _ _ c.count_fields_within-in-Actor.result c.in_ok-here.ensures (rw c.as_slice-in-Actor.ensures at c.count_fields_within-in-Actor.ensures) (of_type c.args.node.now _ _ c.get.ensures (ap type_form c.in-Actor.is ∙ V.seen_Actor _))

pub count_types_within-loop-node-init : goal.count_types_within-loop-node-init
count_types_within-loop-node-init t c = all_left (λ (ns : List TypeNode). in_types (type_nodes (map type_node ns))) c.args.nodes.now c.args.counted

pub count_types_within-loop-node-preserved : goal.count_types_within-loop-node-preserved
count_types_within-loop-node-preserved t c = one_less (λ (ns : List TypeNode). in_types (type_nodes (map type_node ns))) c.args.nodes.now c.args.counted _ _ _ _ _ c.loop-node-test.true c.node-item.is c.in_ok-sum.ensures refl c.loop-node.invariant

pub count_types_within-returns : goal.count_types_within-returns
count_types_within-returns t c = none_left (λ (ns : List TypeNode). in_types (type_nodes (map type_node ns))) c.args.nodes.now c.args.counted _ _ c.loop-node-test.false refl c.loop-node.invariant

pub count_field_within-returns-in-Field : goal.count_field_within-returns-in-Field
count_field_within-returns-in-Field t c = node_field in_type_fields (type_field c.args.field.now) _ _ _ c.count_type_within.result c.in_ok-here.ensures c.count_type_within.ensures (λ rest. ap (λ (see : p.TypeFields → p.TypeFields). in_type_fields (see rest)) (ap type_field c.in-Field.is ∙ V.seen_Field _ _ _))

pub count_field_within-returns-in-EmptyTag : goal.count_field_within-returns-in-EmptyTag
count_field_within-returns-in-EmptyTag t c = empty_field in_type_fields (type_field c.args.field.now) _ _ c.in_ok-here.ensures (λ rest. ap (λ (see : p.TypeFields → p.TypeFields). in_type_fields (see rest)) (ap type_field c.in-EmptyTag.is ∙ V.seen_EmptyTag _))

pub count_fields_within-loop-field-init : goal.count_fields_within-loop-field-init
count_fields_within-loop-field-init t c = all_left (λ (fs : List TypeField). in_type_fields (type_fields (map type_field fs))) c.args.fields.now c.args.counted

pub count_fields_within-loop-field-preserved : goal.count_fields_within-loop-field-preserved
count_fields_within-loop-field-preserved t c = field_less (λ (fs : List TypeField). in_type_fields (type_fields (map type_field fs))) in_type_fields (λ fs. type_fields (map type_field fs)) type_field (λ fs. refl) (λ f fs. refl) c.args.fields.now c.args.counted _ _ _ _ c.loop-field-test.true c.field-item.is c.in_ok-sum.ensures c.loop-field.invariant

pub count_fields_within-returns : goal.count_fields_within-returns
count_fields_within-returns t c = none_left (λ (fs : List TypeField). in_type_fields (type_fields (map type_field fs))) c.args.fields.now c.args.counted _ _ c.loop-field-test.false refl c.loop-field.invariant
