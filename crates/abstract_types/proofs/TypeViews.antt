-- How each form of type is seen.
use Rattle.std.proofs.Common.{◌≡◌, ℕ, Bool, List, ap, ◌∙◌, sym, map}
use Rattle.mo_syntax.specs.declared.types.Sharing.{Sharing}
use Rattle.abstract_types.specs.declared.names.PlacedName.{PlacedName}
use Rattle.abstract_types.specs.declared.types.TypeNode.{TypeNode, roll-TypeNode, fold-roll-TypeNode, fold_out-TypeNode}
use Rattle.abstract_types.specs.declared.types.TypeForm.{TypeForm, fold-roll-TypeForm}
use Rattle.abstract_types.specs.declared.types.TypeForm.TheVariants as e
use Rattle.abstract_types.specs.declared.types.TypeField.{TypeField, fold-roll-TypeField}
use Rattle.abstract_types.specs.declared.types.TypeField.TheVariants as x
use Rattle.abstract_types.specs.declared.types.TypeField.TheOpen as F
use Rattle.typing_rules.specs.AbstractSyntax as p
use Rattle.typing_rules.specs.AbstractTypes.{type_nodes, type_fields}
use Rattle.abstract_types.specs.TypeView.{FieldView, named, type_node, type_form, type_field, field_step, form_step, node_step}

pub seen_Function : (s : Sharing) (xs : List TypeNode) (r : TypeNode) → type_form (e.Function s xs r) ≡ p.Function s (type_nodes (map type_node xs)) (type_node r)
unfolding type_node type_form type_field
seen_Function s xs r = ap type_form (sym (e.rolls-Function s xs r)) ∙ fold-roll-TypeForm FieldView p.TypeForm p.TypeNode field_step form_step node_step (F.Function s xs r)

pub seen_Optional : (a : TypeNode) → type_form (e.Optional a) ≡ p.Optional (type_node a)
unfolding type_node type_form type_field
seen_Optional a = ap type_form (sym (e.rolls-Optional a)) ∙ fold-roll-TypeForm FieldView p.TypeForm p.TypeNode field_step form_step node_step (F.Optional a)

pub seen_Async : (a : TypeNode) → type_form (e.Async a) ≡ p.Async (type_node a)
unfolding type_node type_form type_field
seen_Async a = ap type_form (sym (e.rolls-Async a)) ∙ fold-roll-TypeForm FieldView p.TypeForm p.TypeNode field_step form_step node_step (F.Async a)

pub seen_Use : (x : List ℕ) (xs : List TypeNode) → type_form (e.Use x xs) ≡ p.Use x (type_nodes (map type_node xs))
unfolding type_node type_form type_field
seen_Use x xs = ap type_form (sym (e.rolls-Use x xs)) ∙ fold-roll-TypeForm FieldView p.TypeForm p.TypeNode field_step form_step node_step (F.Use x xs)

pub seen_Tuple : (xs : List TypeNode) → type_form (e.Tuple xs) ≡ p.Tuple (type_nodes (map type_node xs))
unfolding type_node type_form type_field
seen_Tuple xs = ap type_form (sym (e.rolls-Tuple xs)) ∙ fold-roll-TypeForm FieldView p.TypeForm p.TypeNode field_step form_step node_step (F.Tuple xs)

pub seen_Array : (mutable : Bool) (a : TypeNode) → type_form (e.Array mutable a) ≡ p.Array mutable (type_node a)
unfolding type_node type_form type_field
seen_Array mutable a = ap type_form (sym (e.rolls-Array mutable a)) ∙ fold-roll-TypeForm FieldView p.TypeForm p.TypeNode field_step form_step node_step (F.Array mutable a)

pub seen_Object : (xs : List TypeField) → type_form (e.Object xs) ≡ p.Object (type_fields (map type_field xs))
unfolding type_node type_form type_field
seen_Object xs = ap type_form (sym (e.rolls-Object xs)) ∙ fold-roll-TypeForm FieldView p.TypeForm p.TypeNode field_step form_step node_step (F.Object xs)

pub seen_Variant : (xs : List TypeField) → type_form (e.Variant xs) ≡ p.Variant (type_fields (map type_field xs))
unfolding type_node type_form type_field
seen_Variant xs = ap type_form (sym (e.rolls-Variant xs)) ∙ fold-roll-TypeForm FieldView p.TypeForm p.TypeNode field_step form_step node_step (F.Variant xs)

pub seen_Actor : (xs : List TypeField) → type_form (e.Actor xs) ≡ p.Actor (type_fields (map type_field xs))
unfolding type_node type_form type_field
seen_Actor xs = ap type_form (sym (e.rolls-Actor xs)) ∙ fold-roll-TypeForm FieldView p.TypeForm p.TypeNode field_step form_step node_step (F.Actor xs)

pub seen_Field : (mutable : Bool) (name : PlacedName) (a : TypeNode) → type_field (x.Field mutable name a) ≡ (λ rest. p.Field mutable (named name) (type_node a) rest)
unfolding type_node type_form type_field
seen_Field mutable name a = ap type_field (sym (x.rolls-Field mutable name a)) ∙ fold-roll-TypeField FieldView p.TypeForm p.TypeNode field_step form_step node_step (F.Field mutable name a)

pub seen_EmptyTag : (name : PlacedName) → type_field (x.EmptyTag name) ≡ (λ rest. p.EmptyTag (named name) rest)
unfolding type_node type_form type_field
seen_EmptyTag name = ap type_field (sym (x.rolls-EmptyTag name)) ∙ fold-roll-TypeField FieldView p.TypeForm p.TypeNode field_step form_step node_step (F.EmptyTag name)

pub seen_node : (at : ℕ) (form : TypeForm) → type_node (roll-TypeNode (record { at = at; form = form })) ≡ p.node at (type_form form)
unfolding type_node type_form type_field
seen_node at form = fold-roll-TypeNode FieldView p.TypeForm p.TypeNode field_step form_step node_step (record { at = at; form = form })

pub node_is : (n : TypeNode) → type_node n ≡ p.node n.at (type_form n.form)
unfolding type_node type_form type_field
node_is n = fold_out-TypeNode FieldView p.TypeForm p.TypeNode field_step form_step node_step n
