-- Copies, form by form.
use Rattle.std.proofs.Common.{◌≡◌, ℕ, Bool, List, sym, ap, ◌∙◌, map}
use Rattle.std.specs.Prelude.{Result, Ok, Err, IfOk}
use Rattle.mo_syntax.specs.declared.types.Sharing.{Sharing}
use Rattle.abstract_types.specs.declared.types.TypeNode.{TypeNode, fold_out-TypeNode}
use Rattle.abstract_types.specs.declared.types.TypeForm.{TypeForm}
use Rattle.abstract_types.specs.declared.types.TypeForm.TheVariants as e
use Rattle.abstract_types.specs.declared.types.TypeField.{TypeField}
use Rattle.abstract_types.specs.declared.types.TypeField.TheVariants as x
use Rattle.abstract_types.specs.declared.names.PlacedName.{PlacedName}
use Rattle.typing_rules.specs.AbstractSyntax as p
use Rattle.typing_rules.specs.AbstractTypes.{type_nodes, type_fields}
use Rattle.abstract_types.specs.TypeView.{named, type_node, type_form, type_field, FieldView, field_step, form_step, node_step}
use Rattle.abstract_types.proofs.TypeViews.{seen_Function, seen_Optional, seen_Async, seen_Use, seen_Tuple, seen_Array, seen_Object, seen_Variant, seen_Actor, seen_Field, seen_EmptyTag}

node_is : (n : TypeNode) (f : TypeForm) → n.form ≡ f → type_node n ≡ p.node n.at (type_form f)
unfolding type_node type_form type_field
node_is n f h = fold_out-TypeNode FieldView p.TypeForm p.TypeNode field_step form_step node_step n ∙ ap (λ (g : TypeForm). p.node n.at (type_form g)) h

pub node_copied : (made node : TypeNode) (f g : TypeForm) → (made.at ≡ node.at) × (made.form ≡ f) → node.form ≡ g → type_form f ≡ type_form g → type_node made ≡ type_node node
node_copied made node f g h k e =
    node_is made f h.1 ∙ (ap (λ (n : ℕ). p.node n (type_form f)) h.0 ∙ (ap (p.node node.at) e ∙ sym (node_is node g k)))

module _ (form : TypeForm) where
  pub function_copied : (s : Sharing) (xs ys : List TypeNode) (a b : TypeNode) → form ≡ e.Function s xs a → map type_node ys ≡ map type_node xs → type_node b ≡ type_node a → type_form (e.Function s ys b) ≡ type_form form
  function_copied s xs ys a b h k m =
      seen_Function s ys b ∙ (ap (λ (us : List p.TypeNode). p.Function s (type_nodes us) (type_node b)) k ∙ (ap (p.Function s (type_nodes (map type_node xs))) m ∙ (sym (seen_Function s xs a) ∙ ap type_form (sym h))))

  pub optional_copied : (a b : TypeNode) → form ≡ e.Optional a → type_node b ≡ type_node a → type_form (e.Optional b) ≡ type_form form
  optional_copied a b h m = seen_Optional b ∙ (ap p.Optional m ∙ (sym (seen_Optional a) ∙ ap type_form (sym h)))

  pub async_copied : (a b : TypeNode) → form ≡ e.Async a → type_node b ≡ type_node a → type_form (e.Async b) ≡ type_form form
  async_copied a b h m = seen_Async b ∙ (ap p.Async m ∙ (sym (seen_Async a) ∙ ap type_form (sym h)))

  pub use_copied : (x y : List ℕ) (xs ys : List TypeNode) → form ≡ e.Use x xs → y ≡ x → map type_node ys ≡ map type_node xs → type_form (e.Use y ys) ≡ type_form form
  use_copied x y xs ys h z k =
      seen_Use y ys ∙ (ap (λ (us : List p.TypeNode). p.Use y (type_nodes us)) k ∙ (ap (λ (n : List ℕ). p.Use n (type_nodes (map type_node xs))) z ∙ (sym (seen_Use x xs) ∙ ap type_form (sym h))))

  pub tuple_copied : (xs ys : List TypeNode) → form ≡ e.Tuple xs → map type_node ys ≡ map type_node xs → type_form (e.Tuple ys) ≡ type_form form
  tuple_copied xs ys h k = seen_Tuple ys ∙ (ap (λ (us : List p.TypeNode). p.Tuple (type_nodes us)) k ∙ (sym (seen_Tuple xs) ∙ ap type_form (sym h)))

  pub array_copied : (m : Bool) (a b : TypeNode) → form ≡ e.Array m a → type_node b ≡ type_node a → type_form (e.Array m b) ≡ type_form form
  array_copied m a b h k = seen_Array m b ∙ (ap (p.Array m) k ∙ (sym (seen_Array m a) ∙ ap type_form (sym h)))

  pub object_copied : (fs gs : List TypeField) → form ≡ e.Object fs → map type_field gs ≡ map type_field fs → type_form (e.Object gs) ≡ type_form form
  object_copied fs gs h k = seen_Object gs ∙ (ap (λ (us : List FieldView). p.Object (type_fields us)) k ∙ (sym (seen_Object fs) ∙ ap type_form (sym h)))

  pub variant_copied : (fs gs : List TypeField) → form ≡ e.Variant fs → map type_field gs ≡ map type_field fs → type_form (e.Variant gs) ≡ type_form form
  variant_copied fs gs h k = seen_Variant gs ∙ (ap (λ (us : List FieldView). p.Variant (type_fields us)) k ∙ (sym (seen_Variant fs) ∙ ap type_form (sym h)))

  pub actor_copied : (fs gs : List TypeField) → form ≡ e.Actor fs → map type_field gs ≡ map type_field fs → type_form (e.Actor gs) ≡ type_form form
  actor_copied fs gs h k = seen_Actor gs ∙ (ap (λ (us : List FieldView). p.Actor (type_fields us)) k ∙ (sym (seen_Actor fs) ∙ ap type_form (sym h)))

module _ (field : TypeField) where
  pub field_copied : (m : Bool) (n o : PlacedName) (a b : TypeNode) → field ≡ x.Field m n a → o ≡ n → type_node b ≡ type_node a → type_field (x.Field m o b) ≡ type_field field
  field_copied m n o a b h k e =
      seen_Field m o b ∙ (ap (λ (q : PlacedName). λ rest. p.Field m (named q) (type_node b) rest) k ∙ (ap (λ (u : p.TypeNode). λ rest. p.Field m (named n) u rest) e ∙ (sym (seen_Field m n a) ∙ ap type_field (sym h))))

pub if_ok : {A E : Type 0} (r : Result A E) (P Q : A → Type 0) → IfOk r P → ((a : A) → P a → Q a) → IfOk r Q
if_ok (Ok a) P Q h k = k a h
if_ok (Err e) P Q h k = tt
