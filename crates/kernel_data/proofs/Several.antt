-- Several parts as they are made.
use Rattle.std.proofs.Common.{◌≡◌, ◌∙◌, ℕ, zero, ◌+◌, ◌<◌, Bool, true, false, List, [], ◌∷◌, ◌++◌, length, get_or, take, Option, Some, None, map, refl, sym, ap, subst}
use Rattle.mo_types.specs.declared.node.TypeId.{TypeId}
use Rattle.typed_tree.specs.declared.expression.TypedExpression.{TypedExpression}
use Rattle.typing_rules.specs.AbstractSyntax as p
use Rattle.typing_rules.specs.Terms.{Term}
use Rattle.typing_rules.specs.TypedTrees.{type_of}
use Rattle.typing_rules.specs.TypedTrees as typed
use Rattle.type_terms.specs.declared.form.TermId.{TermId}
use Rattle.abstract_tree.specs.declared.expressions.Expression.{Expression}
use Rattle.abstract_tree.specs.declared.expressions.ObjectField.{ObjectField}
use Rattle.abstract_tree.specs.TreeView.{fields, listed, object_field}
use Rattle.value_scopes.specs.declared.note.Note.{Note}
use Rattle.value_scopes.specs.Values.{noted}
use Rattle.met_types.specs.States.{State}
use Rattle.judged_parts.proofs.TreeViews.{field_is}
use Rattle.desugaring.specs.Expressions as expressions
use Rattle.desugaring.specs.Frames.{Frame}
use Rattle.kernel_types.specs.Numbers.{definitions, head_of, number, number_of}
use Rattle.kernel_nodes.specs.Made.{cell_at}
use Rattle.kernel_members.specs.Accesses.{IsFieldNumber, or_number}
use Rattle.kernel_parts.specs.Views.{expression_in, tree_of}
use Rattle.kernel_parts.proofs.Looping.{pushed}
use Rattle.kernel_parts.proofs.Typed.{type_is}
use Rattle.kernel_data.specs.Fields.{cell_number_of, cells_of, field_of, label_of}

mapped : {A B D : Type 0} (g : B → D) (h : A → B) (xs : List A) → map (λ (x : A). g (h x)) xs ≡ map g (map h xs)
mapped g h [] = refl
mapped {A} {B} {D} g h (x ∷ xs) = ap (λ (l : List D). g (h x) ∷ l) (mapped g h xs)

pub each_is : (s : State) (f : Frame) (xs : List (Expression Note)) → map (tree_of s f) xs ≡ expressions.trees (definitions s) (number s) f (listed (map (expression_in s) xs))
each_is s f [] = refl
each_is s f (x ∷ xs) = ap (λ (l : List TypedExpression). tree_of s f x ∷ l) (each_is s f xs)

pub cells_are : (s : State) (f : Frame) (u v : TypeId) (xs : List (Expression Note)) → u ≡ v → map (cells_of s f u) xs ≡ map (cell_at v) (expressions.trees (definitions s) (number s) f (listed (map (expression_in s) xs)))
cells_are s f u v xs e =
    ap (λ (w : TypeId). map (cells_of s f w) xs) e ∙ (mapped (cell_at v) (tree_of s f) xs ∙ ap (map (cell_at v)) (each_is s f xs))

pub take_none : {A : Type 0} (xs : List A) → take zero xs ≡ []
take_none [] = refl
take_none (x ∷ xs) = refl

pub pushed_behind : {A B : Type 0} (f : A → B) (b : B) (xs : List A) (i : ℕ) (x : A) (made more : List B) (y : B) → i < length xs → x ≡ get_or xs i x → made ≡ b ∷ map f (take i xs) → y ≡ f x → more ≡ made ++ y ∷ [] → more ≡ b ∷ map f (take (i + 1) xs)
pushed_behind {A} {B} f b xs i x made more y l e h g k =
    k ∙ (ap (λ (z : List B). z ++ y ∷ []) h ∙ ap (λ (z : List B). b ∷ z) (pushed f xs i x (map f (take i xs)) (map f (take i xs) ++ y ∷ []) y l e refl g refl))

module _ (s : State) where
  abbrev seen_fields : List (ObjectField Note) → p.ObjectFields typed.Note
  seen_fields xs = fields (map (object_field (noted s.forms)) xs)

  pub labels_are : (xs : List (ObjectField Note)) → map label_of xs ≡ expressions.labels_of (seen_fields xs)
  labels_are [] = refl
  labels_are (x ∷ xs) =
      ap (λ (l : List (List ℕ)). label_of x ∷ l) (labels_are xs)
      ∙ ap (λ (g : p.ObjectFields typed.Note → p.ObjectFields typed.Note). expressions.labels_of (g (seen_fields xs))) (sym (field_is (noted s.forms) x))

  pub fields_are : (f : Frame) (kind : TermId) (xs : List (ObjectField Note)) → map (field_of s f kind) xs ≡ expressions.field_trees (definitions s) (number s) f (head_of s kind) (seen_fields xs)
  fields_are f kind [] = refl
  fields_are f kind (x ∷ xs) =
      ap (λ (l : List TypedExpression). field_of s f kind x ∷ l) (fields_are f kind xs)
      ∙ ap (λ (g : p.ObjectFields typed.Note → p.ObjectFields typed.Note). expressions.field_trees (definitions s) (number s) f (head_of s kind) (g (seen_fields xs))) (sym (field_is (noted s.forms) x))

  pub number_is : (kind : TermId) (x : ObjectField Note) (o : Option TypeId) → IsFieldNumber s (head_of s kind) x.name.bytes o → or_number (number s (type_of (expression_in s x.value))) o ≡ cell_number_of s kind x
  number_is kind x o h = sym (h (type_of (expression_in s x.value)))

  pub own_number : (kind : TermId) (x : ObjectField Note) → IsFieldNumber s (head_of s kind) x.name.bytes None → number_of s x.value.note.kind ≡ cell_number_of s kind x
  own_number kind x h = ap (λ (u : Term). number s u) (sym (type_is s x.value)) ∙ number_is kind x None h

  pub number_found : (kind : TermId) (x : ObjectField Note) (o : Option TypeId) (name : List ℕ) (id : TypeId) → name ≡ x.name.bytes → IsFieldNumber s (head_of s kind) name o → o ≡ Some id → id ≡ cell_number_of s kind x
  number_found kind x o name id e h g = ap (or_number (number s (type_of (expression_in s x.value)))) (sym g) ∙ number_is kind x o (subst (λ (n : List ℕ). IsFieldNumber s (head_of s kind) n o) e h)

  pub own_found : (kind : TermId) (x : ObjectField Note) (o : Option TypeId) (name : List ℕ) → name ≡ x.name.bytes → IsFieldNumber s (head_of s kind) name o → o ≡ None → number_of s x.value.note.kind ≡ cell_number_of s kind x
  own_found kind x o name e h g = own_number kind x (subst (λ (q : Option TypeId). IsFieldNumber s (head_of s kind) x.name.bytes q) g (subst (λ (n : List ℕ). IsFieldNumber s (head_of s kind) n o) e h))

  pub field_true : (f : Frame) (kind : TermId) (x : ObjectField Note) (id : TypeId) (e : TypedExpression) → x.mutable ≡ true → id ≡ cell_number_of s kind x → e ≡ tree_of s f x.value → cell_at id e ≡ field_of s f kind x
  field_true f kind x id e h g i =
      ap (λ (u : TypeId). cell_at u e) g ∙ (ap (cell_at (cell_number_of s kind x)) i
      ∙ ap (λ (b : Bool). expressions.field_value (definitions s) (number s) (head_of s kind) b x.name.bytes (expression_in s x.value) (tree_of s f x.value)) (sym h))

  pub field_false : (f : Frame) (kind : TermId) (x : ObjectField Note) (e : TypedExpression) → x.mutable ≡ false → e ≡ tree_of s f x.value → e ≡ field_of s f kind x
  field_false f kind x e h i =
      i ∙ ap (λ (b : Bool). expressions.field_value (definitions s) (number s) (head_of s kind) b x.name.bytes (expression_in s x.value) (tree_of s f x.value)) (sym h)
