-- What is found in expressions and declarations, by their parts.
use Rattle.std.proofs.Common.{◌≡◌, ℕ, List, [], ◌∷◌, ap, map, refl, sym, ◌∙◌}
use Rattle.typing_rules.specs.AbstractSyntax as p
use Rattle.typing_rules.specs.Definitions.{Definitions}
use Rattle.typing_rules.specs.DeclaredTypes.{with_list, within}
use Rattle.typing_rules.specs.Gathered.{both, class_object, defined, in_cases, in_declaration, in_each, in_expression, in_fields, in_list, nothing, of_generics}
use Rattle.typing_rules.specs.TypeScopes.{TypeScope, names_of}
use Rattle.abstract_types.specs.declared.names.PlacedName.{PlacedName}
use Rattle.abstract_types.specs.declared.patterns.Signature.{Signature}
use Rattle.abstract_types.specs.TypeView.{annotation, named}
use Rattle.abstract_types.specs.PatternView as q
use Rattle.abstract_tree.specs.declared.declarations.Declaration.{Declaration}
use Rattle.abstract_tree.specs.declared.declarations.DeclarationForm.{DeclarationForm}
use Rattle.abstract_tree.specs.declared.declarations.DeclarationForm.TheVariants as d
use Rattle.abstract_tree.specs.declared.expressions.Case.{Case, fold_out-Case}
use Rattle.abstract_tree.specs.declared.expressions.Expression.{Expression}
use Rattle.abstract_tree.specs.declared.expressions.ExpressionForm.{ExpressionForm}
use Rattle.abstract_tree.specs.declared.expressions.ObjectField.{ObjectField, fold_out-ObjectField}
use Rattle.abstract_tree.specs.TreeView as t
use Rattle.abstract_tree.specs.TreeView.{case, cases, declaration, declaration_form, declarations, expression, expression_form, fields, listed, object_field, plain, plain_case, plain_declaration, plain_declaration_form, plain_field, plain_form}
use Rattle.abstract_tree.proofs.TreeViews.{declaration_is, expression_is, seen_Class}
use Rattle.expression_parts.specs.declared.part_kinds.Parts as value
use Rattle.expression_parts.specs.Parts as parts
use Rattle.expression_parts.specs.Parts.{Parts, parts_of, seen_parts}
use Rattle.gathered_types.specs.Finding.{class_head}
use Rattle.gathered_types.proofs.Finding.{all_of, both_both}

-- how notes are seen
abbrev same : ℕ → ℕ
same n = n

case_is : (x : Case ℕ) → plain_case x ≡ (λ rest. p.Case (q.plain x.pattern) (plain x.body) rest)
unfolding expression expression_form declaration declaration_form case object_field
case_is x = fold_out-Case ℕ (p.Declaration ℕ) (p.Form ℕ) (t.DeclarationView ℕ) (t.CaseView ℕ) (p.Expression ℕ) (t.FieldView ℕ) (t.declaration_form_step same) (t.form_step same) (t.declaration_step same) (t.case_step same) (t.expression_step same) (t.field_step same) x

object_field_is : (x : ObjectField ℕ) → plain_field x ≡ (λ rest. p.Field x.mutable (named x.name) (annotation x.annotation) (plain x.value) rest)
unfolding expression expression_form declaration declaration_form case object_field
object_field_is x = fold_out-ObjectField ℕ (p.Declaration ℕ) (p.Form ℕ) (t.DeclarationView ℕ) (t.CaseView ℕ) (p.Expression ℕ) (t.FieldView ℕ) (t.declaration_form_step same) (t.form_step same) (t.declaration_step same) (t.case_step same) (t.expression_step same) (t.field_step same) x

-- ---- lists

module _ (s : TypeScope) where
  pub each_are : (xs : List (Expression ℕ)) → all_of (map (λ (x : Expression ℕ). in_expression s (plain x)) xs) ≡ in_each s (listed (map plain xs))
  each_are [] = refl
  each_are (x ∷ xs) = ap (λ (c : Definitions). both (in_expression s (plain x)) c) (each_are xs)

  pub cases_are : (xs : List (Case ℕ)) → all_of (map (λ (x : Case ℕ). in_expression s (plain x.body)) xs) ≡ in_cases s (cases (map plain_case xs))
  cases_are [] = refl
  cases_are (x ∷ xs) = ap (λ (c : Definitions). both (in_expression s (plain x.body)) c) (cases_are xs) ∙ sym (ap (λ (f : t.CaseView ℕ). in_cases s (f (cases (map plain_case xs)))) (case_is x))

  pub fields_are : (xs : List (ObjectField ℕ)) → all_of (map (λ (x : ObjectField ℕ). in_expression s (plain x.value)) xs) ≡ in_fields s (fields (map plain_field xs))
  fields_are [] = refl
  fields_are (x ∷ xs) = ap (λ (c : Definitions). both (in_expression s (plain x.value)) c) (fields_are xs) ∙ sym (ap (λ (f : t.FieldView ℕ). in_fields s (f (fields (map plain_field xs)))) (object_field_is x))

  pub list_is : (xs : List (Declaration ℕ)) → all_of (map (λ (x : Declaration ℕ). in_declaration s (plain_declaration_form x.form)) xs) ≡ in_list s (declarations (map plain_declaration xs))
  list_is [] = refl
  list_is (x ∷ xs) = ap (λ (c : Definitions). both (in_declaration s (plain_declaration_form x.form)) c) (list_is xs) ∙ sym (ap (λ (f : t.DeclarationView ℕ). in_list s (f (declarations (map plain_declaration xs)))) (declaration_is x))

  -- ---- expressions, by their parts

  abbrev pub in_parts : Parts → Definitions
  in_parts parts.Nothing = nothing
  in_parts (parts.One a) = in_expression s a
  in_parts (parts.Two a b) = both (in_expression s a) (in_expression s b)
  in_parts (parts.Three a b c) = both (in_expression s a) (both (in_expression s b) (in_expression s c))
  in_parts (parts.Each items) = in_each s items
  in_parts (parts.Fields xs) = in_fields s xs
  in_parts (parts.Annotated a u) = in_expression s a
  in_parts (parts.Call a types arguments) = both (in_expression s a) (in_each s arguments)
  in_parts (parts.Switch a xs) = both (in_expression s a) (in_cases s xs)
  in_parts (parts.WithPattern x a b) = both (in_expression s a) (in_expression s b)
  in_parts (parts.Labelled u a) = in_expression s a
  in_parts (parts.Declared ds) = in_list (with_list s ds) ds
  in_parts (parts.Function g a) = both (of_generics (within s g) g.generics) (in_expression (within s g) a)
  in_parts (parts.Subsumed a) = in_expression s a

  of_form : (k : ℕ) (f : p.Form ℕ) → in_parts (parts_of f) ≡ in_expression s (p.exp k f)
  of_form k (p.Constant l) = refl
  of_form k (p.Name x) = refl
  of_form k (p.Tuple items) = refl
  of_form k (p.Optional a) = refl
  of_form k (p.Tag x) = refl
  of_form k (p.Tagged x a) = refl
  of_form k (p.Array mutable items) = refl
  of_form k (p.Object xs) = refl
  of_form k (p.Member a x) = refl
  of_form k (p.Projection a n) = refl
  of_form k (p.Index a b) = refl
  of_form k (p.Annotated a u) = refl
  of_form k (p.Negative a) = refl
  of_form k (p.Binary o a b) = refl
  of_form k (p.Not a) = refl
  of_form k (p.Assign a b) = refl
  of_form k (p.AssignBy o a b) = refl
  of_form k (p.Call a types arguments) = refl
  of_form k (p.When a b) = refl
  of_form k (p.If a b c) = refl
  of_form k (p.Switch a xs) = refl
  of_form k (p.Try a x b) = refl
  of_form k (p.While a b) = refl
  of_form k (p.Loop a) = refl
  of_form k (p.LoopWhile a b) = refl
  of_form k (p.For x a b) = refl
  of_form k (p.Label x u a) = refl
  of_form k (p.Break x) = refl
  of_form k (p.BreakWith x a) = refl
  of_form k (p.Continue x) = refl
  of_form k p.Return = refl
  of_form k (p.ReturnWith a) = refl
  of_form k (p.Throw a) = refl
  of_form k (p.Do a) = refl
  of_form k (p.DoOption a) = refl
  of_form k (p.Bang a) = refl
  of_form k (p.Block ds) = refl
  of_form k (p.Function g a) = refl
  of_form k (p.ObjectBlock ds) = refl
  of_form k (p.Assert a) = refl
  of_form k (p.Ignore a) = refl
  of_form k (p.Debug a) = refl
  of_form k (p.ActorReference x) = refl
  of_form k (p.Await a) = refl
  of_form k (p.BuiltIn m) = refl
  of_form k (p.Subsumed a) = refl

  -- the expression has these parts
  pub by_parts : (a : Expression ℕ) (f : ExpressionForm ℕ) (v w : value.Parts) → f ≡ a.form → seen_parts v ≡ parts_of (plain_form f) → v ≡ w → in_parts (seen_parts w) ≡ in_expression s (plain a)
  by_parts a f v w h e k =
      ap (λ (x : value.Parts). in_parts (seen_parts x)) (sym k) ∙ (ap in_parts e ∙ (ap (λ (x : ExpressionForm ℕ). in_parts (parts_of (plain_form x))) h ∙ (of_form a.note (plain_form a.form) ∙ sym (ap (in_expression s) (expression_is a)))))

  -- the declaration has this form
  pub by_declaration : (f g : DeclarationForm ℕ) (w : p.Declaration ℕ) → f ≡ g → plain_declaration_form g ≡ w → in_declaration s w ≡ in_declaration s (plain_declaration_form f)
  by_declaration f g w h k = sym (ap (λ (x : DeclarationForm ℕ). in_declaration s (plain_declaration_form x)) h ∙ ap (in_declaration s) k)

  -- a class
  pub class_declared : (f : DeclarationForm ℕ) (x : PlacedName) (g : Signature ℕ) (xs : List (Declaration ℕ)) → f ≡ d.Class x g xs
      → both (class_head s (named x) (q.plain_signature g) (declarations (map plain_declaration xs))) (in_list (with_list (within s (q.plain_signature g)) (declarations (map plain_declaration xs))) (declarations (map plain_declaration xs))) ≡ in_declaration s (plain_declaration_form f)
  class_declared f x g xs h =
      both_both (defined s (named x) (names_of (q.plain_signature g).generics) (class_object s (q.plain_signature g) (declarations (map plain_declaration xs)))) (of_generics (within s (q.plain_signature g)) (q.plain_signature g).generics)
      (in_list (with_list (within s (q.plain_signature g)) (declarations (map plain_declaration xs))) (declarations (map plain_declaration xs)))
      ∙ by_declaration f (d.Class x g xs) (p.Class (named x) (q.plain_signature g) (declarations (map plain_declaration xs))) h (seen_Class x g xs)
