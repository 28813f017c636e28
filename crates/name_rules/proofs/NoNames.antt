-- Members of modules, and expressions that are no names.
use Rattle.std.proofs.Common.{◌≡◌, ◌∙◌, ℕ, List, Option, Some, None, option_map, refl, sym, ap}
use Rattle.std.specs.Option.{option_and_then}
use Rattle.std.specs.Str.{bytes_eq}
use Rattle.std.proofs.lemmas.Map.Made.{lookup-map_values}
use Rattle.mo_scopes.specs.declared.library.Library.{Library}
use Rattle.mo_scopes.specs.declared.library.Member.{Member}
use Rattle.mo_scopes.specs.Scopes.{library_of, members_of, named}
use Rattle.type_terms.specs.declared.form.Form.{Form}
use Rattle.typing_rules.specs.AbstractSyntax as p
use Rattle.typing_rules.specs.Calls.{built_in}
use Rattle.typing_rules.specs.Contexts.{Context, Bound, module_member}
use Rattle.abstract_tree.specs.declared.declarations.DeclarationForm.TheOpen as F
use Rattle.abstract_tree.specs.declared.declarations.Declaration.{Declaration}
use Rattle.abstract_tree.specs.declared.declarations.DeclarationForm.{DeclarationForm}
use Rattle.abstract_tree.specs.declared.expressions.Case.{Case}
use Rattle.abstract_tree.specs.declared.expressions.ObjectField.{ObjectField}
use Rattle.abstract_tree.specs.declared.expressions.Expression.{Expression}
use Rattle.abstract_tree.specs.declared.expressions.ExpressionForm.{ExpressionForm, map-ExpressionForm, out-ExpressionForm, roll-out-ExpressionForm, roll-ExpressionForm, fold_out-ExpressionForm}
use Rattle.abstract_tree.specs.declared.expressions.ExpressionForm.TheVariants as e
use Rattle.abstract_tree.specs.TreeView.{CaseView, FieldView, DeclarationView, case, case_step, declaration, declaration_form, declaration_form_step, declaration_step, expression, expression_form, expression_step, field_step, form_step, object_field, plain, plain_case, plain_declaration, plain_declaration_form, plain_field, plain_form}
use Rattle.abstract_tree.proofs.TreeViews.{seen_Name}
use Rattle.abstract_tree.specs.declared.expressions.Expression.{fold_out-Expression}
use Rattle.value_scopes.specs.declared.bound.Bound as value
use Rattle.value_scopes.specs.declared.place.Place.{Place}
use Rattle.value_scopes.specs.declared.scopes.Scopes.{Scopes}
use Rattle.value_scopes.specs.Places.{context_in}
use Rattle.value_scopes.specs.Values.{bound_in, scope_in}

-- what a name stands for, as the rules see it
pub value_seen : (later : List Form) (values : List (List ℕ × value.Bound)) (x : List ℕ) (o : Option value.Bound) → o ≡ named values x → named (scope_in later values) x ≡ option_map (bound_in later) o
value_seen later values x o e = lookup-map_values (bound_in later) (bytes_eq x) values ∙ ap (option_map (bound_in later)) (sym e)

abbrev same : ℕ → ℕ
same n = n

-- ---- forms that are no names

seen : (a : Expression ℕ) → plain a ≡ p.exp a.note (plain_form a.form)
unfolding expression expression_form declaration declaration_form case object_field
seen a = fold_out-Expression ℕ (p.Declaration ℕ) (p.Form ℕ) (DeclarationView ℕ) (CaseView ℕ) (p.Expression ℕ) (FieldView ℕ) (declaration_form_step same) (form_step same) (declaration_step same) (case_step same) (expression_step same) (field_step same) a

-- what is seen as a name is one
pub is_name : (form : ExpressionForm ℕ) (x : List ℕ) → plain_form form ≡ p.Name x → form ≡ e.Name x
unfolding expression expression_form declaration declaration_form case object_field
is_name form x g =
    by (out-ExpressionForm ℕ form) (roll-out-ExpressionForm ℕ form)
    (sym (fold_out-ExpressionForm ℕ (p.Declaration ℕ) (p.Form ℕ) (DeclarationView ℕ) (CaseView ℕ) (p.Expression ℕ) (FieldView ℕ) (declaration_form_step same) (form_step same) (declaration_step same) (case_step same) (expression_step same) (field_step same) form) ∙ g)
  where
    by : (z : F.ExpressionForm-F ℕ (DeclarationForm ℕ) (ExpressionForm ℕ) (Declaration ℕ) (Case ℕ) (Expression ℕ) (ObjectField ℕ)) → roll-ExpressionForm ℕ z ≡ form
        → form_step same (map-ExpressionForm ℕ (DeclarationForm ℕ) (ExpressionForm ℕ) (Declaration ℕ) (Case ℕ) (Expression ℕ) (ObjectField ℕ) (p.Declaration ℕ) (p.Form ℕ) (DeclarationView ℕ) (CaseView ℕ) (p.Expression ℕ) (FieldView ℕ) plain_declaration_form plain_form plain_declaration plain_case plain plain_field z) ≡ p.Name x
        → form ≡ e.Name x
    by (F.Name y) q h = let i : y ≡ x = cc in sym q ∙ (e.rolls-Name y ∙ ap (λ (w : List ℕ). e.Name w) i)
    by _ q h = cc

-- where it is a name, and where it is none
module _ (c : Context) (a : Expression ℕ) (x : List ℕ) where
  pub of_name : (m : List ℕ) (r : Option Member) → a.form ≡ e.Name m → module_member c m x ≡ r → built_in c (plain a) x ≡ r
  of_name m r q h = ap (λ (b : p.Expression ℕ). built_in c b x) (seen a ∙ ap (λ (f : p.Form ℕ). p.exp a.note f) (ap plain_form q ∙ seen_Name m)) ∙ h

  pub of_none : ((m : List ℕ) → a.form ≡ e.Name m → ⊥) → built_in c (plain a) x ≡ None
  of_none n = ap (λ (b : p.Expression ℕ). built_in c b x) (seen a) ∙ by (plain_form a.form) (λ m q. n m (is_name a.form m q)) where
    by : (f : p.Form ℕ) → ((m : List ℕ) → f ≡ p.Name m → ⊥) → built_in c (p.exp a.note f) x ≡ None
    by (p.Name m) g = absurd (g m refl)
    by _ g = refl

module _ (later : List Form) (c : Scopes) (place : Place) (m x : List ℕ) where
  pub value_hides : (b : value.Bound) → Some b ≡ named c.values m → module_member (context_in later c place) m x ≡ None
  value_hides b e = rw (value_seen later c.values m (Some b) e) refl

  pub of_module : (l : Library) (r : Option Member) → None ≡ named c.values m → Some l ≡ option_and_then library_of (named c.imports m) → r ≡ named (members_of l) x → module_member (context_in later c place) m x ≡ r
  of_module l r e f g = rw (value_seen later c.values m None e) (ap (λ o. option_and_then (λ l. named (members_of l) x) o) (sym f) ∙ sym g)
