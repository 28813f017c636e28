-- Expressions by their forms, and what may not be assigned to.
use Rattle.std.proofs.Common.{◌≡◌, ◌∙◌, ℕ, List, refl, sym, subst}
use Rattle.typing_rules.specs.declared.condition.Condition.TheVariants as condition
use Rattle.typing_rules.specs.AbstractSyntax as p
use Rattle.typing_rules.specs.Contexts.{Context}
use Rattle.typing_rules.specs.Definitions.{Definitions}
use Rattle.typing_rules.specs.Expressions.{PlaceRule}
use Rattle.typing_rules.specs.Judgements.{Fails}
use Rattle.abstract_tree.specs.declared.declarations.DeclarationForm.TheOpen as F
use Rattle.abstract_tree.specs.declared.declarations.Declaration.{Declaration}
use Rattle.abstract_tree.specs.declared.declarations.DeclarationForm.{DeclarationForm}
use Rattle.abstract_tree.specs.declared.expressions.Case.{Case}
use Rattle.abstract_tree.specs.declared.expressions.ObjectField.{ObjectField}
use Rattle.abstract_tree.specs.declared.expressions.Expression.{Expression}
use Rattle.abstract_tree.specs.declared.expressions.ExpressionForm.{ExpressionForm, map-ExpressionForm, out-ExpressionForm, roll-out-ExpressionForm, roll-ExpressionForm, fold_out-ExpressionForm}
use Rattle.abstract_tree.specs.declared.expressions.ExpressionForm.TheVariants as e
use Rattle.abstract_tree.specs.TreeView.{CaseView, FieldView, DeclarationView, case, case_step, declaration, declaration_form, declaration_form_step, declaration_step, expression, expression_form, expression_step, field_step, form_step, object_field, plain, plain_case, plain_declaration, plain_declaration_form, plain_field, plain_form}

abbrev same : ℕ → ℕ
same n = n

abbrev NoPlace : p.Form ℕ → Type 0
NoPlace f = (defs : Definitions) (c : Context) (at : ℕ) → PlaceRule defs c at f ≡ Fails condition.NotMutable at

module _ (form : ExpressionForm ℕ) (n : (x : List ℕ) → form ≡ e.Name x → ⊥) (m : (a : Expression ℕ) (x : List ℕ) → form ≡ e.Member a x → ⊥) (o : (a i : Expression ℕ) → form ≡ e.Index a i → ⊥) where
  -- none of the three forms
  pub no_place : NoPlace (plain_form form)
  unfolding expression expression_form declaration declaration_form case object_field
  no_place =
      subst NoPlace (sym (fold_out-ExpressionForm ℕ (p.Declaration ℕ) (p.Form ℕ) (DeclarationView ℕ) (CaseView ℕ) (p.Expression ℕ) (FieldView ℕ) (declaration_form_step same) (form_step same) (declaration_step same) (case_step same) (expression_step same) (field_step same) form))
      (by (out-ExpressionForm ℕ form) (roll-out-ExpressionForm ℕ form))
    where
      by : (z : F.ExpressionForm-F ℕ (DeclarationForm ℕ) (ExpressionForm ℕ) (Declaration ℕ) (Case ℕ) (Expression ℕ) (ObjectField ℕ)) → roll-ExpressionForm ℕ z ≡ form
          → NoPlace (form_step same (map-ExpressionForm ℕ (DeclarationForm ℕ) (ExpressionForm ℕ) (Declaration ℕ) (Case ℕ) (Expression ℕ) (ObjectField ℕ) (p.Declaration ℕ) (p.Form ℕ) (DeclarationView ℕ) (CaseView ℕ) (p.Expression ℕ) (FieldView ℕ) plain_declaration_form plain_form plain_declaration plain_case plain plain_field z))
      by (F.Name x) q defs c at = absurd (n x (sym q ∙ e.rolls-Name x))
      by (F.Member a x) q defs c at = absurd (m a x (sym q ∙ e.rolls-Member a x))
      by (F.Index a i) q defs c at = absurd (o a i (sym q ∙ e.rolls-Index a i))
      by _ q defs c at = refl
