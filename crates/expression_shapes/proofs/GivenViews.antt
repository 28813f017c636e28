-- How the forms are seen that stand only in what is given.
use Rattle.std.proofs.Common.{◌≡◌, ℕ, ap, ◌∙◌, sym}
use Rattle.mo_scopes.specs.declared.library.Member.{Member}
use Rattle.abstract_tree.specs.declared.declarations.DeclarationForm.TheOpen as F
use Rattle.abstract_tree.specs.declared.expressions.Expression.{Expression}
use Rattle.abstract_tree.specs.declared.expressions.ExpressionForm.{fold-roll-ExpressionForm}
use Rattle.abstract_tree.specs.declared.expressions.ExpressionForm.TheVariants as e
use Rattle.typing_rules.specs.AbstractSyntax as p
use Rattle.abstract_tree.specs.TreeView.{CaseView, FieldView, DeclarationView, expression, expression_form, declaration, declaration_form, case, object_field, plain, plain_form, declaration_form_step, form_step, declaration_step, case_step, expression_step, field_step}

-- how notes are seen
abbrev same : ℕ → ℕ
same n = n

pub seen_Subsumed : (a : Expression ℕ) → plain_form (e.Subsumed a) ≡ p.Subsumed (plain a)
unfolding expression expression_form declaration declaration_form case object_field
seen_Subsumed a = ap plain_form (sym (e.rolls-Subsumed a)) ∙ fold-roll-ExpressionForm ℕ (p.Declaration ℕ) (p.Form ℕ) (DeclarationView ℕ) (CaseView ℕ) (p.Expression ℕ) (FieldView ℕ) (declaration_form_step same) (form_step same) (declaration_step same) (case_step same) (expression_step same) (field_step same) (F.Subsumed a)

pub seen_BuiltIn : (a : Member) → plain_form (e.BuiltIn a) ≡ p.BuiltIn a
unfolding expression expression_form declaration declaration_form case object_field
seen_BuiltIn a = ap plain_form (sym (e.rolls-BuiltIn a)) ∙ fold-roll-ExpressionForm ℕ (p.Declaration ℕ) (p.Form ℕ) (DeclarationView ℕ) (CaseView ℕ) (p.Expression ℕ) (FieldView ℕ) (declaration_form_step same) (form_step same) (declaration_step same) (case_step same) (expression_step same) (field_step same) (F.BuiltIn a)
