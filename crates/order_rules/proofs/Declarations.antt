-- How each form of declaration is seen, where this is how notes are seen.
use Rattle.std.proofs.Common.{◌≡◌, ◌∙◌, Bool, List, Option, ap, sym, map, option_map}
use Rattle.abstract_types.specs.declared.names.PlacedName.{PlacedName}
use Rattle.abstract_types.specs.declared.types.TypeNode.{TypeNode}
use Rattle.abstract_types.specs.declared.patterns.Pattern.{Pattern}
use Rattle.abstract_types.specs.declared.patterns.Signature.{Signature}
use Rattle.abstract_types.specs.TypeView.{annotation, named, type_node}
use Rattle.abstract_types.specs.PatternView.{pattern, signature}
use Rattle.abstract_tree.specs.declared.declarations.Declaration.{Declaration, fold_out-Declaration}
use Rattle.abstract_tree.specs.declared.declarations.DeclarationForm.{fold-roll-DeclarationForm}
use Rattle.abstract_tree.specs.declared.declarations.DeclarationForm.TheVariants as d
use Rattle.abstract_tree.specs.declared.declarations.DeclarationForm.TheOpen as F
use Rattle.abstract_tree.specs.declared.expressions.Expression.{Expression}
use Rattle.abstract_tree.specs.TreeView.{CaseView, DeclarationView, FieldView, case, case_step, declaration, declaration_form, declaration_form_step, declaration_step, declarations, expression, expression_form, expression_step, field_step, form_step, object_field}
use Rattle.typing_rules.specs.AbstractSyntax as p

module _ {N M : Type 0} (see : N → M) where
  pub seen : (x : Declaration N) → declaration see x ≡ (λ rest. p.Then x.public (see x.note) (declaration_form see x.form) rest)
  unfolding expression expression_form declaration declaration_form case object_field
  seen x = fold_out-Declaration N (p.Declaration M) (p.Form M) (DeclarationView M) (CaseView M) (p.Expression M) (FieldView M) (declaration_form_step see) (form_step see) (declaration_step see) (case_step see) (expression_step see) (field_step see) x

  pub seen_Let : (q : Pattern N) (a : Expression N) → declaration_form see (d.Let q a) ≡ p.Let (pattern see q) (expression see a)
  unfolding expression expression_form declaration declaration_form case object_field
  seen_Let q a = ap (declaration_form see) (sym (d.rolls-Let q a)) ∙ fold-roll-DeclarationForm N (p.Declaration M) (p.Form M) (DeclarationView M) (CaseView M) (p.Expression M) (FieldView M) (declaration_form_step see) (form_step see) (declaration_step see) (case_step see) (expression_step see) (field_step see) (F.Let q a)

  pub seen_Var : (stable : Bool) (x : PlacedName) (t : Option TypeNode) (a : Expression N) → declaration_form see (d.Var stable x t a) ≡ p.Var stable (named x) (annotation t) (expression see a)
  unfolding expression expression_form declaration declaration_form case object_field
  seen_Var stable x t a = ap (declaration_form see) (sym (d.rolls-Var stable x t a)) ∙ fold-roll-DeclarationForm N (p.Declaration M) (p.Form M) (DeclarationView M) (CaseView M) (p.Expression M) (FieldView M) (declaration_form_step see) (form_step see) (declaration_step see) (case_step see) (expression_step see) (field_step see) (F.Var stable x t a)

  pub seen_Func : (x : PlacedName) (g : Signature N) (a : Expression N) → declaration_form see (d.Func x g a) ≡ p.Func (named x) (signature see g) (expression see a)
  unfolding expression expression_form declaration declaration_form case object_field
  seen_Func x g a = ap (declaration_form see) (sym (d.rolls-Func x g a)) ∙ fold-roll-DeclarationForm N (p.Declaration M) (p.Form M) (DeclarationView M) (CaseView M) (p.Expression M) (FieldView M) (declaration_form_step see) (form_step see) (declaration_step see) (case_step see) (expression_step see) (field_step see) (F.Func x g a)

  pub seen_Method : (query : Bool) (context : Option (Pattern N)) (x : PlacedName) (g : Signature N) (a : Expression N) → declaration_form see (d.Method query context x g a) ≡ p.Method query (option_map (pattern see) context) (named x) (signature see g) (expression see a)
  unfolding expression expression_form declaration declaration_form case object_field
  seen_Method query context x g a = ap (declaration_form see) (sym (d.rolls-Method query context x g a)) ∙ fold-roll-DeclarationForm N (p.Declaration M) (p.Form M) (DeclarationView M) (CaseView M) (p.Expression M) (FieldView M) (declaration_form_step see) (form_step see) (declaration_step see) (case_step see) (expression_step see) (field_step see) (F.Method query context x g a)

  pub seen_System : (x : PlacedName) (a : Expression N) → declaration_form see (d.System x a) ≡ p.System (named x) (expression see a)
  unfolding expression expression_form declaration declaration_form case object_field
  seen_System x a = ap (declaration_form see) (sym (d.rolls-System x a)) ∙ fold-roll-DeclarationForm N (p.Declaration M) (p.Form M) (DeclarationView M) (CaseView M) (p.Expression M) (FieldView M) (declaration_form_step see) (form_step see) (declaration_step see) (case_step see) (expression_step see) (field_step see) (F.System x a)

  pub seen_TypeAlias : (x : PlacedName) (xs : List PlacedName) (t : TypeNode) → declaration_form see (d.TypeAlias x xs t) ≡ p.TypeAlias (named x) (map named xs) (type_node t)
  unfolding expression expression_form declaration declaration_form case object_field
  seen_TypeAlias x xs t = ap (declaration_form see) (sym (d.rolls-TypeAlias x xs t)) ∙ fold-roll-DeclarationForm N (p.Declaration M) (p.Form M) (DeclarationView M) (CaseView M) (p.Expression M) (FieldView M) (declaration_form_step see) (form_step see) (declaration_step see) (case_step see) (expression_step see) (field_step see) (F.TypeAlias x xs t)

  pub seen_Class : (x : PlacedName) (g : Signature N) (ds : List (Declaration N)) → declaration_form see (d.Class x g ds) ≡ p.Class (named x) (signature see g) (declarations (map (declaration see) ds))
  unfolding expression expression_form declaration declaration_form case object_field
  seen_Class x g ds = ap (declaration_form see) (sym (d.rolls-Class x g ds)) ∙ fold-roll-DeclarationForm N (p.Declaration M) (p.Form M) (DeclarationView M) (CaseView M) (p.Expression M) (FieldView M) (declaration_form_step see) (form_step see) (declaration_step see) (case_step see) (expression_step see) (field_step see) (F.Class x g ds)

  pub seen_NamedObject : (x : PlacedName) (ds : List (Declaration N)) → declaration_form see (d.NamedObject x ds) ≡ p.NamedObject (named x) (declarations (map (declaration see) ds))
  unfolding expression expression_form declaration declaration_form case object_field
  seen_NamedObject x ds = ap (declaration_form see) (sym (d.rolls-NamedObject x ds)) ∙ fold-roll-DeclarationForm N (p.Declaration M) (p.Form M) (DeclarationView M) (CaseView M) (p.Expression M) (FieldView M) (declaration_form_step see) (form_step see) (declaration_step see) (case_step see) (expression_step see) (field_step see) (F.NamedObject x ds)

  pub seen_Evaluate : (a : Expression N) → declaration_form see (d.Evaluate a) ≡ p.Evaluate (expression see a)
  unfolding expression expression_form declaration declaration_form case object_field
  seen_Evaluate a = ap (declaration_form see) (sym (d.rolls-Evaluate a)) ∙ fold-roll-DeclarationForm N (p.Declaration M) (p.Form M) (DeclarationView M) (CaseView M) (p.Expression M) (FieldView M) (declaration_form_step see) (form_step see) (declaration_step see) (case_step see) (expression_step see) (field_step see) (F.Evaluate a)
