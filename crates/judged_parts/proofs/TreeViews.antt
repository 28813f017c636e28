-- How each form of expression and declaration is seen, whatever its notes are.
use Rattle.std.proofs.Common.{◌≡◌, ℕ, Bool, List, Option, ap, ◌∙◌, sym, map, option_map}
use Rattle.mo_scopes.specs.declared.library.Member.{Member}
use Rattle.mo_syntax.specs.declared.literal.Literal.{Literal}
use Rattle.mo_syntax.specs.declared.operators.BinaryOperator.{BinaryOperator}
use Rattle.abstract_types.specs.declared.names.PlacedName.{PlacedName}
use Rattle.abstract_types.specs.declared.types.TypeNode.{TypeNode}
use Rattle.abstract_types.specs.declared.patterns.Pattern.{Pattern}
use Rattle.abstract_types.specs.declared.patterns.Signature.{Signature}
use Rattle.abstract_types.specs.TypeView.{named, type_node, annotation}
use Rattle.abstract_types.specs.PatternView.{pattern, signature}
use Rattle.abstract_tree.specs.declared.declarations.Declaration.{Declaration, fold_out-Declaration}
use Rattle.abstract_tree.specs.declared.declarations.DeclarationForm.{fold-roll-DeclarationForm}
use Rattle.abstract_tree.specs.declared.declarations.DeclarationForm.TheVariants as d
use Rattle.abstract_tree.specs.declared.declarations.DeclarationForm.TheOpen as F
use Rattle.abstract_tree.specs.declared.expressions.Expression.{Expression, fold_out-Expression}
use Rattle.abstract_tree.specs.declared.expressions.ExpressionForm.{fold-roll-ExpressionForm}
use Rattle.abstract_tree.specs.declared.expressions.ExpressionForm.TheVariants as e
use Rattle.abstract_tree.specs.declared.expressions.Case.{Case, fold_out-Case}
use Rattle.abstract_tree.specs.declared.expressions.ObjectField.{ObjectField, fold_out-ObjectField}
use Rattle.typing_rules.specs.AbstractSyntax as p
use Rattle.typing_rules.specs.Spans.{literal_of}
use Rattle.abstract_tree.specs.TreeView.{CaseView, FieldView, DeclarationView, cases, declarations, fields, listed, expression, expression_form, declaration, declaration_form, case, object_field, declaration_form_step, form_step, declaration_step, case_step, expression_step, field_step}

module _ {N M : Type 0} (see : N → M) where
  pub seen_Constant : (l : Literal) → expression_form see (e.Constant l) ≡ p.Constant (literal_of l)
  unfolding expression expression_form declaration declaration_form case object_field
  seen_Constant l = ap (expression_form see) (sym (e.rolls-Constant l)) ∙ fold-roll-ExpressionForm N (p.Declaration M) (p.Form M) (DeclarationView M) (CaseView M) (p.Expression M) (FieldView M) (declaration_form_step see) (form_step see) (declaration_step see) (case_step see) (expression_step see) (field_step see) (F.Constant l)

  pub seen_Name : (x : List ℕ) → expression_form see (e.Name x) ≡ p.Name x
  unfolding expression expression_form declaration declaration_form case object_field
  seen_Name x = ap (expression_form see) (sym (e.rolls-Name x)) ∙ fold-roll-ExpressionForm N (p.Declaration M) (p.Form M) (DeclarationView M) (CaseView M) (p.Expression M) (FieldView M) (declaration_form_step see) (form_step see) (declaration_step see) (case_step see) (expression_step see) (field_step see) (F.Name x)

  pub seen_Tuple : (xs : List (Expression N)) → expression_form see (e.Tuple xs) ≡ p.Tuple (listed (map (expression see) xs))
  unfolding expression expression_form declaration declaration_form case object_field
  seen_Tuple xs = ap (expression_form see) (sym (e.rolls-Tuple xs)) ∙ fold-roll-ExpressionForm N (p.Declaration M) (p.Form M) (DeclarationView M) (CaseView M) (p.Expression M) (FieldView M) (declaration_form_step see) (form_step see) (declaration_step see) (case_step see) (expression_step see) (field_step see) (F.Tuple xs)

  pub seen_Optional : (a : Expression N) → expression_form see (e.Optional a) ≡ p.Optional (expression see a)
  unfolding expression expression_form declaration declaration_form case object_field
  seen_Optional a = ap (expression_form see) (sym (e.rolls-Optional a)) ∙ fold-roll-ExpressionForm N (p.Declaration M) (p.Form M) (DeclarationView M) (CaseView M) (p.Expression M) (FieldView M) (declaration_form_step see) (form_step see) (declaration_step see) (case_step see) (expression_step see) (field_step see) (F.Optional a)

  pub seen_Tag : (x : List ℕ) → expression_form see (e.Tag x) ≡ p.Tag x
  unfolding expression expression_form declaration declaration_form case object_field
  seen_Tag x = ap (expression_form see) (sym (e.rolls-Tag x)) ∙ fold-roll-ExpressionForm N (p.Declaration M) (p.Form M) (DeclarationView M) (CaseView M) (p.Expression M) (FieldView M) (declaration_form_step see) (form_step see) (declaration_step see) (case_step see) (expression_step see) (field_step see) (F.Tag x)

  pub seen_Tagged : (x : List ℕ) (a : Expression N) → expression_form see (e.Tagged x a) ≡ p.Tagged x (expression see a)
  unfolding expression expression_form declaration declaration_form case object_field
  seen_Tagged x a = ap (expression_form see) (sym (e.rolls-Tagged x a)) ∙ fold-roll-ExpressionForm N (p.Declaration M) (p.Form M) (DeclarationView M) (CaseView M) (p.Expression M) (FieldView M) (declaration_form_step see) (form_step see) (declaration_step see) (case_step see) (expression_step see) (field_step see) (F.Tagged x a)

  pub seen_Array : (mutable : Bool) (xs : List (Expression N)) → expression_form see (e.Array mutable xs) ≡ p.Array mutable (listed (map (expression see) xs))
  unfolding expression expression_form declaration declaration_form case object_field
  seen_Array mutable xs = ap (expression_form see) (sym (e.rolls-Array mutable xs)) ∙ fold-roll-ExpressionForm N (p.Declaration M) (p.Form M) (DeclarationView M) (CaseView M) (p.Expression M) (FieldView M) (declaration_form_step see) (form_step see) (declaration_step see) (case_step see) (expression_step see) (field_step see) (F.Array mutable xs)

  pub seen_Object : (xs : List (ObjectField N)) → expression_form see (e.Object xs) ≡ p.Object (fields (map (object_field see) xs))
  unfolding expression expression_form declaration declaration_form case object_field
  seen_Object xs = ap (expression_form see) (sym (e.rolls-Object xs)) ∙ fold-roll-ExpressionForm N (p.Declaration M) (p.Form M) (DeclarationView M) (CaseView M) (p.Expression M) (FieldView M) (declaration_form_step see) (form_step see) (declaration_step see) (case_step see) (expression_step see) (field_step see) (F.Object xs)

  pub seen_Member : (a : Expression N) (x : List ℕ) → expression_form see (e.Member a x) ≡ p.Member (expression see a) x
  unfolding expression expression_form declaration declaration_form case object_field
  seen_Member a x = ap (expression_form see) (sym (e.rolls-Member a x)) ∙ fold-roll-ExpressionForm N (p.Declaration M) (p.Form M) (DeclarationView M) (CaseView M) (p.Expression M) (FieldView M) (declaration_form_step see) (form_step see) (declaration_step see) (case_step see) (expression_step see) (field_step see) (F.Member a x)

  pub seen_Projection : (a : Expression N) (n : ℕ) → expression_form see (e.Projection a n) ≡ p.Projection (expression see a) n
  unfolding expression expression_form declaration declaration_form case object_field
  seen_Projection a n = ap (expression_form see) (sym (e.rolls-Projection a n)) ∙ fold-roll-ExpressionForm N (p.Declaration M) (p.Form M) (DeclarationView M) (CaseView M) (p.Expression M) (FieldView M) (declaration_form_step see) (form_step see) (declaration_step see) (case_step see) (expression_step see) (field_step see) (F.Projection a n)

  pub seen_Index : (a : Expression N) (i : Expression N) → expression_form see (e.Index a i) ≡ p.Index (expression see a) (expression see i)
  unfolding expression expression_form declaration declaration_form case object_field
  seen_Index a i = ap (expression_form see) (sym (e.rolls-Index a i)) ∙ fold-roll-ExpressionForm N (p.Declaration M) (p.Form M) (DeclarationView M) (CaseView M) (p.Expression M) (FieldView M) (declaration_form_step see) (form_step see) (declaration_step see) (case_step see) (expression_step see) (field_step see) (F.Index a i)

  pub seen_Annotated : (a : Expression N) (t : TypeNode) → expression_form see (e.Annotated a t) ≡ p.Annotated (expression see a) (type_node t)
  unfolding expression expression_form declaration declaration_form case object_field
  seen_Annotated a t = ap (expression_form see) (sym (e.rolls-Annotated a t)) ∙ fold-roll-ExpressionForm N (p.Declaration M) (p.Form M) (DeclarationView M) (CaseView M) (p.Expression M) (FieldView M) (declaration_form_step see) (form_step see) (declaration_step see) (case_step see) (expression_step see) (field_step see) (F.Annotated a t)

  pub seen_Negative : (a : Expression N) → expression_form see (e.Negative a) ≡ p.Negative (expression see a)
  unfolding expression expression_form declaration declaration_form case object_field
  seen_Negative a = ap (expression_form see) (sym (e.rolls-Negative a)) ∙ fold-roll-ExpressionForm N (p.Declaration M) (p.Form M) (DeclarationView M) (CaseView M) (p.Expression M) (FieldView M) (declaration_form_step see) (form_step see) (declaration_step see) (case_step see) (expression_step see) (field_step see) (F.Negative a)

  pub seen_Binary : (o : BinaryOperator) (a : Expression N) (b : Expression N) → expression_form see (e.Binary o a b) ≡ p.Binary o (expression see a) (expression see b)
  unfolding expression expression_form declaration declaration_form case object_field
  seen_Binary o a b = ap (expression_form see) (sym (e.rolls-Binary o a b)) ∙ fold-roll-ExpressionForm N (p.Declaration M) (p.Form M) (DeclarationView M) (CaseView M) (p.Expression M) (FieldView M) (declaration_form_step see) (form_step see) (declaration_step see) (case_step see) (expression_step see) (field_step see) (F.Binary o a b)

  pub seen_Not : (a : Expression N) → expression_form see (e.Not a) ≡ p.Not (expression see a)
  unfolding expression expression_form declaration declaration_form case object_field
  seen_Not a = ap (expression_form see) (sym (e.rolls-Not a)) ∙ fold-roll-ExpressionForm N (p.Declaration M) (p.Form M) (DeclarationView M) (CaseView M) (p.Expression M) (FieldView M) (declaration_form_step see) (form_step see) (declaration_step see) (case_step see) (expression_step see) (field_step see) (F.Not a)

  pub seen_Assign : (a : Expression N) (b : Expression N) → expression_form see (e.Assign a b) ≡ p.Assign (expression see a) (expression see b)
  unfolding expression expression_form declaration declaration_form case object_field
  seen_Assign a b = ap (expression_form see) (sym (e.rolls-Assign a b)) ∙ fold-roll-ExpressionForm N (p.Declaration M) (p.Form M) (DeclarationView M) (CaseView M) (p.Expression M) (FieldView M) (declaration_form_step see) (form_step see) (declaration_step see) (case_step see) (expression_step see) (field_step see) (F.Assign a b)

  pub seen_AssignBy : (o : BinaryOperator) (a : Expression N) (b : Expression N) → expression_form see (e.AssignBy o a b) ≡ p.AssignBy o (expression see a) (expression see b)
  unfolding expression expression_form declaration declaration_form case object_field
  seen_AssignBy o a b = ap (expression_form see) (sym (e.rolls-AssignBy o a b)) ∙ fold-roll-ExpressionForm N (p.Declaration M) (p.Form M) (DeclarationView M) (CaseView M) (p.Expression M) (FieldView M) (declaration_form_step see) (form_step see) (declaration_step see) (case_step see) (expression_step see) (field_step see) (F.AssignBy o a b)

  pub seen_Call : (f : Expression N) (types : Option (List TypeNode)) (xs : List (Expression N)) → expression_form see (e.Call f types xs) ≡ p.Call (expression see f) (option_map (map type_node) types) (listed (map (expression see) xs))
  unfolding expression expression_form declaration declaration_form case object_field
  seen_Call f types xs = ap (expression_form see) (sym (e.rolls-Call f types xs)) ∙ fold-roll-ExpressionForm N (p.Declaration M) (p.Form M) (DeclarationView M) (CaseView M) (p.Expression M) (FieldView M) (declaration_form_step see) (form_step see) (declaration_step see) (case_step see) (expression_step see) (field_step see) (F.Call f types xs)

  pub seen_When : (c : Expression N) (a : Expression N) → expression_form see (e.When c a) ≡ p.When (expression see c) (expression see a)
  unfolding expression expression_form declaration declaration_form case object_field
  seen_When c a = ap (expression_form see) (sym (e.rolls-When c a)) ∙ fold-roll-ExpressionForm N (p.Declaration M) (p.Form M) (DeclarationView M) (CaseView M) (p.Expression M) (FieldView M) (declaration_form_step see) (form_step see) (declaration_step see) (case_step see) (expression_step see) (field_step see) (F.When c a)

  pub seen_If : (c : Expression N) (a : Expression N) (b : Expression N) → expression_form see (e.If c a b) ≡ p.If (expression see c) (expression see a) (expression see b)
  unfolding expression expression_form declaration declaration_form case object_field
  seen_If c a b = ap (expression_form see) (sym (e.rolls-If c a b)) ∙ fold-roll-ExpressionForm N (p.Declaration M) (p.Form M) (DeclarationView M) (CaseView M) (p.Expression M) (FieldView M) (declaration_form_step see) (form_step see) (declaration_step see) (case_step see) (expression_step see) (field_step see) (F.If c a b)

  pub seen_Switch : (a : Expression N) (xs : List (Case N)) → expression_form see (e.Switch a xs) ≡ p.Switch (expression see a) (cases (map (case see) xs))
  unfolding expression expression_form declaration declaration_form case object_field
  seen_Switch a xs = ap (expression_form see) (sym (e.rolls-Switch a xs)) ∙ fold-roll-ExpressionForm N (p.Declaration M) (p.Form M) (DeclarationView M) (CaseView M) (p.Expression M) (FieldView M) (declaration_form_step see) (form_step see) (declaration_step see) (case_step see) (expression_step see) (field_step see) (F.Switch a xs)

  pub seen_Try : (a : Expression N) (q : Pattern N) (b : Expression N) → expression_form see (e.Try a q b) ≡ p.Try (expression see a) (pattern see q) (expression see b)
  unfolding expression expression_form declaration declaration_form case object_field
  seen_Try a q b = ap (expression_form see) (sym (e.rolls-Try a q b)) ∙ fold-roll-ExpressionForm N (p.Declaration M) (p.Form M) (DeclarationView M) (CaseView M) (p.Expression M) (FieldView M) (declaration_form_step see) (form_step see) (declaration_step see) (case_step see) (expression_step see) (field_step see) (F.Try a q b)

  pub seen_While : (c : Expression N) (a : Expression N) → expression_form see (e.While c a) ≡ p.While (expression see c) (expression see a)
  unfolding expression expression_form declaration declaration_form case object_field
  seen_While c a = ap (expression_form see) (sym (e.rolls-While c a)) ∙ fold-roll-ExpressionForm N (p.Declaration M) (p.Form M) (DeclarationView M) (CaseView M) (p.Expression M) (FieldView M) (declaration_form_step see) (form_step see) (declaration_step see) (case_step see) (expression_step see) (field_step see) (F.While c a)

  pub seen_Loop : (a : Expression N) → expression_form see (e.Loop a) ≡ p.Loop (expression see a)
  unfolding expression expression_form declaration declaration_form case object_field
  seen_Loop a = ap (expression_form see) (sym (e.rolls-Loop a)) ∙ fold-roll-ExpressionForm N (p.Declaration M) (p.Form M) (DeclarationView M) (CaseView M) (p.Expression M) (FieldView M) (declaration_form_step see) (form_step see) (declaration_step see) (case_step see) (expression_step see) (field_step see) (F.Loop a)

  pub seen_LoopWhile : (a : Expression N) (c : Expression N) → expression_form see (e.LoopWhile a c) ≡ p.LoopWhile (expression see a) (expression see c)
  unfolding expression expression_form declaration declaration_form case object_field
  seen_LoopWhile a c = ap (expression_form see) (sym (e.rolls-LoopWhile a c)) ∙ fold-roll-ExpressionForm N (p.Declaration M) (p.Form M) (DeclarationView M) (CaseView M) (p.Expression M) (FieldView M) (declaration_form_step see) (form_step see) (declaration_step see) (case_step see) (expression_step see) (field_step see) (F.LoopWhile a c)

  pub seen_For : (q : Pattern N) (a : Expression N) (b : Expression N) → expression_form see (e.For q a b) ≡ p.For (pattern see q) (expression see a) (expression see b)
  unfolding expression expression_form declaration declaration_form case object_field
  seen_For q a b = ap (expression_form see) (sym (e.rolls-For q a b)) ∙ fold-roll-ExpressionForm N (p.Declaration M) (p.Form M) (DeclarationView M) (CaseView M) (p.Expression M) (FieldView M) (declaration_form_step see) (form_step see) (declaration_step see) (case_step see) (expression_step see) (field_step see) (F.For q a b)

  pub seen_Label : (x : List ℕ) (t : Option TypeNode) (a : Expression N) → expression_form see (e.Label x t a) ≡ p.Label x (annotation t) (expression see a)
  unfolding expression expression_form declaration declaration_form case object_field
  seen_Label x t a = ap (expression_form see) (sym (e.rolls-Label x t a)) ∙ fold-roll-ExpressionForm N (p.Declaration M) (p.Form M) (DeclarationView M) (CaseView M) (p.Expression M) (FieldView M) (declaration_form_step see) (form_step see) (declaration_step see) (case_step see) (expression_step see) (field_step see) (F.Label x t a)

  pub seen_Break : (x : List ℕ) → expression_form see (e.Break x) ≡ p.Break x
  unfolding expression expression_form declaration declaration_form case object_field
  seen_Break x = ap (expression_form see) (sym (e.rolls-Break x)) ∙ fold-roll-ExpressionForm N (p.Declaration M) (p.Form M) (DeclarationView M) (CaseView M) (p.Expression M) (FieldView M) (declaration_form_step see) (form_step see) (declaration_step see) (case_step see) (expression_step see) (field_step see) (F.Break x)

  pub seen_BreakWith : (x : List ℕ) (a : Expression N) → expression_form see (e.BreakWith x a) ≡ p.BreakWith x (expression see a)
  unfolding expression expression_form declaration declaration_form case object_field
  seen_BreakWith x a = ap (expression_form see) (sym (e.rolls-BreakWith x a)) ∙ fold-roll-ExpressionForm N (p.Declaration M) (p.Form M) (DeclarationView M) (CaseView M) (p.Expression M) (FieldView M) (declaration_form_step see) (form_step see) (declaration_step see) (case_step see) (expression_step see) (field_step see) (F.BreakWith x a)

  pub seen_Continue : (x : List ℕ) → expression_form see (e.Continue x) ≡ p.Continue x
  unfolding expression expression_form declaration declaration_form case object_field
  seen_Continue x = ap (expression_form see) (sym (e.rolls-Continue x)) ∙ fold-roll-ExpressionForm N (p.Declaration M) (p.Form M) (DeclarationView M) (CaseView M) (p.Expression M) (FieldView M) (declaration_form_step see) (form_step see) (declaration_step see) (case_step see) (expression_step see) (field_step see) (F.Continue x)

  pub seen_Return : expression_form see (e.Return) ≡ p.Return
  unfolding expression expression_form declaration declaration_form case object_field
  seen_Return = ap (expression_form see) (sym (e.rolls-Return)) ∙ fold-roll-ExpressionForm N (p.Declaration M) (p.Form M) (DeclarationView M) (CaseView M) (p.Expression M) (FieldView M) (declaration_form_step see) (form_step see) (declaration_step see) (case_step see) (expression_step see) (field_step see) F.Return

  pub seen_ReturnWith : (a : Expression N) → expression_form see (e.ReturnWith a) ≡ p.ReturnWith (expression see a)
  unfolding expression expression_form declaration declaration_form case object_field
  seen_ReturnWith a = ap (expression_form see) (sym (e.rolls-ReturnWith a)) ∙ fold-roll-ExpressionForm N (p.Declaration M) (p.Form M) (DeclarationView M) (CaseView M) (p.Expression M) (FieldView M) (declaration_form_step see) (form_step see) (declaration_step see) (case_step see) (expression_step see) (field_step see) (F.ReturnWith a)

  pub seen_Throw : (a : Expression N) → expression_form see (e.Throw a) ≡ p.Throw (expression see a)
  unfolding expression expression_form declaration declaration_form case object_field
  seen_Throw a = ap (expression_form see) (sym (e.rolls-Throw a)) ∙ fold-roll-ExpressionForm N (p.Declaration M) (p.Form M) (DeclarationView M) (CaseView M) (p.Expression M) (FieldView M) (declaration_form_step see) (form_step see) (declaration_step see) (case_step see) (expression_step see) (field_step see) (F.Throw a)

  pub seen_Do : (a : Expression N) → expression_form see (e.Do a) ≡ p.Do (expression see a)
  unfolding expression expression_form declaration declaration_form case object_field
  seen_Do a = ap (expression_form see) (sym (e.rolls-Do a)) ∙ fold-roll-ExpressionForm N (p.Declaration M) (p.Form M) (DeclarationView M) (CaseView M) (p.Expression M) (FieldView M) (declaration_form_step see) (form_step see) (declaration_step see) (case_step see) (expression_step see) (field_step see) (F.Do a)

  pub seen_DoOption : (a : Expression N) → expression_form see (e.DoOption a) ≡ p.DoOption (expression see a)
  unfolding expression expression_form declaration declaration_form case object_field
  seen_DoOption a = ap (expression_form see) (sym (e.rolls-DoOption a)) ∙ fold-roll-ExpressionForm N (p.Declaration M) (p.Form M) (DeclarationView M) (CaseView M) (p.Expression M) (FieldView M) (declaration_form_step see) (form_step see) (declaration_step see) (case_step see) (expression_step see) (field_step see) (F.DoOption a)

  pub seen_Bang : (a : Expression N) → expression_form see (e.Bang a) ≡ p.Bang (expression see a)
  unfolding expression expression_form declaration declaration_form case object_field
  seen_Bang a = ap (expression_form see) (sym (e.rolls-Bang a)) ∙ fold-roll-ExpressionForm N (p.Declaration M) (p.Form M) (DeclarationView M) (CaseView M) (p.Expression M) (FieldView M) (declaration_form_step see) (form_step see) (declaration_step see) (case_step see) (expression_step see) (field_step see) (F.Bang a)

  pub seen_Block : (ds : List (Declaration N)) → expression_form see (e.Block ds) ≡ p.Block (declarations (map (declaration see) ds))
  unfolding expression expression_form declaration declaration_form case object_field
  seen_Block ds = ap (expression_form see) (sym (e.rolls-Block ds)) ∙ fold-roll-ExpressionForm N (p.Declaration M) (p.Form M) (DeclarationView M) (CaseView M) (p.Expression M) (FieldView M) (declaration_form_step see) (form_step see) (declaration_step see) (case_step see) (expression_step see) (field_step see) (F.Block ds)

  pub seen_Function : (g : Signature N) (a : Expression N) → expression_form see (e.Function g a) ≡ p.Function (signature see g) (expression see a)
  unfolding expression expression_form declaration declaration_form case object_field
  seen_Function g a = ap (expression_form see) (sym (e.rolls-Function g a)) ∙ fold-roll-ExpressionForm N (p.Declaration M) (p.Form M) (DeclarationView M) (CaseView M) (p.Expression M) (FieldView M) (declaration_form_step see) (form_step see) (declaration_step see) (case_step see) (expression_step see) (field_step see) (F.Function g a)

  pub seen_ObjectBlock : (ds : List (Declaration N)) → expression_form see (e.ObjectBlock ds) ≡ p.ObjectBlock (declarations (map (declaration see) ds))
  unfolding expression expression_form declaration declaration_form case object_field
  seen_ObjectBlock ds = ap (expression_form see) (sym (e.rolls-ObjectBlock ds)) ∙ fold-roll-ExpressionForm N (p.Declaration M) (p.Form M) (DeclarationView M) (CaseView M) (p.Expression M) (FieldView M) (declaration_form_step see) (form_step see) (declaration_step see) (case_step see) (expression_step see) (field_step see) (F.ObjectBlock ds)

  pub seen_Assert : (a : Expression N) → expression_form see (e.Assert a) ≡ p.Assert (expression see a)
  unfolding expression expression_form declaration declaration_form case object_field
  seen_Assert a = ap (expression_form see) (sym (e.rolls-Assert a)) ∙ fold-roll-ExpressionForm N (p.Declaration M) (p.Form M) (DeclarationView M) (CaseView M) (p.Expression M) (FieldView M) (declaration_form_step see) (form_step see) (declaration_step see) (case_step see) (expression_step see) (field_step see) (F.Assert a)

  pub seen_Ignore : (a : Expression N) → expression_form see (e.Ignore a) ≡ p.Ignore (expression see a)
  unfolding expression expression_form declaration declaration_form case object_field
  seen_Ignore a = ap (expression_form see) (sym (e.rolls-Ignore a)) ∙ fold-roll-ExpressionForm N (p.Declaration M) (p.Form M) (DeclarationView M) (CaseView M) (p.Expression M) (FieldView M) (declaration_form_step see) (form_step see) (declaration_step see) (case_step see) (expression_step see) (field_step see) (F.Ignore a)

  pub seen_Debug : (a : Expression N) → expression_form see (e.Debug a) ≡ p.Debug (expression see a)
  unfolding expression expression_form declaration declaration_form case object_field
  seen_Debug a = ap (expression_form see) (sym (e.rolls-Debug a)) ∙ fold-roll-ExpressionForm N (p.Declaration M) (p.Form M) (DeclarationView M) (CaseView M) (p.Expression M) (FieldView M) (declaration_form_step see) (form_step see) (declaration_step see) (case_step see) (expression_step see) (field_step see) (F.Debug a)

  pub seen_ActorReference : (x : List ℕ) → expression_form see (e.ActorReference x) ≡ p.ActorReference x
  unfolding expression expression_form declaration declaration_form case object_field
  seen_ActorReference x = ap (expression_form see) (sym (e.rolls-ActorReference x)) ∙ fold-roll-ExpressionForm N (p.Declaration M) (p.Form M) (DeclarationView M) (CaseView M) (p.Expression M) (FieldView M) (declaration_form_step see) (form_step see) (declaration_step see) (case_step see) (expression_step see) (field_step see) (F.ActorReference x)

  pub seen_Await : (a : Expression N) → expression_form see (e.Await a) ≡ p.Await (expression see a)
  unfolding expression expression_form declaration declaration_form case object_field
  seen_Await a = ap (expression_form see) (sym (e.rolls-Await a)) ∙ fold-roll-ExpressionForm N (p.Declaration M) (p.Form M) (DeclarationView M) (CaseView M) (p.Expression M) (FieldView M) (declaration_form_step see) (form_step see) (declaration_step see) (case_step see) (expression_step see) (field_step see) (F.Await a)

  pub seen_Let : (q : Pattern N) (a : Expression N) → declaration_form see (d.Let q a) ≡ p.Let (pattern see q) (expression see a)
  unfolding expression expression_form declaration declaration_form case object_field
  seen_Let q a = ap (declaration_form see) (sym (d.rolls-Let q a)) ∙ fold-roll-DeclarationForm N (p.Declaration M) (p.Form M) (DeclarationView M) (CaseView M) (p.Expression M) (FieldView M) (declaration_form_step see) (form_step see) (declaration_step see) (case_step see) (expression_step see) (field_step see) (F.Let q a)

  pub seen_Var : (stable : Bool) (x : PlacedName) (t : Option TypeNode) (a : Expression N) → declaration_form see (d.Var stable x t a) ≡ p.Var stable (named x) (annotation t) (expression see a)
  unfolding expression expression_form declaration declaration_form case object_field
  seen_Var stable x t a = ap (declaration_form see) (sym (d.rolls-Var stable x t a)) ∙ fold-roll-DeclarationForm N (p.Declaration M) (p.Form M) (DeclarationView M) (CaseView M) (p.Expression M) (FieldView M) (declaration_form_step see) (form_step see) (declaration_step see) (case_step see) (expression_step see) (field_step see) (F.Var stable x t a)

  pub seen_Func : (x : PlacedName) (g : Signature N) (a : Expression N) → declaration_form see (d.Func x g a) ≡ p.Func (named x) (signature see g) (expression see a)
  unfolding expression expression_form declaration declaration_form case object_field
  seen_Func x g a = ap (declaration_form see) (sym (d.rolls-Func x g a)) ∙ fold-roll-DeclarationForm N (p.Declaration M) (p.Form M) (DeclarationView M) (CaseView M) (p.Expression M) (FieldView M) (declaration_form_step see) (form_step see) (declaration_step see) (case_step see) (expression_step see) (field_step see) (F.Func x g a)

  pub seen_Method : (query : Bool) (context : Option (Pattern N)) (x : PlacedName) (g : Signature N) (a : Expression N) → declaration_form see (d.Method query context x g a) ≡ p.Method query (option_map (pattern see) context) (named x) (signature see g) (expression see a)
  unfolding expression expression_form declaration declaration_form case object_field
  seen_Method query context x g a = ap (declaration_form see) (sym (d.rolls-Method query context x g a)) ∙ fold-roll-DeclarationForm N (p.Declaration M) (p.Form M) (DeclarationView M) (CaseView M) (p.Expression M) (FieldView M) (declaration_form_step see) (form_step see) (declaration_step see) (case_step see) (expression_step see) (field_step see) (F.Method query context x g a)

  pub seen_System : (x : PlacedName) (a : Expression N) → declaration_form see (d.System x a) ≡ p.System (named x) (expression see a)
  unfolding expression expression_form declaration declaration_form case object_field
  seen_System x a = ap (declaration_form see) (sym (d.rolls-System x a)) ∙ fold-roll-DeclarationForm N (p.Declaration M) (p.Form M) (DeclarationView M) (CaseView M) (p.Expression M) (FieldView M) (declaration_form_step see) (form_step see) (declaration_step see) (case_step see) (expression_step see) (field_step see) (F.System x a)

  pub seen_TypeAlias : (x : PlacedName) (xs : List PlacedName) (t : TypeNode) → declaration_form see (d.TypeAlias x xs t) ≡ p.TypeAlias (named x) (map named xs) (type_node t)
  unfolding expression expression_form declaration declaration_form case object_field
  seen_TypeAlias x xs t = ap (declaration_form see) (sym (d.rolls-TypeAlias x xs t)) ∙ fold-roll-DeclarationForm N (p.Declaration M) (p.Form M) (DeclarationView M) (CaseView M) (p.Expression M) (FieldView M) (declaration_form_step see) (form_step see) (declaration_step see) (case_step see) (expression_step see) (field_step see) (F.TypeAlias x xs t)

  pub seen_Class : (x : PlacedName) (g : Signature N) (ds : List (Declaration N)) → declaration_form see (d.Class x g ds) ≡ p.Class (named x) (signature see g) (declarations (map (declaration see) ds))
  unfolding expression expression_form declaration declaration_form case object_field
  seen_Class x g ds = ap (declaration_form see) (sym (d.rolls-Class x g ds)) ∙ fold-roll-DeclarationForm N (p.Declaration M) (p.Form M) (DeclarationView M) (CaseView M) (p.Expression M) (FieldView M) (declaration_form_step see) (form_step see) (declaration_step see) (case_step see) (expression_step see) (field_step see) (F.Class x g ds)

  pub seen_NamedObject : (x : PlacedName) (ds : List (Declaration N)) → declaration_form see (d.NamedObject x ds) ≡ p.NamedObject (named x) (declarations (map (declaration see) ds))
  unfolding expression expression_form declaration declaration_form case object_field
  seen_NamedObject x ds = ap (declaration_form see) (sym (d.rolls-NamedObject x ds)) ∙ fold-roll-DeclarationForm N (p.Declaration M) (p.Form M) (DeclarationView M) (CaseView M) (p.Expression M) (FieldView M) (declaration_form_step see) (form_step see) (declaration_step see) (case_step see) (expression_step see) (field_step see) (F.NamedObject x ds)

  pub seen_Evaluate : (a : Expression N) → declaration_form see (d.Evaluate a) ≡ p.Evaluate (expression see a)
  unfolding expression expression_form declaration declaration_form case object_field
  seen_Evaluate a = ap (declaration_form see) (sym (d.rolls-Evaluate a)) ∙ fold-roll-DeclarationForm N (p.Declaration M) (p.Form M) (DeclarationView M) (CaseView M) (p.Expression M) (FieldView M) (declaration_form_step see) (form_step see) (declaration_step see) (case_step see) (expression_step see) (field_step see) (F.Evaluate a)

  pub seen_Subsumed : (a : Expression N) → expression_form see (e.Subsumed a) ≡ p.Subsumed (expression see a)
  unfolding expression expression_form declaration declaration_form case object_field
  seen_Subsumed a = ap (expression_form see) (sym (e.rolls-Subsumed a)) ∙ fold-roll-ExpressionForm N (p.Declaration M) (p.Form M) (DeclarationView M) (CaseView M) (p.Expression M) (FieldView M) (declaration_form_step see) (form_step see) (declaration_step see) (case_step see) (expression_step see) (field_step see) (F.Subsumed a)

  pub seen_BuiltIn : (a : Member) → expression_form see (e.BuiltIn a) ≡ p.BuiltIn a
  unfolding expression expression_form declaration declaration_form case object_field
  seen_BuiltIn a = ap (expression_form see) (sym (e.rolls-BuiltIn a)) ∙ fold-roll-ExpressionForm N (p.Declaration M) (p.Form M) (DeclarationView M) (CaseView M) (p.Expression M) (FieldView M) (declaration_form_step see) (form_step see) (declaration_step see) (case_step see) (expression_step see) (field_step see) (F.BuiltIn a)

  -- ---- what a value is seen as, by its parts

  pub expression_is : (a : Expression N) → expression see a ≡ p.exp (see a.note) (expression_form see a.form)
  unfolding expression expression_form declaration declaration_form case object_field
  expression_is a = fold_out-Expression N (p.Declaration M) (p.Form M) (DeclarationView M) (CaseView M) (p.Expression M) (FieldView M) (declaration_form_step see) (form_step see) (declaration_step see) (case_step see) (expression_step see) (field_step see) a

  pub declaration_is : (x : Declaration N) → declaration see x ≡ (λ rest. p.Then x.public (see x.note) (declaration_form see x.form) rest)
  unfolding expression expression_form declaration declaration_form case object_field
  declaration_is x = fold_out-Declaration N (p.Declaration M) (p.Form M) (DeclarationView M) (CaseView M) (p.Expression M) (FieldView M) (declaration_form_step see) (form_step see) (declaration_step see) (case_step see) (expression_step see) (field_step see) x

  pub case_is : (x : Case N) → case see x ≡ (λ rest. p.Case (pattern see x.pattern) (expression see x.body) rest)
  unfolding expression expression_form declaration declaration_form case object_field
  case_is x = fold_out-Case N (p.Declaration M) (p.Form M) (DeclarationView M) (CaseView M) (p.Expression M) (FieldView M) (declaration_form_step see) (form_step see) (declaration_step see) (case_step see) (expression_step see) (field_step see) x

  pub field_is : (x : ObjectField N) → object_field see x ≡ (λ rest. p.Field x.mutable (named x.name) (annotation x.annotation) (expression see x.value) rest)
  unfolding expression expression_form declaration declaration_form case object_field
  field_is x = fold_out-ObjectField N (p.Declaration M) (p.Form M) (DeclarationView M) (CaseView M) (p.Expression M) (FieldView M) (declaration_form_step see) (form_step see) (declaration_step see) (case_step see) (expression_step see) (field_step see) x
