-- How each form of expression and declaration is seen.
use Rattle.std.proofs.Common.{◌≡◌, ℕ, ◌+◌, Bool, List, [], ◌∷◌, Option, ap, ◌∙◌, sym, map, option_map, refl, arith}
use Rattle.mo_syntax.specs.declared.literal.Literal.{Literal}
use Rattle.mo_syntax.specs.declared.operators.BinaryOperator.{BinaryOperator}
use Rattle.abstract_types.specs.declared.names.PlacedName.{PlacedName}
use Rattle.abstract_types.specs.declared.types.TypeNode.{TypeNode}
use Rattle.abstract_types.specs.declared.patterns.Pattern.{Pattern}
use Rattle.abstract_types.specs.declared.patterns.Signature.{Signature}
use Rattle.abstract_types.specs.TypeView.{named, type_node, annotation}
use Rattle.abstract_types.specs.PatternView.{plain_signature}
use Rattle.abstract_types.specs.PatternView as pattern_view
use Rattle.abstract_tree.specs.declared.declarations.Declaration.{Declaration, fold_out-Declaration}
use Rattle.abstract_tree.specs.declared.declarations.DeclarationForm.{fold-roll-DeclarationForm}
use Rattle.abstract_tree.specs.declared.declarations.DeclarationForm.TheVariants as d
use Rattle.abstract_tree.specs.declared.declarations.DeclarationForm.TheOpen as F
use Rattle.abstract_tree.specs.declared.expressions.Expression.{Expression, fold_out-Expression}
use Rattle.abstract_tree.specs.declared.expressions.ExpressionForm.{fold-roll-ExpressionForm}
use Rattle.abstract_tree.specs.declared.expressions.ExpressionForm.TheVariants as e
use Rattle.abstract_tree.specs.declared.expressions.Case.{Case, roll-Case, fold-roll-Case}
use Rattle.abstract_tree.specs.declared.expressions.ObjectField.{ObjectField, roll-ObjectField, fold-roll-ObjectField}
use Rattle.typing_rules.specs.AbstractSyntax as p
use Rattle.typing_rules.specs.Spans.{literal_of}
use Rattle.typing_rules.specs.AbstractExpressions.{expressions, object_fields}
use Rattle.typing_rules.specs.AbstractExpressions as rules
use Rattle.abstract_tree.specs.TreeView.{CaseView, FieldView, DeclarationView, declarations, expression, expression_form, declaration, declaration_form, case, object_field, plain, plain_form, plain_declaration, plain_declaration_form, plain_case, plain_field, declaration_form_step, form_step, declaration_step, case_step, expression_step, field_step}
use Rattle.abstract_tree.specs.TreeView as view

pub plus_zero : (n : ℕ) → n + 0 ≡ n
plus_zero n = omega arith

pub zero_plus : (n : ℕ) → 0 + n ≡ n
zero_plus n = omega arith

pub one_one : (n : ℕ) → n + 1 + 1 ≡ n + 2
one_one n = omega arith

pub two_one : (n : ℕ) → n + 2 + 1 ≡ n + 3
two_one n = omega arith

abbrev plain_pattern : Pattern ℕ → p.Pattern ℕ
plain_pattern q = pattern_view.plain q

pub listed_is : (xs : List (p.Expression ℕ)) → view.listed xs ≡ expressions xs
listed_is [] = refl
listed_is (x ∷ xs) = ap (λ rest. p.Cons x rest) (listed_is xs)

pub cases_are : (fs : List (CaseView ℕ)) → view.cases fs ≡ rules.cases fs
cases_are [] = refl
cases_are (f ∷ fs) = ap f (cases_are fs)

pub fields_are : (fs : List (FieldView ℕ)) → view.fields fs ≡ object_fields fs
fields_are [] = refl
fields_are (f ∷ fs) = ap f (fields_are fs)

-- how notes are seen
abbrev same : ℕ → ℕ
same n = n

pub seen_Constant : (l : Literal) → plain_form (e.Constant l) ≡ p.Constant (literal_of l)
unfolding expression expression_form declaration declaration_form case object_field
seen_Constant l = ap plain_form (sym (e.rolls-Constant l)) ∙ fold-roll-ExpressionForm ℕ (p.Declaration ℕ) (p.Form ℕ) (DeclarationView ℕ) (CaseView ℕ) (p.Expression ℕ) (FieldView ℕ) (declaration_form_step same) (form_step same) (declaration_step same) (case_step same) (expression_step same) (field_step same) (F.Constant l)

pub seen_Name : (x : List ℕ) → plain_form (e.Name x) ≡ p.Name x
unfolding expression expression_form declaration declaration_form case object_field
seen_Name x = ap plain_form (sym (e.rolls-Name x)) ∙ fold-roll-ExpressionForm ℕ (p.Declaration ℕ) (p.Form ℕ) (DeclarationView ℕ) (CaseView ℕ) (p.Expression ℕ) (FieldView ℕ) (declaration_form_step same) (form_step same) (declaration_step same) (case_step same) (expression_step same) (field_step same) (F.Name x)

pub seen_Tuple : (xs : List (Expression ℕ)) → plain_form (e.Tuple xs) ≡ p.Tuple (expressions (map plain xs))
unfolding expression expression_form declaration declaration_form case object_field
seen_Tuple xs = ap plain_form (sym (e.rolls-Tuple xs)) ∙ fold-roll-ExpressionForm ℕ (p.Declaration ℕ) (p.Form ℕ) (DeclarationView ℕ) (CaseView ℕ) (p.Expression ℕ) (FieldView ℕ) (declaration_form_step same) (form_step same) (declaration_step same) (case_step same) (expression_step same) (field_step same) (F.Tuple xs) ∙ ap p.Tuple (listed_is (map plain xs))

pub seen_Optional : (a : Expression ℕ) → plain_form (e.Optional a) ≡ p.Optional (plain a)
unfolding expression expression_form declaration declaration_form case object_field
seen_Optional a = ap plain_form (sym (e.rolls-Optional a)) ∙ fold-roll-ExpressionForm ℕ (p.Declaration ℕ) (p.Form ℕ) (DeclarationView ℕ) (CaseView ℕ) (p.Expression ℕ) (FieldView ℕ) (declaration_form_step same) (form_step same) (declaration_step same) (case_step same) (expression_step same) (field_step same) (F.Optional a)

pub seen_Tag : (x : List ℕ) → plain_form (e.Tag x) ≡ p.Tag x
unfolding expression expression_form declaration declaration_form case object_field
seen_Tag x = ap plain_form (sym (e.rolls-Tag x)) ∙ fold-roll-ExpressionForm ℕ (p.Declaration ℕ) (p.Form ℕ) (DeclarationView ℕ) (CaseView ℕ) (p.Expression ℕ) (FieldView ℕ) (declaration_form_step same) (form_step same) (declaration_step same) (case_step same) (expression_step same) (field_step same) (F.Tag x)

pub seen_Tagged : (x : List ℕ) (a : Expression ℕ) → plain_form (e.Tagged x a) ≡ p.Tagged x (plain a)
unfolding expression expression_form declaration declaration_form case object_field
seen_Tagged x a = ap plain_form (sym (e.rolls-Tagged x a)) ∙ fold-roll-ExpressionForm ℕ (p.Declaration ℕ) (p.Form ℕ) (DeclarationView ℕ) (CaseView ℕ) (p.Expression ℕ) (FieldView ℕ) (declaration_form_step same) (form_step same) (declaration_step same) (case_step same) (expression_step same) (field_step same) (F.Tagged x a)

pub seen_Array : (mutable : Bool) (xs : List (Expression ℕ)) → plain_form (e.Array mutable xs) ≡ p.Array mutable (expressions (map plain xs))
unfolding expression expression_form declaration declaration_form case object_field
seen_Array mutable xs = ap plain_form (sym (e.rolls-Array mutable xs)) ∙ fold-roll-ExpressionForm ℕ (p.Declaration ℕ) (p.Form ℕ) (DeclarationView ℕ) (CaseView ℕ) (p.Expression ℕ) (FieldView ℕ) (declaration_form_step same) (form_step same) (declaration_step same) (case_step same) (expression_step same) (field_step same) (F.Array mutable xs) ∙ ap (p.Array mutable) (listed_is (map plain xs))

pub seen_Object : (xs : List (ObjectField ℕ)) → plain_form (e.Object xs) ≡ p.Object (object_fields (map plain_field xs))
unfolding expression expression_form declaration declaration_form case object_field
seen_Object xs = ap plain_form (sym (e.rolls-Object xs)) ∙ fold-roll-ExpressionForm ℕ (p.Declaration ℕ) (p.Form ℕ) (DeclarationView ℕ) (CaseView ℕ) (p.Expression ℕ) (FieldView ℕ) (declaration_form_step same) (form_step same) (declaration_step same) (case_step same) (expression_step same) (field_step same) (F.Object xs) ∙ ap p.Object (fields_are (map plain_field xs))

pub seen_Member : (a : Expression ℕ) (x : List ℕ) → plain_form (e.Member a x) ≡ p.Member (plain a) x
unfolding expression expression_form declaration declaration_form case object_field
seen_Member a x = ap plain_form (sym (e.rolls-Member a x)) ∙ fold-roll-ExpressionForm ℕ (p.Declaration ℕ) (p.Form ℕ) (DeclarationView ℕ) (CaseView ℕ) (p.Expression ℕ) (FieldView ℕ) (declaration_form_step same) (form_step same) (declaration_step same) (case_step same) (expression_step same) (field_step same) (F.Member a x)

pub seen_Projection : (a : Expression ℕ) (n : ℕ) → plain_form (e.Projection a n) ≡ p.Projection (plain a) n
unfolding expression expression_form declaration declaration_form case object_field
seen_Projection a n = ap plain_form (sym (e.rolls-Projection a n)) ∙ fold-roll-ExpressionForm ℕ (p.Declaration ℕ) (p.Form ℕ) (DeclarationView ℕ) (CaseView ℕ) (p.Expression ℕ) (FieldView ℕ) (declaration_form_step same) (form_step same) (declaration_step same) (case_step same) (expression_step same) (field_step same) (F.Projection a n)

pub seen_Index : (a : Expression ℕ) (i : Expression ℕ) → plain_form (e.Index a i) ≡ p.Index (plain a) (plain i)
unfolding expression expression_form declaration declaration_form case object_field
seen_Index a i = ap plain_form (sym (e.rolls-Index a i)) ∙ fold-roll-ExpressionForm ℕ (p.Declaration ℕ) (p.Form ℕ) (DeclarationView ℕ) (CaseView ℕ) (p.Expression ℕ) (FieldView ℕ) (declaration_form_step same) (form_step same) (declaration_step same) (case_step same) (expression_step same) (field_step same) (F.Index a i)

pub seen_Annotated : (a : Expression ℕ) (t : TypeNode) → plain_form (e.Annotated a t) ≡ p.Annotated (plain a) (type_node t)
unfolding expression expression_form declaration declaration_form case object_field
seen_Annotated a t = ap plain_form (sym (e.rolls-Annotated a t)) ∙ fold-roll-ExpressionForm ℕ (p.Declaration ℕ) (p.Form ℕ) (DeclarationView ℕ) (CaseView ℕ) (p.Expression ℕ) (FieldView ℕ) (declaration_form_step same) (form_step same) (declaration_step same) (case_step same) (expression_step same) (field_step same) (F.Annotated a t)

pub seen_Negative : (a : Expression ℕ) → plain_form (e.Negative a) ≡ p.Negative (plain a)
unfolding expression expression_form declaration declaration_form case object_field
seen_Negative a = ap plain_form (sym (e.rolls-Negative a)) ∙ fold-roll-ExpressionForm ℕ (p.Declaration ℕ) (p.Form ℕ) (DeclarationView ℕ) (CaseView ℕ) (p.Expression ℕ) (FieldView ℕ) (declaration_form_step same) (form_step same) (declaration_step same) (case_step same) (expression_step same) (field_step same) (F.Negative a)

pub seen_Binary : (o : BinaryOperator) (a : Expression ℕ) (b : Expression ℕ) → plain_form (e.Binary o a b) ≡ p.Binary o (plain a) (plain b)
unfolding expression expression_form declaration declaration_form case object_field
seen_Binary o a b = ap plain_form (sym (e.rolls-Binary o a b)) ∙ fold-roll-ExpressionForm ℕ (p.Declaration ℕ) (p.Form ℕ) (DeclarationView ℕ) (CaseView ℕ) (p.Expression ℕ) (FieldView ℕ) (declaration_form_step same) (form_step same) (declaration_step same) (case_step same) (expression_step same) (field_step same) (F.Binary o a b)

pub seen_Not : (a : Expression ℕ) → plain_form (e.Not a) ≡ p.Not (plain a)
unfolding expression expression_form declaration declaration_form case object_field
seen_Not a = ap plain_form (sym (e.rolls-Not a)) ∙ fold-roll-ExpressionForm ℕ (p.Declaration ℕ) (p.Form ℕ) (DeclarationView ℕ) (CaseView ℕ) (p.Expression ℕ) (FieldView ℕ) (declaration_form_step same) (form_step same) (declaration_step same) (case_step same) (expression_step same) (field_step same) (F.Not a)

pub seen_Assign : (a : Expression ℕ) (b : Expression ℕ) → plain_form (e.Assign a b) ≡ p.Assign (plain a) (plain b)
unfolding expression expression_form declaration declaration_form case object_field
seen_Assign a b = ap plain_form (sym (e.rolls-Assign a b)) ∙ fold-roll-ExpressionForm ℕ (p.Declaration ℕ) (p.Form ℕ) (DeclarationView ℕ) (CaseView ℕ) (p.Expression ℕ) (FieldView ℕ) (declaration_form_step same) (form_step same) (declaration_step same) (case_step same) (expression_step same) (field_step same) (F.Assign a b)

pub seen_AssignBy : (o : BinaryOperator) (a : Expression ℕ) (b : Expression ℕ) → plain_form (e.AssignBy o a b) ≡ p.AssignBy o (plain a) (plain b)
unfolding expression expression_form declaration declaration_form case object_field
seen_AssignBy o a b = ap plain_form (sym (e.rolls-AssignBy o a b)) ∙ fold-roll-ExpressionForm ℕ (p.Declaration ℕ) (p.Form ℕ) (DeclarationView ℕ) (CaseView ℕ) (p.Expression ℕ) (FieldView ℕ) (declaration_form_step same) (form_step same) (declaration_step same) (case_step same) (expression_step same) (field_step same) (F.AssignBy o a b)

pub seen_Call : (f : Expression ℕ) (types : Option (List TypeNode)) (xs : List (Expression ℕ)) → plain_form (e.Call f types xs) ≡ p.Call (plain f) (option_map (map type_node) types) (expressions (map plain xs))
unfolding expression expression_form declaration declaration_form case object_field
seen_Call f types xs = ap plain_form (sym (e.rolls-Call f types xs)) ∙ fold-roll-ExpressionForm ℕ (p.Declaration ℕ) (p.Form ℕ) (DeclarationView ℕ) (CaseView ℕ) (p.Expression ℕ) (FieldView ℕ) (declaration_form_step same) (form_step same) (declaration_step same) (case_step same) (expression_step same) (field_step same) (F.Call f types xs) ∙ ap (p.Call (plain f) (option_map (map type_node) types)) (listed_is (map plain xs))

pub seen_When : (c : Expression ℕ) (a : Expression ℕ) → plain_form (e.When c a) ≡ p.When (plain c) (plain a)
unfolding expression expression_form declaration declaration_form case object_field
seen_When c a = ap plain_form (sym (e.rolls-When c a)) ∙ fold-roll-ExpressionForm ℕ (p.Declaration ℕ) (p.Form ℕ) (DeclarationView ℕ) (CaseView ℕ) (p.Expression ℕ) (FieldView ℕ) (declaration_form_step same) (form_step same) (declaration_step same) (case_step same) (expression_step same) (field_step same) (F.When c a)

pub seen_If : (c : Expression ℕ) (a : Expression ℕ) (b : Expression ℕ) → plain_form (e.If c a b) ≡ p.If (plain c) (plain a) (plain b)
unfolding expression expression_form declaration declaration_form case object_field
seen_If c a b = ap plain_form (sym (e.rolls-If c a b)) ∙ fold-roll-ExpressionForm ℕ (p.Declaration ℕ) (p.Form ℕ) (DeclarationView ℕ) (CaseView ℕ) (p.Expression ℕ) (FieldView ℕ) (declaration_form_step same) (form_step same) (declaration_step same) (case_step same) (expression_step same) (field_step same) (F.If c a b)

pub seen_Switch : (a : Expression ℕ) (xs : List (Case ℕ)) → plain_form (e.Switch a xs) ≡ p.Switch (plain a) (rules.cases (map plain_case xs))
unfolding expression expression_form declaration declaration_form case object_field
seen_Switch a xs = ap plain_form (sym (e.rolls-Switch a xs)) ∙ fold-roll-ExpressionForm ℕ (p.Declaration ℕ) (p.Form ℕ) (DeclarationView ℕ) (CaseView ℕ) (p.Expression ℕ) (FieldView ℕ) (declaration_form_step same) (form_step same) (declaration_step same) (case_step same) (expression_step same) (field_step same) (F.Switch a xs) ∙ ap (p.Switch (plain a)) (cases_are (map plain_case xs))

pub seen_Try : (a : Expression ℕ) (q : Pattern ℕ) (b : Expression ℕ) → plain_form (e.Try a q b) ≡ p.Try (plain a) (plain_pattern q) (plain b)
unfolding expression expression_form declaration declaration_form case object_field
seen_Try a q b = ap plain_form (sym (e.rolls-Try a q b)) ∙ fold-roll-ExpressionForm ℕ (p.Declaration ℕ) (p.Form ℕ) (DeclarationView ℕ) (CaseView ℕ) (p.Expression ℕ) (FieldView ℕ) (declaration_form_step same) (form_step same) (declaration_step same) (case_step same) (expression_step same) (field_step same) (F.Try a q b)

pub seen_While : (c : Expression ℕ) (a : Expression ℕ) → plain_form (e.While c a) ≡ p.While (plain c) (plain a)
unfolding expression expression_form declaration declaration_form case object_field
seen_While c a = ap plain_form (sym (e.rolls-While c a)) ∙ fold-roll-ExpressionForm ℕ (p.Declaration ℕ) (p.Form ℕ) (DeclarationView ℕ) (CaseView ℕ) (p.Expression ℕ) (FieldView ℕ) (declaration_form_step same) (form_step same) (declaration_step same) (case_step same) (expression_step same) (field_step same) (F.While c a)

pub seen_Loop : (a : Expression ℕ) → plain_form (e.Loop a) ≡ p.Loop (plain a)
unfolding expression expression_form declaration declaration_form case object_field
seen_Loop a = ap plain_form (sym (e.rolls-Loop a)) ∙ fold-roll-ExpressionForm ℕ (p.Declaration ℕ) (p.Form ℕ) (DeclarationView ℕ) (CaseView ℕ) (p.Expression ℕ) (FieldView ℕ) (declaration_form_step same) (form_step same) (declaration_step same) (case_step same) (expression_step same) (field_step same) (F.Loop a)

pub seen_LoopWhile : (a : Expression ℕ) (c : Expression ℕ) → plain_form (e.LoopWhile a c) ≡ p.LoopWhile (plain a) (plain c)
unfolding expression expression_form declaration declaration_form case object_field
seen_LoopWhile a c = ap plain_form (sym (e.rolls-LoopWhile a c)) ∙ fold-roll-ExpressionForm ℕ (p.Declaration ℕ) (p.Form ℕ) (DeclarationView ℕ) (CaseView ℕ) (p.Expression ℕ) (FieldView ℕ) (declaration_form_step same) (form_step same) (declaration_step same) (case_step same) (expression_step same) (field_step same) (F.LoopWhile a c)

pub seen_For : (q : Pattern ℕ) (a : Expression ℕ) (b : Expression ℕ) → plain_form (e.For q a b) ≡ p.For (plain_pattern q) (plain a) (plain b)
unfolding expression expression_form declaration declaration_form case object_field
seen_For q a b = ap plain_form (sym (e.rolls-For q a b)) ∙ fold-roll-ExpressionForm ℕ (p.Declaration ℕ) (p.Form ℕ) (DeclarationView ℕ) (CaseView ℕ) (p.Expression ℕ) (FieldView ℕ) (declaration_form_step same) (form_step same) (declaration_step same) (case_step same) (expression_step same) (field_step same) (F.For q a b)

pub seen_Label : (x : List ℕ) (t : Option TypeNode) (a : Expression ℕ) → plain_form (e.Label x t a) ≡ p.Label x (annotation t) (plain a)
unfolding expression expression_form declaration declaration_form case object_field
seen_Label x t a = ap plain_form (sym (e.rolls-Label x t a)) ∙ fold-roll-ExpressionForm ℕ (p.Declaration ℕ) (p.Form ℕ) (DeclarationView ℕ) (CaseView ℕ) (p.Expression ℕ) (FieldView ℕ) (declaration_form_step same) (form_step same) (declaration_step same) (case_step same) (expression_step same) (field_step same) (F.Label x t a)

pub seen_Break : (x : List ℕ) → plain_form (e.Break x) ≡ p.Break x
unfolding expression expression_form declaration declaration_form case object_field
seen_Break x = ap plain_form (sym (e.rolls-Break x)) ∙ fold-roll-ExpressionForm ℕ (p.Declaration ℕ) (p.Form ℕ) (DeclarationView ℕ) (CaseView ℕ) (p.Expression ℕ) (FieldView ℕ) (declaration_form_step same) (form_step same) (declaration_step same) (case_step same) (expression_step same) (field_step same) (F.Break x)

pub seen_BreakWith : (x : List ℕ) (a : Expression ℕ) → plain_form (e.BreakWith x a) ≡ p.BreakWith x (plain a)
unfolding expression expression_form declaration declaration_form case object_field
seen_BreakWith x a = ap plain_form (sym (e.rolls-BreakWith x a)) ∙ fold-roll-ExpressionForm ℕ (p.Declaration ℕ) (p.Form ℕ) (DeclarationView ℕ) (CaseView ℕ) (p.Expression ℕ) (FieldView ℕ) (declaration_form_step same) (form_step same) (declaration_step same) (case_step same) (expression_step same) (field_step same) (F.BreakWith x a)

pub seen_Continue : (x : List ℕ) → plain_form (e.Continue x) ≡ p.Continue x
unfolding expression expression_form declaration declaration_form case object_field
seen_Continue x = ap plain_form (sym (e.rolls-Continue x)) ∙ fold-roll-ExpressionForm ℕ (p.Declaration ℕ) (p.Form ℕ) (DeclarationView ℕ) (CaseView ℕ) (p.Expression ℕ) (FieldView ℕ) (declaration_form_step same) (form_step same) (declaration_step same) (case_step same) (expression_step same) (field_step same) (F.Continue x)

pub seen_Return : plain_form (e.Return) ≡ p.Return
unfolding expression expression_form declaration declaration_form case object_field
seen_Return = ap plain_form (sym (e.rolls-Return)) ∙ fold-roll-ExpressionForm ℕ (p.Declaration ℕ) (p.Form ℕ) (DeclarationView ℕ) (CaseView ℕ) (p.Expression ℕ) (FieldView ℕ) (declaration_form_step same) (form_step same) (declaration_step same) (case_step same) (expression_step same) (field_step same) F.Return

pub seen_ReturnWith : (a : Expression ℕ) → plain_form (e.ReturnWith a) ≡ p.ReturnWith (plain a)
unfolding expression expression_form declaration declaration_form case object_field
seen_ReturnWith a = ap plain_form (sym (e.rolls-ReturnWith a)) ∙ fold-roll-ExpressionForm ℕ (p.Declaration ℕ) (p.Form ℕ) (DeclarationView ℕ) (CaseView ℕ) (p.Expression ℕ) (FieldView ℕ) (declaration_form_step same) (form_step same) (declaration_step same) (case_step same) (expression_step same) (field_step same) (F.ReturnWith a)

pub seen_Throw : (a : Expression ℕ) → plain_form (e.Throw a) ≡ p.Throw (plain a)
unfolding expression expression_form declaration declaration_form case object_field
seen_Throw a = ap plain_form (sym (e.rolls-Throw a)) ∙ fold-roll-ExpressionForm ℕ (p.Declaration ℕ) (p.Form ℕ) (DeclarationView ℕ) (CaseView ℕ) (p.Expression ℕ) (FieldView ℕ) (declaration_form_step same) (form_step same) (declaration_step same) (case_step same) (expression_step same) (field_step same) (F.Throw a)

pub seen_Do : (a : Expression ℕ) → plain_form (e.Do a) ≡ p.Do (plain a)
unfolding expression expression_form declaration declaration_form case object_field
seen_Do a = ap plain_form (sym (e.rolls-Do a)) ∙ fold-roll-ExpressionForm ℕ (p.Declaration ℕ) (p.Form ℕ) (DeclarationView ℕ) (CaseView ℕ) (p.Expression ℕ) (FieldView ℕ) (declaration_form_step same) (form_step same) (declaration_step same) (case_step same) (expression_step same) (field_step same) (F.Do a)

pub seen_DoOption : (a : Expression ℕ) → plain_form (e.DoOption a) ≡ p.DoOption (plain a)
unfolding expression expression_form declaration declaration_form case object_field
seen_DoOption a = ap plain_form (sym (e.rolls-DoOption a)) ∙ fold-roll-ExpressionForm ℕ (p.Declaration ℕ) (p.Form ℕ) (DeclarationView ℕ) (CaseView ℕ) (p.Expression ℕ) (FieldView ℕ) (declaration_form_step same) (form_step same) (declaration_step same) (case_step same) (expression_step same) (field_step same) (F.DoOption a)

pub seen_Bang : (a : Expression ℕ) → plain_form (e.Bang a) ≡ p.Bang (plain a)
unfolding expression expression_form declaration declaration_form case object_field
seen_Bang a = ap plain_form (sym (e.rolls-Bang a)) ∙ fold-roll-ExpressionForm ℕ (p.Declaration ℕ) (p.Form ℕ) (DeclarationView ℕ) (CaseView ℕ) (p.Expression ℕ) (FieldView ℕ) (declaration_form_step same) (form_step same) (declaration_step same) (case_step same) (expression_step same) (field_step same) (F.Bang a)

pub seen_Block : (ds : List (Declaration ℕ)) → plain_form (e.Block ds) ≡ p.Block (declarations (map plain_declaration ds))
unfolding expression expression_form declaration declaration_form case object_field
seen_Block ds = ap plain_form (sym (e.rolls-Block ds)) ∙ fold-roll-ExpressionForm ℕ (p.Declaration ℕ) (p.Form ℕ) (DeclarationView ℕ) (CaseView ℕ) (p.Expression ℕ) (FieldView ℕ) (declaration_form_step same) (form_step same) (declaration_step same) (case_step same) (expression_step same) (field_step same) (F.Block ds)

pub seen_Function : (g : Signature ℕ) (a : Expression ℕ) → plain_form (e.Function g a) ≡ p.Function (plain_signature g) (plain a)
unfolding expression expression_form declaration declaration_form case object_field
seen_Function g a = ap plain_form (sym (e.rolls-Function g a)) ∙ fold-roll-ExpressionForm ℕ (p.Declaration ℕ) (p.Form ℕ) (DeclarationView ℕ) (CaseView ℕ) (p.Expression ℕ) (FieldView ℕ) (declaration_form_step same) (form_step same) (declaration_step same) (case_step same) (expression_step same) (field_step same) (F.Function g a)

pub seen_ObjectBlock : (ds : List (Declaration ℕ)) → plain_form (e.ObjectBlock ds) ≡ p.ObjectBlock (declarations (map plain_declaration ds))
unfolding expression expression_form declaration declaration_form case object_field
seen_ObjectBlock ds = ap plain_form (sym (e.rolls-ObjectBlock ds)) ∙ fold-roll-ExpressionForm ℕ (p.Declaration ℕ) (p.Form ℕ) (DeclarationView ℕ) (CaseView ℕ) (p.Expression ℕ) (FieldView ℕ) (declaration_form_step same) (form_step same) (declaration_step same) (case_step same) (expression_step same) (field_step same) (F.ObjectBlock ds)

pub seen_Assert : (a : Expression ℕ) → plain_form (e.Assert a) ≡ p.Assert (plain a)
unfolding expression expression_form declaration declaration_form case object_field
seen_Assert a = ap plain_form (sym (e.rolls-Assert a)) ∙ fold-roll-ExpressionForm ℕ (p.Declaration ℕ) (p.Form ℕ) (DeclarationView ℕ) (CaseView ℕ) (p.Expression ℕ) (FieldView ℕ) (declaration_form_step same) (form_step same) (declaration_step same) (case_step same) (expression_step same) (field_step same) (F.Assert a)

pub seen_Ignore : (a : Expression ℕ) → plain_form (e.Ignore a) ≡ p.Ignore (plain a)
unfolding expression expression_form declaration declaration_form case object_field
seen_Ignore a = ap plain_form (sym (e.rolls-Ignore a)) ∙ fold-roll-ExpressionForm ℕ (p.Declaration ℕ) (p.Form ℕ) (DeclarationView ℕ) (CaseView ℕ) (p.Expression ℕ) (FieldView ℕ) (declaration_form_step same) (form_step same) (declaration_step same) (case_step same) (expression_step same) (field_step same) (F.Ignore a)

pub seen_Debug : (a : Expression ℕ) → plain_form (e.Debug a) ≡ p.Debug (plain a)
unfolding expression expression_form declaration declaration_form case object_field
seen_Debug a = ap plain_form (sym (e.rolls-Debug a)) ∙ fold-roll-ExpressionForm ℕ (p.Declaration ℕ) (p.Form ℕ) (DeclarationView ℕ) (CaseView ℕ) (p.Expression ℕ) (FieldView ℕ) (declaration_form_step same) (form_step same) (declaration_step same) (case_step same) (expression_step same) (field_step same) (F.Debug a)

pub seen_ActorReference : (x : List ℕ) → plain_form (e.ActorReference x) ≡ p.ActorReference x
unfolding expression expression_form declaration declaration_form case object_field
seen_ActorReference x = ap plain_form (sym (e.rolls-ActorReference x)) ∙ fold-roll-ExpressionForm ℕ (p.Declaration ℕ) (p.Form ℕ) (DeclarationView ℕ) (CaseView ℕ) (p.Expression ℕ) (FieldView ℕ) (declaration_form_step same) (form_step same) (declaration_step same) (case_step same) (expression_step same) (field_step same) (F.ActorReference x)

pub seen_Await : (a : Expression ℕ) → plain_form (e.Await a) ≡ p.Await (plain a)
unfolding expression expression_form declaration declaration_form case object_field
seen_Await a = ap plain_form (sym (e.rolls-Await a)) ∙ fold-roll-ExpressionForm ℕ (p.Declaration ℕ) (p.Form ℕ) (DeclarationView ℕ) (CaseView ℕ) (p.Expression ℕ) (FieldView ℕ) (declaration_form_step same) (form_step same) (declaration_step same) (case_step same) (expression_step same) (field_step same) (F.Await a)

pub seen_Let : (q : Pattern ℕ) (a : Expression ℕ) → plain_declaration_form (d.Let q a) ≡ p.Let (plain_pattern q) (plain a)
unfolding expression expression_form declaration declaration_form case object_field
seen_Let q a = ap plain_declaration_form (sym (d.rolls-Let q a)) ∙ fold-roll-DeclarationForm ℕ (p.Declaration ℕ) (p.Form ℕ) (DeclarationView ℕ) (CaseView ℕ) (p.Expression ℕ) (FieldView ℕ) (declaration_form_step same) (form_step same) (declaration_step same) (case_step same) (expression_step same) (field_step same) (F.Let q a)

pub seen_Var : (stable : Bool) (x : PlacedName) (t : Option TypeNode) (a : Expression ℕ) → plain_declaration_form (d.Var stable x t a) ≡ p.Var stable (named x) (annotation t) (plain a)
unfolding expression expression_form declaration declaration_form case object_field
seen_Var stable x t a = ap plain_declaration_form (sym (d.rolls-Var stable x t a)) ∙ fold-roll-DeclarationForm ℕ (p.Declaration ℕ) (p.Form ℕ) (DeclarationView ℕ) (CaseView ℕ) (p.Expression ℕ) (FieldView ℕ) (declaration_form_step same) (form_step same) (declaration_step same) (case_step same) (expression_step same) (field_step same) (F.Var stable x t a)

pub seen_Func : (x : PlacedName) (g : Signature ℕ) (a : Expression ℕ) → plain_declaration_form (d.Func x g a) ≡ p.Func (named x) (plain_signature g) (plain a)
unfolding expression expression_form declaration declaration_form case object_field
seen_Func x g a = ap plain_declaration_form (sym (d.rolls-Func x g a)) ∙ fold-roll-DeclarationForm ℕ (p.Declaration ℕ) (p.Form ℕ) (DeclarationView ℕ) (CaseView ℕ) (p.Expression ℕ) (FieldView ℕ) (declaration_form_step same) (form_step same) (declaration_step same) (case_step same) (expression_step same) (field_step same) (F.Func x g a)

pub seen_Method : (query : Bool) (context : Option (Pattern ℕ)) (x : PlacedName) (g : Signature ℕ) (a : Expression ℕ) → plain_declaration_form (d.Method query context x g a) ≡ p.Method query (option_map plain_pattern context) (named x) (plain_signature g) (plain a)
unfolding expression expression_form declaration declaration_form case object_field
seen_Method query context x g a = ap plain_declaration_form (sym (d.rolls-Method query context x g a)) ∙ fold-roll-DeclarationForm ℕ (p.Declaration ℕ) (p.Form ℕ) (DeclarationView ℕ) (CaseView ℕ) (p.Expression ℕ) (FieldView ℕ) (declaration_form_step same) (form_step same) (declaration_step same) (case_step same) (expression_step same) (field_step same) (F.Method query context x g a)

pub seen_System : (x : PlacedName) (a : Expression ℕ) → plain_declaration_form (d.System x a) ≡ p.System (named x) (plain a)
unfolding expression expression_form declaration declaration_form case object_field
seen_System x a = ap plain_declaration_form (sym (d.rolls-System x a)) ∙ fold-roll-DeclarationForm ℕ (p.Declaration ℕ) (p.Form ℕ) (DeclarationView ℕ) (CaseView ℕ) (p.Expression ℕ) (FieldView ℕ) (declaration_form_step same) (form_step same) (declaration_step same) (case_step same) (expression_step same) (field_step same) (F.System x a)

pub seen_TypeAlias : (x : PlacedName) (xs : List PlacedName) (t : TypeNode) → plain_declaration_form (d.TypeAlias x xs t) ≡ p.TypeAlias (named x) (map named xs) (type_node t)
unfolding expression expression_form declaration declaration_form case object_field
seen_TypeAlias x xs t = ap plain_declaration_form (sym (d.rolls-TypeAlias x xs t)) ∙ fold-roll-DeclarationForm ℕ (p.Declaration ℕ) (p.Form ℕ) (DeclarationView ℕ) (CaseView ℕ) (p.Expression ℕ) (FieldView ℕ) (declaration_form_step same) (form_step same) (declaration_step same) (case_step same) (expression_step same) (field_step same) (F.TypeAlias x xs t)

pub seen_Class : (x : PlacedName) (g : Signature ℕ) (ds : List (Declaration ℕ)) → plain_declaration_form (d.Class x g ds) ≡ p.Class (named x) (plain_signature g) (declarations (map plain_declaration ds))
unfolding expression expression_form declaration declaration_form case object_field
seen_Class x g ds = ap plain_declaration_form (sym (d.rolls-Class x g ds)) ∙ fold-roll-DeclarationForm ℕ (p.Declaration ℕ) (p.Form ℕ) (DeclarationView ℕ) (CaseView ℕ) (p.Expression ℕ) (FieldView ℕ) (declaration_form_step same) (form_step same) (declaration_step same) (case_step same) (expression_step same) (field_step same) (F.Class x g ds)

pub seen_NamedObject : (x : PlacedName) (ds : List (Declaration ℕ)) → plain_declaration_form (d.NamedObject x ds) ≡ p.NamedObject (named x) (declarations (map plain_declaration ds))
unfolding expression expression_form declaration declaration_form case object_field
seen_NamedObject x ds = ap plain_declaration_form (sym (d.rolls-NamedObject x ds)) ∙ fold-roll-DeclarationForm ℕ (p.Declaration ℕ) (p.Form ℕ) (DeclarationView ℕ) (CaseView ℕ) (p.Expression ℕ) (FieldView ℕ) (declaration_form_step same) (form_step same) (declaration_step same) (case_step same) (expression_step same) (field_step same) (F.NamedObject x ds)

pub seen_Evaluate : (a : Expression ℕ) → plain_declaration_form (d.Evaluate a) ≡ p.Evaluate (plain a)
unfolding expression expression_form declaration declaration_form case object_field
seen_Evaluate a = ap plain_declaration_form (sym (d.rolls-Evaluate a)) ∙ fold-roll-DeclarationForm ℕ (p.Declaration ℕ) (p.Form ℕ) (DeclarationView ℕ) (CaseView ℕ) (p.Expression ℕ) (FieldView ℕ) (declaration_form_step same) (form_step same) (declaration_step same) (case_step same) (expression_step same) (field_step same) (F.Evaluate a)

pub seen_case : (q : Pattern ℕ) (a : Expression ℕ) → plain_case (roll-Case ℕ (record { pattern = q; body = a })) ≡ (λ rest. p.Case (plain_pattern q) (plain a) rest)
unfolding expression expression_form declaration declaration_form case object_field
seen_case q a = fold-roll-Case ℕ (p.Declaration ℕ) (p.Form ℕ) (DeclarationView ℕ) (CaseView ℕ) (p.Expression ℕ) (FieldView ℕ) (declaration_form_step same) (form_step same) (declaration_step same) (case_step same) (expression_step same) (field_step same) (record { pattern = q; body = a })

pub seen_field : (mutable : Bool) (x : PlacedName) (t : Option TypeNode) (a : Expression ℕ) → plain_field (roll-ObjectField ℕ (record { mutable = mutable; name = x; annotation = t; value = a })) ≡ (λ rest. p.Field mutable (named x) (annotation t) (plain a) rest)
unfolding expression expression_form declaration declaration_form case object_field
seen_field mutable x t a = fold-roll-ObjectField ℕ (p.Declaration ℕ) (p.Form ℕ) (DeclarationView ℕ) (CaseView ℕ) (p.Expression ℕ) (FieldView ℕ) (declaration_form_step same) (form_step same) (declaration_step same) (case_step same) (expression_step same) (field_step same) (record { mutable = mutable; name = x; annotation = t; value = a })

-- ---- what a value is seen as, by its parts

pub expression_is : (a : Expression ℕ) → plain a ≡ p.exp a.note (plain_form a.form)
unfolding expression expression_form declaration declaration_form case object_field
expression_is a = fold_out-Expression ℕ (p.Declaration ℕ) (p.Form ℕ) (DeclarationView ℕ) (CaseView ℕ) (p.Expression ℕ) (FieldView ℕ) (declaration_form_step same) (form_step same) (declaration_step same) (case_step same) (expression_step same) (field_step same) a

pub declaration_is : (x : Declaration ℕ) → plain_declaration x ≡ (λ rest. p.Then x.public x.note (plain_declaration_form x.form) rest)
unfolding expression expression_form declaration declaration_form case object_field
declaration_is x = fold_out-Declaration ℕ (p.Declaration ℕ) (p.Form ℕ) (DeclarationView ℕ) (CaseView ℕ) (p.Expression ℕ) (FieldView ℕ) (declaration_form_step same) (form_step same) (declaration_step same) (case_step same) (expression_step same) (field_step same) x
