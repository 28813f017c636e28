-- In the writing of an expression or declaration each mark `#` of a tag has its identifier behind it.
use Rattle.std.proofs.Common.{Bool, true, false, List, [], ◌∷◌, ◌++◌, Option, Some, None, sym, subst, map, option_map}
use Rattle.mo_syntax.specs.declared.name.Name.{Name}
use Rattle.mo_syntax.specs.declared.text.Text.{Text}
use Rattle.mo_syntax.specs.declared.word.Word.TheVariants as w
use Rattle.mo_syntax.specs.declared.mark.Mark.TheVariants as m
use Rattle.mo_syntax.specs.declared.token.TokenKind.TheVariants as t
use Rattle.mo_syntax.specs.declared.operators.BinaryOperator.{BinaryOperator}
use Rattle.mo_syntax.specs.declared.operators.BinaryOperator.TheVariants as op
use Rattle.mo_syntax.specs.declared.operators.AssignmentOperator.{AssignmentOperator}
use Rattle.mo_syntax.specs.declared.operators.AssignmentOperator.TheVariants as assign
use Rattle.mo_syntax.specs.declared.declarations.Visibility.{Visibility}
use Rattle.mo_syntax.specs.declared.declarations.Visibility.TheVariants as visible
use Rattle.mo_syntax.specs.declared.expressions.Expression.{Expression}
use Rattle.mo_syntax.specs.declared.expressions.Expression.TheVariants as e
use Rattle.mo_syntax.specs.declared.declarations.Declaration.{Declaration}
use Rattle.mo_syntax.specs.Writing.{Writing, marked, led, optional, commas, semicolons, parens, brackets, braces, angles}
use Rattle.mo_syntax.specs.TypeGrammar.{type_tokens, type_parameters_tokens}
use Rattle.mo_syntax.specs.PatternGrammar.{pattern_tokens, parameters_tokens}
use Rattle.mo_syntax.specs.ExpressionGrammar.{declaration_tokens, expression_tokens, declaration_field_tokens, case_tokens, expression_field_tokens, operator_token, assignment_token, visibility_tokens, signature}
use Rattle.mo_syntax.specs.Parts.{Within, EachWithin}
use Rattle.mo_syntax.proofs.ExpressionEquations as eq
use Rattle.mo_syntax.proofs.ExpressionInduction.{Claims, Cases, holds_Expression, holds_Declaration}
use Rattle.mo_unparse.proofs.TaggedLemmas.{Closed, PlainKind, none, one, both, tagged, if_marked, if_led, if_some, all_commas, all_semicolons, in_parens, in_brackets, in_braces, in_angles, a_literal, each_mapped, within_mapped, each_within_mapped, each_within_of}
use Rattle.mo_unparse.proofs.TaggedTypes.{of_type, of_types_within, of_type_lists, of_type_parameters}
use Rattle.mo_unparse.proofs.TaggedPatterns.{of_pattern, of_parameters}

abbrev claims : Claims
claims = record {
  of_Declaration = λ x. Closed (declaration_tokens x);
  of_Expression = λ x. Closed (expression_tokens x);
  of_DeclarationField = λ x. Closed (declaration_field_tokens x);
  of_Case = λ x. Closed (case_tokens x);
  of_ExpressionField = λ x. Closed (expression_field_tokens x);
}

plain_operator : (o : BinaryOperator) → PlainKind (operator_token o)
plain_operator op.Or = tt
plain_operator op.And = tt
plain_operator op.Equal = tt
plain_operator op.NotEqual = tt
plain_operator op.Less = tt
plain_operator op.Greater = tt
plain_operator op.LessEqual = tt
plain_operator op.GreaterEqual = tt
plain_operator op.Add = tt
plain_operator op.Subtract = tt
plain_operator op.Concat = tt
plain_operator op.AddWrap = tt
plain_operator op.SubtractWrap = tt
plain_operator op.Multiply = tt
plain_operator op.Divide = tt
plain_operator op.Remainder = tt
plain_operator op.MultiplyWrap = tt
plain_operator op.Power = tt

plain_assignment : (o : AssignmentOperator) → PlainKind (assignment_token o)
plain_assignment assign.Plain = tt
plain_assignment assign.Add = tt
plain_assignment assign.Subtract = tt
plain_assignment assign.Multiply = tt
plain_assignment assign.Divide = tt
plain_assignment assign.Remainder = tt
plain_assignment assign.Power = tt
plain_assignment assign.Concat = tt
plain_assignment assign.AddWrap = tt
plain_assignment assign.SubtractWrap = tt
plain_assignment assign.MultiplyWrap = tt

of_visibility : (v : Option Visibility) → Closed (visibility_tokens v)
of_visibility None = none
of_visibility (Some visible.Public) = (one (t.Reserved w.Public) [] tt none)
of_visibility (Some visible.Private) = (one (t.Reserved w.Private) [] tt none)

of_names : (names : Option (List Name)) → EachWithin Closed (option_map (map (λ (y : Name). t.Identifier y ∷ [])) names)
of_names names = each_within_mapped (λ y. t.Identifier y ∷ []) names (each_within_of (λ y. Closed (t.Identifier y ∷ [])) (λ y. one (t.Identifier y) [] tt none) names)

of_reference : (b : Bool) (text : Text) → Closed (expression_tokens (e.ActorReference b text))
of_reference false text = subst Closed (sym (eq.tokens_ActorReference false text)) (one (t.Reserved w.Actor) (t.Text text ∷ []) tt (one (t.Text text) [] tt none))
of_reference true text = subst Closed (sym (eq.tokens_ActorReference true text)) (one (t.Reserved w.Actor) (parens (t.Text text ∷ [])) tt (in_parens (t.Text text ∷ []) (one (t.Text text) [] tt none)))

pub of_signature : (parameters : Writing) (result : Option Writing) (equal_sign : Bool) → Closed parameters → Within Closed result → Closed (signature parameters result equal_sign)
of_signature parameters result equal_sign c d = (both parameters ((led (t.Mark m.Colon) result) ++ (marked equal_sign (t.Mark m.EqualSign))) c (both (led (t.Mark m.Colon) result) (marked equal_sign (t.Mark m.EqualSign)) (if_led (t.Mark m.Colon) result tt d) (if_marked equal_sign (t.Mark m.EqualSign) tt)))

cases : Cases claims
cases = record {
  Let = λ p a ca. subst Closed (sym (eq.tokens_Let p a)) (one (t.Reserved w.Let) ((pattern_tokens p) ++ (t.Mark m.EqualSign ∷ (expression_tokens a))) tt (both (pattern_tokens p) (t.Mark m.EqualSign ∷ (expression_tokens a)) (of_pattern p) (one (t.Mark m.EqualSign) (expression_tokens a) tt ca)));
  Var = λ x kind a ca. subst Closed (sym (eq.tokens_Var x kind a)) (one (t.Reserved w.Var) (t.Identifier x ∷ ((led (t.Mark m.Colon) (option_map type_tokens kind)) ++ (t.Mark m.EqualSign ∷ (expression_tokens a)))) tt (one (t.Identifier x) ((led (t.Mark m.Colon) (option_map type_tokens kind)) ++ (t.Mark m.EqualSign ∷ (expression_tokens a))) tt (both (led (t.Mark m.Colon) (option_map type_tokens kind)) (t.Mark m.EqualSign ∷ (expression_tokens a)) (if_led (t.Mark m.Colon) (option_map type_tokens kind) tt (of_types_within kind)) (one (t.Mark m.EqualSign) (expression_tokens a) tt ca))));
  Func = λ x generics ps result equal_sign body cbody. subst Closed (sym (eq.tokens_Func x generics ps result equal_sign body)) (one (t.Reserved w.Func) (t.Identifier x ∷ ((type_parameters_tokens generics) ++ (((parameters_tokens ps) ++ ((led (t.Mark m.Colon) (option_map type_tokens result)) ++ (marked equal_sign (t.Mark m.EqualSign)))) ++ (expression_tokens body)))) tt (one (t.Identifier x) ((type_parameters_tokens generics) ++ (((parameters_tokens ps) ++ ((led (t.Mark m.Colon) (option_map type_tokens result)) ++ (marked equal_sign (t.Mark m.EqualSign)))) ++ (expression_tokens body))) tt (both (type_parameters_tokens generics) (((parameters_tokens ps) ++ ((led (t.Mark m.Colon) (option_map type_tokens result)) ++ (marked equal_sign (t.Mark m.EqualSign)))) ++ (expression_tokens body)) (of_type_parameters generics) (both ((parameters_tokens ps) ++ ((led (t.Mark m.Colon) (option_map type_tokens result)) ++ (marked equal_sign (t.Mark m.EqualSign)))) (expression_tokens body) (both (parameters_tokens ps) ((led (t.Mark m.Colon) (option_map type_tokens result)) ++ (marked equal_sign (t.Mark m.EqualSign))) (of_parameters ps) (both (led (t.Mark m.Colon) (option_map type_tokens result)) (marked equal_sign (t.Mark m.EqualSign)) (if_led (t.Mark m.Colon) (option_map type_tokens result) tt (of_types_within result)) (if_marked equal_sign (t.Mark m.EqualSign) tt))) cbody))));
  TypeAlias = λ x names kind. subst Closed (sym (eq.tokens_TypeAlias x names kind)) (one (t.Reserved w.TypeWord) (t.Identifier x ∷ ((angles (option_map (map (λ y. t.Identifier y ∷ [])) names)) ++ (t.Mark m.EqualSign ∷ (type_tokens kind)))) tt (one (t.Identifier x) ((angles (option_map (map (λ y. t.Identifier y ∷ [])) names)) ++ (t.Mark m.EqualSign ∷ (type_tokens kind))) tt (both (angles (option_map (map (λ y. t.Identifier y ∷ [])) names)) (t.Mark m.EqualSign ∷ (type_tokens kind)) (in_angles (option_map (map (λ y. t.Identifier y ∷ [])) names) (of_names names)) (one (t.Mark m.EqualSign) (type_tokens kind) tt (of_type kind)))));
  Class = λ x generics ps fields last c. subst Closed (sym (eq.tokens_Class x generics ps fields last)) (one (t.Reserved w.Class) (t.Identifier x ∷ ((type_parameters_tokens generics) ++ ((parameters_tokens ps) ++ (braces (semicolons (map declaration_field_tokens fields) last))))) tt (one (t.Identifier x) ((type_parameters_tokens generics) ++ ((parameters_tokens ps) ++ (braces (semicolons (map declaration_field_tokens fields) last)))) tt (both (type_parameters_tokens generics) ((parameters_tokens ps) ++ (braces (semicolons (map declaration_field_tokens fields) last))) (of_type_parameters generics) (both (parameters_tokens ps) (braces (semicolons (map declaration_field_tokens fields) last)) (of_parameters ps) (in_braces (semicolons (map declaration_field_tokens fields) last) (all_semicolons (map declaration_field_tokens fields) last (each_mapped declaration_field_tokens fields c)))))));
  NamedObject = λ x fields last c. subst Closed (sym (eq.tokens_NamedObject x fields last)) (one (t.Reserved w.Object) (t.Identifier x ∷ (braces (semicolons (map declaration_field_tokens fields) last))) tt (one (t.Identifier x) (braces (semicolons (map declaration_field_tokens fields) last)) tt (in_braces (semicolons (map declaration_field_tokens fields) last) (all_semicolons (map declaration_field_tokens fields) last (each_mapped declaration_field_tokens fields c)))));
  Evaluate = λ a ca. subst Closed (sym (eq.tokens_Evaluate a)) ca;
  Assign = λ o a b ca cb. subst Closed (sym (eq.tokens_Assign o a b)) (both (expression_tokens a) ((assignment_token o) ∷ (expression_tokens b)) ca (one (assignment_token o) (expression_tokens b) (plain_assignment o) cb));
  Annotated = λ a kind ca. subst Closed (sym (eq.tokens_Annotated a kind)) (both (expression_tokens a) (t.Mark m.Colon ∷ (type_tokens kind)) ca (one (t.Mark m.Colon) (type_tokens kind) tt (of_type kind)));
  Binary = λ o a b ca cb. subst Closed (sym (eq.tokens_Binary o a b)) (both (expression_tokens a) ((operator_token o) ∷ (expression_tokens b)) ca (one (operator_token o) (expression_tokens b) (plain_operator o) cb));
  If = λ x a otherwise cx ca c. subst Closed (sym (eq.tokens_If x a otherwise)) (one (t.Reserved w.If) ((expression_tokens x) ++ ((expression_tokens a) ++ (led (t.Reserved w.Else) (option_map expression_tokens otherwise)))) tt (both (expression_tokens x) ((expression_tokens a) ++ (led (t.Reserved w.Else) (option_map expression_tokens otherwise))) cx (both (expression_tokens a) (led (t.Reserved w.Else) (option_map expression_tokens otherwise)) ca (if_led (t.Reserved w.Else) (option_map expression_tokens otherwise) tt (within_mapped expression_tokens otherwise c)))));
  Switch = λ x cs last cx c. subst Closed (sym (eq.tokens_Switch x cs last)) (one (t.Reserved w.Switch) ((expression_tokens x) ++ (braces (semicolons (map case_tokens cs) last))) tt (both (expression_tokens x) (braces (semicolons (map case_tokens cs) last)) cx (in_braces (semicolons (map case_tokens cs) last) (all_semicolons (map case_tokens cs) last (each_mapped case_tokens cs c)))));
  While = λ x a cx ca. subst Closed (sym (eq.tokens_While x a)) (one (t.Reserved w.While) ((expression_tokens x) ++ (expression_tokens a)) tt (both (expression_tokens x) (expression_tokens a) cx ca));
  Loop = λ a x ca c. subst Closed (sym (eq.tokens_Loop a x)) (one (t.Reserved w.Loop) ((expression_tokens a) ++ (led (t.Reserved w.While) (option_map expression_tokens x))) tt (both (expression_tokens a) (led (t.Reserved w.While) (option_map expression_tokens x)) ca (if_led (t.Reserved w.While) (option_map expression_tokens x) tt (within_mapped expression_tokens x c))));
  For = λ p a b ca cb. subst Closed (sym (eq.tokens_For p a b)) (one (t.Reserved w.For) ((parens ((pattern_tokens p) ++ (t.Reserved w.In ∷ (expression_tokens a)))) ++ (expression_tokens b)) tt (both (parens ((pattern_tokens p) ++ (t.Reserved w.In ∷ (expression_tokens a)))) (expression_tokens b) (in_parens ((pattern_tokens p) ++ (t.Reserved w.In ∷ (expression_tokens a))) (both (pattern_tokens p) (t.Reserved w.In ∷ (expression_tokens a)) (of_pattern p) (one (t.Reserved w.In) (expression_tokens a) tt ca))) cb));
  Label = λ x kind a ca. subst Closed (sym (eq.tokens_Label x kind a)) (one (t.Reserved w.Label) (t.Identifier x ∷ ((led (t.Mark m.Colon) (option_map type_tokens kind)) ++ (expression_tokens a))) tt (one (t.Identifier x) ((led (t.Mark m.Colon) (option_map type_tokens kind)) ++ (expression_tokens a)) tt (both (led (t.Mark m.Colon) (option_map type_tokens kind)) (expression_tokens a) (if_led (t.Mark m.Colon) (option_map type_tokens kind) tt (of_types_within kind)) ca)));
  Break = λ x a c. subst Closed (sym (eq.tokens_Break x a)) (one (t.Reserved w.Break) (t.Identifier x ∷ (optional (option_map expression_tokens a))) tt (one (t.Identifier x) (optional (option_map expression_tokens a)) tt (if_some (option_map expression_tokens a) (within_mapped expression_tokens a c))));
  Continue = λ x. subst Closed (sym (eq.tokens_Continue x)) (one (t.Reserved w.Continue) (t.Identifier x ∷ []) tt (one (t.Identifier x) [] tt none));
  Return = λ a c. subst Closed (sym (eq.tokens_Return a)) (one (t.Reserved w.Return) (optional (option_map expression_tokens a)) tt (if_some (option_map expression_tokens a) (within_mapped expression_tokens a c)));
  Do = λ a ca. subst Closed (sym (eq.tokens_Do a)) (one (t.Reserved w.Do) (expression_tokens a) tt ca);
  DoOptional = λ a ca. subst Closed (sym (eq.tokens_DoOptional a)) (one (t.Reserved w.Do) (t.Mark m.Question ∷ (expression_tokens a)) tt (one (t.Mark m.Question) (expression_tokens a) tt ca));
  Await = λ a ca. subst Closed (sym (eq.tokens_Await a)) (one (t.Reserved w.Await) (expression_tokens a) tt ca);
  Throw = λ a ca. subst Closed (sym (eq.tokens_Throw a)) (one (t.Reserved w.Throw) (expression_tokens a) tt ca);
  Try = λ a p b ca cb. subst Closed (sym (eq.tokens_Try a p b)) (one (t.Reserved w.Try) ((expression_tokens a) ++ (t.Reserved w.Catch ∷ ((pattern_tokens p) ++ (expression_tokens b)))) tt (both (expression_tokens a) (t.Reserved w.Catch ∷ ((pattern_tokens p) ++ (expression_tokens b))) ca (one (t.Reserved w.Catch) ((pattern_tokens p) ++ (expression_tokens b)) tt (both (pattern_tokens p) (expression_tokens b) (of_pattern p) cb))));
  Assert = λ a ca. subst Closed (sym (eq.tokens_Assert a)) (one (t.Reserved w.Assert) (expression_tokens a) tt ca);
  Ignore = λ a ca. subst Closed (sym (eq.tokens_Ignore a)) (one (t.Reserved w.Ignore) (expression_tokens a) tt ca);
  Debug = λ a ca. subst Closed (sym (eq.tokens_Debug a)) (one (t.Reserved w.Debug) (expression_tokens a) tt ca);
  Function = λ ps result equal_sign body cbody. subst Closed (sym (eq.tokens_Function ps result equal_sign body)) (one (t.Reserved w.Func) (((parameters_tokens ps) ++ ((led (t.Mark m.Colon) (option_map type_tokens result)) ++ (marked equal_sign (t.Mark m.EqualSign)))) ++ (expression_tokens body)) tt (both ((parameters_tokens ps) ++ ((led (t.Mark m.Colon) (option_map type_tokens result)) ++ (marked equal_sign (t.Mark m.EqualSign)))) (expression_tokens body) (both (parameters_tokens ps) ((led (t.Mark m.Colon) (option_map type_tokens result)) ++ (marked equal_sign (t.Mark m.EqualSign))) (of_parameters ps) (both (led (t.Mark m.Colon) (option_map type_tokens result)) (marked equal_sign (t.Mark m.EqualSign)) (if_led (t.Mark m.Colon) (option_map type_tokens result) tt (of_types_within result)) (if_marked equal_sign (t.Mark m.EqualSign) tt))) cbody));
  ObjectBlock = λ fields last c. subst Closed (sym (eq.tokens_ObjectBlock fields last)) (one (t.Reserved w.Object) (braces (semicolons (map declaration_field_tokens fields) last)) tt (in_braces (semicolons (map declaration_field_tokens fields) last) (all_semicolons (map declaration_field_tokens fields) last (each_mapped declaration_field_tokens fields c))));
  Optional = λ a ca. subst Closed (sym (eq.tokens_Optional a)) (one (t.Mark m.Question) (expression_tokens a) tt ca);
  Negative = λ a ca. subst Closed (sym (eq.tokens_Negative a)) (one (t.Mark m.Minus) (expression_tokens a) tt ca);
  Not = λ a ca. subst Closed (sym (eq.tokens_Not a)) (one (t.Reserved w.Not) (expression_tokens a) tt ca);
  Tagged = λ x payload c. subst Closed (sym (eq.tokens_Tagged x payload)) (tagged x (optional (option_map expression_tokens payload)) (if_some (option_map expression_tokens payload) (within_mapped expression_tokens payload c)));
  Member = λ a x ca. subst Closed (sym (eq.tokens_Member a x)) (both (expression_tokens a) (t.Mark m.Dot ∷ (t.Identifier x ∷ [])) ca (one (t.Mark m.Dot) (t.Identifier x ∷ []) tt (one (t.Identifier x) [] tt none)));
  Projection = λ a n ca. subst Closed (sym (eq.tokens_Projection a n)) (both (expression_tokens a) (t.Mark m.Dot ∷ (t.Number n ∷ [])) ca (one (t.Mark m.Dot) (t.Number n ∷ []) tt (one (t.Number n) [] tt none)));
  Index = λ a b ca cb. subst Closed (sym (eq.tokens_Index a b)) (both (expression_tokens a) (brackets (expression_tokens b)) ca (in_brackets (expression_tokens b) cb));
  Call = λ a kinds arguments ca c. subst Closed (sym (eq.tokens_Call a kinds arguments)) (both (expression_tokens a) ((angles (option_map (map type_tokens) kinds)) ++ (parens (commas (map expression_tokens arguments)))) ca (both (angles (option_map (map type_tokens) kinds)) (parens (commas (map expression_tokens arguments))) (in_angles (option_map (map type_tokens) kinds) (of_type_lists kinds)) (in_parens (commas (map expression_tokens arguments)) (all_commas (map expression_tokens arguments) (each_mapped expression_tokens arguments c)))));
  Bang = λ a ca. subst Closed (sym (eq.tokens_Bang a)) (both (expression_tokens a) (t.Mark m.Bang ∷ []) ca (one (t.Mark m.Bang) [] tt none));
  Constant = λ literal. subst Closed (sym (eq.tokens_Constant literal)) (a_literal literal);
  Variable = λ x. subst Closed (sym (eq.tokens_Variable x)) (one (t.Identifier x) [] tt none);
  Parenthesized = λ items c. subst Closed (sym (eq.tokens_Parenthesized items)) (in_parens (commas (map expression_tokens items)) (all_commas (map expression_tokens items) (each_mapped expression_tokens items c)));
  Array = λ mutable items c. subst Closed (sym (eq.tokens_Array mutable items)) (in_brackets ((marked mutable (t.Reserved w.Var)) ++ (commas (map expression_tokens items))) (both (marked mutable (t.Reserved w.Var)) (commas (map expression_tokens items)) (if_marked mutable (t.Reserved w.Var) tt) (all_commas (map expression_tokens items) (each_mapped expression_tokens items c))));
  Object = λ fields last c. subst Closed (sym (eq.tokens_Object fields last)) (in_braces (semicolons (map expression_field_tokens fields) last) (all_semicolons (map expression_field_tokens fields) last (each_mapped expression_field_tokens fields c)));
  ActorReference = λ in_parens_ text. of_reference in_parens_ text;
  Block = λ declarations last c. subst Closed (sym (eq.tokens_Block declarations last)) (in_braces (semicolons (map declaration_tokens declarations) last) (all_semicolons (map declaration_tokens declarations) last (each_mapped declaration_tokens declarations c)));
  DeclarationField_ = λ visibility x cx. subst Closed (sym (eq.tokens_DeclarationField visibility x)) (both (visibility_tokens visibility) (declaration_tokens x) (of_visibility visibility) cx);
  Case_ = λ p a ca. subst Closed (sym (eq.tokens_Case p a)) (one (t.Reserved w.Case) ((pattern_tokens p) ++ (expression_tokens a)) tt (both (pattern_tokens p) (expression_tokens a) (of_pattern p) ca));
  ExpressionField_ = λ mutable name_ kind value c. subst Closed (sym (eq.tokens_ExpressionField mutable name_ kind value)) (both (marked mutable (t.Reserved w.Var)) (t.Identifier name_ ∷ ((led (t.Mark m.Colon) (option_map type_tokens kind)) ++ (led (t.Mark m.EqualSign) (option_map expression_tokens value)))) (if_marked mutable (t.Reserved w.Var) tt) (one (t.Identifier name_) ((led (t.Mark m.Colon) (option_map type_tokens kind)) ++ (led (t.Mark m.EqualSign) (option_map expression_tokens value))) tt (both (led (t.Mark m.Colon) (option_map type_tokens kind)) (led (t.Mark m.EqualSign) (option_map expression_tokens value)) (if_led (t.Mark m.Colon) (option_map type_tokens kind) tt (of_types_within kind)) (if_led (t.Mark m.EqualSign) (option_map expression_tokens value) tt (within_mapped expression_tokens value c)))));
}

pub of_expression : (x : Expression) → Closed (expression_tokens x)
of_expression = holds_Expression claims cases

pub of_declaration : (x : Declaration) → Closed (declaration_tokens x)
of_declaration = holds_Declaration claims cases
