-- Expressions and declarations, each by its parts.
use Rattle.std.proofs.Common.{ℕ, ◌+◌, Bool, false, List, [], ◌∷◌, ◌++◌, map, Option, Some, None, option_map, refl}
use Rattle.mo_bindings.specs.ExpressionNames as N
use Rattle.mo_pattern_names.specs.PatternNames as patterns
use Rattle.mo_pattern_names.specs.TypeNames as types
use Rattle.mo_scopes.specs.Findings.{identifier, label, together, labels, used, each_identifier, each, each_within}
use Rattle.mo_scopes.specs.Scopes.{loop_meaning, with_values, with_types, with_loop}
use Rattle.mo_syntax.specs.declared.declarations.Declaration.{Declaration}
use Rattle.mo_syntax.specs.declared.declarations.Declaration.TheVariants as d
use Rattle.mo_syntax.specs.declared.declarations.DeclarationField.{DeclarationField, roll-DeclarationField}
use Rattle.mo_syntax.specs.declared.declarations.Visibility.{Visibility}
use Rattle.mo_syntax.specs.declared.declarations.Visibility.TheVariants as visible
use Rattle.mo_syntax.specs.declared.expressions.Case.{Case, roll-Case}
use Rattle.mo_syntax.specs.declared.expressions.Expression.{Expression}
use Rattle.mo_syntax.specs.declared.expressions.Expression.TheVariants as e
use Rattle.mo_syntax.specs.declared.expressions.ExpressionField.{ExpressionField, roll-ExpressionField}
use Rattle.mo_syntax.specs.declared.literal.Literal.{Literal}
use Rattle.mo_syntax.specs.declared.mark.Mark.TheVariants as m
use Rattle.mo_syntax.specs.declared.name.Name.{Name}
use Rattle.mo_syntax.specs.declared.operators.AssignmentOperator.{AssignmentOperator}
use Rattle.mo_syntax.specs.declared.operators.BinaryOperator.{BinaryOperator}
use Rattle.mo_syntax.specs.declared.patterns.Parameters.{Parameters}
use Rattle.mo_syntax.specs.declared.patterns.Pattern.{Pattern}
use Rattle.mo_syntax.specs.declared.text.Text.{Text}
use Rattle.mo_syntax.specs.declared.token.TokenKind.TheVariants as token
use Rattle.mo_syntax.specs.declared.types.TypeExpression.{TypeExpression}
use Rattle.mo_syntax.specs.declared.types.TypeParameter.{TypeParameter}
use Rattle.mo_syntax.specs.declared.word.Word.TheVariants as w
use Rattle.mo_syntax.specs.ExpressionGrammar.{signature, assignment_token, operator_token, expression_tokens, declaration_tokens, declaration_field_tokens, case_tokens, expression_field_tokens}
use Rattle.mo_syntax.specs.Parts.{Each, Within}
use Rattle.mo_syntax.specs.PatternGrammar.{pattern_tokens, parameters_tokens}
use Rattle.mo_syntax.specs.TypeGrammar.{type_tokens, type_parameters_tokens}
use Rattle.mo_syntax.specs.Writing.{marked, led, separated, commas, semicolons, annotation, parens, brackets, braces, angles}
use Rattle.mo_syntax.proofs.ExpressionEquations as W
use Rattle.mo_syntax.proofs.ExpressionInduction.{Cases, holds_Declaration, holds_Expression}
use Rattle.typing_rules.specs.AbstractExpressions.{signature_span, in_expression}
use Rattle.typing_rules.proofs.ExpressionSpans as S
use Rattle.type_sources.specs.Shown.{IsNoBreach, IsNameToken}
use Rattle.type_sources.proofs.Patterns.{patterns_sources}
use Rattle.type_sources.proofs.Splitting.{each_first, each_last, each_separated}
use Rattle.type_sources.proofs.Types.{types_sources}
use Rattle.expression_sources.proofs.Covers.{Done, Skip, Keep, pattern_covers}
use Rattle.expression_sources.proofs.ExpressionNames as F
use Rattle.expression_sources.proofs.Parts.{C, as_expression, as_declaration, as_member, as_case, as_field, annotation_source, arguments_sources, signature_of, signature_source, assigned_source, operand_source, each_sources, expressions_sources, parenthesized_source, cases_sources, fields_sources, block_source, object_source}

of_Assign : (o : AssignmentOperator) (a b : Expression) → C.of_Expression a → C.of_Expression b → C.of_Expression (e.Assign o a b)
of_Assign o a b ia ib = as_expression _ _ _ _ _ _ (S.seen_Assign o a b) (F.found_Assign o a b) (W.tokens_Assign o a b) (λ s n t k. assigned_source o k _ _ (ia.0 s (each_first IsNoBreach ((N.in_expression a).finds s) ((N.in_expression b).finds s) n) (each_first IsNameToken (expression_tokens a) (assignment_token o ∷ (expression_tokens b)) t) _) (ib.0 s (each_last IsNoBreach ((N.in_expression a).finds s) ((N.in_expression b).finds s) n) (each_last IsNameToken (expression_tokens a) (assignment_token o ∷ (expression_tokens b)) t).1 _), tt)

of_Annotated : (a : Expression) (u : TypeExpression) → C.of_Expression a → C.of_Expression (e.Annotated a u)
of_Annotated a u ia = as_expression _ _ _ _ _ _ (S.seen_Annotated a u) (F.found_Annotated a u) (W.tokens_Annotated a u) (λ s n t k. ((ia.0 s (each_first IsNoBreach ((N.in_expression a).finds s) (types.in_type u s) n) (each_first IsNameToken (expression_tokens a) (token.Mark m.Colon ∷ (type_tokens u)) t) _), types_sources u s (each_last IsNoBreach ((N.in_expression a).finds s) (types.in_type u s) n) (each_last IsNameToken (expression_tokens a) (token.Mark m.Colon ∷ (type_tokens u)) t).1 _), tt)

of_Binary : (o : BinaryOperator) (a b : Expression) → C.of_Expression a → C.of_Expression b → C.of_Expression (e.Binary o a b)
of_Binary o a b ia ib = as_expression _ _ _ _ _ _ (S.seen_Binary o a b) (F.found_Binary o a b) (W.tokens_Binary o a b) (λ s n t k. ((ia.0 s (each_first IsNoBreach ((N.in_expression a).finds s) ((N.in_expression b).finds s) n) (each_first IsNameToken (expression_tokens a) (operator_token o ∷ (expression_tokens b)) t) _), (ib.0 s (each_last IsNoBreach ((N.in_expression a).finds s) ((N.in_expression b).finds s) n) (each_last IsNameToken (expression_tokens a) (operator_token o ∷ (expression_tokens b)) t).1 _)), tt)

of_If_None : (c a : Expression) → C.of_Expression c → C.of_Expression a → C.of_Expression (e.If c a None)
of_If_None c a ic ia = as_expression _ _ _ _ _ _ (S.seen_If c a None) (F.found_If c a None) (W.tokens_If c a None) (λ s n t k. ((ic.0 s (each_first IsNoBreach ((N.in_expression c).finds s) ((N.in_expression a).finds s ++ (N.optional None s)) n) (each_first IsNameToken (expression_tokens c) (expression_tokens a ++ (led (token.Reserved w.Else) None)) t.1) _), (ia.0 s (each_first IsNoBreach ((N.in_expression a).finds s) (N.optional None s) (each_last IsNoBreach ((N.in_expression c).finds s) ((N.in_expression a).finds s ++ (N.optional None s)) n)) (each_first IsNameToken (expression_tokens a) (led (token.Reserved w.Else) None) (each_last IsNameToken (expression_tokens c) (expression_tokens a ++ (led (token.Reserved w.Else) None)) t.1)) _)), tt)

of_If_Some : (c a b : Expression) → C.of_Expression c → C.of_Expression a → C.of_Expression b → C.of_Expression (e.If c a (Some b))
of_If_Some c a b ic ia ib = as_expression _ _ _ _ _ _ (S.seen_If c a (Some b)) (F.found_If c a (Some b)) (W.tokens_If c a (Some b)) (λ s n t k. ((ic.0 s (each_first IsNoBreach ((N.in_expression c).finds s) ((N.in_expression a).finds s ++ ((N.in_expression b).finds s)) n) (each_first IsNameToken (expression_tokens c) (expression_tokens a ++ (token.Reserved w.Else ∷ (expression_tokens b))) t.1) _), (ia.0 s (each_first IsNoBreach ((N.in_expression a).finds s) ((N.in_expression b).finds s) (each_last IsNoBreach ((N.in_expression c).finds s) ((N.in_expression a).finds s ++ ((N.in_expression b).finds s)) n)) (each_first IsNameToken (expression_tokens a) (token.Reserved w.Else ∷ (expression_tokens b)) (each_last IsNameToken (expression_tokens c) (expression_tokens a ++ (token.Reserved w.Else ∷ (expression_tokens b))) t.1)) _), (ib.0 s (each_last IsNoBreach ((N.in_expression a).finds s) ((N.in_expression b).finds s) (each_last IsNoBreach ((N.in_expression c).finds s) ((N.in_expression a).finds s ++ ((N.in_expression b).finds s)) n)) (each_last IsNameToken (expression_tokens a) (token.Reserved w.Else ∷ (expression_tokens b)) (each_last IsNameToken (expression_tokens c) (expression_tokens a ++ (token.Reserved w.Else ∷ (expression_tokens b))) t.1)).1 _)), tt)

of_Switch : (c : Expression) (cs : List Case) (last : Bool) → C.of_Expression c → Each C.of_Case cs → C.of_Expression (e.Switch c cs last)
of_Switch c cs last ic ics = as_expression _ _ _ _ _ _ (S.seen_Switch c cs last) (F.found_Switch c cs last) (W.tokens_Switch c cs last) (λ s n t k. ((ic.0 s (each_first IsNoBreach ((N.in_expression c).finds s) (each (map N.in_case cs) s) n) (each_first IsNameToken (expression_tokens c) (braces (semicolons (map case_tokens cs) last)) t.1) _), cases_sources cs ics s (each_last IsNoBreach ((N.in_expression c).finds s) (each (map N.in_case cs) s) n) (each_separated IsNameToken case_tokens (token.Mark m.Semicolon) cs (each_first IsNameToken (separated (token.Mark m.Semicolon) (map case_tokens cs)) (marked last (token.Mark m.Semicolon)) (each_first IsNameToken (semicolons (map case_tokens cs) last) (token.Mark m.BraceClose ∷ []) (each_last IsNameToken (expression_tokens c) (braces (semicolons (map case_tokens cs) last)) t.1).1))) _), tt)

of_While : (c a : Expression) → C.of_Expression c → C.of_Expression a → C.of_Expression (e.While c a)
of_While c a ic ia = as_expression _ _ _ _ _ _ (S.seen_While c a) (F.found_While c a) (W.tokens_While c a) (λ s n t k. ((ic.0 s (each_first IsNoBreach ((N.in_expression c).finds s) ((N.in_expression a).finds s) n) (each_first IsNameToken (expression_tokens c) (expression_tokens a) t.1) _), (ia.0 s (each_last IsNoBreach ((N.in_expression c).finds s) ((N.in_expression a).finds s) n) (each_last IsNameToken (expression_tokens c) (expression_tokens a) t.1) _)), tt)

of_Loop_None : (a : Expression) → C.of_Expression a → C.of_Expression (e.Loop a None)
of_Loop_None a ia = as_expression _ _ _ _ _ _ (S.seen_Loop a None) (F.found_Loop a None) (W.tokens_Loop a None) (λ s n t k. (ia.0 s (each_first IsNoBreach ((N.in_expression a).finds s) (N.optional None s) n) (each_first IsNameToken (expression_tokens a) (led (token.Reserved w.While) None) t.1) _), tt)

of_Loop_Some : (a c : Expression) → C.of_Expression a → C.of_Expression c → C.of_Expression (e.Loop a (Some c))
of_Loop_Some a c ia ic = as_expression _ _ _ _ _ _ (S.seen_Loop a (Some c)) (F.found_Loop a (Some c)) (W.tokens_Loop a (Some c)) (λ s n t k. ((ia.0 s (each_first IsNoBreach ((N.in_expression a).finds s) ((N.in_expression c).finds s) n) (each_first IsNameToken (expression_tokens a) (token.Reserved w.While ∷ (expression_tokens c)) t.1) _), (ic.0 s (each_last IsNoBreach ((N.in_expression a).finds s) ((N.in_expression c).finds s) n) (each_last IsNameToken (expression_tokens a) (token.Reserved w.While ∷ (expression_tokens c)) t.1).1 _)), tt)

of_For : (q : Pattern) (a b : Expression) → C.of_Expression a → C.of_Expression b → C.of_Expression (e.For q a b)
of_For q a b ia ib = as_expression _ _ _ _ _ _ (S.seen_For q a b) (F.found_For q a b) (W.tokens_For q a b) (λ s n t k. ((patterns_sources q s (each_first IsNoBreach ((patterns.in_pattern q).finds s) (together (patterns.in_pattern q).names) (each_first IsNoBreach (patterns.whole (patterns.in_pattern q) s) ((N.in_expression a).finds s ++ ((N.in_expression b).finds (with_values (patterns.in_pattern q).names s))) n)) (each_first IsNameToken (pattern_tokens q) (token.Reserved w.In ∷ (expression_tokens a)) (each_first IsNameToken (pattern_tokens q ++ token.Reserved w.In ∷ expression_tokens a) (token.Mark m.ParenClose ∷ []) (each_first IsNameToken (parens (pattern_tokens q ++ token.Reserved w.In ∷ expression_tokens a)) (expression_tokens b) t.1).1)) _), (ia.0 s (each_first IsNoBreach ((N.in_expression a).finds s) ((N.in_expression b).finds (with_values (patterns.in_pattern q).names s)) (each_last IsNoBreach (patterns.whole (patterns.in_pattern q) s) ((N.in_expression a).finds s ++ ((N.in_expression b).finds (with_values (patterns.in_pattern q).names s))) n)) (each_last IsNameToken (pattern_tokens q) (token.Reserved w.In ∷ (expression_tokens a)) (each_first IsNameToken (pattern_tokens q ++ token.Reserved w.In ∷ expression_tokens a) (token.Mark m.ParenClose ∷ []) (each_first IsNameToken (parens (pattern_tokens q ++ token.Reserved w.In ∷ expression_tokens a)) (expression_tokens b) t.1).1)).1 _), (ib.0 (with_values (patterns.in_pattern q).names s) (each_last IsNoBreach ((N.in_expression a).finds s) ((N.in_expression b).finds (with_values (patterns.in_pattern q).names s)) (each_last IsNoBreach (patterns.whole (patterns.in_pattern q) s) ((N.in_expression a).finds s ++ ((N.in_expression b).finds (with_values (patterns.in_pattern q).names s))) n)) (each_last IsNameToken (parens (pattern_tokens q ++ token.Reserved w.In ∷ expression_tokens a)) (expression_tokens b) t.1) _)), tt)

of_Label : (x : Name) (u : Option TypeExpression) (a : Expression) → C.of_Expression a → C.of_Expression (e.Label x u a)
of_Label x u a ia = as_expression _ _ _ _ _ _ (S.seen_Label x u a) (F.found_Label x u a) (W.tokens_Label x u a) (λ s n t k. (annotation_source u s (each_first IsNoBreach (N.annotation u s) ((N.in_expression a).finds (with_loop x.bytes s)) (each_last IsNoBreach (identifier x) (N.annotation u s ++ ((N.in_expression a).finds (with_loop x.bytes s))) n)) (each_first IsNameToken (annotation (option_map type_tokens u)) (expression_tokens a) t.1.1) _, (ia.0 (with_loop x.bytes s) (each_last IsNoBreach (N.annotation u s) ((N.in_expression a).finds (with_loop x.bytes s)) (each_last IsNoBreach (identifier x) (N.annotation u s ++ ((N.in_expression a).finds (with_loop x.bytes s))) n)) (each_last IsNameToken (annotation (option_map type_tokens u)) (expression_tokens a) t.1.1) _)), tt)

of_Break_None : (x : Name) → C.of_Expression (e.Break x None)
of_Break_None x = as_expression _ _ _ _ _ _ (S.seen_Break x None) (F.found_Break x None) (W.tokens_Break x None) (λ s n t k. tt, tt)

of_Break_Some : (x : Name) (a : Expression) → C.of_Expression a → C.of_Expression (e.Break x (Some a))
of_Break_Some x a ia = as_expression _ _ _ _ _ _ (S.seen_Break x (Some a)) (F.found_Break x (Some a)) (W.tokens_Break x (Some a)) (λ s n t k. (ia.0 s (each_last IsNoBreach (identifier x ++ used (loop_meaning s x.bytes) x) ((N.in_expression a).finds s) n) t.1.1 _), tt)

of_Continue : (x : Name) → C.of_Expression (e.Continue x)
of_Continue x = as_expression _ _ _ _ _ _ (S.seen_Continue x) (F.found_Continue x) (W.tokens_Continue x) (λ s n t k. tt, tt)

of_Return_None : C.of_Expression (e.Return None)
of_Return_None = as_expression _ _ _ _ _ _ (S.seen_Return None) (F.found_Return None) (W.tokens_Return None) (λ s n t k. tt, tt)

of_Return_Some : (a : Expression) → C.of_Expression a → C.of_Expression (e.Return (Some a))
of_Return_Some a ia = as_expression _ _ _ _ _ _ (S.seen_Return (Some a)) (F.found_Return (Some a)) (W.tokens_Return (Some a)) (λ s n t k. (ia.0 s n t.1 _), tt)

of_Do : (a : Expression) → C.of_Expression a → C.of_Expression (e.Do a)
of_Do a ia = as_expression _ _ _ _ _ _ (S.seen_Do a) (F.found_Do a) (W.tokens_Do a) (λ s n t k. (ia.0 s n t.1 _), tt)

of_DoOptional : (a : Expression) → C.of_Expression a → C.of_Expression (e.DoOptional a)
of_DoOptional a ia = as_expression _ _ _ _ _ _ (S.seen_DoOptional a) (F.found_DoOptional a) (W.tokens_DoOptional a) (λ s n t k. (ia.0 s n t.1.1 _), tt)

of_Await : (a : Expression) → C.of_Expression a → C.of_Expression (e.Await a)
of_Await a ia = as_expression _ _ _ _ _ _ (S.seen_Await a) (F.found_Await a) (W.tokens_Await a) (λ s n t k. (ia.0 s n t.1 _), tt)

of_Throw : (a : Expression) → C.of_Expression a → C.of_Expression (e.Throw a)
of_Throw a ia = as_expression _ _ _ _ _ _ (S.seen_Throw a) (F.found_Throw a) (W.tokens_Throw a) (λ s n t k. (ia.0 s n t.1 _), tt)

of_Assert : (a : Expression) → C.of_Expression a → C.of_Expression (e.Assert a)
of_Assert a ia = as_expression _ _ _ _ _ _ (S.seen_Assert a) (F.found_Assert a) (W.tokens_Assert a) (λ s n t k. (ia.0 s n t.1 _), tt)

of_Ignore : (a : Expression) → C.of_Expression a → C.of_Expression (e.Ignore a)
of_Ignore a ia = as_expression _ _ _ _ _ _ (S.seen_Ignore a) (F.found_Ignore a) (W.tokens_Ignore a) (λ s n t k. (ia.0 s n t.1 _), tt)

of_Debug : (a : Expression) → C.of_Expression a → C.of_Expression (e.Debug a)
of_Debug a ia = as_expression _ _ _ _ _ _ (S.seen_Debug a) (F.found_Debug a) (W.tokens_Debug a) (λ s n t k. (ia.0 s n t.1 _), tt)

of_Optional : (a : Expression) → C.of_Expression a → C.of_Expression (e.Optional a)
of_Optional a ia = as_expression _ _ _ _ _ _ (S.seen_Optional a) (F.found_Optional a) (W.tokens_Optional a) (λ s n t k. (ia.0 s n t.1 _), tt)

of_Negative : (a : Expression) → C.of_Expression a → C.of_Expression (e.Negative a)
of_Negative a ia = as_expression _ _ _ _ _ _ (S.seen_Negative a) (F.found_Negative a) (W.tokens_Negative a) (λ s n t k. (ia.0 s n t.1 _), tt)

of_Not : (a : Expression) → C.of_Expression a → C.of_Expression (e.Not a)
of_Not a ia = as_expression _ _ _ _ _ _ (S.seen_Not a) (F.found_Not a) (W.tokens_Not a) (λ s n t k. (ia.0 s n t.1 _), tt)

of_Bang : (a : Expression) → C.of_Expression a → C.of_Expression (e.Bang a)
of_Bang a ia = as_expression _ _ _ _ _ _ (S.seen_Bang a) (F.found_Bang a) (W.tokens_Bang a) (λ s n t k. (ia.0 s n (each_first IsNameToken (expression_tokens a) (token.Mark m.Bang ∷ []) t) _), tt)

of_Projection : (a : Expression) (i : ℕ) → C.of_Expression a → C.of_Expression (e.Projection a i)
of_Projection a i ia = as_expression _ _ _ _ _ _ (S.seen_Projection a i) (F.found_Projection a i) (W.tokens_Projection a i) (λ s n t k. (ia.0 s n (each_first IsNameToken (expression_tokens a) (token.Mark m.Dot ∷ (token.Number i ∷ [])) t) _), tt)

of_Try : (a : Expression) (q : Pattern) (b : Expression) → C.of_Expression a → C.of_Expression b → C.of_Expression (e.Try a q b)
of_Try a q b ia ib = as_expression _ _ _ _ _ _ (S.seen_Try a q b) (F.found_Try a q b) (W.tokens_Try a q b) (λ s n t k. ((ia.0 s (each_first IsNoBreach ((N.in_expression a).finds s) (patterns.whole (patterns.in_pattern q) s ++ ((N.in_expression b).finds (with_values (patterns.in_pattern q).names s))) n) (each_first IsNameToken (expression_tokens a) (token.Reserved w.Catch ∷ (pattern_tokens q ++ (expression_tokens b))) t.1) _), (patterns_sources q s (each_first IsNoBreach ((patterns.in_pattern q).finds s) (together (patterns.in_pattern q).names) (each_first IsNoBreach (patterns.whole (patterns.in_pattern q) s) ((N.in_expression b).finds (with_values (patterns.in_pattern q).names s)) (each_last IsNoBreach ((N.in_expression a).finds s) (patterns.whole (patterns.in_pattern q) s ++ ((N.in_expression b).finds (with_values (patterns.in_pattern q).names s))) n))) (each_first IsNameToken (pattern_tokens q) (expression_tokens b) (each_last IsNameToken (expression_tokens a) (token.Reserved w.Catch ∷ (pattern_tokens q ++ (expression_tokens b))) t.1).1) _), (ib.0 (with_values (patterns.in_pattern q).names s) (each_last IsNoBreach (patterns.whole (patterns.in_pattern q) s) ((N.in_expression b).finds (with_values (patterns.in_pattern q).names s)) (each_last IsNoBreach ((N.in_expression a).finds s) (patterns.whole (patterns.in_pattern q) s ++ ((N.in_expression b).finds (with_values (patterns.in_pattern q).names s))) n)) (each_last IsNameToken (pattern_tokens q) (expression_tokens b) (each_last IsNameToken (expression_tokens a) (token.Reserved w.Catch ∷ (pattern_tokens q ++ (expression_tokens b))) t.1).1) _)), tt)

of_Function : (qs : Parameters) (u : Option TypeExpression) (equal : Bool) (a : Expression) → C.of_Expression a → C.of_Expression (e.Function qs u equal a)
of_Function qs u equal a ia = as_expression _ _ _ _ _ _ (S.seen_Function qs u equal a) (F.found_Function qs u equal a) (W.tokens_Function qs u equal a) (λ s n t k. (refl, signature_source None qs u equal (N.header_scope None s) (each_first IsNoBreach (N.header None qs u (N.header_scope None s)) ((N.in_expression a).finds (N.body_scope None qs s)) n) tt (each_first IsNameToken (signature (parameters_tokens qs) (option_map type_tokens u) equal) (expression_tokens a) t.1) _, (ia.0 (N.body_scope None qs s) (each_last IsNoBreach (N.header None qs u (N.header_scope None s)) ((N.in_expression a).finds (N.body_scope None qs s)) n) (each_last IsNameToken (signature (parameters_tokens qs) (option_map type_tokens u) equal) (expression_tokens a) t.1) _)), tt)

of_ObjectBlock : (fs : List DeclarationField) (last : Bool) → Each C.of_DeclarationField fs → C.of_Expression (e.ObjectBlock fs last)
of_ObjectBlock fs last ifs = as_expression _ _ _ _ _ _ (S.seen_ObjectBlock fs last) (F.found_ObjectBlock fs last) (W.tokens_ObjectBlock fs last) (λ s n t k. object_source fs ifs s n (each_separated IsNameToken declaration_field_tokens (token.Mark m.Semicolon) fs (each_first IsNameToken (separated (token.Mark m.Semicolon) (map declaration_field_tokens fs)) (marked last (token.Mark m.Semicolon)) (each_first IsNameToken (semicolons (map declaration_field_tokens fs) last) (token.Mark m.BraceClose ∷ []) t.1.1))) _, tt)

of_Tagged_None : (x : Name) → C.of_Expression (e.Tagged x None)
of_Tagged_None x = as_expression _ _ _ _ _ _ (S.seen_Tagged x None) (F.found_Tagged x None) (W.tokens_Tagged x None) (λ s n t k. tt, tt)

of_Tagged_Some : (x : Name) (a : Expression) → C.of_Expression a → C.of_Expression (e.Tagged x (Some a))
of_Tagged_Some x a ia = as_expression _ _ _ _ _ _ (S.seen_Tagged x (Some a)) (F.found_Tagged x (Some a)) (W.tokens_Tagged x (Some a)) (λ s n t k. (ia.0 s (each_last IsNoBreach (label x) ((N.in_expression a).finds s) n) t.1.1 _), tt)

of_Member : (a : Expression) (x : Name) → C.of_Expression a → C.of_Expression (e.Member a x)
of_Member a x ia = as_expression _ _ _ _ _ _ (S.seen_Member a x) (F.found_Member a x) (W.tokens_Member a x) (λ s n t k. operand_source (in_expression a) (N.in_expression a).head (N.in_expression a).finds x s (λ z. ia.0 s z (each_first IsNameToken (expression_tokens a) (token.Mark m.Dot ∷ (token.Identifier x ∷ [])) t)) ia.1 (each_first IsNoBreach (N.operand (N.in_expression a).head (N.in_expression a).finds x s) (label x) n) _, tt)

of_Index : (a b : Expression) → C.of_Expression a → C.of_Expression b → C.of_Expression (e.Index a b)
of_Index a b ia ib = as_expression _ _ _ _ _ _ (S.seen_Index a b) (F.found_Index a b) (W.tokens_Index a b) (λ s n t k. ((ia.0 s (each_first IsNoBreach ((N.in_expression a).finds s) ((N.in_expression b).finds s) n) (each_first IsNameToken (expression_tokens a) (brackets (expression_tokens b)) t) _), (ib.0 s (each_last IsNoBreach ((N.in_expression a).finds s) ((N.in_expression b).finds s) n) (each_first IsNameToken (expression_tokens b) (token.Mark m.BracketClose ∷ []) (each_last IsNameToken (expression_tokens a) (brackets (expression_tokens b)) t).1) _)), tt)

of_Call_None : (a : Expression) (xs : List Expression) → C.of_Expression a → Each C.of_Expression xs → C.of_Expression (e.Call a None xs)
of_Call_None a xs ia ixs = as_expression _ _ _ _ _ _ (S.seen_Call a None xs) (F.found_Call a None xs) (W.tokens_Call a None xs) (λ s n t k. ((ia.0 s (each_first IsNoBreach ((N.in_expression a).finds s) (each_within None s ++ (N.each_whole (map N.in_expression xs) s)) n) (each_first IsNameToken (expression_tokens a) (angles None ++ (parens (commas (map expression_tokens xs)))) t) _), tt, expressions_sources _ (each_sources xs ixs s (each_last IsNoBreach (each_within None s) (N.each_whole (map N.in_expression xs) s) (each_last IsNoBreach ((N.in_expression a).finds s) (each_within None s ++ (N.each_whole (map N.in_expression xs) s)) n)) (each_separated IsNameToken expression_tokens (token.Mark m.Comma) xs (each_first IsNameToken (commas (map expression_tokens xs)) (token.Mark m.ParenClose ∷ []) (each_last IsNameToken (angles None) (parens (commas (map expression_tokens xs))) (each_last IsNameToken (expression_tokens a) (angles None ++ (parens (commas (map expression_tokens xs)))) t)).1))) _), tt)

of_Call_Some : (a : Expression) (us : List TypeExpression) (xs : List Expression) → C.of_Expression a → Each C.of_Expression xs → C.of_Expression (e.Call a (Some us) xs)
of_Call_Some a us xs ia ixs = as_expression _ _ _ _ _ _ (S.seen_Call a (Some us) xs) (F.found_Call a (Some us) xs) (W.tokens_Call a (Some us) xs) (λ s n t k. ((ia.0 s (each_first IsNoBreach ((N.in_expression a).finds s) (each_within (Some (map types.in_type us)) s ++ (N.each_whole (map N.in_expression xs) s)) n) (each_first IsNameToken (expression_tokens a) (angles (Some (map type_tokens us)) ++ (parens (commas (map expression_tokens xs)))) t) _), arguments_sources us s (each_first IsNoBreach (each_within (Some (map types.in_type us)) s) (N.each_whole (map N.in_expression xs) s) (each_last IsNoBreach ((N.in_expression a).finds s) (each_within (Some (map types.in_type us)) s ++ (N.each_whole (map N.in_expression xs) s)) n)) (each_separated IsNameToken type_tokens (token.Mark m.Comma) us (each_first IsNameToken (commas (map type_tokens us)) (token.Mark m.AngleClose ∷ []) (each_first IsNameToken (angles (Some (map type_tokens us))) (parens (commas (map expression_tokens xs))) (each_last IsNameToken (expression_tokens a) (angles (Some (map type_tokens us)) ++ (parens (commas (map expression_tokens xs)))) t)).1)) _, expressions_sources _ (each_sources xs ixs s (each_last IsNoBreach (each_within (Some (map types.in_type us)) s) (N.each_whole (map N.in_expression xs) s) (each_last IsNoBreach ((N.in_expression a).finds s) (each_within (Some (map types.in_type us)) s ++ (N.each_whole (map N.in_expression xs) s)) n)) (each_separated IsNameToken expression_tokens (token.Mark m.Comma) xs (each_first IsNameToken (commas (map expression_tokens xs)) (token.Mark m.ParenClose ∷ []) (each_last IsNameToken (angles (Some (map type_tokens us))) (parens (commas (map expression_tokens xs))) (each_last IsNameToken (expression_tokens a) (angles (Some (map type_tokens us)) ++ (parens (commas (map expression_tokens xs)))) t)).1))) _), tt)

of_Constant : (l : Literal) → C.of_Expression (e.Constant l)
of_Constant l = as_expression _ _ _ _ _ _ (S.seen_Constant l) (F.found_Constant l) (W.tokens_Constant l) (λ s n t k. tt, tt)

of_Variable : (x : Name) → C.of_Expression (e.Variable x)
of_Variable x = as_expression _ _ _ _ _ _ (S.seen_Variable x) (F.found_Variable x) (W.tokens_Variable x) (λ s n t k. tt, λ k. tt)

of_Parenthesized : (xs : List Expression) → Each C.of_Expression xs → C.of_Expression (e.Parenthesized xs)
of_Parenthesized xs ixs = as_expression _ _ _ _ _ _ (S.seen_Parenthesized xs) (F.found_Parenthesized xs) (W.tokens_Parenthesized xs) (λ s n t k. parenthesized_source _ (each_sources xs ixs s n (each_separated IsNameToken expression_tokens (token.Mark m.Comma) xs (each_first IsNameToken (commas (map expression_tokens xs)) (token.Mark m.ParenClose ∷ []) t.1))) k, tt)

of_Array : (mutable : Bool) (xs : List Expression) → Each C.of_Expression xs → C.of_Expression (e.Array mutable xs)
of_Array mutable xs ixs = as_expression _ _ _ _ _ _ (S.seen_Array mutable xs) (F.found_Array mutable xs) (W.tokens_Array mutable xs) (λ s n t k. expressions_sources _ (each_sources xs ixs s n (each_separated IsNameToken expression_tokens (token.Mark m.Comma) xs (each_last IsNameToken (marked mutable (token.Reserved w.Var)) (commas (map expression_tokens xs)) (each_first IsNameToken (marked mutable (token.Reserved w.Var) ++ commas (map expression_tokens xs)) (token.Mark m.BracketClose ∷ []) t.1)))) _, tt)

of_Object : (fs : List ExpressionField) (last : Bool) → Each C.of_ExpressionField fs → C.of_Expression (e.Object fs last)
of_Object fs last ifs = as_expression _ _ _ _ _ _ (S.seen_Object fs last) (F.found_Object fs last) (W.tokens_Object fs last) (λ s n t k. fields_sources fs ifs s (each_first IsNoBreach (types.each_entry (map N.in_field fs) s) (labels (types.names_of (map N.in_field fs))) n) (each_last IsNoBreach (types.each_entry (map N.in_field fs) s) (labels (types.names_of (map N.in_field fs))) n) (each_separated IsNameToken expression_field_tokens (token.Mark m.Semicolon) fs (each_first IsNameToken (separated (token.Mark m.Semicolon) (map expression_field_tokens fs)) (marked last (token.Mark m.Semicolon)) (each_first IsNameToken (semicolons (map expression_field_tokens fs) last) (token.Mark m.BraceClose ∷ []) t.1))) _, tt)

of_ActorReference : (b : Bool) (x : Text) → C.of_Expression (e.ActorReference b x)
of_ActorReference b x = as_expression _ _ _ _ _ _ (S.seen_ActorReference b x) (F.found_ActorReference b x) (W.tokens_ActorReference b x) (λ s n t k. tt, tt)

of_Block : (ds : List Declaration) (last : Bool) → Each C.of_Declaration ds → C.of_Expression (e.Block ds last)
of_Block ds last ids = as_expression _ _ _ _ _ _ (S.seen_Block ds last) (F.found_Block ds last) (W.tokens_Block ds last) (λ s n t k. block_source ds ids (N.block_scope (map N.in_declaration ds) s) (each_last IsNoBreach (together (N.values_of (map N.in_declaration ds)) ++ together (N.types_of (map N.in_declaration ds))) (N.each_declared (map N.in_declaration ds) (N.block_scope (map N.in_declaration ds) s)) n) (each_separated IsNameToken declaration_tokens (token.Mark m.Semicolon) ds (each_first IsNameToken (separated (token.Mark m.Semicolon) (map declaration_tokens ds)) (marked last (token.Mark m.Semicolon)) (each_first IsNameToken (semicolons (map declaration_tokens ds) last) (token.Mark m.BraceClose ∷ []) t.1))) _, tt)

of_Let : (q : Pattern) (a : Expression) → C.of_Expression a → C.of_Declaration (d.Let q a)
of_Let q a ia = as_declaration _ _ _ _ _ _ (S.seen_Let q a) (F.found_Let q a) (W.tokens_Let q a) (λ s n t k. ((patterns_sources q s (each_first IsNoBreach ((patterns.in_pattern q).finds s) (together (patterns.in_pattern q).names) (each_first IsNoBreach (patterns.whole (patterns.in_pattern q) s) ((N.in_expression a).finds s) n)) (each_first IsNameToken (pattern_tokens q) (token.Mark m.EqualSign ∷ (expression_tokens a)) t.1) _), (ia.0 s (each_last IsNoBreach (patterns.whole (patterns.in_pattern q) s) ((N.in_expression a).finds s) n) (each_last IsNameToken (pattern_tokens q) (token.Mark m.EqualSign ∷ (expression_tokens a)) t.1).1 _)), λ k. pattern_covers q _, λ k b m rest. refl)

of_Var : (x : Name) (u : Option TypeExpression) (a : Expression) → C.of_Expression a → C.of_Declaration (d.Var x u a)
of_Var x u a ia = as_declaration _ _ _ _ _ _ (S.seen_Var x u a) (F.found_Var x u a) (W.tokens_Var x u a) (λ s n t k. (annotation_source u s (each_first IsNoBreach (N.annotation u s) ((N.in_expression a).finds s) (each_last IsNoBreach (identifier x) (N.annotation u s ++ ((N.in_expression a).finds s)) n)) (each_first IsNameToken (annotation (option_map type_tokens u)) (token.Mark m.EqualSign ∷ (expression_tokens a)) t.1.1) _, (ia.0 s (each_last IsNoBreach (N.annotation u s) ((N.in_expression a).finds s) (each_last IsNoBreach (identifier x) (N.annotation u s ++ ((N.in_expression a).finds s)) n)) (each_last IsNameToken (annotation (option_map type_tokens u)) (token.Mark m.EqualSign ∷ (expression_tokens a)) t.1.1).1 _)), λ k. Keep x Done, λ k b m rest. refl)

of_Func : (x : Name) (g : Option (List TypeParameter)) (qs : Parameters) (u : Option TypeExpression) (equal : Bool) (a : Expression) → C.of_Expression a → C.of_Declaration (d.Func x g qs u equal a)
of_Func x g qs u equal a ia = as_declaration _ _ _ _ _ _ (S.seen_Func x g qs u equal a) (F.found_Func x g qs u equal a) (W.tokens_Func x g qs u equal a) (λ s n t k. (signature_source g qs u equal (N.header_scope g s) (each_first IsNoBreach (N.header g qs u (N.header_scope g s)) ((N.in_expression a).finds (N.body_scope g qs s)) (each_last IsNoBreach (identifier x) (N.function g qs u (N.in_expression a).finds s) n)) (each_first IsNameToken (type_parameters_tokens g) (signature (parameters_tokens qs) (option_map type_tokens u) equal ++ (expression_tokens a)) t.1.1) (each_first IsNameToken (signature (parameters_tokens qs) (option_map type_tokens u) equal) (expression_tokens a) (each_last IsNameToken (type_parameters_tokens g) (signature (parameters_tokens qs) (option_map type_tokens u) equal ++ (expression_tokens a)) t.1.1)) _, (ia.0 (N.body_scope g qs s) (each_last IsNoBreach (N.header g qs u (N.header_scope g s)) ((N.in_expression a).finds (N.body_scope g qs s)) (each_last IsNoBreach (identifier x) (N.function g qs u (N.in_expression a).finds s) n)) (each_last IsNameToken (signature (parameters_tokens qs) (option_map type_tokens u) equal) (expression_tokens a) (each_last IsNameToken (type_parameters_tokens g) (signature (parameters_tokens qs) (option_map type_tokens u) equal ++ (expression_tokens a)) t.1.1)) _)), λ k. Keep x Done, λ k b m rest. refl)

of_TypeAlias_None : (x : Name) (u : TypeExpression) → C.of_Declaration (d.TypeAlias x None u)
of_TypeAlias_None x u = as_declaration _ _ _ _ _ _ (S.seen_TypeAlias x None u) (F.found_TypeAlias x None u) (W.tokens_TypeAlias x None u) (λ s n t k. types_sources u (with_types (N.alias_names None) s) (each_last IsNoBreach (each_identifier (N.alias_names None) ++ together (N.alias_names None)) (types.in_type u (with_types (N.alias_names None) s)) (each_last IsNoBreach (identifier x) (N.alias None u s) n)) (each_last IsNameToken (angles None) (token.Mark m.EqualSign ∷ (type_tokens u)) t.1.1).1 _, λ k. Done, λ k b m rest. refl)

of_TypeAlias_Some : (x : Name) (xs : List Name) (u : TypeExpression) → C.of_Declaration (d.TypeAlias x (Some xs) u)
of_TypeAlias_Some x xs u = as_declaration _ _ _ _ _ _ (S.seen_TypeAlias x (Some xs) u) (F.found_TypeAlias x (Some xs) u) (W.tokens_TypeAlias x (Some xs) u) (λ s n t k. types_sources u (with_types (N.alias_names (Some xs)) s) (each_last IsNoBreach (each_identifier (N.alias_names (Some xs)) ++ together (N.alias_names (Some xs))) (types.in_type u (with_types (N.alias_names (Some xs)) s)) (each_last IsNoBreach (identifier x) (N.alias (Some xs) u s) n)) (each_last IsNameToken (angles (Some (map (λ y. token.Identifier y ∷ []) xs))) (token.Mark m.EqualSign ∷ (type_tokens u)) t.1.1).1 _, λ k. Done, λ k b m rest. refl)

of_Class : (x : Name) (g : Option (List TypeParameter)) (qs : Parameters) (fs : List DeclarationField) (last : Bool) → Each C.of_DeclarationField fs → C.of_Declaration (d.Class x g qs fs last)
of_Class x g qs fs last ifs = as_declaration _ _ _ _ _ _ (S.seen_Class x g qs fs last) (F.found_Class x g qs fs last) (W.tokens_Class x g qs fs last) (λ s n t k. (signature_of g qs None false (N.header_scope g s) (each_first IsNoBreach (N.header g qs None (N.header_scope g s)) (N.object (map N.in_member fs) (N.body_scope g qs s)) (each_last IsNoBreach (identifier x) (N.function g qs None (N.object (map N.in_member fs)) s) n)) (each_first IsNameToken (type_parameters_tokens g) (parameters_tokens qs ++ (braces (semicolons (map declaration_field_tokens fs) last))) t.1.1) (each_first IsNameToken (parameters_tokens qs) (braces (semicolons (map declaration_field_tokens fs) last)) (each_last IsNameToken (type_parameters_tokens g) (parameters_tokens qs ++ (braces (semicolons (map declaration_field_tokens fs) last))) t.1.1)) tt _, (object_source fs ifs (N.body_scope g qs s) (each_last IsNoBreach (N.header g qs None (N.header_scope g s)) (N.object (map N.in_member fs) (N.body_scope g qs s)) (each_last IsNoBreach (identifier x) (N.function g qs None (N.object (map N.in_member fs)) s) n)) (each_separated IsNameToken declaration_field_tokens (token.Mark m.Semicolon) fs (each_first IsNameToken (separated (token.Mark m.Semicolon) (map declaration_field_tokens fs)) (marked last (token.Mark m.Semicolon)) (each_first IsNameToken (semicolons (map declaration_field_tokens fs) last) (token.Mark m.BraceClose ∷ []) (each_last IsNameToken (parameters_tokens qs) (braces (semicolons (map declaration_field_tokens fs) last)) (each_last IsNameToken (type_parameters_tokens g) (parameters_tokens qs ++ (braces (semicolons (map declaration_field_tokens fs) last))) t.1.1)).1))) (k + 2 + (signature_span g qs None false).size + 1)).0, (object_source fs ifs (N.body_scope g qs s) (each_last IsNoBreach (N.header g qs None (N.header_scope g s)) (N.object (map N.in_member fs) (N.body_scope g qs s)) (each_last IsNoBreach (identifier x) (N.function g qs None (N.object (map N.in_member fs)) s) n)) (each_separated IsNameToken declaration_field_tokens (token.Mark m.Semicolon) fs (each_first IsNameToken (separated (token.Mark m.Semicolon) (map declaration_field_tokens fs)) (marked last (token.Mark m.Semicolon)) (each_first IsNameToken (semicolons (map declaration_field_tokens fs) last) (token.Mark m.BraceClose ∷ []) (each_last IsNameToken (parameters_tokens qs) (braces (semicolons (map declaration_field_tokens fs) last)) (each_last IsNameToken (type_parameters_tokens g) (parameters_tokens qs ++ (braces (semicolons (map declaration_field_tokens fs) last))) t.1.1)).1))) (k + 2 + (signature_span g qs None false).size + 1)).1), λ k. Keep x Done, λ k b m rest. refl)

of_NamedObject : (x : Name) (fs : List DeclarationField) (last : Bool) → Each C.of_DeclarationField fs → C.of_Declaration (d.NamedObject x fs last)
of_NamedObject x fs last ifs = as_declaration _ _ _ _ _ _ (S.seen_NamedObject x fs last) (F.found_NamedObject x fs last) (W.tokens_NamedObject x fs last) (λ s n t k. object_source fs ifs s (each_last IsNoBreach (identifier x) (N.object (map N.in_member fs) s) n) (each_separated IsNameToken declaration_field_tokens (token.Mark m.Semicolon) fs (each_first IsNameToken (separated (token.Mark m.Semicolon) (map declaration_field_tokens fs)) (marked last (token.Mark m.Semicolon)) (each_first IsNameToken (semicolons (map declaration_field_tokens fs) last) (token.Mark m.BraceClose ∷ []) t.1.1.1))) _, λ k. Skip x Done, λ k b m rest. refl)

of_Evaluate : (a : Expression) → C.of_Expression a → C.of_Declaration (d.Evaluate a)
of_Evaluate a ia = as_declaration _ _ _ _ _ _ (S.seen_Evaluate a) (F.found_Evaluate a) (W.tokens_Evaluate a) (λ s n t k. (ia.0 s n t _), λ k. Done, λ k b m rest. refl)

-- ---- members, cases and fields

of_DeclarationField : (v : Option Visibility) (x : Declaration) → C.of_Declaration x → C.of_DeclarationField (roll-DeclarationField (record { visibility = v; declaration = x }))
of_DeclarationField None x i = as_member _ _ _ _ _ _ (S.seen_DeclarationField None x) (F.found_DeclarationField None x) (W.tokens_DeclarationField None x) (λ s n t k. i.0 s n t _, λ k. Done)
of_DeclarationField (Some visible.Public) x i =
    as_member _ _ _ _ _ _ (S.seen_DeclarationField (Some visible.Public) x) (F.found_DeclarationField (Some visible.Public) x) (W.tokens_DeclarationField (Some visible.Public) x) (λ s n t k. i.0 s n t.1 _, λ k. i.1 _)
of_DeclarationField (Some visible.Private) x i =
    as_member _ _ _ _ _ _ (S.seen_DeclarationField (Some visible.Private) x) (F.found_DeclarationField (Some visible.Private) x) (W.tokens_DeclarationField (Some visible.Private) x) (λ s n t k. i.0 s n t.1 _, λ k. Done)

of_Case : (q : Pattern) (a : Expression) → C.of_Expression a → C.of_Case (roll-Case (record { pattern = q; body = a }))
of_Case q a i =
    as_case _ _ _ _ _ _ (S.seen_Case q a) (F.found_Case q a) (W.tokens_Case q a) (λ s n t k rest h.
    let whole = each_first IsNoBreach (patterns.whole (patterns.in_pattern q) s) ((N.in_expression a).finds (with_values (patterns.in_pattern q).names s)) n in (
      patterns_sources q s (each_first IsNoBreach ((patterns.in_pattern q).finds s) (together (patterns.in_pattern q).names) whole) (each_first IsNameToken (pattern_tokens q) (expression_tokens a) t.1) _,
      i.0 (with_values (patterns.in_pattern q).names s) (each_last IsNoBreach (patterns.whole (patterns.in_pattern q) s) ((N.in_expression a).finds (with_values (patterns.in_pattern q).names s)) n)
          (each_last IsNameToken (pattern_tokens q) (expression_tokens a) t.1) _,
      h,
    ))

of_ExpressionField : (b : Bool) (x : Name) (u : Option TypeExpression) (a : Option Expression) → Within C.of_Expression a
    → C.of_ExpressionField (roll-ExpressionField (record { mutable = b; name = x; annotation = u; value = a }))
of_ExpressionField b x u None i =
    as_field _ _ _ _ _ _ (S.seen_ExpressionField b x u None) (F.found_ExpressionField b x u None) (W.tokens_ExpressionField b x u None) (λ s n t k rest.
    let value = N.field_value x None s in
    let behind = each_last IsNoBreach (label x) (N.annotation u s ++ value) n in
    let tokens = each_last IsNameToken (marked b (token.Reserved w.Var)) (token.Identifier x ∷ annotation (option_map type_tokens u) ++ led (token.Mark m.EqualSign) None) t in
    (λ h. (annotation_source u s (each_first IsNoBreach (N.annotation u s) value behind) (each_first IsNameToken (annotation (option_map type_tokens u)) (led (token.Mark m.EqualSign) None) tokens.1) _, tt, h), refl))
of_ExpressionField b x u (Some a) i =
    as_field _ _ _ _ _ _ (S.seen_ExpressionField b x u (Some a)) (F.found_ExpressionField b x u (Some a)) (W.tokens_ExpressionField b x u (Some a)) (λ s n t k rest.
    let behind = each_last IsNoBreach (label x) (N.annotation u s ++ (N.in_expression a).finds s) n in
    let tokens = each_last IsNameToken (marked b (token.Reserved w.Var)) (token.Identifier x ∷ annotation (option_map type_tokens u) ++ led (token.Mark m.EqualSign) (Some (expression_tokens a))) t in (
      λ h. (
        annotation_source u s (each_first IsNoBreach (N.annotation u s) ((N.in_expression a).finds s) behind) (each_first IsNameToken (annotation (option_map type_tokens u)) (led (token.Mark m.EqualSign) (Some (expression_tokens a))) tokens.1) _,
        i.0 s (each_last IsNoBreach (N.annotation u s) ((N.in_expression a).finds s) behind) (each_last IsNameToken (annotation (option_map type_tokens u)) (led (token.Mark m.EqualSign) (Some (expression_tokens a))) tokens.1).1 _,
        h,
      ),
      refl,
    ))

-- ---- all cases

of_If : (c a : Expression) (b : Option Expression) → C.of_Expression c → C.of_Expression a → Within C.of_Expression b → C.of_Expression (e.If c a b)
of_If c a None i j l = of_If_None c a i j
of_If c a (Some b) i j l = of_If_Some c a b i j l

of_Loop : (a : Expression) (c : Option Expression) → C.of_Expression a → Within C.of_Expression c → C.of_Expression (e.Loop a c)
of_Loop a None i j = of_Loop_None a i
of_Loop a (Some c) i j = of_Loop_Some a c i j

of_Break : (x : Name) (a : Option Expression) → Within C.of_Expression a → C.of_Expression (e.Break x a)
of_Break x None i = of_Break_None x
of_Break x (Some a) i = of_Break_Some x a i

of_Return : (a : Option Expression) → Within C.of_Expression a → C.of_Expression (e.Return a)
of_Return None i = of_Return_None
of_Return (Some a) i = of_Return_Some a i

of_Tagged : (x : Name) (a : Option Expression) → Within C.of_Expression a → C.of_Expression (e.Tagged x a)
of_Tagged x None i = of_Tagged_None x
of_Tagged x (Some a) i = of_Tagged_Some x a i

of_Call : (a : Expression) (us : Option (List TypeExpression)) (xs : List Expression) → C.of_Expression a → Each C.of_Expression xs → C.of_Expression (e.Call a us xs)
of_Call a None xs i j = of_Call_None a xs i j
of_Call a (Some us) xs i j = of_Call_Some a us xs i j

of_TypeAlias : (x : Name) (xs : Option (List Name)) (u : TypeExpression) → C.of_Declaration (d.TypeAlias x xs u)
of_TypeAlias x None u = of_TypeAlias_None x u
of_TypeAlias x (Some xs) u = of_TypeAlias_Some x xs u

all_cases : Cases C
all_cases = record {
  Let = of_Let;
  Var = of_Var;
  Func = of_Func;
  TypeAlias = of_TypeAlias;
  Class = of_Class;
  NamedObject = of_NamedObject;
  Evaluate = of_Evaluate;
  Assign = of_Assign;
  Annotated = of_Annotated;
  Binary = of_Binary;
  If = of_If;
  Switch = of_Switch;
  While = of_While;
  Loop = of_Loop;
  For = of_For;
  Label = of_Label;
  Break = of_Break;
  Continue = of_Continue;
  Return = of_Return;
  Do = of_Do;
  DoOptional = of_DoOptional;
  Await = of_Await;
  Throw = of_Throw;
  Try = of_Try;
  Assert = of_Assert;
  Ignore = of_Ignore;
  Debug = of_Debug;
  Function = of_Function;
  ObjectBlock = of_ObjectBlock;
  Optional = of_Optional;
  Negative = of_Negative;
  Not = of_Not;
  Tagged = of_Tagged;
  Member = of_Member;
  Projection = of_Projection;
  Index = of_Index;
  Call = of_Call;
  Bang = of_Bang;
  Constant = of_Constant;
  Variable = of_Variable;
  Parenthesized = of_Parenthesized;
  Array = of_Array;
  Object = of_Object;
  ActorReference = of_ActorReference;
  Block = of_Block;
  DeclarationField_ = of_DeclarationField;
  Case_ = of_Case;
  ExpressionField_ = of_ExpressionField;
}

pub declaration_fine : (x : Declaration) → C.of_Declaration x
declaration_fine x = holds_Declaration C all_cases x

pub expression_fine : (x : Expression) → C.of_Expression x
expression_fine x = holds_Expression C all_cases x
