-- An expression or declaration takes as many tokens as it is written in.
use Rattle.std.proofs.Common.{◌≡◌, ℕ, ◌+◌, Bool, true, false, List, [], ◌∷◌, length, map, Option, Some, None, option_map, refl, arith}
use Rattle.std.proofs.lemmas.List.{length-append}
use Rattle.mo_syntax.specs.declared.text.Text.{Text}
use Rattle.mo_syntax.specs.declared.name.Name.{Name}
use Rattle.mo_syntax.specs.declared.token.TokenKind.TheVariants as t
use Rattle.mo_syntax.specs.declared.word.Word.TheVariants as w
use Rattle.mo_syntax.specs.declared.mark.Mark.TheVariants as m
use Rattle.mo_syntax.specs.declared.types.TypeExpression.{TypeExpression}
use Rattle.mo_syntax.specs.declared.types.TypeParameter.{TypeParameter}
use Rattle.mo_syntax.specs.declared.patterns.Pattern.{Pattern}
use Rattle.mo_syntax.specs.declared.patterns.Parameters.{Parameters}
use Rattle.mo_syntax.specs.declared.operators.BinaryOperator.{BinaryOperator}
use Rattle.mo_syntax.specs.declared.operators.AssignmentOperator.{AssignmentOperator}
use Rattle.mo_syntax.specs.declared.declarations.Visibility.{Visibility}
use Rattle.mo_syntax.specs.declared.declarations.Visibility.TheVariants as visible
use Rattle.mo_syntax.specs.declared.expressions.Expression.{Expression}
use Rattle.mo_syntax.specs.declared.expressions.Expression.TheVariants as e
use Rattle.mo_syntax.specs.declared.declarations.Declaration.{Declaration}
use Rattle.mo_syntax.specs.declared.declarations.Declaration.TheVariants as d
use Rattle.mo_syntax.specs.declared.declarations.DeclarationField.{DeclarationField, roll-DeclarationField}
use Rattle.mo_syntax.specs.declared.expressions.Case.{Case, roll-Case}
use Rattle.mo_syntax.specs.declared.expressions.ExpressionField.{ExpressionField, roll-ExpressionField}
use Rattle.mo_syntax.specs.Parts.{Each, Within}
use Rattle.mo_syntax.specs.Writing as writing
use Rattle.mo_syntax.specs.Writing.{separated, marked}
use Rattle.mo_syntax.specs.TypeGrammar.{type_tokens, type_parameters_tokens}
use Rattle.mo_syntax.specs.PatternGrammar.{pattern_tokens, parameters_tokens}
use Rattle.mo_syntax.specs.ExpressionGrammar.{expression_tokens, declaration_tokens, declaration_field_tokens, case_tokens, expression_field_tokens, signature}
use Rattle.mo_syntax.proofs.ExpressionEquations as W
use Rattle.mo_syntax.proofs.ExpressionInduction.{Claims, Cases, holds_Expression, holds_Declaration}
use Rattle.typing_rules.specs.Spans.{one, name_at, listed_size, flag, led}
use Rattle.typing_rules.specs.AbstractTypes.{in_type, annotation, generics_size}
use Rattle.typing_rules.specs.AbstractPatterns.{in_pattern, in_parameters}
use Rattle.typing_rules.specs.AbstractExpressions.{signature_span, in_expression, in_declaration, in_member, in_case, in_object_field}
use Rattle.typing_rules.proofs.ExpressionSpans as S
use Rattle.typing_rules.proofs.TypeSizes.{sizes, flagged, type_size}
use Rattle.typing_rules.proofs.PatternSizes.{every, pattern_size, parameters_size, annotation_size, generics_are}

abbrev claims : Claims
claims = record {
  of_Declaration = λ x. (in_declaration x).size ≡ length (declaration_tokens x);
  of_Expression = λ x. (in_expression x).size ≡ length (expression_tokens x);
  of_DeclarationField = λ x. (in_member x).size ≡ length (declaration_field_tokens x);
  of_Case = λ x. (in_case x).size ≡ length (case_tokens x);
  of_ExpressionField = λ x. (in_object_field x).size ≡ length (expression_field_tokens x);
}

pub signature_size : (gs : Option (List TypeParameter)) (qs : Parameters) (a : Option TypeExpression) (b : Bool)
    → (signature_span gs qs a b).size ≡ length (type_parameters_tokens gs) + length (signature (parameters_tokens qs) (option_map type_tokens a) b)
signature_size gs qs a b =
    let g : generics_size gs ≡ length (type_parameters_tokens gs) = generics_are gs in
    let h : (in_parameters qs).size ≡ length (parameters_tokens qs) = parameters_size qs in
    let i : led 1 (annotation a) ≡ length (writing.annotation (option_map type_tokens a)) = annotation_size a in
    let j : flag b ≡ length (marked b (t.Mark m.EqualSign)) = flagged b (t.Mark m.EqualSign) in
    rw (length-append, length-append) (omega arith)

of_Assign : (o : AssignmentOperator) (a : Expression) (b : Expression) → claims.of_Expression a → claims.of_Expression b → claims.of_Expression (e.Assign o a b)
of_Assign o a b h g =
    rw (S.seen_Assign o a b, W.tokens_Assign o a b, length-append) (omega arith)

of_Annotated : (a : Expression) (k : TypeExpression) → claims.of_Expression a → claims.of_Expression (e.Annotated a k)
of_Annotated a k h =
    let i : (in_type k).size ≡ length (type_tokens k) = type_size k in
    rw (S.seen_Annotated a k, W.tokens_Annotated a k, length-append) (omega arith)

of_Binary : (o : BinaryOperator) (a : Expression) (b : Expression) → claims.of_Expression a → claims.of_Expression b → claims.of_Expression (e.Binary o a b)
of_Binary o a b h g =
    rw (S.seen_Binary o a b, W.tokens_Binary o a b, length-append) (omega arith)

of_If : (c a : Expression) (b : Option Expression) → claims.of_Expression c → claims.of_Expression a → Within claims.of_Expression b → claims.of_Expression (e.If c a b)
of_If c a None h g i = rw (S.seen_If c a None, W.tokens_If c a None, length-append, length-append) (omega arith)
of_If c a (Some b) h g i = rw (S.seen_If c a (Some b), W.tokens_If c a (Some b), length-append, length-append) (omega arith)

of_Loop : (a : Expression) (c : Option Expression) → claims.of_Expression a → Within claims.of_Expression c → claims.of_Expression (e.Loop a c)
of_Loop a None h g = rw (S.seen_Loop a None, W.tokens_Loop a None, length-append) (omega arith)
of_Loop a (Some c) h g = rw (S.seen_Loop a (Some c), W.tokens_Loop a (Some c), length-append) (omega arith)

of_Break : (x : Name) (a : Option Expression) → Within claims.of_Expression a → claims.of_Expression (e.Break x a)
of_Break x None h = rw (S.seen_Break x None, W.tokens_Break x None) refl
of_Break x (Some a) h = rw (S.seen_Break x (Some a), W.tokens_Break x (Some a)) (omega arith)

of_Return : (a : Option Expression) → Within claims.of_Expression a → claims.of_Expression (e.Return a)
of_Return None h = rw (S.seen_Return None, W.tokens_Return None) refl
of_Return (Some a) h = rw (S.seen_Return (Some a), W.tokens_Return (Some a)) (omega arith)

of_Tagged : (x : Name) (a : Option Expression) → Within claims.of_Expression a → claims.of_Expression (e.Tagged x a)
of_Tagged x None h = rw (S.seen_Tagged x None, W.tokens_Tagged x None) refl
of_Tagged x (Some a) h = rw (S.seen_Tagged x (Some a), W.tokens_Tagged x (Some a)) (omega arith)

of_ActorReference : (b : Bool) (x : Text) → claims.of_Expression (e.ActorReference b x)
of_ActorReference true x = rw (S.seen_ActorReference true x, W.tokens_ActorReference true x) refl
of_ActorReference false x = rw (S.seen_ActorReference false x, W.tokens_ActorReference false x) refl

of_Call : (a : Expression) (us : Option (List TypeExpression)) (xs : List Expression) → claims.of_Expression a → Each claims.of_Expression xs → claims.of_Expression (e.Call a us xs)
of_Call a None xs h hs =
    let b1 : listed_size (map in_expression xs) ≡ length (separated (t.Mark m.Comma) (map expression_tokens xs)) = sizes in_expression expression_tokens (t.Mark m.Comma) xs hs in
    rw (S.seen_Call a None xs, W.tokens_Call a None xs, length-append, length-append, length-append) (omega arith)
of_Call a (Some us) xs h hs =
    let b1 : listed_size (map in_expression xs) ≡ length (separated (t.Mark m.Comma) (map expression_tokens xs)) = sizes in_expression expression_tokens (t.Mark m.Comma) xs hs in
    let b2 : listed_size (map in_type us) ≡ length (separated (t.Mark m.Comma) (map type_tokens us)) = sizes in_type type_tokens (t.Mark m.Comma) us (every _ type_size us) in
    rw (S.seen_Call a (Some us) xs, W.tokens_Call a (Some us) xs, length-append, length-append, length-append, length-append) (omega arith)

of_Switch : (c : Expression) (xs : List Case) (last : Bool) → claims.of_Expression c → Each claims.of_Case xs → claims.of_Expression (e.Switch c xs last)
of_Switch c xs last h hs =
    let b1 : listed_size (map in_case xs) ≡ length (separated (t.Mark m.Semicolon) (map case_tokens xs)) = sizes in_case case_tokens (t.Mark m.Semicolon) xs hs in
    let l1 : flag last ≡ length (marked last (t.Mark m.Semicolon)) = flagged last (t.Mark m.Semicolon) in
    rw (S.seen_Switch c xs last, W.tokens_Switch c xs last, length-append, length-append, length-append) (omega arith)

of_While : (c : Expression) (a : Expression) → claims.of_Expression c → claims.of_Expression a → claims.of_Expression (e.While c a)
of_While c a h g =
    rw (S.seen_While c a, W.tokens_While c a, length-append) (omega arith)

of_For : (q : Pattern) (a : Expression) (b : Expression) → claims.of_Expression a → claims.of_Expression b → claims.of_Expression (e.For q a b)
of_For q a b h g =
    let p1 : (in_pattern q).size ≡ length (pattern_tokens q) = pattern_size q in
    rw (S.seen_For q a b, W.tokens_For q a b, length-append, length-append, length-append) (omega arith)

of_Label : (x : Name) (k : Option TypeExpression) (a : Expression) → claims.of_Expression a → claims.of_Expression (e.Label x k a)
of_Label x k a h =
    let i1 : led 1 (annotation k) ≡ length (writing.annotation (option_map type_tokens k)) = annotation_size k in
    rw (S.seen_Label x k a, W.tokens_Label x k a, length-append) (omega arith)

of_Do : (a : Expression) → claims.of_Expression a → claims.of_Expression (e.Do a)
of_Do a h =
    rw (S.seen_Do a, W.tokens_Do a) (omega arith)

of_DoOptional : (a : Expression) → claims.of_Expression a → claims.of_Expression (e.DoOptional a)
of_DoOptional a h =
    rw (S.seen_DoOptional a, W.tokens_DoOptional a) (omega arith)

of_Await : (a : Expression) → claims.of_Expression a → claims.of_Expression (e.Await a)
of_Await a h =
    rw (S.seen_Await a, W.tokens_Await a) (omega arith)

of_Throw : (a : Expression) → claims.of_Expression a → claims.of_Expression (e.Throw a)
of_Throw a h =
    rw (S.seen_Throw a, W.tokens_Throw a) (omega arith)

of_Assert : (a : Expression) → claims.of_Expression a → claims.of_Expression (e.Assert a)
of_Assert a h =
    rw (S.seen_Assert a, W.tokens_Assert a) (omega arith)

of_Ignore : (a : Expression) → claims.of_Expression a → claims.of_Expression (e.Ignore a)
of_Ignore a h =
    rw (S.seen_Ignore a, W.tokens_Ignore a) (omega arith)

of_Debug : (a : Expression) → claims.of_Expression a → claims.of_Expression (e.Debug a)
of_Debug a h =
    rw (S.seen_Debug a, W.tokens_Debug a) (omega arith)

of_Optional : (a : Expression) → claims.of_Expression a → claims.of_Expression (e.Optional a)
of_Optional a h =
    rw (S.seen_Optional a, W.tokens_Optional a) (omega arith)

of_Negative : (a : Expression) → claims.of_Expression a → claims.of_Expression (e.Negative a)
of_Negative a h =
    rw (S.seen_Negative a, W.tokens_Negative a) (omega arith)

of_Not : (a : Expression) → claims.of_Expression a → claims.of_Expression (e.Not a)
of_Not a h =
    rw (S.seen_Not a, W.tokens_Not a) (omega arith)

of_Try : (a : Expression) (q : Pattern) (b : Expression) → claims.of_Expression a → claims.of_Expression b → claims.of_Expression (e.Try a q b)
of_Try a q b h g =
    let p1 : (in_pattern q).size ≡ length (pattern_tokens q) = pattern_size q in
    rw (S.seen_Try a q b, W.tokens_Try a q b, length-append, length-append) (omega arith)

of_Function : (qs : Parameters) (k : Option TypeExpression) (z : Bool) (a : Expression) → claims.of_Expression a → claims.of_Expression (e.Function qs k z a)
of_Function qs k z a h =
    let s1 : (signature_span None qs k z).size ≡ 0 + length (signature (parameters_tokens qs) (option_map type_tokens k) z) = signature_size None qs k z in
    rw (S.seen_Function qs k z a, W.tokens_Function qs k z a, length-append) (omega arith)

of_ObjectBlock : (xs : List DeclarationField) (last : Bool) → Each claims.of_DeclarationField xs → claims.of_Expression (e.ObjectBlock xs last)
of_ObjectBlock xs last hs =
    let b1 : listed_size (map in_member xs) ≡ length (separated (t.Mark m.Semicolon) (map declaration_field_tokens xs)) = sizes in_member declaration_field_tokens (t.Mark m.Semicolon) xs hs in
    let l1 : flag last ≡ length (marked last (t.Mark m.Semicolon)) = flagged last (t.Mark m.Semicolon) in
    rw (S.seen_ObjectBlock xs last, W.tokens_ObjectBlock xs last, length-append, length-append) (omega arith)

of_Member : (a : Expression) (x : Name) → claims.of_Expression a → claims.of_Expression (e.Member a x)
of_Member a x h =
    rw (S.seen_Member a x, W.tokens_Member a x, length-append) (omega arith)

of_Projection : (a : Expression) (n : ℕ) → claims.of_Expression a → claims.of_Expression (e.Projection a n)
of_Projection a n h =
    rw (S.seen_Projection a n, W.tokens_Projection a n, length-append) (omega arith)

of_Index : (a : Expression) (b : Expression) → claims.of_Expression a → claims.of_Expression b → claims.of_Expression (e.Index a b)
of_Index a b h g =
    rw (S.seen_Index a b, W.tokens_Index a b, length-append, length-append) (omega arith)

of_Bang : (a : Expression) → claims.of_Expression a → claims.of_Expression (e.Bang a)
of_Bang a h =
    rw (S.seen_Bang a, W.tokens_Bang a, length-append) (omega arith)

of_Parenthesized : (xs : List Expression) → Each claims.of_Expression xs → claims.of_Expression (e.Parenthesized xs)
of_Parenthesized xs hs =
    let b1 : listed_size (map in_expression xs) ≡ length (separated (t.Mark m.Comma) (map expression_tokens xs)) = sizes in_expression expression_tokens (t.Mark m.Comma) xs hs in
    rw (S.seen_Parenthesized xs, W.tokens_Parenthesized xs, length-append) (omega arith)

of_Array : (z : Bool) (xs : List Expression) → Each claims.of_Expression xs → claims.of_Expression (e.Array z xs)
of_Array z xs hs =
    let b1 : listed_size (map in_expression xs) ≡ length (separated (t.Mark m.Comma) (map expression_tokens xs)) = sizes in_expression expression_tokens (t.Mark m.Comma) xs hs in
    let z1 : flag z ≡ length (marked z (t.Reserved w.Var)) = flagged z (t.Reserved w.Var) in
    rw (S.seen_Array z xs, W.tokens_Array z xs, length-append, length-append) (omega arith)

of_Object : (xs : List ExpressionField) (last : Bool) → Each claims.of_ExpressionField xs → claims.of_Expression (e.Object xs last)
of_Object xs last hs =
    let b1 : listed_size (map in_object_field xs) ≡ length (separated (t.Mark m.Semicolon) (map expression_field_tokens xs)) = sizes in_object_field expression_field_tokens (t.Mark m.Semicolon) xs hs in
    let l1 : flag last ≡ length (marked last (t.Mark m.Semicolon)) = flagged last (t.Mark m.Semicolon) in
    rw (S.seen_Object xs last, W.tokens_Object xs last, length-append, length-append) (omega arith)

of_Block : (xs : List Declaration) (last : Bool) → Each claims.of_Declaration xs → claims.of_Expression (e.Block xs last)
of_Block xs last hs =
    let b1 : listed_size (map in_declaration xs) ≡ length (separated (t.Mark m.Semicolon) (map declaration_tokens xs)) = sizes in_declaration declaration_tokens (t.Mark m.Semicolon) xs hs in
    let l1 : flag last ≡ length (marked last (t.Mark m.Semicolon)) = flagged last (t.Mark m.Semicolon) in
    rw (S.seen_Block xs last, W.tokens_Block xs last, length-append, length-append) (omega arith)

of_Let : (q : Pattern) (a : Expression) → claims.of_Expression a → claims.of_Declaration (d.Let q a)
of_Let q a h =
    let p1 : (in_pattern q).size ≡ length (pattern_tokens q) = pattern_size q in
    rw (S.seen_Let q a, W.tokens_Let q a, length-append) (omega arith)

of_Var : (x : Name) (k : Option TypeExpression) (a : Expression) → claims.of_Expression a → claims.of_Declaration (d.Var x k a)
of_Var x k a h =
    let i1 : led 1 (annotation k) ≡ length (writing.annotation (option_map type_tokens k)) = annotation_size k in
    rw (S.seen_Var x k a, W.tokens_Var x k a, length-append) (omega arith)

of_Func : (x : Name) (gs : Option (List TypeParameter)) (qs : Parameters) (k : Option TypeExpression) (z : Bool) (a : Expression) → claims.of_Expression a → claims.of_Declaration (d.Func x gs qs k z a)
of_Func x gs qs k z a h =
    let s1 : (signature_span gs qs k z).size ≡ length (type_parameters_tokens gs) + length (signature (parameters_tokens qs) (option_map type_tokens k) z) = signature_size gs qs k z in
    rw (S.seen_Func x gs qs k z a, W.tokens_Func x gs qs k z a, length-append, length-append) (omega arith)

of_NamedObject : (x : Name) (xs : List DeclarationField) (last : Bool) → Each claims.of_DeclarationField xs → claims.of_Declaration (d.NamedObject x xs last)
of_NamedObject x xs last hs =
    let b1 : listed_size (map in_member xs) ≡ length (separated (t.Mark m.Semicolon) (map declaration_field_tokens xs)) = sizes in_member declaration_field_tokens (t.Mark m.Semicolon) xs hs in
    let l1 : flag last ≡ length (marked last (t.Mark m.Semicolon)) = flagged last (t.Mark m.Semicolon) in
    rw (S.seen_NamedObject x xs last, W.tokens_NamedObject x xs last, length-append, length-append) (omega arith)

of_Class : (x : Name) (gs : Option (List TypeParameter)) (qs : Parameters) (xs : List DeclarationField) (last : Bool) → Each claims.of_DeclarationField xs → claims.of_Declaration (d.Class x gs qs xs last)
of_Class x gs qs xs last hs =
    let b1 : listed_size (map in_member xs) ≡ length (separated (t.Mark m.Semicolon) (map declaration_field_tokens xs)) = sizes in_member declaration_field_tokens (t.Mark m.Semicolon) xs hs in
    let l1 : flag last ≡ length (marked last (t.Mark m.Semicolon)) = flagged last (t.Mark m.Semicolon) in
    let g1 : generics_size gs ≡ length (type_parameters_tokens gs) = generics_are gs in
    let q1 : (in_parameters qs).size ≡ length (parameters_tokens qs) = parameters_size qs in
    rw (S.seen_Class x gs qs xs last, W.tokens_Class x gs qs xs last, length-append, length-append, length-append, length-append) (omega arith)

of_Evaluate : (a : Expression) → claims.of_Expression a → claims.of_Declaration (d.Evaluate a)
of_Evaluate a h =
    rw (S.seen_Evaluate a, W.tokens_Evaluate a) h

of_TypeAlias : (x : Name) (xs : Option (List Name)) (k : TypeExpression) → claims.of_Declaration (d.TypeAlias x xs k)
of_TypeAlias x None k = let i : (in_type k).size ≡ length (type_tokens k) = type_size k in rw (S.seen_TypeAlias x None k, W.tokens_TypeAlias x None k) (omega arith)
of_TypeAlias x (Some xs) k =
    let i : (in_type k).size ≡ length (type_tokens k) = type_size k in
    let b : listed_size (map (λ y. one (name_at y)) xs) ≡ length (separated (t.Mark m.Comma) (map (λ y. t.Identifier y ∷ []) xs)) = sizes (λ y. one (name_at y)) (λ y. t.Identifier y ∷ []) (t.Mark m.Comma) xs (every _ (λ y. refl) xs) in
    rw (S.seen_TypeAlias x (Some xs) k, W.tokens_TypeAlias x (Some xs) k, length-append, length-append) (omega arith)

of_DeclarationField : (x : Option Visibility) (y : Declaration) → claims.of_Declaration y → claims.of_DeclarationField (roll-DeclarationField (record { visibility = x; declaration = y }))
of_DeclarationField None y h = rw (S.seen_DeclarationField None y, W.tokens_DeclarationField None y) (omega arith)
of_DeclarationField (Some visible.Public) y h = rw (S.seen_DeclarationField (Some visible.Public) y, W.tokens_DeclarationField (Some visible.Public) y) (omega arith)
of_DeclarationField (Some visible.Private) y h = rw (S.seen_DeclarationField (Some visible.Private) y, W.tokens_DeclarationField (Some visible.Private) y) (omega arith)

of_Case : (q : Pattern) (a : Expression) → claims.of_Expression a → claims.of_Case (roll-Case (record { pattern = q; body = a }))
of_Case q a h = let p1 : (in_pattern q).size ≡ length (pattern_tokens q) = pattern_size q in rw (S.seen_Case q a, W.tokens_Case q a, length-append) (omega arith)

of_ExpressionField : (z : Bool) (x : Name) (k : Option TypeExpression) (a : Option Expression) → Within claims.of_Expression a
    → claims.of_ExpressionField (roll-ExpressionField (record { mutable = z; name = x; annotation = k; value = a }))
of_ExpressionField z x k None h =
    let i1 : led 1 (annotation k) ≡ length (writing.annotation (option_map type_tokens k)) = annotation_size k in
    let z1 : flag z ≡ length (marked z (t.Reserved w.Var)) = flagged z (t.Reserved w.Var) in
    rw (S.seen_ExpressionField z x k None, W.tokens_ExpressionField z x k None, length-append, length-append) (omega arith)
of_ExpressionField z x k (Some a) h =
    let i1 : led 1 (annotation k) ≡ length (writing.annotation (option_map type_tokens k)) = annotation_size k in
    let z1 : flag z ≡ length (marked z (t.Reserved w.Var)) = flagged z (t.Reserved w.Var) in
    rw (S.seen_ExpressionField z x k (Some a), W.tokens_ExpressionField z x k (Some a), length-append, length-append) (omega arith)

cases : Cases claims
cases = record {
  Let = of_Let;
  Var = of_Var;
  Func = of_Func;
  TypeAlias = of_TypeAlias;
  Class = of_Class;
  NamedObject = of_NamedObject;
  Evaluate = of_Evaluate;
  Assign = of_Assign;
  Annotated = of_Annotated;
  Binary = of_Binary;
  If = of_If;
  Switch = of_Switch;
  While = of_While;
  Loop = of_Loop;
  For = of_For;
  Label = of_Label;
  Break = of_Break;
  Return = of_Return;
  Do = of_Do;
  DoOptional = of_DoOptional;
  Await = of_Await;
  Throw = of_Throw;
  Try = of_Try;
  Assert = of_Assert;
  Ignore = of_Ignore;
  Debug = of_Debug;
  Function = of_Function;
  ObjectBlock = of_ObjectBlock;
  Optional = of_Optional;
  Negative = of_Negative;
  Not = of_Not;
  Tagged = of_Tagged;
  Member = of_Member;
  Projection = of_Projection;
  Index = of_Index;
  Call = of_Call;
  Bang = of_Bang;
  Parenthesized = of_Parenthesized;
  Array = of_Array;
  Object = of_Object;
  ActorReference = of_ActorReference;
  Block = of_Block;
  Continue = λ x. rw (S.seen_Continue x, W.tokens_Continue x) refl;
  Constant = λ l. rw (S.seen_Constant l, W.tokens_Constant l) refl;
  Variable = λ x. rw (S.seen_Variable x, W.tokens_Variable x) refl;
  DeclarationField_ = of_DeclarationField;
  Case_ = of_Case;
  ExpressionField_ = of_ExpressionField;
}

pub expression_size : (a : Expression) → (in_expression a).size ≡ length (expression_tokens a)
expression_size a = holds_Expression claims cases a

pub declaration_size : (x : Declaration) → (in_declaration x).size ≡ length (declaration_tokens x)
declaration_size x = holds_Declaration claims cases x
