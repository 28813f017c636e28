-- The abstract syntax of expressions and declarations (Motoko language manual, sections "Expressions" and "Declarations").
use Rattle.std.specs.Prelude.{ℕ, ◌+◌, Bool, true, false, List, [], ◌∷◌, Option, Some, None, option_map, map}
use Rattle.mo_syntax.specs.declared.name.Name.{Name}
use Rattle.mo_syntax.specs.declared.types.TypeExpression.{TypeExpression}
use Rattle.mo_syntax.specs.declared.types.TypeParameter as generic
use Rattle.mo_syntax.specs.declared.patterns.Parameters.{Parameters}
use Rattle.mo_syntax.specs.declared.operators.BinaryOperator.TheVariants as op
use Rattle.mo_syntax.specs.declared.operators.AssignmentOperator.{AssignmentOperator}
use Rattle.mo_syntax.specs.declared.operators.AssignmentOperator.TheVariants as assign
use Rattle.mo_syntax.specs.declared.declarations.Visibility.{Visibility}
use Rattle.mo_syntax.specs.declared.declarations.Visibility.TheVariants as visible
use Rattle.mo_syntax.specs.declared.expressions.Expression as tree
use Rattle.mo_syntax.specs.declared.declarations.Declaration as declared
use Rattle.mo_syntax.specs.declared.declarations.DeclarationField as member
use Rattle.mo_syntax.specs.declared.expressions.Case as branch
use Rattle.mo_syntax.specs.declared.expressions.ExpressionField as object_field
use Rattle.mo_syntax.specs.declared.declarations.Declaration.TheOpen as F
use Rattle.typing_rules.specs.AbstractSyntax.{Named, TypeNode, Signature, Expression, Expressions, Cases, ObjectFields, Declaration, Declarations}
use Rattle.typing_rules.specs.AbstractSyntax as p
use Rattle.typing_rules.specs.Spans.{Span, one, name_at, literal_of, flag, led, at_led, listed_from, listed_size}
use Rattle.typing_rules.specs.AbstractTypes.{in_type, annotation, generics_spans, generics_size}
use Rattle.typing_rules.specs.AbstractPatterns.{in_pattern, in_parameters}

abbrev pub ExpressionSpan : Type 0
ExpressionSpan = Span (Expression ℕ)

abbrev pub DeclarationSpan : Type 0
DeclarationSpan = Span (Declaration ℕ)

-- a declaration of an object or class, with `public` or not
abbrev pub MemberSpan : Type 0
MemberSpan = Span (Bool × Declaration ℕ)

abbrev pub CaseSpan : Type 0
CaseSpan = Span (Cases ℕ → Cases ℕ)

abbrev pub ObjectFieldSpan : Type 0
ObjectFieldSpan = Span (ObjectFields ℕ → ObjectFields ℕ)

abbrev pub expressions : List (Expression ℕ) → Expressions ℕ
expressions [] = p.Nil
expressions (a ∷ rest) = p.Cons a (expressions rest)

abbrev pub cases : List (Cases ℕ → Cases ℕ) → Cases ℕ
cases [] = p.NoCases
cases (f ∷ rest) = f (cases rest)

abbrev pub object_fields : List (ObjectFields ℕ → ObjectFields ℕ) → ObjectFields ℕ
object_fields [] = p.NoFields
object_fields (f ∷ rest) = f (object_fields rest)

abbrev pub declarations : List DeclarationSpan → ℕ → Declarations ℕ
declarations [] k = p.End
declarations (d ∷ rest) k = p.Then false k (d.from k) (declarations rest (k + d.size + 1))

abbrev pub members : List MemberSpan → ℕ → Declarations ℕ
members [] k = p.End
members (d ∷ rest) k = p.Then (d.from k).0 k (d.from k).1 (members rest (k + d.size + 1))

abbrev pub braces_size : {A : Type 0} → List (Span A) → Bool → ℕ
braces_size items last = 2 + listed_size items + flag last

abbrev pub items_at : List ExpressionSpan → ℕ → Expressions ℕ
items_at items k = expressions (listed_from items k)

-- One expression in parentheses is that expression itself.
abbrev pub parenthesized : List ExpressionSpan → ℕ → Expression ℕ
parenthesized (a ∷ []) k = a.from (k + 1)
parenthesized items k = p.exp k (p.Tuple (items_at items (k + 1)))

-- so many tokens before an only part
abbrev pub behind : ℕ → ExpressionSpan → (Expression ℕ → p.Form ℕ) → ExpressionSpan
behind n a f = record { size = n + a.size; from = λ k. p.exp k (f (a.from (k + n))) }

-- two parts, with a token between them, and so many before and behind them
abbrev pub between : ℕ → ExpressionSpan → ℕ → ExpressionSpan → ℕ → (Expression ℕ → Expression ℕ → p.Form ℕ) → ExpressionSpan
between n a m b l f = record { size = n + a.size + m + b.size + l; from = λ k. p.exp k (f (a.from (k + n)) (b.from (k + n + a.size + m))) }

abbrev pub may : ℕ → Option ExpressionSpan → p.Form ℕ → (Expression ℕ → p.Form ℕ) → ExpressionSpan
may n None form f = record { size = n; from = λ k. p.exp k form }
may n (Some a) form f = behind n a f

-- the form of an assignment
abbrev pub assigned : AssignmentOperator → Expression ℕ → Expression ℕ → p.Form ℕ
assigned assign.Plain q a = p.Assign q a
assigned assign.Add q a = p.AssignBy op.Add q a
assigned assign.Subtract q a = p.AssignBy op.Subtract q a
assigned assign.Multiply q a = p.AssignBy op.Multiply q a
assigned assign.Divide q a = p.AssignBy op.Divide q a
assigned assign.Remainder q a = p.AssignBy op.Remainder q a
assigned assign.Power q a = p.AssignBy op.Power q a
assigned assign.Concat q a = p.AssignBy op.Concat q a
assigned assign.AddWrap q a = p.AssignBy op.AddWrap q a
assigned assign.SubtractWrap q a = p.AssignBy op.SubtractWrap q a
assigned assign.MultiplyWrap q a = p.AssignBy op.MultiplyWrap q a

abbrev pub conditional : ExpressionSpan → ExpressionSpan → Option ExpressionSpan → ExpressionSpan
conditional c a None = between 1 c 0 a 0 p.When
conditional c a (Some b) = record {
  size = 1 + c.size + a.size + 1 + b.size;
  from = λ k. p.exp k (p.If (c.from (k + 1)) (a.from (k + 1 + c.size)) (b.from (k + 1 + c.size + a.size + 1)));
}

abbrev pub looped : ExpressionSpan → Option ExpressionSpan → ExpressionSpan
looped a None = behind 1 a p.Loop
looped a (Some c) = between 1 a 1 c 0 p.LoopWhile

-- `<T>(p) : A =`
abbrev pub signature_span : Option (List generic.TypeParameter) → Parameters → Option TypeExpression → Bool → Span (Signature ℕ)
signature_span generics qs result equal_sign = record {
  size = generics_size generics + (in_parameters qs).size + led 1 (annotation result) + flag equal_sign;
  from = λ k. record {
    generics = listed_from (generics_spans generics) (k + 1);
    parameters = (in_parameters qs).from (k + generics_size generics);
    result = at_led (annotation result) (k + generics_size generics + (in_parameters qs).size + 1);
  };
}

abbrev pub type_arguments : Option (List TypeExpression) → Option (List (Span TypeNode))
type_arguments types = option_map (map in_type) types

abbrev pub arguments_size : Option (List (Span TypeNode)) → ℕ
arguments_size None = 0
arguments_size (Some types) = 2 + listed_size types

abbrev pub expression_step : tree.Expression-F DeclarationSpan ExpressionSpan MemberSpan CaseSpan ObjectFieldSpan → ExpressionSpan
expression_step (F.Assign o a b) = between 0 a 1 b 0 (assigned o)
expression_step (F.Annotated a kind) = record { size = a.size + 1 + (in_type kind).size; from = λ k. p.exp k (p.Annotated (a.from k) ((in_type kind).from (k + a.size + 1))) }
expression_step (F.Binary o a b) = between 0 a 1 b 0 (p.Binary o)
expression_step (F.If c a otherwise) = conditional c a otherwise
expression_step (F.Switch c cs last) = record { size = 1 + c.size + braces_size cs last; from = λ k. p.exp k (p.Switch (c.from (k + 1)) (cases (listed_from cs (k + 1 + c.size + 1)))) }
expression_step (F.While c a) = between 1 c 0 a 0 p.While
expression_step (F.Loop a c) = looped a c
expression_step (F.For q a b) = record {
  size = 4 + (in_pattern q).size + a.size + b.size;
  from = λ k. p.exp k (p.For ((in_pattern q).from (k + 2)) (a.from (k + 2 + (in_pattern q).size + 1)) (b.from (k + 2 + (in_pattern q).size + 1 + a.size + 1)));
}
expression_step (F.Label x kind a) = record {
  size = 2 + led 1 (annotation kind) + a.size;
  from = λ k. p.exp k (p.Label x.bytes (at_led (annotation kind) (k + 3)) (a.from (k + 2 + led 1 (annotation kind))));
}
expression_step (F.Break x a) = may 2 a (p.Break x.bytes) (p.BreakWith x.bytes)
expression_step (F.Continue x) = record { size = 2; from = λ k. p.exp k (p.Continue x.bytes) }
expression_step (F.Return a) = may 1 a p.Return p.ReturnWith
expression_step (F.Do a) = behind 1 a p.Do
expression_step (F.DoOptional a) = behind 2 a p.DoOption
expression_step (F.Await a) = behind 1 a p.Await
expression_step (F.Throw a) = behind 1 a p.Throw
expression_step (F.Try a q b) = record {
  size = 2 + a.size + (in_pattern q).size + b.size;
  from = λ k. p.exp k (p.Try (a.from (k + 1)) ((in_pattern q).from (k + 1 + a.size + 1)) (b.from (k + 1 + a.size + 1 + (in_pattern q).size)));
}
expression_step (F.Assert a) = behind 1 a p.Assert
expression_step (F.Ignore a) = behind 1 a p.Ignore
expression_step (F.Debug a) = behind 1 a p.Debug
expression_step (F.Function qs result equal_sign body) = record {
  size = 1 + (signature_span None qs result equal_sign).size + body.size;
  from = λ k. p.exp k (p.Function ((signature_span None qs result equal_sign).from (k + 1)) (body.from (k + 1 + (signature_span None qs result equal_sign).size)));
}
expression_step (F.ObjectBlock fields last) = record { size = 1 + braces_size fields last; from = λ k. p.exp k (p.ObjectBlock (members fields (k + 2))) }
expression_step (F.Optional a) = behind 1 a p.Optional
expression_step (F.Negative a) = behind 1 a p.Negative
expression_step (F.Not a) = behind 1 a p.Not
expression_step (F.Tagged x payload) = may 2 payload (p.Tag x.bytes) (p.Tagged x.bytes)
expression_step (F.Member a x) = record { size = a.size + 2; from = λ k. p.exp k (p.Member (a.from k) x.bytes) }
expression_step (F.Projection a n) = record { size = a.size + 2; from = λ k. p.exp k (p.Projection (a.from k) n) }
expression_step (F.Index a b) = between 0 a 1 b 1 p.Index
expression_step (F.Call a types items) = record {
  size = a.size + arguments_size (type_arguments types) + 2 + listed_size items;
  from = λ k. p.exp k (p.Call (a.from k) (option_map (λ us. listed_from us (k + a.size + 1)) (type_arguments types)) (items_at items (k + a.size + arguments_size (type_arguments types) + 1)));
}
expression_step (F.Bang a) = record { size = a.size + 1; from = λ k. p.exp k (p.Bang (a.from k)) }
expression_step (F.Constant literal) = one (λ k. p.exp k (p.Constant (literal_of literal)))
expression_step (F.Variable x) = one (λ k. p.exp k (p.Name x.bytes))
expression_step (F.Parenthesized items) = record { size = 2 + listed_size items; from = parenthesized items }
expression_step (F.Array mutable items) = record { size = 2 + flag mutable + listed_size items; from = λ k. p.exp k (p.Array mutable (items_at items (k + 1 + flag mutable))) }
expression_step (F.Object fields last) = record { size = braces_size fields last; from = λ k. p.exp k (p.Object (object_fields (listed_from fields (k + 1)))) }
expression_step (F.ActorReference parentheses text) = record { size = 2 + flag parentheses + flag parentheses; from = λ k. p.exp k (p.ActorReference text.bytes) }
expression_step (F.Block ds last) = record { size = braces_size ds last; from = λ k. p.exp k (p.Block (declarations ds (k + 1))) }

abbrev pub declaration_step : declared.Declaration-F DeclarationSpan ExpressionSpan MemberSpan CaseSpan ObjectFieldSpan → DeclarationSpan
declaration_step (F.Let q a) = record { size = 2 + (in_pattern q).size + a.size; from = λ k. p.Let ((in_pattern q).from (k + 1)) (a.from (k + 2 + (in_pattern q).size)) }
declaration_step (F.Var x kind a) = record {
  size = 3 + led 1 (annotation kind) + a.size;
  from = λ k. p.Var false (name_at x (k + 1)) (at_led (annotation kind) (k + 3)) (a.from (k + 3 + led 1 (annotation kind)));
}
declaration_step (F.Func x generics qs result equal_sign body) = record {
  size = 2 + (signature_span generics qs result equal_sign).size + body.size;
  from = λ k. p.Func (name_at x (k + 1)) ((signature_span generics qs result equal_sign).from (k + 2)) (body.from (k + 2 + (signature_span generics qs result equal_sign).size));
}
declaration_step (F.TypeAlias x names kind) = record {
  size = 3 + names_size names + (in_type kind).size;
  from = λ k. p.TypeAlias (name_at x (k + 1)) (names_at names (k + 3)) ((in_type kind).from (k + 3 + names_size names));
}
  where
    parts : List Name → List (Span Named)
    parts xs = map (λ y. one (name_at y)) xs

    names_size : Option (List Name) → ℕ
    names_size None = 0
    names_size (Some xs) = 2 + listed_size (parts xs)

    names_at : Option (List Name) → ℕ → List Named
    names_at None k = []
    names_at (Some xs) k = listed_from (parts xs) k
declaration_step (F.Class x generics qs fields last) = record {
  size = 2 + (signature_span generics qs None false).size + braces_size fields last;
  from = λ k. p.Class (name_at x (k + 1)) ((signature_span generics qs None false).from (k + 2)) (members fields (k + 2 + (signature_span generics qs None false).size + 1));
}
declaration_step (F.NamedObject x fields last) = record { size = 2 + braces_size fields last; from = λ k. p.NamedObject (name_at x (k + 1)) (members fields (k + 3)) }
declaration_step (F.Evaluate a) = record { size = a.size; from = λ k. p.Evaluate (a.from k) }

abbrev pub visibility_size : Option Visibility → ℕ
visibility_size None = 0
visibility_size (Some x) = 1

abbrev pub is_public : Option Visibility → Bool
is_public (Some visible.Public) = true
is_public _ = false

abbrev pub declaration_field_step : F.DeclarationField-F DeclarationSpan ExpressionSpan MemberSpan CaseSpan ObjectFieldSpan → MemberSpan
declaration_field_step x = record { size = visibility_size x.visibility + x.declaration.size; from = λ k. (is_public x.visibility, x.declaration.from (k + visibility_size x.visibility)) }

abbrev pub case_step : F.Case-F DeclarationSpan ExpressionSpan MemberSpan CaseSpan ObjectFieldSpan → CaseSpan
case_step x = record {
  size = 1 + (in_pattern x.pattern).size + x.body.size;
  from = λ k rest. p.Case ((in_pattern x.pattern).from (k + 1)) (x.body.from (k + 1 + (in_pattern x.pattern).size)) rest;
}

-- A field without a value has that of its name.
abbrev pub field_value : Name → ℕ → ℕ → Option ExpressionSpan → Expression ℕ
field_value x here k None = p.exp here (p.Name x.bytes)
field_value x here k (Some a) = a.from k

abbrev pub expression_field_step : F.ExpressionField-F DeclarationSpan ExpressionSpan MemberSpan CaseSpan ObjectFieldSpan → ObjectFieldSpan
expression_field_step x = record {
  size = flag x.mutable + 1 + led 1 (annotation x.annotation) + led 1 x.value;
  from = λ k rest. p.Field x.mutable (name_at x.name (k + flag x.mutable)) (at_led (annotation x.annotation) (k + flag x.mutable + 2))
      (field_value x.name (k + flag x.mutable) (k + flag x.mutable + 1 + led 1 (annotation x.annotation) + 1) x.value) rest;
}

unfoldable pub in_expression : tree.Expression → ExpressionSpan
in_expression = tree.fold-Expression DeclarationSpan ExpressionSpan MemberSpan CaseSpan ObjectFieldSpan declaration_step expression_step declaration_field_step case_step expression_field_step

unfoldable pub in_declaration : declared.Declaration → DeclarationSpan
in_declaration = declared.fold-Declaration DeclarationSpan ExpressionSpan MemberSpan CaseSpan ObjectFieldSpan declaration_step expression_step declaration_field_step case_step expression_field_step

unfoldable pub in_member : member.DeclarationField → MemberSpan
in_member = member.fold-DeclarationField DeclarationSpan ExpressionSpan MemberSpan CaseSpan ObjectFieldSpan declaration_step expression_step declaration_field_step case_step expression_field_step

unfoldable pub in_case : branch.Case → CaseSpan
in_case = branch.fold-Case DeclarationSpan ExpressionSpan MemberSpan CaseSpan ObjectFieldSpan declaration_step expression_step declaration_field_step case_step expression_field_step

unfoldable pub in_object_field : object_field.ExpressionField → ObjectFieldSpan
in_object_field = object_field.fold-ExpressionField DeclarationSpan ExpressionSpan MemberSpan CaseSpan ObjectFieldSpan declaration_step expression_step declaration_field_step case_step expression_field_step
