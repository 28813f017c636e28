-- A written expression or declaration whose tokens are below a bound has only numbers below it.
use Rattle.std.proofs.Common.{◌≡◌, ◌<◌, ◌≤◌, ◌+◌, ℕ, Bool, false, List, [], ◌∷◌, map, Option, Some, None, option_map, arith}
use Rattle.mo_syntax.specs.declared.text.Text.{Text}
use Rattle.mo_syntax.specs.declared.name.Name.{Name}
use Rattle.mo_syntax.specs.declared.literal.Literal.{Literal}
use Rattle.mo_syntax.specs.declared.types.TypeExpression.{TypeExpression}
use Rattle.mo_syntax.specs.declared.types.TypeParameter.{TypeParameter}
use Rattle.mo_syntax.specs.declared.patterns.Pattern.{Pattern}
use Rattle.mo_syntax.specs.declared.patterns.Parameters.{Parameters}
use Rattle.mo_syntax.specs.declared.operators.BinaryOperator.{BinaryOperator}
use Rattle.mo_syntax.specs.declared.operators.AssignmentOperator.{AssignmentOperator}
use Rattle.mo_syntax.specs.declared.operators.AssignmentOperator.TheVariants as assign
use Rattle.mo_syntax.specs.declared.declarations.Visibility.{Visibility}
use Rattle.mo_syntax.specs.declared.expressions.Expression.{Expression}
use Rattle.mo_syntax.specs.declared.expressions.Expression.TheVariants as e
use Rattle.mo_syntax.specs.declared.declarations.Declaration.{Declaration}
use Rattle.mo_syntax.specs.declared.declarations.Declaration.TheVariants as d
use Rattle.mo_syntax.specs.declared.declarations.DeclarationField.{DeclarationField, roll-DeclarationField}
use Rattle.mo_syntax.specs.declared.expressions.Case.{Case, roll-Case}
use Rattle.mo_syntax.specs.declared.expressions.ExpressionField.{ExpressionField, roll-ExpressionField}
use Rattle.mo_syntax.specs.Parts.{Each, Within, EachWithin}
use Rattle.mo_syntax.proofs.ExpressionInduction.{Claims, holds_Expression, holds_Declaration}
use Rattle.mo_syntax.proofs.ExpressionInduction as induction
use Rattle.typing_rules.specs.AbstractSyntax.{Named, TypeNode, Form, Cases, ObjectFields}
use Rattle.typing_rules.specs.AbstractSyntax as p
use Rattle.typing_rules.specs.Spans.{one, name_at, literal_of, flag, led, listed_from, listed_size}
use Rattle.typing_rules.specs.AbstractTypes.{in_type, annotation}
use Rattle.typing_rules.specs.AbstractPatterns.{in_pattern}
use Rattle.typing_rules.specs.AbstractExpressions.{ExpressionSpan, DeclarationSpan, MemberSpan, expressions, cases, object_fields, declarations, members, parenthesized, behind, between, assigned, signature_span, type_arguments, arguments_size, visibility_size, in_expression, in_declaration, in_member, in_case, in_object_field}
use Rattle.typing_rules.proofs.ExpressionSpans as S
use Rattle.fault_places.specs.Numbers.{NameBelow, TypeBelow, ExpressionBelow, FormBelow, ExpressionsBelow, CasesBelow, ObjectFieldsBelow, DeclarationBelow, DeclarationsBelow}
use Rattle.fault_places.proofs.WrittenTypes.{Fits, each_fits, listed_fits, seen_part, type_fits, annotation_fits}
use Rattle.fault_places.proofs.WrittenPatterns.{pattern_fits, signature_fits}

module _ (n : ℕ) where
  -- what puts cases or fields before others
  abbrev CaseFits : (Cases ℕ → Cases ℕ) → Type 0
  CaseFits f = (rest : Cases ℕ) → CasesBelow n rest → CasesBelow n (f rest)

  abbrev FieldFits : (ObjectFields ℕ → ObjectFields ℕ) → Type 0
  FieldFits f = (rest : ObjectFields ℕ) → ObjectFieldsBelow n rest → ObjectFieldsBelow n (f rest)

  abbrev pub MemberFits : Bool × p.Declaration ℕ → Type 0
  MemberFits x = DeclarationBelow n x.1

  abbrev ExpressionFits : ExpressionSpan → Type 0
  ExpressionFits s = Fits n (ExpressionBelow n) s

  abbrev claims : Claims
  claims = record {
    of_Declaration = λ x. Fits n (DeclarationBelow n) (in_declaration x);
    of_Expression = λ x. ExpressionFits (in_expression x);
    of_DeclarationField = λ x. Fits n MemberFits (in_member x);
    of_Case = λ x. Fits n CaseFits (in_case x);
    of_ExpressionField = λ x. Fits n FieldFits (in_object_field x);
  }

  -- ---- lists

  expressions_below : (xs : List (p.Expression ℕ)) → Each (ExpressionBelow n) xs → ExpressionsBelow n (expressions xs)
  expressions_below [] h = tt
  expressions_below (x ∷ xs) h = (h.0, expressions_below xs h.1)

  cases_below : (fs : List (Cases ℕ → Cases ℕ)) → Each CaseFits fs → CasesBelow n (cases fs)
  cases_below [] h = tt
  cases_below (f ∷ fs) h = h.0 (cases fs) (cases_below fs h.1)

  fields_below : (fs : List (ObjectFields ℕ → ObjectFields ℕ)) → Each FieldFits fs → ObjectFieldsBelow n (object_fields fs)
  fields_below [] h = tt
  fields_below (f ∷ fs) h = h.0 (object_fields fs) (fields_below fs h.1)

  listed_cases : (xs : List Case) → Each claims.of_Case xs → (k : ℕ) → k + listed_size (map in_case xs) ≤ n → CasesBelow n (cases (listed_from (map in_case xs) k))
  listed_cases xs h k l = cases_below (listed_from (map in_case xs) k) (listed_fits n CaseFits in_case xs h k l)

  listed_fields : (xs : List ExpressionField) → Each claims.of_ExpressionField xs → (k : ℕ) → k + listed_size (map in_object_field xs) ≤ n → ObjectFieldsBelow n (object_fields (listed_from (map in_object_field xs) k))
  listed_fields xs h k l = fields_below (listed_from (map in_object_field xs) k) (listed_fits n FieldFits in_object_field xs h k l)

  declarations_below : (xs : List Declaration) → Each claims.of_Declaration xs → (k : ℕ) → k + listed_size (map in_declaration xs) ≤ n → DeclarationsBelow n (declarations (map in_declaration xs) k)
  declarations_below [] h k l = tt
  declarations_below (x ∷ []) h k l = ((h.0 k l).0, (h.0 k l).1, tt)
  declarations_below (x ∷ y ∷ rest) h k l =
      let i : k + ((in_declaration x).size + 1 + listed_size (map in_declaration (y ∷ rest))) ≤ n = l in
      let j = h.0 k (omega arith) in
      (j.0, j.1, declarations_below (y ∷ rest) h.1 (k + (in_declaration x).size + 1) (omega arith))

  module _ {X : Type 0} (f : X → MemberSpan) where
    pub members_below : (xs : List X) → Each (λ x. Fits n MemberFits (f x)) xs → (k : ℕ) → k + listed_size (map f xs) ≤ n → DeclarationsBelow n (members (map f xs) k)
    members_below [] h k l = tt
    members_below (x ∷ []) h k l = ((h.0 k l).0, (h.0 k l).1, tt)
    members_below (x ∷ y ∷ rest) h k l =
        let i : k + ((f x).size + 1 + listed_size (map f (y ∷ rest))) ≤ n = l in
        let j = h.0 k (omega arith) in
        (j.0, j.1, members_below (y ∷ rest) h.1 (k + (f x).size + 1) (omega arith))

  items_below : (xs : List Expression) → Each claims.of_Expression xs → (k : ℕ) → k + listed_size (map in_expression xs) ≤ n → ExpressionsBelow n (expressions (listed_from (map in_expression xs) k))
  items_below xs h k l = expressions_below (listed_from (map in_expression xs) k) (listed_fits n (ExpressionBelow n) in_expression xs h k l)

  -- ---- forms

  seen : (s t : ExpressionSpan) → s ≡ t → ExpressionFits t → ExpressionFits s
  seen s t q h = seen_part n (ExpressionBelow n) s t q h

  -- tokens before an only part
  one_part : (m : ℕ) (s : ExpressionSpan) (f : p.Expression ℕ → Form ℕ) → 0 < m → ExpressionFits s → ((a : p.Expression ℕ) → ExpressionBelow n a → FormBelow n (f a)) → ExpressionFits (behind m s f)
  one_part m s f z h g = λ k l.
      let i : k + (m + s.size) ≤ n = l in
      (omega arith, (omega arith, g _ (h (k + m) (omega arith)).1))

  two_parts : (a b c : ℕ) (s t : ExpressionSpan) (f : p.Expression ℕ → p.Expression ℕ → Form ℕ) → ExpressionFits s → ExpressionFits t
      → ((x y : p.Expression ℕ) → ExpressionBelow n x → ExpressionBelow n y → FormBelow n (f x y)) → ExpressionFits (between a s b t c f)
  two_parts a b c s t f h g i = λ k l.
      let j : k + (a + s.size + b + t.size + c) ≤ n = l in
      let x = h (k + a) (omega arith) in
      let y : k + a < n = x.0 in
      (omega arith, (omega arith, i _ _ x.1 (g (k + a + s.size + b) (omega arith)).1))

  no_part : (m : ℕ) (f : Form ℕ) → 0 < m → FormBelow n f → ExpressionFits (record { size = m; from = λ k. p.exp k f })
  no_part m f z h = λ k l. (omega arith, (omega arith, h))

  assigned_below : (o : AssignmentOperator) (q a : p.Expression ℕ) → ExpressionBelow n q → ExpressionBelow n a → FormBelow n (assigned o q a)
  assigned_below assign.Plain q a h g = (h, g)
  assigned_below assign.Add q a h g = (h, g)
  assigned_below assign.Subtract q a h g = (h, g)
  assigned_below assign.Multiply q a h g = (h, g)
  assigned_below assign.Divide q a h g = (h, g)
  assigned_below assign.Remainder q a h g = (h, g)
  assigned_below assign.Power q a h g = (h, g)
  assigned_below assign.Concat q a h g = (h, g)
  assigned_below assign.AddWrap q a h g = (h, g)
  assigned_below assign.SubtractWrap q a h g = (h, g)
  assigned_below assign.MultiplyWrap q a h g = (h, g)

  of_Assign : (o : AssignmentOperator) (a b : Expression) → claims.of_Expression a → claims.of_Expression b → claims.of_Expression (e.Assign o a b)
  of_Assign o a b h g = seen _ _ (S.seen_Assign o a b) (two_parts 0 1 0 (in_expression a) (in_expression b) (assigned o) h g (λ x y i j. assigned_below o x y i j))

  of_Annotated : (a : Expression) (u : TypeExpression) → claims.of_Expression a → claims.of_Expression (e.Annotated a u)
  of_Annotated a u h = seen _ _ (S.seen_Annotated a u) (λ k l.
      let i : k + ((in_expression a).size + 1 + (in_type u).size) ≤ n = l in
      (omega arith, (omega arith, ((h k (omega arith)).1, (type_fits n u (k + (in_expression a).size + 1) (omega arith)).1))))

  of_Binary : (o : BinaryOperator) (a b : Expression) → claims.of_Expression a → claims.of_Expression b → claims.of_Expression (e.Binary o a b)
  of_Binary o a b h g = seen _ _ (S.seen_Binary o a b) (two_parts 0 1 0 (in_expression a) (in_expression b) (p.Binary o) h g (λ x y i j. (i, j)))

  of_If : (c a : Expression) (b : Option Expression) → claims.of_Expression c → claims.of_Expression a → Within claims.of_Expression b → claims.of_Expression (e.If c a b)
  of_If c a None h g i = seen _ _ (S.seen_If c a None) (two_parts 1 0 0 (in_expression c) (in_expression a) p.When h g (λ x y j r. (j, r)))
  of_If c a (Some b) h g i = seen _ _ (S.seen_If c a (Some b)) (λ k l.
      let j : k + (1 + (in_expression c).size + (in_expression a).size + 1 + (in_expression b).size) ≤ n = l in (
        omega arith,
        (
          omega arith,
          ((h (k + 1) (omega arith)).1, (g (k + 1 + (in_expression c).size) (omega arith)).1, (i (k + 1 + (in_expression c).size + (in_expression a).size + 1) (omega arith)).1),
        ),
      ))

  of_Switch : (c : Expression) (xs : List Case) (last : Bool) → claims.of_Expression c → Each claims.of_Case xs → claims.of_Expression (e.Switch c xs last)
  of_Switch c xs last h g = seen _ _ (S.seen_Switch c xs last) (λ k l.
      let j : k + (1 + (in_expression c).size + (2 + listed_size (map in_case xs) + flag last)) ≤ n = l in
      (omega arith, (omega arith, ((h (k + 1) (omega arith)).1, listed_cases xs g (k + 1 + (in_expression c).size + 1) (omega arith)))))

  of_While : (c a : Expression) → claims.of_Expression c → claims.of_Expression a → claims.of_Expression (e.While c a)
  of_While c a h g = seen _ _ (S.seen_While c a) (two_parts 1 0 0 (in_expression c) (in_expression a) p.While h g (λ x y i j. (i, j)))

  of_Loop : (a : Expression) (c : Option Expression) → claims.of_Expression a → Within claims.of_Expression c → claims.of_Expression (e.Loop a c)
  of_Loop a None h g = seen _ _ (S.seen_Loop a None) (one_part 1 (in_expression a) p.Loop (omega arith) h (λ x i. i))
  of_Loop a (Some c) h g = seen _ _ (S.seen_Loop a (Some c)) (two_parts 1 1 0 (in_expression a) (in_expression c) p.LoopWhile h g (λ x y i j. (i, j)))

  of_For : (q : Pattern) (a b : Expression) → claims.of_Expression a → claims.of_Expression b → claims.of_Expression (e.For q a b)
  of_For q a b h g = seen _ _ (S.seen_For q a b) (λ k l.
      let j : k + (4 + (in_pattern q).size + (in_expression a).size + (in_expression b).size) ≤ n = l in (
        omega arith,
        (
          omega arith,
          ((pattern_fits n q (k + 2) (omega arith)).1, (h (k + 2 + (in_pattern q).size + 1) (omega arith)).1, (g (k + 2 + (in_pattern q).size + 1 + (in_expression a).size + 1) (omega arith)).1),
        ),
      ))

  of_Label : (x : Name) (u : Option TypeExpression) (a : Expression) → claims.of_Expression a → claims.of_Expression (e.Label x u a)
  of_Label x u a h = seen _ _ (S.seen_Label x u a) (λ k l.
      let j : k + (2 + led 1 (annotation u) + (in_expression a).size) ≤ n = l in
      (omega arith, (omega arith, (annotation_fits n u (k + 3) (omega arith), (h (k + 2 + led 1 (annotation u)) (omega arith)).1))))

  of_Break : (x : Name) (a : Option Expression) → Within claims.of_Expression a → claims.of_Expression (e.Break x a)
  of_Break x None h = seen _ _ (S.seen_Break x None) (no_part 2 (p.Break x.bytes) (omega arith) tt)
  of_Break x (Some a) h = seen _ _ (S.seen_Break x (Some a)) (one_part 2 (in_expression a) (p.BreakWith x.bytes) (omega arith) h (λ x i. i))

  of_Continue : (x : Name) → claims.of_Expression (e.Continue x)
  of_Continue x = seen _ _ (S.seen_Continue x) (no_part 2 (p.Continue x.bytes) (omega arith) tt)

  of_Return : (a : Option Expression) → Within claims.of_Expression a → claims.of_Expression (e.Return a)
  of_Return None h = seen _ _ (S.seen_Return None) (no_part 1 p.Return (omega arith) tt)
  of_Return (Some a) h = seen _ _ (S.seen_Return (Some a)) (one_part 1 (in_expression a) p.ReturnWith (omega arith) h (λ x i. i))

  of_Do : (a : Expression) → claims.of_Expression a → claims.of_Expression (e.Do a)
  of_Do a h = seen _ _ (S.seen_Do a) (one_part 1 (in_expression a) p.Do (omega arith) h (λ x i. i))

  of_DoOptional : (a : Expression) → claims.of_Expression a → claims.of_Expression (e.DoOptional a)
  of_DoOptional a h = seen _ _ (S.seen_DoOptional a) (one_part 2 (in_expression a) p.DoOption (omega arith) h (λ x i. i))

  of_Await : (a : Expression) → claims.of_Expression a → claims.of_Expression (e.Await a)
  of_Await a h = seen _ _ (S.seen_Await a) (one_part 1 (in_expression a) p.Await (omega arith) h (λ x i. i))

  of_Throw : (a : Expression) → claims.of_Expression a → claims.of_Expression (e.Throw a)
  of_Throw a h = seen _ _ (S.seen_Throw a) (one_part 1 (in_expression a) p.Throw (omega arith) h (λ x i. i))

  of_Assert : (a : Expression) → claims.of_Expression a → claims.of_Expression (e.Assert a)
  of_Assert a h = seen _ _ (S.seen_Assert a) (one_part 1 (in_expression a) p.Assert (omega arith) h (λ x i. i))

  of_Ignore : (a : Expression) → claims.of_Expression a → claims.of_Expression (e.Ignore a)
  of_Ignore a h = seen _ _ (S.seen_Ignore a) (one_part 1 (in_expression a) p.Ignore (omega arith) h (λ x i. i))

  of_Debug : (a : Expression) → claims.of_Expression a → claims.of_Expression (e.Debug a)
  of_Debug a h = seen _ _ (S.seen_Debug a) (one_part 1 (in_expression a) p.Debug (omega arith) h (λ x i. i))

  of_Optional : (a : Expression) → claims.of_Expression a → claims.of_Expression (e.Optional a)
  of_Optional a h = seen _ _ (S.seen_Optional a) (one_part 1 (in_expression a) p.Optional (omega arith) h (λ x i. i))

  of_Negative : (a : Expression) → claims.of_Expression a → claims.of_Expression (e.Negative a)
  of_Negative a h = seen _ _ (S.seen_Negative a) (one_part 1 (in_expression a) p.Negative (omega arith) h (λ x i. i))

  of_Not : (a : Expression) → claims.of_Expression a → claims.of_Expression (e.Not a)
  of_Not a h = seen _ _ (S.seen_Not a) (one_part 1 (in_expression a) p.Not (omega arith) h (λ x i. i))

  of_Try : (a : Expression) (q : Pattern) (b : Expression) → claims.of_Expression a → claims.of_Expression b → claims.of_Expression (e.Try a q b)
  of_Try a q b h g = seen _ _ (S.seen_Try a q b) (λ k l.
      let j : k + (2 + (in_expression a).size + (in_pattern q).size + (in_expression b).size) ≤ n = l in (
        omega arith,
        (
          omega arith,
          ((h (k + 1) (omega arith)).1, (pattern_fits n q (k + 1 + (in_expression a).size + 1) (omega arith)).1, (g (k + 1 + (in_expression a).size + 1 + (in_pattern q).size) (omega arith)).1),
        ),
      ))

  of_Function : (qs : Parameters) (u : Option TypeExpression) (z : Bool) (a : Expression) → claims.of_Expression a → claims.of_Expression (e.Function qs u z a)
  of_Function qs u z a h = seen _ _ (S.seen_Function qs u z a) (λ k l.
      let j : k + (1 + (signature_span None qs u z).size + (in_expression a).size) ≤ n = l in
      (omega arith, (omega arith, (signature_fits n None qs u z (k + 1) (omega arith), (h (k + 1 + (signature_span None qs u z).size) (omega arith)).1))))

  of_ObjectBlock : (xs : List DeclarationField) (last : Bool) → Each claims.of_DeclarationField xs → claims.of_Expression (e.ObjectBlock xs last)
  of_ObjectBlock xs last h = seen _ _ (S.seen_ObjectBlock xs last) (λ k l.
      let j : k + (1 + (2 + listed_size (map in_member xs) + flag last)) ≤ n = l in
      (omega arith, (omega arith, members_below in_member xs h (k + 2) (omega arith))))

  of_Tagged : (x : Name) (a : Option Expression) → Within claims.of_Expression a → claims.of_Expression (e.Tagged x a)
  of_Tagged x None h = seen _ _ (S.seen_Tagged x None) (no_part 2 (p.Tag x.bytes) (omega arith) tt)
  of_Tagged x (Some a) h = seen _ _ (S.seen_Tagged x (Some a)) (one_part 2 (in_expression a) (p.Tagged x.bytes) (omega arith) h (λ x i. i))

  -- so many tokens behind an only part
  part_first : (m : ℕ) (s : ExpressionSpan) (f : p.Expression ℕ → Form ℕ) → ExpressionFits s → ((a : p.Expression ℕ) → ExpressionBelow n a → FormBelow n (f a))
      → ExpressionFits (record { size = s.size + m; from = λ k. p.exp k (f (s.from k)) })
  part_first m s f h g = λ k l.
      let j : k + (s.size + m) ≤ n = l in
      let i = h k (omega arith) in
      (i.0, (i.0, g _ i.1))

  of_Member : (a : Expression) (x : Name) → claims.of_Expression a → claims.of_Expression (e.Member a x)
  of_Member a x h = seen _ _ (S.seen_Member a x) (part_first 2 (in_expression a) (λ y. p.Member y x.bytes) h (λ y i. i))

  of_Projection : (a : Expression) (m : ℕ) → claims.of_Expression a → claims.of_Expression (e.Projection a m)
  of_Projection a m h = seen _ _ (S.seen_Projection a m) (part_first 2 (in_expression a) (λ y. p.Projection y m) h (λ x i. i))

  of_Index : (a b : Expression) → claims.of_Expression a → claims.of_Expression b → claims.of_Expression (e.Index a b)
  of_Index a b h g = seen _ _ (S.seen_Index a b) (two_parts 0 1 1 (in_expression a) (in_expression b) p.Index h g (λ x y i j. (i, j)))

  of_Bang : (a : Expression) → claims.of_Expression a → claims.of_Expression (e.Bang a)
  of_Bang a h = seen _ _ (S.seen_Bang a) (part_first 1 (in_expression a) p.Bang h (λ x i. i))

  of_Call : (a : Expression) (us : Option (List TypeExpression)) (xs : List Expression) → claims.of_Expression a → Each claims.of_Expression xs → claims.of_Expression (e.Call a us xs)
  of_Call a us xs h g = seen _ _ (S.seen_Call a us xs) (λ k l.
      let j : k + ((in_expression a).size + arguments_size (type_arguments us) + 2 + listed_size (map in_expression xs)) ≤ n = l in
      let i = h k (omega arith) in (
        i.0,
        (
          i.0,
          (
            i.1,
            arguments_below us (k + (in_expression a).size) (omega arith),
            items_below xs g (k + (in_expression a).size + arguments_size (type_arguments us) + 1) (omega arith),
          ),
        ),
      ))
    where
      arguments_below : (us : Option (List TypeExpression)) (k : ℕ) → k + arguments_size (type_arguments us) ≤ n
          → EachWithin (TypeBelow n) (option_map (λ vs. listed_from vs (k + 1)) (type_arguments us))
      arguments_below None k l = tt
      arguments_below (Some vs) k l =
          let j : k + (2 + listed_size (map in_type vs)) ≤ n = l in
          listed_fits n (TypeBelow n) in_type vs (each_fits n (λ u. Fits n (TypeBelow n) (in_type u)) (type_fits n) vs) (k + 1) (omega arith)

  of_Constant : (c : Literal) → claims.of_Expression (e.Constant c)
  of_Constant c = seen _ _ (S.seen_Constant c) (no_part 1 (p.Constant (literal_of c)) (omega arith) tt)

  of_Variable : (x : Name) → claims.of_Expression (e.Variable x)
  of_Variable x = seen _ _ (S.seen_Variable x) (no_part 1 (p.Name x.bytes) (omega arith) tt)

  tuple_below : (xs : List Expression) → Each claims.of_Expression xs → (k : ℕ) → k + (2 + listed_size (map in_expression xs)) ≤ n → ExpressionBelow n (parenthesized (map in_expression xs) k)
  tuple_below [] h k l = (omega arith, tt)
  tuple_below (x ∷ []) h k l = let j : k + (2 + (in_expression x).size) ≤ n = l in (h.0 (k + 1) (omega arith)).1
  tuple_below (x ∷ y ∷ rest) h k l =
      let j : k + (2 + listed_size (map in_expression (x ∷ y ∷ rest))) ≤ n = l in (omega arith, items_below (x ∷ y ∷ rest) h (k + 1) (omega arith))

  of_Parenthesized : (xs : List Expression) → Each claims.of_Expression xs → claims.of_Expression (e.Parenthesized xs)
  of_Parenthesized xs h = seen _ _ (S.seen_Parenthesized xs) (λ k l.
      let j : k + (2 + listed_size (map in_expression xs)) ≤ n = l in (omega arith, tuple_below xs h k l))

  of_Array : (z : Bool) (xs : List Expression) → Each claims.of_Expression xs → claims.of_Expression (e.Array z xs)
  of_Array z xs h = seen _ _ (S.seen_Array z xs) (λ k l.
      let j : k + (2 + flag z + listed_size (map in_expression xs)) ≤ n = l in (omega arith, (omega arith, items_below xs h (k + 1 + flag z) (omega arith))))

  of_Object : (xs : List ExpressionField) (last : Bool) → Each claims.of_ExpressionField xs → claims.of_Expression (e.Object xs last)
  of_Object xs last h = seen _ _ (S.seen_Object xs last) (λ k l.
      let j : k + (2 + listed_size (map in_object_field xs) + flag last) ≤ n = l in
      (omega arith, (omega arith, listed_fields xs h (k + 1) (omega arith))))

  of_ActorReference : (b : Bool) (x : Text) → claims.of_Expression (e.ActorReference b x)
  of_ActorReference b x = seen _ _ (S.seen_ActorReference b x) (no_part (2 + flag b + flag b) (p.ActorReference x.bytes) (omega arith) tt)

  of_Block : (xs : List Declaration) (last : Bool) → Each claims.of_Declaration xs → claims.of_Expression (e.Block xs last)
  of_Block xs last h = seen _ _ (S.seen_Block xs last) (λ k l.
      let j : k + (2 + listed_size (map in_declaration xs) + flag last) ≤ n = l in
      (omega arith, (omega arith, declarations_below xs h (k + 1) (omega arith))))

  -- ---- declarations

  declared : (s t : DeclarationSpan) → s ≡ t → Fits n (DeclarationBelow n) t → Fits n (DeclarationBelow n) s
  declared s t q h = seen_part n (DeclarationBelow n) s t q h

  of_Let : (q : Pattern) (a : Expression) → claims.of_Expression a → claims.of_Declaration (d.Let q a)
  of_Let q a h = declared _ _ (S.seen_Let q a) (λ k l.
      let j : k + (2 + (in_pattern q).size + (in_expression a).size) ≤ n = l in
      (omega arith, ((pattern_fits n q (k + 1) (omega arith)).1, (h (k + 2 + (in_pattern q).size) (omega arith)).1)))

  of_Var : (x : Name) (u : Option TypeExpression) (a : Expression) → claims.of_Expression a → claims.of_Declaration (d.Var x u a)
  of_Var x u a h = declared _ _ (S.seen_Var x u a) (λ k l.
      let j : k + (3 + led 1 (annotation u) + (in_expression a).size) ≤ n = l in
      (omega arith, (omega arith, annotation_fits n u (k + 3) (omega arith), (h (k + 3 + led 1 (annotation u)) (omega arith)).1)))

  of_Func : (x : Name) (gs : Option (List TypeParameter)) (qs : Parameters) (u : Option TypeExpression) (z : Bool) (a : Expression) → claims.of_Expression a → claims.of_Declaration (d.Func x gs qs u z a)
  of_Func x gs qs u z a h = declared _ _ (S.seen_Func x gs qs u z a) (λ k l.
      let j : k + (2 + (signature_span gs qs u z).size + (in_expression a).size) ≤ n = l in
      (omega arith, (omega arith, signature_fits n gs qs u z (k + 2) (omega arith), (h (k + 2 + (signature_span gs qs u z).size) (omega arith)).1)))

  name_fits : (x : Name) → Fits n (NameBelow n) (one (name_at x))
  name_fits x = λ k l. let j : k + 1 ≤ n = l in (omega arith, omega arith)

  of_TypeAlias : (x : Name) (xs : Option (List Name)) (u : TypeExpression) → claims.of_Declaration (d.TypeAlias x xs u)
  of_TypeAlias x None u = declared _ _ (S.seen_TypeAlias x None u) (λ k l.
      let j : k + (3 + 0 + (in_type u).size) ≤ n = l in
      (omega arith, (omega arith, tt, (type_fits n u (k + 3 + 0) (omega arith)).1)))
  of_TypeAlias x (Some xs) u = declared _ _ (S.seen_TypeAlias x (Some xs) u) (λ k l.
      let j : k + (3 + (2 + listed_size (map (λ y. one (name_at y)) xs)) + (in_type u).size) ≤ n = l in (
        omega arith,
        (
          omega arith,
          listed_fits n (NameBelow n) (λ y. one (name_at y)) xs (each_fits n (λ y. Fits n (NameBelow n) (one (name_at y))) name_fits xs) (k + 3) (omega arith),
          (type_fits n u (k + 3 + (2 + listed_size (map (λ y. one (name_at y)) xs))) (omega arith)).1,
        ),
      ))

  of_Class : (x : Name) (gs : Option (List TypeParameter)) (qs : Parameters) (xs : List DeclarationField) (last : Bool) → Each claims.of_DeclarationField xs → claims.of_Declaration (d.Class x gs qs xs last)
  of_Class x gs qs xs last h = declared _ _ (S.seen_Class x gs qs xs last) (λ k l.
      let j : k + (2 + (signature_span gs qs None false).size + (2 + listed_size (map in_member xs) + flag last)) ≤ n = l in
      (omega arith, (omega arith, signature_fits n gs qs None false (k + 2) (omega arith), members_below in_member xs h (k + 2 + (signature_span gs qs None false).size + 1) (omega arith))))

  of_NamedObject : (x : Name) (xs : List DeclarationField) (last : Bool) → Each claims.of_DeclarationField xs → claims.of_Declaration (d.NamedObject x xs last)
  of_NamedObject x xs last h = declared _ _ (S.seen_NamedObject x xs last) (λ k l.
      let j : k + (2 + (2 + listed_size (map in_member xs) + flag last)) ≤ n = l in
      (omega arith, (omega arith, members_below in_member xs h (k + 3) (omega arith))))

  of_Evaluate : (a : Expression) → claims.of_Expression a → claims.of_Declaration (d.Evaluate a)
  of_Evaluate a h = declared _ _ (S.seen_Evaluate a) h

  of_DeclarationField : (x : Option Visibility) (y : Declaration) → claims.of_Declaration y → claims.of_DeclarationField (roll-DeclarationField (record { visibility = x; declaration = y }))
  of_DeclarationField x y h = seen_part n MemberFits _ _ (S.seen_DeclarationField x y) (λ k l.
      let j : k + (visibility_size x + (in_declaration y).size) ≤ n = l in
      let i = h (k + visibility_size x) (omega arith) in
      let z : k + visibility_size x < n = i.0 in
      (omega arith, i.1))

  of_Case : (q : Pattern) (a : Expression) → claims.of_Expression a → claims.of_Case (roll-Case (record { pattern = q; body = a }))
  of_Case q a h = seen_part n CaseFits _ _ (S.seen_Case q a) (λ k l.
      let j : k + (1 + (in_pattern q).size + (in_expression a).size) ≤ n = l in
      let x = (pattern_fits n q (k + 1) (omega arith)).1 in
      let y = (h (k + 1 + (in_pattern q).size) (omega arith)).1 in
      (omega arith, λ rest r. (x, y, r)))

  of_ExpressionField : (z : Bool) (x : Name) (u : Option TypeExpression) (a : Option Expression) → Within claims.of_Expression a
      → claims.of_ExpressionField (roll-ExpressionField (record { mutable = z; name = x; annotation = u; value = a }))
  of_ExpressionField z x u None h = seen_part n FieldFits _ _ (S.seen_ExpressionField z x u None) (λ k l.
      let j : k + (flag z + 1 + led 1 (annotation u) + 0) ≤ n = l in
      let y = annotation_fits n u (k + flag z + 2) (omega arith) in
      (omega arith, λ rest r. (omega arith, y, (omega arith, tt), r)))
  of_ExpressionField z x u (Some a) h = seen_part n FieldFits _ _ (S.seen_ExpressionField z x u (Some a)) (λ k l.
      let j : k + (flag z + 1 + led 1 (annotation u) + (1 + (in_expression a).size)) ≤ n = l in
      let y = annotation_fits n u (k + flag z + 2) (omega arith) in
      let v = (h (k + flag z + 1 + led 1 (annotation u) + 1) (omega arith)).1 in
      (omega arith, λ rest r. (omega arith, y, v, r)))

  by_cases : induction.Cases claims
  by_cases = record {
    Let = of_Let;
    Var = of_Var;
    Func = of_Func;
    TypeAlias = of_TypeAlias;
    Class = of_Class;
    NamedObject = of_NamedObject;
    Evaluate = of_Evaluate;
    Assign = of_Assign;
    Annotated = of_Annotated;
    Binary = of_Binary;
    If = of_If;
    Switch = of_Switch;
    While = of_While;
    Loop = of_Loop;
    For = of_For;
    Label = of_Label;
    Break = of_Break;
    Continue = of_Continue;
    Return = of_Return;
    Do = of_Do;
    DoOptional = of_DoOptional;
    Await = of_Await;
    Throw = of_Throw;
    Try = of_Try;
    Assert = of_Assert;
    Ignore = of_Ignore;
    Debug = of_Debug;
    Function = of_Function;
    ObjectBlock = of_ObjectBlock;
    Optional = of_Optional;
    Negative = of_Negative;
    Not = of_Not;
    Tagged = of_Tagged;
    Member = of_Member;
    Projection = of_Projection;
    Index = of_Index;
    Call = of_Call;
    Bang = of_Bang;
    Constant = of_Constant;
    Variable = of_Variable;
    Parenthesized = of_Parenthesized;
    Array = of_Array;
    Object = of_Object;
    ActorReference = of_ActorReference;
    Block = of_Block;
    DeclarationField_ = of_DeclarationField;
    Case_ = of_Case;
    ExpressionField_ = of_ExpressionField;
  }

  pub expression_fits : (a : Expression) → ExpressionFits (in_expression a)
  expression_fits a = holds_Expression claims by_cases a

  pub declaration_fits : (x : Declaration) → Fits n (DeclarationBelow n) (in_declaration x)
  declaration_fits x = holds_Declaration claims by_cases x
