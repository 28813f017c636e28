-- Operands are read exactly.
use Rattle.std.proofs.Common.{◌≡◌, ℕ, zero, suc, ◌+◌, ◌<◌, ◌≤◌, Bool, true, false, List, [], ◌∷◌, ◌++◌, length, map, option_map, Option, Some, None, refl, sym, ap, ◌∙◌, subst, arith, append_assoc}
use Rattle.std.specs.Prelude.{◌≢◌, if◌then◌else◌}
use Rattle.mo_syntax.specs.declared.name.Name.{Name}
use Rattle.mo_syntax.specs.declared.text.Text.{Text}
use Rattle.mo_syntax.specs.declared.token.TokenKind.{TokenKind}
use Rattle.mo_syntax.specs.declared.token.TokenKind.TheVariants as t
use Rattle.mo_syntax.specs.declared.word.Word.TheVariants as w
use Rattle.mo_syntax.specs.declared.mark.Mark.TheVariants as m
use Rattle.mo_syntax.specs.declared.literal.Literal.{Literal}
use Rattle.mo_syntax.specs.declared.literal.Literal.TheVariants as lit
use Rattle.mo_syntax.specs.declared.types.TypeExpression.{TypeExpression}
use Rattle.mo_syntax.specs.declared.operators.BinaryOperator.{BinaryOperator}
use Rattle.mo_syntax.specs.declared.declarations.Declaration.{Declaration}
use Rattle.mo_syntax.specs.declared.expressions.Expression.{Expression}
use Rattle.mo_syntax.specs.declared.expressions.Expression.TheVariants as e
use Rattle.mo_syntax.specs.declared.expressions.ExpressionField.{ExpressionField}
use Rattle.mo_syntax.specs.Writing as W
use Rattle.mo_syntax.specs.Writing.{literal_token}
use Rattle.mo_syntax.specs.Parts.{Within, Listed, MayEnd}
use Rattle.mo_syntax.specs.TypeGrammar.{type_tokens, IsType}
use Rattle.mo_syntax.specs.ExpressionGrammar.{first, behind_last, expression_tokens, declaration_tokens, expression_field_tokens, IsExpression, IsDeclaration, IsExpressionField, level_of}
use Rattle.mo_syntax.proofs.ExpressionEquations as eq
use Rattle.mo_syntax.proofs.ExpressionInduction.{Claims, Cases, holds_ExpressionField}
use Rattle.mo_parser_base.specs.declared.look.Look.{Look}
use Rattle.mo_parser_base.specs.declared.look.Look.TheVariants as l
use Rattle.mo_parser_base.specs.Input.{Input, Parser, and_then, ◌>>=◌, ◌<$>◌, ◌&◌, ◌◂◌, pure, look, look_of, next, after, eat, expect, identifier, text, comma, semicolon, brace, commas, commas_from, semicolons}
use Rattle.mo_parser_base.proofs.Steps.{bind_ok, eat_leaves, look_mark, look_word}
use Rattle.mo_parser_base.proofs.Exact.{Took, Exact, Any, took_as, both, ended_by, flag, behind_by, a_name, a_text, a_literal, fewer, made, ahead, ahead_not, not_first, commas_exact, semicolons_exact}
use Rattle.mo_parser_base.proofs.Made.{mapped, made_behind, makes_behind, makes_as}
use Rattle.mo_parser_types.specs.Ends.{EndsType}
use Rattle.mo_parser_types.proofs.Whole.{annotation_exact}
use Rattle.mo_parser_patterns.specs.Ends.{look_next}
use Rattle.mo_parser_expressions.specs.Expressions as p
use Rattle.mo_parser_expressions.specs.Signs as s
use Rattle.mo_parser_exact.specs.Ends.{EndsPostfix, EndsOperations, EndsExpression}
use Rattle.mo_parser_exact.proofs.StepsMore.{eat_ok_then, eat_takes_then, eat_leaves_then, expect_it}
use Rattle.mo_parser_exact.proofs.Levels.{Next, rule_in2, rule_out2}

abbrev pub At : ℕ → Expression → Next → Type 0
At l' x n = IsExpression x l' n

-- A parser of inner expressions and one of inner declarations, to less than so many tokens. A declaration that is an expression is read one level
-- deeper, so the bound of declarations may be less by one: they stand in braces.
pub record Inner (b : ℕ) (P : ℕ → Parser Expression) (D : Parser Declaration) : Type 0 where
  pub whole : Exact b (P 0) expression_tokens (At 0) EndsExpression
  pub right : (o : BinaryOperator) → Exact b (P (level_of o + 1)) expression_tokens (At (level_of o + 1)) (EndsOperations (level_of o + 1))
  pub unary : Exact b (P 8) expression_tokens (At 8) EndsPostfix
  pub postfix : Exact b (P 9) expression_tokens (At 9) EndsPostfix
  pub bound : ℕ
  pub enough : b ≤ suc bound
  pub declaration : Exact bound D declaration_tokens (λ x n. IsDeclaration x n) EndsExpression
  pub must_begin : (i : Input) → s.begins (look i) ≡ false → P 0 i ≡ None
  pub must_begin_postfix : (i : Input) → s.begins_postfix (look i) ≡ false → P 9 i ≡ None
  pub no_func : (x : Name) (i : Input) → s.begins_parameters (look i) ≡ true → P 0 (t.Reserved w.Func ∷ t.Identifier x ∷ i) ≡ None
  pub no_object : (x : Name) (i : Input) → P 0 (t.Reserved w.Object ∷ t.Identifier x ∷ i) ≡ None
  pub no_end : (j : Input) → D (brace ∷ j) ≡ None

-- ---- what may stand behind

pub ends_comma : EndsExpression (Some comma)
ends_comma = record { chain = refl; below = omega arith; assignment = refl; colon = λ h. cc; arrow = λ h. cc; brace = λ h. cc }

pub ends_semicolon : EndsExpression (Some semicolon)
ends_semicolon = record { chain = refl; below = omega arith; assignment = refl; colon = λ h. cc; arrow = λ h. cc; brace = λ h. cc }

pub ends_brace : EndsExpression (Some brace)
ends_brace = record { chain = refl; below = omega arith; assignment = refl; colon = λ h. cc; arrow = λ h. cc; brace = λ h. cc }

pub ends_paren : EndsExpression (Some (t.Mark m.ParenClose))
ends_paren = record { chain = refl; below = omega arith; assignment = refl; colon = λ h. cc; arrow = λ h. cc; brace = λ h. cc }

pub ends_bracket : EndsExpression (Some (t.Mark m.BracketClose))
ends_bracket = record { chain = refl; below = omega arith; assignment = refl; colon = λ h. cc; arrow = λ h. cc; brace = λ h. cc }

pub ends_else : EndsExpression (Some (t.Reserved w.Else))
ends_else = record { chain = refl; below = omega arith; assignment = refl; colon = λ h. cc; arrow = λ h. cc; brace = λ h. cc }

pub ends_while : EndsExpression (Some (t.Reserved w.While))
ends_while = record { chain = refl; below = omega arith; assignment = refl; colon = λ h. cc; arrow = λ h. cc; brace = λ h. cc }

pub ends_catch : EndsExpression (Some (t.Reserved w.Catch))
ends_catch = record { chain = refl; below = omega arith; assignment = refl; colon = λ h. cc; arrow = λ h. cc; brace = λ h. cc }

pub no_angle : (n : Next) → EndsPostfix n → n ≢ Some (t.Mark m.AngleOpen)
no_angle n h is = let goes = subst (λ z. s.goes_on (look_next z) ≡ false) is h in absurd (cc)

pub ends_type : (n : Next) → EndsExpression n → EndsType n
ends_type n h = (no_angle n h.chain, h.arrow)

pub cases_if : {A C : Type 0} (c : Bool) (q1 q2 : Parser A) (i : Input) (y : A × Input) → (if c then q1 else q2) i ≡ Some y → (c ≡ true → q1 i ≡ Some y → C) → (c ≡ false → q2 i ≡ Some y → C) → C
cases_if true q1 q2 i y h go else_go = go refl h
cases_if false q1 q2 i y h go else_go = else_go refl h

pub surely : (c : Bool) → (c ≡ false → ⊥) → c ≡ true
surely true h = refl
surely false h = absurd (h refl)

pub hardly : (c : Bool) → (c ≡ true → ⊥) → c ≡ false
hardly true h = absurd (h refl)
hardly false h = refl

pub one_turn : (n k : ℕ) → suc k ≤ n → (j : ℕ) × (n ≡ suc j) × (k ≤ j)
one_turn zero k le = absurd (omega arith)
one_turn (suc j) k le = (j, refl, omega arith)

-- the next token is the last one's
pub before : (x : Expression) (l' : ℕ) (i : Input) (a : TokenKind) (j : Input) → i ≡ a ∷ j → IsExpression x l' (first i) → IsExpression x l' (Some a)
before x l' i a j is h = subst (λ z. IsExpression x l' (first z)) is h

abbrev pub to_array : Bool × List Expression → Expression
to_array z = e.Array z.0 z.1

abbrev pub to_record : List ExpressionField × Bool → Expression
to_record z = e.Object z.0 z.1

abbrev pub to_tagged : Name × Option Expression → Expression
to_tagged z = e.Tagged z.0 z.1

abbrev pub to_call : Expression → Option (List TypeExpression) × List Expression → Expression
to_call a z = e.Call a z.0 z.1

abbrev EntryOf : ExpressionField → Type 0
EntryOf y = (z : Bool × (Name × (Option TypeExpression × Option Expression))) × (y ≡ p.to_entry z)

abbrev entry_claims : Claims
entry_claims = record { of_Declaration = λ x. Unit {0}; of_Expression = λ x. Unit {0}; of_DeclarationField = λ x. Unit {0}; of_Case = λ x. Unit {0}; of_ExpressionField = EntryOf }

entry_cases : Cases entry_claims
entry_cases = record {
  Let = λ x0 x1 h0. tt;
  Var = λ x0 x1 x2 h0. tt;
  Func = λ x0 x1 x2 x3 x4 x5 h0. tt;
  TypeAlias = λ x0 x1 x2. tt;
  Class = λ x0 x1 x2 x3 x4 h0. tt;
  NamedObject = λ x0 x1 x2 h0. tt;
  Evaluate = λ x0 h0. tt;
  Assign = λ x0 x1 x2 h0 h1. tt;
  Annotated = λ x0 x1 h0. tt;
  Binary = λ x0 x1 x2 h0 h1. tt;
  If = λ x0 x1 x2 h0 h1 h2. tt;
  Switch = λ x0 x1 x2 h0 h1. tt;
  While = λ x0 x1 h0 h1. tt;
  Loop = λ x0 x1 h0 h1. tt;
  For = λ x0 x1 x2 h0 h1. tt;
  Label = λ x0 x1 x2 h0. tt;
  Break = λ x0 x1 h0. tt;
  Continue = λ x0. tt;
  Return = λ x0 h0. tt;
  Do = λ x0 h0. tt;
  DoOptional = λ x0 h0. tt;
  Await = λ x0 h0. tt;
  Throw = λ x0 h0. tt;
  Try = λ x0 x1 x2 h0 h1. tt;
  Assert = λ x0 h0. tt;
  Ignore = λ x0 h0. tt;
  Debug = λ x0 h0. tt;
  Function = λ x0 x1 x2 x3 h0. tt;
  ObjectBlock = λ x0 x1 h0. tt;
  Optional = λ x0 h0. tt;
  Negative = λ x0 h0. tt;
  Not = λ x0 h0. tt;
  Tagged = λ x0 x1 h0. tt;
  Member = λ x0 x1 h0. tt;
  Projection = λ x0 x1 h0. tt;
  Index = λ x0 x1 h0 h1. tt;
  Call = λ x0 x1 x2 h0 h1. tt;
  Bang = λ x0 h0. tt;
  Constant = λ x0. tt;
  Variable = λ x0. tt;
  Parenthesized = λ x0 h0. tt;
  Array = λ x0 x1 h0. tt;
  Object = λ x0 x1 h0. tt;
  ActorReference = λ x0 x1. tt;
  Block = λ x0 x1 h0. tt;
  DeclarationField_ = λ x0 x1 h0. tt;
  Case_ = λ x0 x1 h0. tt;
  ExpressionField_ = λ x0 x1 x2 x3 h0. ((x0, (x1, (x2, x3))), refl);
}

entry_of : (y : ExpressionField) → EntryOf y
entry_of = holds_ExpressionField entry_claims entry_cases

entry_good : (z : Bool × (Name × (Option TypeExpression × Option Expression))) (n : Next) →
    Within (λ y. IsType y 0) z.1.1.0 × Within (λ y. IsExpression y 0 n) z.1.1.1 → IsExpressionField (p.to_entry z) n
entry_good (a, (x, (kind, None))) n good = subst (λ (r : Next → Type 0). r n) (sym (eq.rule_ExpressionField _)) (good.0, tt)
entry_good (a, (x, (kind, Some y))) n good = subst (λ (r : Next → Type 0). r n) (sym (eq.rule_ExpressionField _)) (good.0, good.1)

entry_fact : (z : Bool × (Name × (Option TypeExpression × Option Expression))) (n : Next) → IsExpressionField (p.to_entry z) n →
    Within (λ y. IsType y 0) z.1.1.0 × Within (λ y. IsExpression y 0 n) z.1.1.1
entry_fact (a, (x, (kind, None))) n good = (let u = subst (λ (r : Next → Type 0). r n) (eq.rule_ExpressionField _) good in (u.0, tt))
entry_fact (a, (x, (kind, Some y))) n good = (let u = subst (λ (r : Next → Type 0). r n) (eq.rule_ExpressionField _) good in (u.0, u.1))

entry_text : (z : Bool × (Name × (Option TypeExpression × Option Expression))) → expression_field_tokens (p.to_entry z) ≡
    W.marked z.0 (t.Reserved w.Var) ++ ((t.Identifier z.1.0 ∷ []) ++ (W.annotation (option_map type_tokens z.1.1.0) ++ W.led (t.Mark m.EqualSign) (option_map expression_tokens z.1.1.1)))
entry_text z = eq.tokens_ExpressionField z.0 z.1.0 z.1.1.0 z.1.1.1

array_text : (z : Bool × List Expression) → expression_tokens (to_array z) ≡ t.Mark m.BracketOpen ∷ (W.marked z.0 (t.Reserved w.Var) ++ (W.commas (map expression_tokens z.1) ++ t.Mark m.BracketClose ∷ []))
array_text z = eq.tokens_Array z.0 z.1 ∙ ap (λ u. t.Mark m.BracketOpen ∷ u) (append_assoc (W.marked z.0 (t.Reserved w.Var)) (W.commas (map expression_tokens z.1)) (t.Mark m.BracketClose ∷ []))

module _ (b : ℕ) (P : ℕ → Parser Expression) (D : Parser Declaration) (h : Inner b P D) where
  none_from : (n : ℕ) (found : List Expression) (i : Input) → P 0 i ≡ None → commas_from (P 0) (t.Mark m.BracketClose) n found i ≡ None
  unfolding commas_from
  none_from zero found i none = refl
  none_from (suc n) found i none = ap (λ o. and_then o (λ x. eat comma >>= (λ more. if more then commas_from (P 0) (t.Mark m.BracketClose) n (found ++ x ∷ []) else (expect (t.Mark m.BracketClose) >>= (λ u. pure (found ++ x ∷ [])))))) none

  no_var : (j : Input) → commas (P 0) (t.Mark m.BracketClose) (t.Reserved w.Var ∷ j) ≡ None
  unfolding commas
  no_var j = eat_leaves (t.Mark m.BracketClose) (t.Reserved w.Var ∷ j) (pure []) (λ i. commas_from (P 0) (t.Mark m.BracketClose) (length i) [] i) (λ u. cc) ∙ none_from (length (t.Reserved w.Var ∷ j)) [] (t.Reserved w.Var ∷ j) (h.must_begin (t.Reserved w.Var ∷ j) refl)

  refuses : (tok : TokenKind) → s.begins (look_of tok) ≡ false → (j : Input) → P 0 (tok ∷ j) ≡ None
  refuses tok never j = h.must_begin (tok ∷ j) never

  pub arguments_exact : Exact b (commas (P 0) (t.Mark m.ParenClose)) (λ xs. W.commas (map expression_tokens xs) ++ t.Mark m.ParenClose ∷ [])
      (λ xs n. Listed (λ x k. IsExpression x 0 (Some k)) comma (t.Mark m.ParenClose) xs) Any
  arguments_exact = fewer (commas_exact h.whole (t.Mark m.ParenClose) tt (λ u. cc) ends_comma ends_paren (refuses (t.Mark m.ParenClose) refl))

  elements_exact : Exact b (commas (P 0) (t.Mark m.BracketClose)) (λ xs. W.commas (map expression_tokens xs) ++ t.Mark m.BracketClose ∷ [])
      (λ xs n. Listed (λ x k. IsExpression x 0 (Some k)) comma (t.Mark m.BracketClose) xs) Any
  elements_exact = fewer (commas_exact h.whole (t.Mark m.BracketClose) tt (λ u. cc) ends_comma ends_bracket (refuses (t.Mark m.BracketClose) refl))

  array_parts : Exact b (eat (t.Reserved w.Var) & commas (P 0) (t.Mark m.BracketClose)) (λ z. W.marked z.0 (t.Reserved w.Var) ++ (W.commas (map expression_tokens z.1) ++ t.Mark m.BracketClose ∷ []))
      (λ z n. Unit {0} × Listed (λ x k. IsExpression x 0 (Some k)) comma (t.Mark m.BracketClose) z.1) Any
  array_parts = both (flag b (t.Reserved w.Var) tt) elements_exact (λ y r short good stops. ahead_not (W.commas (map expression_tokens y) ++ t.Mark m.BracketClose ∷ []) r (t.Reserved w.Var)
      (not_first (commas (P 0) (t.Mark m.BracketClose)) (t.Reserved w.Var) y ((W.commas (map expression_tokens y) ++ t.Mark m.BracketClose ∷ []) ++ r) r no_var (elements_exact.complete y r short good tt)))

  value_stops : (y : Option Expression) (r : Input) → length (W.led (t.Mark m.EqualSign) (option_map expression_tokens y)) < b → Within (λ x. IsExpression x 0 (first r)) y →
      (first r ≢ Some (t.Mark m.EqualSign)) × EndsExpression (first r) → (ahead (W.led (t.Mark m.EqualSign) (option_map expression_tokens y)) (first r) ≢ Some (t.Mark m.Colon)) × EndsType (ahead (W.led (t.Mark m.EqualSign) (option_map expression_tokens y)) (first r))
  value_stops None r short good stops = (stops.1.colon, ends_type (first r) stops.1)
  value_stops (Some y) r short good stops = (λ u. cc, (λ u. cc, λ u. cc))

  entry_exact : Exact b (p.entry P D) expression_field_tokens (λ x n. IsExpressionField x n) (λ n. (n ≢ Some (t.Mark m.EqualSign)) × EndsExpression n)
  unfolding p.entry
  entry_exact = mapped (both (flag b (t.Reserved w.Var) tt) (both (a_name b) (both (annotation_exact b) (fewer (behind_by (t.Mark m.EqualSign) tt h.whole)) value_stops) (λ y r short good stops. tt)) (λ y r short good stops u. cc))
      p.to_entry expression_field_tokens (λ x n. IsExpressionField x n) entry_of (λ z. entry_text z)
      (λ z n good. entry_good z n (good.1.1.0, good.1.1.1))
      (λ z n good. let u = entry_fact z n good in (tt, (tt, (u.0, u.1))))

  no_entry : (j : Input) → p.entry P D (brace ∷ j) ≡ None
  unfolding p.entry after identifier
  no_entry j = refl

  entries_exact : Exact b (semicolons (p.entry P D)) (λ z. W.semicolons (map expression_field_tokens z.0) z.1 ++ brace ∷ [])
      (λ z n. Listed (λ x k. IsExpressionField x (Some k)) semicolon (behind_last z.1) z.0 × MayEnd z.0 z.1) Any
  entries_exact = fewer (semicolons_exact entry_exact (λ u. cc, ends_semicolon) (λ u. cc, ends_brace) no_entry)

  -- ---- atoms

  closed_text : Exact b (text ◂ t.Mark m.ParenClose) (λ x. (t.Text x ∷ []) ++ t.Mark m.ParenClose ∷ []) (λ x n. Unit {0}) Any
  closed_text = ended_by (t.Mark m.ParenClose) tt (a_text b) tt

  actor_ok : (i j : Input) (y : Expression) (r : Input) → i ≡ t.Reserved w.Actor ∷ j → p.actor_reference P D j ≡ Some (y, r) → Took expression_tokens (At 9) y i r
  unfolding p.actor_reference
  actor_ok i j y r is h0 = eat_ok_then (t.Mark m.ParenOpen) tt j (λ in_parens. (λ z. e.ActorReference in_parens z) <$> (if in_parens then text ◂ t.Mark m.ParenClose else text)) (y, r) h0
      (λ k is' h1. bind_ok ((text ◂ t.Mark m.ParenClose) k) _ (y, r) h1 (λ z k' was h2.
      let took = closed_text.sound k z k' was in
      took_as (e.ActorReference true z) k' y r (record {
        text = is ∙ ap (λ u. t.Reserved w.Actor ∷ u) (is' ∙ ap (λ u. t.Mark m.ParenOpen ∷ u) took.text) ∙ ap (λ u. u ++ k') (sym (eq.tokens_ActorReference true z));
        good = rule_in2 (eq.rule_ActorReference true z) 9 (first k') (omega arith);
      }) h2))
      (λ _ h1. bind_ok (text j) _ (y, r) h1 (λ z k' was h2.
      let took = (a_text b).sound j z k' was in
      took_as (e.ActorReference false z) k' y r (record {
        text = is ∙ ap (λ u. t.Reserved w.Actor ∷ u) took.text ∙ ap (λ u. u ++ k') (sym (eq.tokens_ActorReference false z));
        good = rule_in2 (eq.rule_ActorReference false z) 9 (first k') (omega arith);
      }) h2))

  atom_by_ok : (a : Look) (i : Input) (y : Expression) (r : Input) → look i ≡ a → p.atom_by P D a i ≡ Some (y, r) → Took expression_tokens (At 9) y i r
  unfolding p.variable p.constant p.parenthesized p.array p.record_of
  atom_by_ok l.Identifier i y r is h0 = made (a_name b) e.Variable expression_tokens (At 9) eq.tokens_Variable (λ z n good. rule_in2 (eq.rule_Variable z) 9 n (omega arith)) i y r h0
  atom_by_ok (l.Mark m.ParenOpen) i y r is h0 =
      made_behind (t.Mark m.ParenOpen) arguments_exact e.Parenthesized expression_tokens (At 9) eq.tokens_Parenthesized
      (λ z n good. rule_in2 (eq.rule_Parenthesized z) 9 n (omega arith, good)) i (next i) (look_mark i m.ParenOpen is) y r h0
  atom_by_ok (l.Mark m.BracketOpen) i y r is h0 =
      made_behind (t.Mark m.BracketOpen) array_parts to_array expression_tokens (At 9) array_text
      (λ z n good. rule_in2 (eq.rule_Array z.0 z.1) 9 n (omega arith, good.1)) i (next i) (look_mark i m.BracketOpen is) y r h0
  atom_by_ok (l.Mark m.BraceOpen) i y r is h0 =
      made_behind (t.Mark m.BraceOpen) entries_exact to_record expression_tokens (At 9) (λ z. eq.tokens_Object z.0 z.1)
      (λ z n good. rule_in2 (eq.rule_Object z.0 z.1) 9 n (omega arith, good)) i (next i) (look_mark i m.BraceOpen is) y r h0
  atom_by_ok (l.Reserved w.Actor) i y r is h0 = actor_ok i (next i) y r (look_word i w.Actor is) h0
  atom_by_ok _ i y r is h0 = made (a_literal b) e.Constant expression_tokens (At 9) eq.tokens_Constant (λ z n good. rule_in2 (eq.rule_Constant z) 9 n (omega arith)) i y r h0

  pub atom_ok : (i : Input) (y : Expression) (r : Input) → p.atom P D i ≡ Some (y, r) → Took expression_tokens (At 9) y i r
  unfolding p.atom
  atom_ok i y r h0 = atom_by_ok (look i) i y r refl h0

  abbrev AtomRead : Expression → Type 0
  AtomRead x = (r : Input) → length (expression_tokens x) < suc b → IsExpression x 9 (first r) → p.atom P D (expression_tokens x ++ r) ≡ Some (x, r)

  pub read_variable : (x : Name) → AtomRead (e.Variable x)
  unfolding p.atom p.variable
  read_variable x r short good = makes_as (a_name (suc b)) e.Variable expression_tokens x (eq.tokens_Variable x) (p.atom P D) r refl short tt tt

  constant_begins : (x : Literal) (r : Input) → p.atom P D (literal_token x ∷ r) ≡ p.constant P D (literal_token x ∷ r)
  unfolding p.atom
  constant_begins (lit.Number n) r = refl
  constant_begins (lit.Character n) r = refl
  constant_begins (lit.Text n) r = refl
  constant_begins lit.True r = refl
  constant_begins lit.False r = refl
  constant_begins lit.Null r = refl

  pub read_constant : (x : Literal) → AtomRead (e.Constant x)
  unfolding p.constant
  read_constant x r short good = makes_as (a_literal (suc b)) e.Constant expression_tokens x (eq.tokens_Constant x) (p.atom P D) r (constant_begins x r) short tt tt

  pub read_parenthesized : (xs : List Expression) → AtomRead (e.Parenthesized xs)
  unfolding p.atom p.parenthesized
  read_parenthesized xs r short good =
      makes_behind (t.Mark m.ParenOpen) arguments_exact e.Parenthesized expression_tokens xs (eq.tokens_Parenthesized xs) (p.atom P D) r refl short (rule_out2 (eq.rule_Parenthesized xs) 9 (first r) good).1 tt

  pub read_array : (mutable : Bool) (xs : List Expression) → AtomRead (e.Array mutable xs)
  unfolding p.atom p.array
  read_array mutable xs r short good =
      makes_behind (t.Mark m.BracketOpen) array_parts to_array expression_tokens (mutable, xs) (array_text (mutable, xs)) (p.atom P D) r refl short (tt, (rule_out2 (eq.rule_Array mutable xs) 9 (first r) good).1) tt

  pub read_record : (xs : List ExpressionField) (last : Bool) → AtomRead (e.Object xs last)
  unfolding p.atom p.record_of
  read_record xs last r short good =
      makes_behind (t.Mark m.BraceOpen) entries_exact to_record expression_tokens (xs, last) (eq.tokens_Object xs last) (p.atom P D) r refl short (rule_out2 (eq.rule_Object xs last) 9 (first r) good).1 tt

  pub read_actor : (in_parens : Bool) (x : Text) → AtomRead (e.ActorReference in_parens x)
  unfolding p.atom p.actor_reference text
  read_actor true x r short good = ap (λ z. p.atom P D (z ++ r)) (eq.tokens_ActorReference true x)
      ∙ eat_takes_then (t.Mark m.ParenOpen) tt (t.Text x ∷ t.Mark m.ParenClose ∷ r) (λ in_parens. (λ y. e.ActorReference in_parens y) <$> (if in_parens then text ◂ t.Mark m.ParenClose else text))
      ∙ ap (λ o. and_then (and_then o (λ u. pure x)) (λ y. pure (e.ActorReference true y))) (expect_it (t.Mark m.ParenClose) tt r)
  read_actor false x r short good = ap (λ z. p.atom P D (z ++ r)) (eq.tokens_ActorReference false x)
      ∙ eat_leaves_then (t.Mark m.ParenOpen) (t.Text x ∷ r) (λ in_parens. (λ y. e.ActorReference in_parens y) <$> (if in_parens then text ◂ t.Mark m.ParenClose else text)) (λ u. cc)
