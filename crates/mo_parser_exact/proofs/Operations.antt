-- Operators of two operands, types behind expressions, and assignments are read exactly.
use Rattle.std.proofs.Common.{◌≡◌, ℕ, zero, suc, ◌+◌, ◌<◌, ◌≤◌, Bool, true, false, ◌∷◌, ◌++◌, length, Option, Some, None, refl, sym, ap, ◌∙◌, arith, append_assoc, length-append}
use Rattle.std.specs.Prelude.{◌≢◌, if◌then◌else◌, ◌&&◌, nat_le}
use Rattle.std.proofs.lemmas.Bool.{leb-true, le-leb, lt-leb}
use Rattle.mo_syntax.specs.declared.token.TokenKind.TheVariants as t
use Rattle.mo_syntax.specs.declared.word.Word.TheVariants as w
use Rattle.mo_syntax.specs.declared.mark.Mark.TheVariants as m
use Rattle.mo_syntax.specs.declared.types.TypeExpression.{TypeExpression}
use Rattle.mo_syntax.specs.declared.operators.BinaryOperator.{BinaryOperator}
use Rattle.mo_syntax.specs.declared.operators.BinaryOperator.TheVariants as op
use Rattle.mo_syntax.specs.declared.operators.AssignmentOperator.{AssignmentOperator}
use Rattle.mo_syntax.specs.declared.operators.AssignmentOperator.TheVariants as assign
use Rattle.mo_syntax.specs.declared.declarations.Declaration.{Declaration}
use Rattle.mo_syntax.specs.declared.expressions.Expression.{Expression}
use Rattle.mo_syntax.specs.declared.expressions.Expression.TheVariants as e
use Rattle.mo_syntax.specs.TypeGrammar.{type_tokens, IsType}
use Rattle.mo_syntax.specs.ExpressionGrammar.{first, expression_tokens, IsExpression, level_of, left_level, operator_token, assignment_token}
use Rattle.mo_syntax.proofs.ExpressionEquations as eq
use Rattle.mo_syntax.proofs.ExpressionInduction.{Cases, holds_Expression}
use Rattle.mo_parser_base.specs.declared.look.Look.{Look}
use Rattle.mo_parser_base.specs.declared.look.Look.TheVariants as l
use Rattle.mo_parser_base.specs.Input.{Input, Parser, ◌>>=◌, pure, look, next}
use Rattle.mo_parser_base.proofs.Steps.{bind_ok, bind_takes, eat_ok, eat_takes, eat_leaves, look_mark, look_word, some_is}
use Rattle.mo_parser_base.proofs.Exact.{Took, Exact, took_as}
use Rattle.mo_parser_types.specs.Types.{a_type}
use Rattle.mo_parser_types.specs.Ends.{EndsType}
use Rattle.mo_parser_types.proofs.Whole.{a_type_exact}
use Rattle.mo_parser_patterns.specs.Ends.{look_next}
use Rattle.mo_parser_patterns.proofs.Unary.{look_first}
use Rattle.mo_parser_expressions.specs.Expressions as p
use Rattle.mo_parser_expressions.specs.Signs as s
use Rattle.mo_parser_exact.specs.Ends.{EndsPostfix, EndsOperations, EndsExpression}
use Rattle.mo_parser_exact.proofs.Levels as lev
use Rattle.mo_parser_exact.proofs.Levels.{Next, rule_in2, rule_out2, only_expressions, op_small, op_large, op_left, op_left_small, lowers, is_block}
use Rattle.mo_parser_exact.proofs.Operands.{At, Inner, cases_if, hardly, one_turn, before, no_angle}
use Rattle.mo_parser_exact.proofs.Chains.{postfix_ok, postfix_exact, unary_exact, unary_is, not_unary}

-- ---- operators and their tokens

operator_look : (a : Look) (o : BinaryOperator) → s.operator a ≡ Some o → (i : Input) → look i ≡ a → i ≡ operator_token o ∷ next i
operator_look (l.Reserved w.Or) o h i is = look_word i w.Or is ∙ ap (λ u. operator_token u ∷ next i) (some_is op.Or o h)
operator_look (l.Reserved w.And) o h i is = look_word i w.And is ∙ ap (λ u. operator_token u ∷ next i) (some_is op.And o h)
operator_look (l.Mark m.Equal) o h i is = look_mark i m.Equal is ∙ ap (λ u. operator_token u ∷ next i) (some_is op.Equal o h)
operator_look (l.Mark m.NotEqual) o h i is = look_mark i m.NotEqual is ∙ ap (λ u. operator_token u ∷ next i) (some_is op.NotEqual o h)
operator_look (l.Mark m.Less) o h i is = look_mark i m.Less is ∙ ap (λ u. operator_token u ∷ next i) (some_is op.Less o h)
operator_look (l.Mark m.Greater) o h i is = look_mark i m.Greater is ∙ ap (λ u. operator_token u ∷ next i) (some_is op.Greater o h)
operator_look (l.Mark m.LessEqual) o h i is = look_mark i m.LessEqual is ∙ ap (λ u. operator_token u ∷ next i) (some_is op.LessEqual o h)
operator_look (l.Mark m.GreaterEqual) o h i is = look_mark i m.GreaterEqual is ∙ ap (λ u. operator_token u ∷ next i) (some_is op.GreaterEqual o h)
operator_look (l.Mark m.Plus) o h i is = look_mark i m.Plus is ∙ ap (λ u. operator_token u ∷ next i) (some_is op.Add o h)
operator_look (l.Mark m.Minus) o h i is = look_mark i m.Minus is ∙ ap (λ u. operator_token u ∷ next i) (some_is op.Subtract o h)
operator_look (l.Mark m.Concat) o h i is = look_mark i m.Concat is ∙ ap (λ u. operator_token u ∷ next i) (some_is op.Concat o h)
operator_look (l.Mark m.PlusWrap) o h i is = look_mark i m.PlusWrap is ∙ ap (λ u. operator_token u ∷ next i) (some_is op.AddWrap o h)
operator_look (l.Mark m.MinusWrap) o h i is = look_mark i m.MinusWrap is ∙ ap (λ u. operator_token u ∷ next i) (some_is op.SubtractWrap o h)
operator_look (l.Mark m.Star) o h i is = look_mark i m.Star is ∙ ap (λ u. operator_token u ∷ next i) (some_is op.Multiply o h)
operator_look (l.Mark m.Slash) o h i is = look_mark i m.Slash is ∙ ap (λ u. operator_token u ∷ next i) (some_is op.Divide o h)
operator_look (l.Mark m.Percent) o h i is = look_mark i m.Percent is ∙ ap (λ u. operator_token u ∷ next i) (some_is op.Remainder o h)
operator_look (l.Mark m.StarWrap) o h i is = look_mark i m.StarWrap is ∙ ap (λ u. operator_token u ∷ next i) (some_is op.MultiplyWrap o h)
operator_look (l.Mark m.Power) o h i is = look_mark i m.Power is ∙ ap (λ u. operator_token u ∷ next i) (some_is op.Power o h)
operator_look _ o h i is = absurd (cc)

assignment_look : (a : Look) (o : AssignmentOperator) → s.assignment a ≡ Some o → (i : Input) → look i ≡ a → i ≡ assignment_token o ∷ next i
assignment_look (l.Mark m.Assign) o h i is = look_mark i m.Assign is ∙ ap (λ u. assignment_token u ∷ next i) (some_is assign.Plain o h)
assignment_look (l.Mark m.PlusAssign) o h i is = look_mark i m.PlusAssign is ∙ ap (λ u. assignment_token u ∷ next i) (some_is assign.Add o h)
assignment_look (l.Mark m.MinusAssign) o h i is = look_mark i m.MinusAssign is ∙ ap (λ u. assignment_token u ∷ next i) (some_is assign.Subtract o h)
assignment_look (l.Mark m.StarAssign) o h i is = look_mark i m.StarAssign is ∙ ap (λ u. assignment_token u ∷ next i) (some_is assign.Multiply o h)
assignment_look (l.Mark m.SlashAssign) o h i is = look_mark i m.SlashAssign is ∙ ap (λ u. assignment_token u ∷ next i) (some_is assign.Divide o h)
assignment_look (l.Mark m.PercentAssign) o h i is = look_mark i m.PercentAssign is ∙ ap (λ u. assignment_token u ∷ next i) (some_is assign.Remainder o h)
assignment_look (l.Mark m.PowerAssign) o h i is = look_mark i m.PowerAssign is ∙ ap (λ u. assignment_token u ∷ next i) (some_is assign.Power o h)
assignment_look (l.Mark m.ConcatAssign) o h i is = look_mark i m.ConcatAssign is ∙ ap (λ u. assignment_token u ∷ next i) (some_is assign.Concat o h)
assignment_look (l.Mark m.PlusWrapAssign) o h i is = look_mark i m.PlusWrapAssign is ∙ ap (λ u. assignment_token u ∷ next i) (some_is assign.AddWrap o h)
assignment_look (l.Mark m.MinusWrapAssign) o h i is = look_mark i m.MinusWrapAssign is ∙ ap (λ u. assignment_token u ∷ next i) (some_is assign.SubtractWrap o h)
assignment_look (l.Mark m.StarWrapAssign) o h i is = look_mark i m.StarWrapAssign is ∙ ap (λ u. assignment_token u ∷ next i) (some_is assign.MultiplyWrap o h)
assignment_look _ o h i is = absurd (cc)

-- what an operator is to what stands before it
pub op_token : (o : BinaryOperator) (i : Input) → (s.operator (look (operator_token o ∷ i)) ≡ Some o) × (s.assignment (look (operator_token o ∷ i)) ≡ None) × (s.goes_on (look (operator_token o ∷ i)) ≡ false)
op_token op.Or i = (refl, refl, refl)
op_token op.And i = (refl, refl, refl)
op_token op.Equal i = (refl, refl, refl)
op_token op.NotEqual i = (refl, refl, refl)
op_token op.Less i = (refl, refl, refl)
op_token op.Greater i = (refl, refl, refl)
op_token op.LessEqual i = (refl, refl, refl)
op_token op.GreaterEqual i = (refl, refl, refl)
op_token op.Add i = (refl, refl, refl)
op_token op.Subtract i = (refl, refl, refl)
op_token op.Concat i = (refl, refl, refl)
op_token op.AddWrap i = (refl, refl, refl)
op_token op.SubtractWrap i = (refl, refl, refl)
op_token op.Multiply i = (refl, refl, refl)
op_token op.Divide i = (refl, refl, refl)
op_token op.Remainder i = (refl, refl, refl)
op_token op.MultiplyWrap i = (refl, refl, refl)
op_token op.Power i = (refl, refl, refl)

pub assign_token : (o : AssignmentOperator) (i : Input) → (s.assignment (look (assignment_token o ∷ i)) ≡ Some o) × (s.goes_on (look (assignment_token o ∷ i)) ≡ false)
assign_token assign.Plain i = (refl, refl)
assign_token assign.Add i = (refl, refl)
assign_token assign.Subtract i = (refl, refl)
assign_token assign.Multiply i = (refl, refl)
assign_token assign.Divide i = (refl, refl)
assign_token assign.Remainder i = (refl, refl)
assign_token assign.Power i = (refl, refl)
assign_token assign.Concat i = (refl, refl)
assign_token assign.AddWrap i = (refl, refl)
assign_token assign.SubtractWrap i = (refl, refl)
assign_token assign.MultiplyWrap i = (refl, refl)

op_first : (o : BinaryOperator) (i : Input) → s.goes_on (look_next (Some (operator_token o))) ≡ false
op_first o i = (op_token o i).2

-- ---- whether an operator goes on

both_true : (a c : Bool) → (a && c) ≡ true → (a ≡ true) × (c ≡ true)
both_true true true h = (refl, refl)
both_true true false h = absurd (cc)
both_true false c h = absurd (cc)

goes_true : (least height : ℕ) (o : BinaryOperator) → s.goes least height (Some o) ≡ true → (least ≤ level_of o) × (left_level o ≤ height)
goes_true least height o h = let u = both_true (nat_le least (level_of o)) (nat_le (left_level o) height) h in (leb-true _ _ u.0, leb-true _ _ u.1)

goes_it : (least height : ℕ) (o : BinaryOperator) → least ≤ level_of o → left_level o ≤ height → s.goes least height (Some o) ≡ true
goes_it least height o a c = ap (λ u. u && nat_le (left_level o) height) (le-leb least (level_of o) a) ∙ le-leb (left_level o) height c

goes_not : (least height : ℕ) (o : Option BinaryOperator) → s.level_at o < least → s.goes least height o ≡ false
goes_not least height None lt = refl
goes_not least height (Some o) lt = ap (λ u. u && nat_le (left_level o) height) (lt-leb least (level_of o) lt)

module _ (b : ℕ) (P : ℕ → Parser Expression) (D : Parser Declaration) (h : Inner b P D) where
  -- ---- what is read

  operated_ok : (o : BinaryOperator) (x : Expression) (height : ℕ) (i0 i : Input) (y : Expression) (r : Input) → left_level o ≤ height → height ≤ 8 → i ≡ operator_token o ∷ next i →
      Took expression_tokens (At height) x i0 i → p.operated P D x (Some o) i ≡ Some (y, r) → Took expression_tokens (At (level_of o)) y i0 r
  operated_ok o x height i0 i y r le small is took h0 = bind_ok (P (level_of o + 1) (next i)) _ (y, r) h0 (λ z k was h1.
      let last = (h.right o).sound (next i) z k was in
      took_as (e.Binary o x z) k y r (record {
        text = took.text ∙ ap (λ u. expression_tokens x ++ u) (is ∙ ap (λ u. operator_token o ∷ u) last.text)
            ∙ sym (append_assoc (expression_tokens x) (operator_token o ∷ expression_tokens z) k) ∙ ap (λ u. u ++ k) (sym (eq.tokens_Binary o x z));
        good = rule_in2 (eq.rule_Binary o x z) (level_of o) (first k) (omega arith, lowers x height (left_level o) (Some (operator_token o)) le (omega arith) (before x height i (operator_token o) (next i) is took.good), last.good);
      }) h1)

  operation_ok : (o : Option BinaryOperator) (least height : ℕ) (x : Expression) (i0 i : Input) (y : Expression) (r : Input) → s.operator (look i) ≡ o → height ≤ 8 → s.goes least height o ≡ true →
      Took expression_tokens (At height) x i0 i → p.operated P D x o i ≡ Some (y, r) → (least ≤ s.level_at o) × (s.level_at o ≤ 8) × Took expression_tokens (At (s.level_at o)) y i0 r
  operation_ok None least height x i0 i y r is small goes took h0 = absurd (cc)
  operation_ok (Some o) least height x i0 i y r is small goes took h0 = let u = goes_true least height o goes in
      (u.0, (let top = op_small o in omega arith), operated_ok o x height i0 i y r u.1 small (operator_look (look i) o is i refl) took h0)

  climb_ok : (least height n : ℕ) (x : Expression) (i0 i : Input) (y : Expression) (r : Input) → least ≤ height → height ≤ 8 → Took expression_tokens (At height) x i0 i →
      p.climb P D least height n x i ≡ Some (y, r) → Took expression_tokens (At least) y i0 r
  unfolding p.climb
  climb_ok least height zero x i0 i y r le small took h0 = took_as x i y r (record { text = took.text; good = lowers x height least (first i) le (omega arith) took.good }) h0
  climb_ok least height (suc n) x i0 i y r le small took h0 = cases_if (s.goes least height (s.operator (look i))) (p.operated P D x (s.operator (look i)) >>= p.climb P D least (s.level_at (s.operator (look i))) n) (pure x) i (y, r) h0
      (λ goes h1. bind_ok (p.operated P D x (s.operator (look i)) i) _ (y, r) h1 (λ z k was h2.
      let one = operation_ok (s.operator (look i)) least height x i0 i z k refl small goes took was in
      climb_ok least (s.level_at (s.operator (look i))) n z i0 k y r one.0 one.1 one.2 h2))
      (λ _ h1. took_as x i y r (record { text = took.text; good = lowers x height least (first i) le (omega arith) took.good }) h1)

  climbed_ok : (least : ℕ) (x : Expression) (i0 i : Input) (y : Expression) (r : Input) → least ≤ 8 → Took expression_tokens (At 8) x i0 i → p.climbed P D least x i ≡ Some (y, r) → Took expression_tokens (At least) y i0 r
  unfolding p.climbed
  climbed_ok least x i0 i y r le took h0 = climb_ok least 8 (length i) x i0 i y r le (omega arith) took h0

  operations_ok : (least : ℕ) → least ≤ 8 → (i : Input) (y : Expression) (r : Input) → p.operations P D least i ≡ Some (y, r) → Took expression_tokens (At least) y i r
  unfolding p.operations
  operations_ok least le i y r h0 = bind_ok (p.unary P D i) _ (y, r) h0 (λ z k was h1. climbed_ok least z i k y r le ((unary_exact b P D h).sound i z k was) h1)

  annotations_ok : (n : ℕ) (x : Expression) (i0 i : Input) (y : Expression) (r : Input) → Took expression_tokens (At 1) x i0 i → p.annotations P D n x i ≡ Some (y, r) → Took expression_tokens (At 1) y i0 r
  unfolding p.annotations
  annotations_ok zero x i0 i y r took h0 = took_as x i y r took h0
  annotations_ok (suc n) x i0 i y r took h0 = eat_ok (t.Mark m.Colon) tt i _ _ (y, r) h0
      (λ j is h1. bind_ok (a_type j) _ (y, r) h1 (λ z k was h2.
      let last = (a_type_exact 0).sound j z k was in
      annotations_ok n (e.Annotated x z) i0 k y r (record {
        text = took.text ∙ ap (λ u. expression_tokens x ++ u) (is ∙ ap (λ u. t.Mark m.Colon ∷ u) last.text)
            ∙ sym (append_assoc (expression_tokens x) (t.Mark m.Colon ∷ type_tokens z) k) ∙ ap (λ u. u ++ k) (sym (eq.tokens_Annotated x z));
        good = rule_in2 (eq.rule_Annotated x z) 1 (first k) (omega arith, before x 1 i (t.Mark m.Colon) j is took.good, last.good);
      }) h2))
      (λ _ h1. took_as x i y r took h1)

  extended_ok : (x : Expression) (i0 i : Input) (y : Expression) (r : Input) → Took expression_tokens (At 8) x i0 i → p.extended P D x i ≡ Some (y, r) → Took expression_tokens (At 0) y i0 r
  unfolding p.extended p.annotated
  extended_ok x i0 i y r took h0 = bind_ok (p.climbed P D 2 x i) _ (y, r) h0 (λ z k was h1.
      let one = climbed_ok 2 x i0 i z k (omega arith) took was in
      let two = annotations_ok (length k) z i0 k y r (record { text = one.text; good = lowers z 2 1 (first k) (omega arith) (omega arith) one.good }) h1 in
      record { text = two.text; good = lowers y 1 0 (first r) (omega arith) (omega arith) two.good })

  assigned_by_ok : (o : Option AssignmentOperator) (x : Expression) (i0 i : Input) (y : Expression) (r : Input) → s.assignment (look i) ≡ o → Took expression_tokens (At 9) x i0 i →
      p.assigned_by P D x o i ≡ Some (y, r) → Took expression_tokens (At 0) y i0 r
  assigned_by_ok None x i0 i y r is took h0 = extended_ok x i0 i y r (record { text = took.text; good = lowers x 9 8 (first i) (omega arith) (omega arith) took.good }) h0
  assigned_by_ok (Some o) x i0 i y r is took h0 = bind_ok (P 0 (next i)) _ (y, r) h0 (λ z k was h1.
      let last = h.whole.sound (next i) z k was in
      let here = assignment_look (look i) o is i refl in
      took_as (e.Assign o x z) k y r (record {
        text = took.text ∙ ap (λ u. expression_tokens x ++ u) (here ∙ ap (λ u. assignment_token o ∷ u) last.text)
            ∙ sym (append_assoc (expression_tokens x) (assignment_token o ∷ expression_tokens z) k) ∙ ap (λ u. u ++ k) (sym (eq.tokens_Assign o x z));
        good = rule_in2 (eq.rule_Assign o x z) 0 (first k) (refl, before x 9 i (assignment_token o) (next i) here took.good, last.good);
      }) h1)

  pub plain_ok : (i : Input) (y : Expression) (r : Input) → p.plain P D i ≡ Some (y, r) → Took expression_tokens (At 0) y i r
  unfolding p.plain p.assigned
  plain_ok i y r h0 = cases_if (s.begins_unary (look i)) (p.unary P D >>= p.extended P D) (p.postfix P D >>= p.assigned P D) i (y, r) h0
      (λ _ h1. bind_ok (p.unary P D i) _ (y, r) h1 (λ z k was h2. extended_ok z i k y r ((unary_exact b P D h).sound i z k was) h2))
      (λ _ h1. bind_ok (p.postfix P D i) _ (y, r) h1 (λ z k was h2. assigned_by_ok (s.assignment (look k)) z i k y r refl (postfix_ok b P D h i z k was) h2))

  -- ---- what is read to the end of an expression goes on from it

  -- Where reading stands behind the tree. The first operand of it is read, and no assignment follows that.
  record Climbs (least m' : ℕ) (x : Expression) (i r : Input) : Type 0 where
    operand : Expression
    rest : Input
    reads : p.unary P D i ≡ Some (operand, rest)
    unassigned : s.assignment (look r) ≡ None → s.assignment (look rest) ≡ None
    turns : ℕ
    height : ℕ
    enough : length r ≤ turns
    high : m' ≤ height
    goes : p.climbed P D least operand rest ≡ p.climb P D least height turns x r

  abbrev Climbing : Expression → Type 0
  Climbing x = (least m' : ℕ) (r : Input) → 2 ≤ least → least ≤ m' → m' ≤ 8 → length (expression_tokens x) < suc b → IsExpression x m' (first r) → EndsPostfix (first r) →
      s.level_at (s.operator (look_next (first r))) ≤ m' → Climbs least m' x (expression_tokens x ++ r) r

  climbs_operand : (x : Expression) → ((k : ℕ) (n : Next) → 2 ≤ k → k ≤ 8 → IsExpression x k n → IsExpression x 8 n) → Climbing x
  unfolding p.climbed
  climbs_operand x tighter least m' r two le small short good ends below = record {
    operand = x;
    rest = r;
    reads = (unary_exact b P D h).complete x r short (tighter m' (first r) (omega arith) small good) ends;
    unassigned = λ u. u;
    turns = length r;
    height = 8;
    enough = omega arith;
    high = small;
    goes = refl;
  }

  climb_step : (least height n : ℕ) (o : BinaryOperator) (x z : Expression) (r : Input) → least ≤ level_of o → left_level o ≤ height → length (expression_tokens z) < b → IsExpression z (level_of o + 1) (first r) →
      EndsOperations (level_of o + 1) (first r) → p.climb P D least height (suc n) x (operator_token o ∷ (expression_tokens z ++ r)) ≡ p.climb P D least (level_of o) n (e.Binary o x z) r
  unfolding p.climb
  climb_step least height n o x z r le le' short good stops =
      let i : Input = operator_token o ∷ (expression_tokens z ++ r) in
      let is = (op_token o (expression_tokens z ++ r)).0 in
      ap (λ u. (if s.goes least height u then p.operated P D x u >>= p.climb P D least (s.level_at u) n else pure x) i) is
      ∙ ap (λ c. (if c then p.operated P D x (Some o) >>= p.climb P D least (level_of o) n else pure x) i) (goes_it least height o le le')
      ∙ bind_takes (p.operated P D x (Some o) i) _ (e.Binary o x z) r (bind_takes (P (level_of o + 1) (expression_tokens z ++ r)) _ z r ((h.right o).complete z r short good stops))

  climbs_binary : (o : BinaryOperator) (x z : Expression) → Climbing x → Climbing (e.Binary o x z)
  climbs_binary o x z climbs least m' r two le small short good ends below =
      let u = rule_out2 (eq.rule_Binary o x z) m' (first r) good in
      let fits : m' ≤ level_of o = u.0 in
      let left = op_left o in
      let left_small = op_left_small o in
      let text = eq.tokens_Binary o x z in
      let v : Input = operator_token o ∷ expression_tokens z in
      let i : Input = operator_token o ∷ (expression_tokens z ++ r) in
      let size : length (expression_tokens (e.Binary o x z)) ≡ length (expression_tokens x) + (length (expression_tokens z) + 1) = ap length text ∙ length-append (expression_tokens x) v ∙ omega arith in
      let here = op_token o (expression_tokens z ++ r) in
      let all = climbs least (left_level o) i two (omega arith) (omega arith) (omega arith) u.1 here.2 (omega (arith, ap s.level_at here.0)) in
      let turn = one_turn all.turns (length r) (let enough = all.enough in omega (arith, length-append (expression_tokens z) r)) in
      let high = all.high in record {
        operand = all.operand;
        rest = all.rest;
        reads = ap (λ k. p.unary P D (k ++ r)) text ∙ ap (λ k. p.unary P D k) (append_assoc (expression_tokens x) v r) ∙ all.reads;
        unassigned = λ _. all.unassigned here.1;
        turns = turn.0;
        height = level_of o;
        enough = turn.2;
        high = fits;
        goes = all.goes ∙ ap (λ k. p.climb P D least all.height k x i) turn.1
            ∙ climb_step least all.height turn.0 o x z r (omega arith) high (omega arith) u.2 (record { chain = ends; below = omega arith });
      }

  climbing_cases : Cases (only_expressions Climbing)
  climbing_cases = record {
    Let = λ x0 x1 h0. tt;
    Var = λ x0 x1 x2 h0. tt;
    Func = λ x0 x1 x2 x3 x4 x5 h0. tt;
    TypeAlias = λ x0 x1 x2. tt;
    Class = λ x0 x1 x2 x3 x4 h0. tt;
    NamedObject = λ x0 x1 x2 h0. tt;
    Evaluate = λ x0 h0. tt;
    Assign = λ x0 x1 x2 h0 h1. λ least k r two le small short good ends below. absurd (let u = lev.at_Assign x0 x1 x2 k (first r) good in omega arith);
    Annotated = λ x0 x1 h0. λ least k r two le small short good ends below. absurd (let u = lev.at_Annotated x0 x1 k (first r) good in omega arith);
    Binary = λ x0 x1 x2 h0 h1. climbs_binary x0 x1 x2 h0;
    If = λ x0 x1 x2 h0 h1 h2. λ least k r two le small short good ends below. absurd (let u = lev.at_If x0 x1 x2 k (first r) good in omega arith);
    Switch = λ x0 x1 x2 h0 h1. λ least k r two le small short good ends below. absurd (let u = lev.at_Switch x0 x1 x2 k (first r) good in omega arith);
    While = λ x0 x1 h0 h1. λ least k r two le small short good ends below. absurd (let u = lev.at_While x0 x1 k (first r) good in omega arith);
    Loop = λ x0 x1 h0 h1. λ least k r two le small short good ends below. absurd (let u = lev.at_Loop x0 x1 k (first r) good in omega arith);
    For = λ x0 x1 x2 h0 h1. λ least k r two le small short good ends below. absurd (let u = lev.at_For x0 x1 x2 k (first r) good in omega arith);
    Label = λ x0 x1 x2 h0. λ least k r two le small short good ends below. absurd (let u = lev.at_Label x0 x1 x2 k (first r) good in omega arith);
    Break = λ x0 x1 h0. λ least k r two le small short good ends below. absurd (let u = lev.at_Break x0 x1 k (first r) good in omega arith);
    Continue = λ x0. λ least k r two le small short good ends below. absurd (let u = lev.at_Continue x0 k (first r) good in omega arith);
    Return = λ x0 h0. λ least k r two le small short good ends below. absurd (let u = lev.at_Return x0 k (first r) good in omega arith);
    Do = λ x0 h0. λ least k r two le small short good ends below. absurd (let u = lev.at_Do x0 k (first r) good in omega arith);
    DoOptional = λ x0 h0. λ least k r two le small short good ends below. absurd (let u = lev.at_DoOptional x0 k (first r) good in omega arith);
    Await = λ x0 h0. λ least k r two le small short good ends below. absurd (let u = lev.at_Await x0 k (first r) good in omega arith);
    Throw = λ x0 h0. λ least k r two le small short good ends below. absurd (let u = lev.at_Throw x0 k (first r) good in omega arith);
    Try = λ x0 x1 x2 h0 h1. λ least k r two le small short good ends below. absurd (let u = lev.at_Try x0 x1 x2 k (first r) good in omega arith);
    Assert = λ x0 h0. λ least k r two le small short good ends below. absurd (let u = lev.at_Assert x0 k (first r) good in omega arith);
    Ignore = λ x0 h0. λ least k r two le small short good ends below. absurd (let u = lev.at_Ignore x0 k (first r) good in omega arith);
    Debug = λ x0 h0. λ least k r two le small short good ends below. absurd (let u = lev.at_Debug x0 k (first r) good in omega arith);
    Function = λ x0 x1 x2 x3 h0. λ least k r two le small short good ends below. absurd (let u = lev.at_Function x0 x1 x2 x3 k (first r) good in omega arith);
    ObjectBlock = λ x0 x1 h0. λ least k r two le small short good ends below. absurd (let u = lev.at_ObjectBlock x0 x1 k (first r) good in omega arith);
    Optional = λ x0 h0. climbs_operand (e.Optional x0) (λ k n two small good. lev.move_Optional x0 k 8 n (λ u. omega arith) good);
    Negative = λ x0 h0. climbs_operand (e.Negative x0) (λ k n two small good. lev.move_Negative x0 k 8 n (λ u. omega arith) good);
    Not = λ x0 h0. climbs_operand (e.Not x0) (λ k n two small good. lev.move_Not x0 k 8 n (λ u. omega arith) good);
    Tagged = λ x0 x1 h0. climbs_operand (e.Tagged x0 x1) (λ k n two small good. lev.move_Tagged x0 x1 k 8 n (λ u. omega arith) good);
    Member = λ x0 x1 h0. climbs_operand (e.Member x0 x1) (λ k n two small good. lev.move_Member x0 x1 k 8 n (λ u. omega arith) good);
    Projection = λ x0 x1 h0. climbs_operand (e.Projection x0 x1) (λ k n two small good. lev.move_Projection x0 x1 k 8 n (λ u. omega arith) good);
    Index = λ x0 x1 h0 h1. climbs_operand (e.Index x0 x1) (λ k n two small good. lev.move_Index x0 x1 k 8 n (λ u. omega arith) good);
    Call = λ x0 x1 x2 h0 h1. climbs_operand (e.Call x0 x1 x2) (λ k n two small good. lev.move_Call x0 x1 x2 k 8 n (λ u. omega arith) good);
    Bang = λ x0 h0. climbs_operand (e.Bang x0) (λ k n two small good. lev.move_Bang x0 k 8 n (λ u. omega arith) good);
    Constant = λ x0. climbs_operand (e.Constant x0) (λ k n two small good. lev.move_Constant x0 k 8 n (λ u. omega arith) good);
    Variable = λ x0. climbs_operand (e.Variable x0) (λ k n two small good. lev.move_Variable x0 k 8 n (λ u. omega arith) good);
    Parenthesized = λ x0 h0. climbs_operand (e.Parenthesized x0) (λ k n two small good. lev.move_Parenthesized x0 k 8 n (λ u. omega arith) good);
    Array = λ x0 x1 h0. climbs_operand (e.Array x0 x1) (λ k n two small good. lev.move_Array x0 x1 k 8 n (λ u. omega arith) good);
    Object = λ x0 x1 h0. climbs_operand (e.Object x0 x1) (λ k n two small good. lev.move_Object x0 x1 k 8 n (λ u. omega arith) good);
    ActorReference = λ x0 x1. climbs_operand (e.ActorReference x0 x1) (λ k n two small good. lev.move_ActorReference x0 x1 k 8 n (λ u. omega arith) good);
    Block = λ x0 x1 h0. λ least k r two le small short good ends below. absurd (let u = lev.at_Block x0 x1 k (first r) good in omega arith);
    DeclarationField_ = λ x0 x1 h0. tt;
    Case_ = λ x0 x1 h0. tt;
    ExpressionField_ = λ x0 x1 x2 x3 h0. tt;
  }

  climbing : (x : Expression) → Climbing x
  climbing = holds_Expression (only_expressions Climbing) climbing_cases

  climb_stops : (least height n : ℕ) (x : Expression) (r : Input) → s.level_at (s.operator (look r)) < least → p.climb P D least height n x r ≡ Some (x, r)
  unfolding p.climb
  climb_stops least height zero x r lt = refl
  climb_stops least height (suc n) x r lt =
      ap (λ c. (if c then p.operated P D x (s.operator (look r)) >>= p.climb P D least (s.level_at (s.operator (look r))) n else pure x) r) (goes_not least height (s.operator (look r)) lt)

  look_level : (r : Input) → s.level_at (s.operator (look r)) ≡ s.level_at (s.operator (look_next (first r)))
  look_level r = ap (λ a. s.level_at (s.operator a)) (look_first r)

  operations_done : (least : ℕ) → 2 ≤ least → least ≤ 8 → (x : Expression) (r : Input) → length (expression_tokens x) < suc b → IsExpression x least (first r) → EndsOperations least (first r) →
      p.operations P D least (expression_tokens x ++ r) ≡ Some (x, r)
  unfolding p.operations
  operations_done least two small x r short good stops =
      let lt = stops.below in
      let all = climbing x least least r two (omega arith) small short good stops.chain (omega arith) in
      bind_takes (p.unary P D (expression_tokens x ++ r)) _ all.operand all.rest all.reads ∙ all.goes ∙ climb_stops least all.height all.turns x r (omega (arith, look_level r))

  pub operations_exact : (least : ℕ) → 2 ≤ least → least ≤ 8 → Exact (suc b) (p.operations P D least) expression_tokens (At least) (EndsOperations least)
  operations_exact least two small = record { sound = operations_ok least small; complete = operations_done least two small }

  -- ---- types behind an expression

  record Annotates (x : Expression) (i r : Input) : Type 0 where
    operand : Expression
    rest : Input
    reads : p.unary P D i ≡ Some (operand, rest)
    unassigned : s.assignment (look r) ≡ None → s.assignment (look rest) ≡ None
    turns : ℕ
    enough : length r ≤ turns
    goes : p.extended P D operand rest ≡ p.annotations P D turns x r

  abbrev Annotating : Expression → Type 0
  Annotating x = (r : Input) → length (expression_tokens x) < suc b → IsExpression x 1 (first r) → EndsPostfix (first r) → first r ≢ Some (t.Mark m.Arrow) → s.level_at (s.operator (look_next (first r))) < 2 → Annotates x (expression_tokens x ++ r) r

  annotates_operation : (x : Expression) → ((n : Next) → IsExpression x 1 n → IsExpression x 2 n) → Annotating x
  unfolding p.extended p.annotated
  annotates_operation x tighter r short good ends arrow below =
      let all = climbing x 2 2 r (omega arith) (omega arith) (omega arith) short (tighter (first r) good) ends (omega arith) in record {
        operand = all.operand;
        rest = all.rest;
        reads = all.reads;
        unassigned = all.unassigned;
        turns = length r;
        enough = omega arith;
        goes = bind_takes (p.climbed P D 2 all.operand all.rest) _ x r (all.goes ∙ climb_stops 2 all.height all.turns x r (omega (arith, look_level r)));
      }

  annotation_step : (n : ℕ) (x : Expression) (kind : TypeExpression) (r : Input) → IsType kind 0 → EndsType (first r) →
      p.annotations P D (suc n) x (t.Mark m.Colon ∷ (type_tokens kind ++ r)) ≡ p.annotations P D n (e.Annotated x kind) r
  unfolding p.annotations
  annotation_step n x kind r good stops =
      eat_takes (t.Mark m.Colon) tt (type_tokens kind ++ r) _ _
      ∙ bind_takes (a_type (type_tokens kind ++ r)) _ kind r ((a_type_exact (suc (length (type_tokens kind)))).complete kind r (omega arith) good stops)

  annotates_type : (x : Expression) (kind : TypeExpression) → Annotating x → (r : Input) → length (expression_tokens (e.Annotated x kind)) < suc b → IsExpression (e.Annotated x kind) 1 (first r) → EndsType (first r) →
      Annotates (e.Annotated x kind) (expression_tokens (e.Annotated x kind) ++ r) r
  annotates_type x kind annotates r short good stops =
      let u = rule_out2 (eq.rule_Annotated x kind) 1 (first r) good in
      let text = eq.tokens_Annotated x kind in
      let v : Input = t.Mark m.Colon ∷ type_tokens kind in
      let i : Input = t.Mark m.Colon ∷ (type_tokens kind ++ r) in
      let size : length (expression_tokens (e.Annotated x kind)) ≡ length (expression_tokens x) + (length (type_tokens kind) + 1) = ap length text ∙ length-append (expression_tokens x) v ∙ omega arith in
      let all = annotates i (omega arith) u.1 refl (λ k. cc) (omega arith) in
      let turn = one_turn all.turns (length r) (let enough = all.enough in omega (arith, length-append (type_tokens kind) r)) in record {
        operand = all.operand;
        rest = all.rest;
        reads = ap (λ k. p.unary P D (k ++ r)) text ∙ ap (λ k. p.unary P D k) (append_assoc (expression_tokens x) v r) ∙ all.reads;
        unassigned = λ _. all.unassigned refl;
        turns = turn.0;
        enough = turn.2;
        goes = all.goes ∙ ap (λ k. p.annotations P D k x i) turn.1 ∙ annotation_step turn.0 x kind r u.2 stops;
      }

  annotating_cases : Cases (only_expressions Annotating)
  annotating_cases = record {
    Let = λ x0 x1 h0. tt;
    Var = λ x0 x1 x2 h0. tt;
    Func = λ x0 x1 x2 x3 x4 x5 h0. tt;
    TypeAlias = λ x0 x1 x2. tt;
    Class = λ x0 x1 x2 x3 x4 h0. tt;
    NamedObject = λ x0 x1 x2 h0. tt;
    Evaluate = λ x0 h0. tt;
    Assign = λ x0 x1 x2 h0 h1. λ r short good ends arrow below. absurd (let u = lev.at_Assign x0 x1 x2 1 (first r) good in omega arith);
    Annotated = λ x0 x1 h0. λ r short good ends arrow below. annotates_type x0 x1 h0 r short good (no_angle (first r) ends, arrow);
    Binary = λ x0 x1 x2 h0 h1. annotates_operation (e.Binary x0 x1 x2) (λ n good. lev.move_Binary x0 x1 x2 1 2 n (λ u. omega (arith, op_large x0)) good);
    If = λ x0 x1 x2 h0 h1 h2. λ r short good ends arrow below. absurd (let u = lev.at_If x0 x1 x2 1 (first r) good in omega arith);
    Switch = λ x0 x1 x2 h0 h1. λ r short good ends arrow below. absurd (let u = lev.at_Switch x0 x1 x2 1 (first r) good in omega arith);
    While = λ x0 x1 h0 h1. λ r short good ends arrow below. absurd (let u = lev.at_While x0 x1 1 (first r) good in omega arith);
    Loop = λ x0 x1 h0 h1. λ r short good ends arrow below. absurd (let u = lev.at_Loop x0 x1 1 (first r) good in omega arith);
    For = λ x0 x1 x2 h0 h1. λ r short good ends arrow below. absurd (let u = lev.at_For x0 x1 x2 1 (first r) good in omega arith);
    Label = λ x0 x1 x2 h0. λ r short good ends arrow below. absurd (let u = lev.at_Label x0 x1 x2 1 (first r) good in omega arith);
    Break = λ x0 x1 h0. λ r short good ends arrow below. absurd (let u = lev.at_Break x0 x1 1 (first r) good in omega arith);
    Continue = λ x0. λ r short good ends arrow below. absurd (let u = lev.at_Continue x0 1 (first r) good in omega arith);
    Return = λ x0 h0. λ r short good ends arrow below. absurd (let u = lev.at_Return x0 1 (first r) good in omega arith);
    Do = λ x0 h0. λ r short good ends arrow below. absurd (let u = lev.at_Do x0 1 (first r) good in omega arith);
    DoOptional = λ x0 h0. λ r short good ends arrow below. absurd (let u = lev.at_DoOptional x0 1 (first r) good in omega arith);
    Await = λ x0 h0. λ r short good ends arrow below. absurd (let u = lev.at_Await x0 1 (first r) good in omega arith);
    Throw = λ x0 h0. λ r short good ends arrow below. absurd (let u = lev.at_Throw x0 1 (first r) good in omega arith);
    Try = λ x0 x1 x2 h0 h1. λ r short good ends arrow below. absurd (let u = lev.at_Try x0 x1 x2 1 (first r) good in omega arith);
    Assert = λ x0 h0. λ r short good ends arrow below. absurd (let u = lev.at_Assert x0 1 (first r) good in omega arith);
    Ignore = λ x0 h0. λ r short good ends arrow below. absurd (let u = lev.at_Ignore x0 1 (first r) good in omega arith);
    Debug = λ x0 h0. λ r short good ends arrow below. absurd (let u = lev.at_Debug x0 1 (first r) good in omega arith);
    Function = λ x0 x1 x2 x3 h0. λ r short good ends arrow below. absurd (let u = lev.at_Function x0 x1 x2 x3 1 (first r) good in omega arith);
    ObjectBlock = λ x0 x1 h0. λ r short good ends arrow below. absurd (let u = lev.at_ObjectBlock x0 x1 1 (first r) good in omega arith);
    Optional = λ x0 h0. annotates_operation (e.Optional x0) (λ n good. lev.move_Optional x0 1 2 n (λ u. omega arith) good);
    Negative = λ x0 h0. annotates_operation (e.Negative x0) (λ n good. lev.move_Negative x0 1 2 n (λ u. omega arith) good);
    Not = λ x0 h0. annotates_operation (e.Not x0) (λ n good. lev.move_Not x0 1 2 n (λ u. omega arith) good);
    Tagged = λ x0 x1 h0. annotates_operation (e.Tagged x0 x1) (λ n good. lev.move_Tagged x0 x1 1 2 n (λ u. omega arith) good);
    Member = λ x0 x1 h0. annotates_operation (e.Member x0 x1) (λ n good. lev.move_Member x0 x1 1 2 n (λ u. omega arith) good);
    Projection = λ x0 x1 h0. annotates_operation (e.Projection x0 x1) (λ n good. lev.move_Projection x0 x1 1 2 n (λ u. omega arith) good);
    Index = λ x0 x1 h0 h1. annotates_operation (e.Index x0 x1) (λ n good. lev.move_Index x0 x1 1 2 n (λ u. omega arith) good);
    Call = λ x0 x1 x2 h0 h1. annotates_operation (e.Call x0 x1 x2) (λ n good. lev.move_Call x0 x1 x2 1 2 n (λ u. omega arith) good);
    Bang = λ x0 h0. annotates_operation (e.Bang x0) (λ n good. lev.move_Bang x0 1 2 n (λ u. omega arith) good);
    Constant = λ x0. annotates_operation (e.Constant x0) (λ n good. lev.move_Constant x0 1 2 n (λ u. omega arith) good);
    Variable = λ x0. annotates_operation (e.Variable x0) (λ n good. lev.move_Variable x0 1 2 n (λ u. omega arith) good);
    Parenthesized = λ x0 h0. annotates_operation (e.Parenthesized x0) (λ n good. lev.move_Parenthesized x0 1 2 n (λ u. omega arith) good);
    Array = λ x0 x1 h0. annotates_operation (e.Array x0 x1) (λ n good. lev.move_Array x0 x1 1 2 n (λ u. omega arith) good);
    Object = λ x0 x1 h0. annotates_operation (e.Object x0 x1) (λ n good. lev.move_Object x0 x1 1 2 n (λ u. omega arith) good);
    ActorReference = λ x0 x1. annotates_operation (e.ActorReference x0 x1) (λ n good. lev.move_ActorReference x0 x1 1 2 n (λ u. omega arith) good);
    Block = λ x0 x1 h0. λ r short good ends arrow below. absurd (let u = lev.at_Block x0 x1 1 (first r) good in omega arith);
    DeclarationField_ = λ x0 x1 h0. tt;
    Case_ = λ x0 x1 h0. tt;
    ExpressionField_ = λ x0 x1 x2 x3 h0. tt;
  }

  annotations_stop : (n : ℕ) (x : Expression) (r : Input) → first r ≢ Some (t.Mark m.Colon) → p.annotations P D n x r ≡ Some (x, r)
  unfolding p.annotations
  annotations_stop zero x r differs = refl
  annotations_stop (suc n) x r differs = eat_leaves (t.Mark m.Colon) r _ _ differs

  plain_by : (c : Bool) (i : Input) → s.begins_unary (look i) ≡ c → (x : Expression) (j : Input) → p.unary P D i ≡ Some (x, j) → s.assignment (look j) ≡ None → p.plain P D i ≡ p.extended P D x j
  unfolding p.plain p.assigned
  plain_by true i is x j reads none =
      ap (λ c. (if c then p.unary P D >>= p.extended P D else (p.postfix P D >>= p.assigned P D)) i) is ∙ bind_takes (p.unary P D i) _ x j reads
  plain_by false i is x j reads none =
      ap (λ c. (if c then p.unary P D >>= p.extended P D else (p.postfix P D >>= p.assigned P D)) i) is
      ∙ bind_takes (p.postfix P D i) _ x j (sym (unary_is b P D h i is) ∙ reads)
      ∙ ap (λ k. p.assigned_by P D x k j) none

  -- where no assignment follows its first operand, an expression goes on from that
  plain_is : (i : Input) (x : Expression) (j : Input) → p.unary P D i ≡ Some (x, j) → s.assignment (look j) ≡ None → p.plain P D i ≡ p.extended P D x j
  plain_is i x j reads none = plain_by (s.begins_unary (look i)) i refl x j reads none

  pub plain_done : (x : Expression) (r : Input) → length (expression_tokens x) < suc b → IsExpression x 1 (first r) → EndsExpression (first r) → p.plain P D (expression_tokens x ++ r) ≡ Some (x, r)
  plain_done x r short good stops =
      let all = holds_Expression (only_expressions Annotating) annotating_cases x r short good stops.chain stops.arrow stops.below in
      let none : s.assignment (look r) ≡ None = ap s.assignment (look_first r) ∙ stops.assignment in
      plain_is (expression_tokens x ++ r) all.operand all.rest all.reads (all.unassigned none) ∙ all.goes ∙ annotations_stop all.turns x r stops.colon

  pub assign_done : (o : AssignmentOperator) (x z : Expression) (r : Input) → length (expression_tokens (e.Assign o x z)) < suc b → IsExpression (e.Assign o x z) 0 (first r) → EndsExpression (first r) →
      p.plain P D (expression_tokens (e.Assign o x z) ++ r) ≡ Some (e.Assign o x z, r)
  unfolding p.plain p.assigned
  assign_done o x z r short good stops =
      let u = rule_out2 (eq.rule_Assign o x z) 0 (first r) good in
      let text = eq.tokens_Assign o x z in
      let v : Input = assignment_token o ∷ expression_tokens z in
      let i : Input = assignment_token o ∷ (expression_tokens z ++ r) in
      let whole : Input = expression_tokens x ++ i in
      let size : length (expression_tokens (e.Assign o x z)) ≡ length (expression_tokens x) + (length (expression_tokens z) + 1) = ap length text ∙ length-append (expression_tokens x) v ∙ omega arith in
      let here = assign_token o (expression_tokens z ++ r) in
      let done = (postfix_exact b P D h).complete x i (omega arith) u.1 here.1 in
      let never : s.begins_unary (look whole) ≡ false = hardly (s.begins_unary (look whole)) (λ some. let none = not_unary b P D h whole some in absurd (cc)) in
      ap (λ k. p.plain P D (k ++ r)) text ∙ ap (λ k. p.plain P D k) (append_assoc (expression_tokens x) v r)
      ∙ ap (λ c. (if c then p.unary P D >>= p.extended P D else (p.postfix P D >>= p.assigned P D)) whole) never
      ∙ bind_takes (p.postfix P D whole) _ x i done
      ∙ ap (λ k. p.assigned_by P D x k i) here.0
      ∙ bind_takes (P 0 (expression_tokens z ++ r)) _ z r (h.whole.complete z r (omega arith) u.2 stops)
