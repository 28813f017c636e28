-- What goes on with an operand, and operators of one operand, are read exactly.
use Rattle.std.proofs.Common.{◌≡◌, ℕ, zero, suc, ◌+◌, ◌<◌, ◌≤◌, true, false, List, [], ◌∷◌, ◌++◌, length, map, option_map, Option, Some, None, refl, sym, ap, ◌∙◌, subst, arith, append_assoc, length-append}
use Rattle.std.specs.Prelude.{if◌then◌else◌}
use Rattle.mo_syntax.specs.declared.name.Name.{Name}
use Rattle.mo_syntax.specs.declared.token.TokenKind.TheVariants as t
use Rattle.mo_syntax.specs.declared.word.Word.{Word}
use Rattle.mo_syntax.specs.declared.word.Word.TheVariants as w
use Rattle.mo_syntax.specs.declared.mark.Mark.{Mark}
use Rattle.mo_syntax.specs.declared.mark.Mark.TheVariants as m
use Rattle.mo_syntax.specs.declared.types.TypeExpression.{TypeExpression}
use Rattle.mo_syntax.specs.declared.declarations.Declaration.{Declaration}
use Rattle.mo_syntax.specs.declared.expressions.Expression.{Expression}
use Rattle.mo_syntax.specs.declared.expressions.Expression.TheVariants as e
use Rattle.mo_syntax.specs.Writing as W
use Rattle.mo_syntax.specs.Writing.{literal_token}
use Rattle.mo_syntax.specs.Parts.{EachWithin, Listed}
use Rattle.mo_syntax.specs.TypeGrammar.{type_tokens, IsType}
use Rattle.mo_syntax.specs.ExpressionGrammar.{first, expression_tokens, IsExpression, begins_postfix}
use Rattle.mo_syntax.proofs.ExpressionEquations as eq
use Rattle.mo_syntax.proofs.ExpressionInduction.{Cases, holds_Expression}
use Rattle.mo_parser_base.specs.declared.look.Look.{Look}
use Rattle.mo_parser_base.specs.declared.look.Look.TheVariants as l
use Rattle.mo_parser_base.specs.Input.{Input, Parser, ◌>>=◌, ◌<$>◌, ◌&◌, ◌▸◌, ◌◂◌, pure, look, next, identifier, number, text, literal, comma, commas}
use Rattle.mo_parser_base.proofs.Steps.{bind_ok, bind_takes, look_mark, look_word}
use Rattle.mo_parser_base.proofs.Exact.{Took, Exact, Any, took_as, both, led_by, ended_by, a_name, a_number, fewer}
use Rattle.mo_parser_base.proofs.Made.{made_behind, makes_behind}
use Rattle.mo_parser_types.specs.Generics.{type_arguments}
use Rattle.mo_parser_types.proofs.Angles.{type_arguments_exact}
use Rattle.mo_parser_patterns.specs.Ends.{look_next}
use Rattle.mo_parser_patterns.proofs.Unary.{look_first}
use Rattle.mo_parser_expressions.specs.Expressions as p
use Rattle.mo_parser_expressions.specs.Signs as s
use Rattle.mo_parser_exact.specs.Ends.{EndsPostfix}
use Rattle.mo_parser_exact.proofs.Levels as lev
use Rattle.mo_parser_exact.proofs.Levels.{Next, rule_in2, rule_out2, only_expressions, op_small, op_large, op_left, op_left_small, lowers, is_block}
use Rattle.mo_parser_exact.proofs.Operands.{At, Inner, to_tagged, to_call, cases_if, surely, hardly, one_turn, before, arguments_exact, atom_ok, read_variable, read_constant, read_parenthesized, read_array, read_record, read_actor, ends_bracket}

module _ (b : ℕ) (P : ℕ → Parser Expression) (D : Parser Declaration) (h : Inner b P D) where
  -- ---- a longer operand

  selected_ok : (a : Look) (x : Expression) (i0 i j : Input) (y : Expression) (r : Input) → Took expression_tokens (At 9) x i0 i → i ≡ t.Mark m.Dot ∷ j → p.selected_by P D x a j ≡ Some (y, r) → Took expression_tokens (At 9) y i0 r
  selected_ok l.Number x i0 i j y r took is h0 = bind_ok (number j) _ (y, r) h0 (λ z k was h1.
      let last = (a_number b).sound j z k was in
      took_as (e.Projection x z) k y r (record {
        text = took.text ∙ ap (λ u. expression_tokens x ++ u) (is ∙ ap (λ u. t.Mark m.Dot ∷ u) last.text) ∙ sym (append_assoc (expression_tokens x) (t.Mark m.Dot ∷ t.Number z ∷ []) k) ∙ ap (λ u. u ++ k) (sym (eq.tokens_Projection x z));
        good = rule_in2 (eq.rule_Projection x z) 9 (first k) (omega arith, before x 9 i (t.Mark m.Dot) j is took.good);
      }) h1)
  selected_ok _ x i0 i j y r took is h0 = bind_ok (identifier j) _ (y, r) h0 (λ z k was h1.
      let last = (a_name b).sound j z k was in
      took_as (e.Member x z) k y r (record {
        text = took.text ∙ ap (λ u. expression_tokens x ++ u) (is ∙ ap (λ u. t.Mark m.Dot ∷ u) last.text) ∙ sym (append_assoc (expression_tokens x) (t.Mark m.Dot ∷ t.Identifier z ∷ []) k) ∙ ap (λ u. u ++ k) (sym (eq.tokens_Member x z));
        good = rule_in2 (eq.rule_Member x z) 9 (first k) (omega arith, before x 9 i (t.Mark m.Dot) j is took.good);
      }) h1)

  indexed_exact : Exact b (P 0 ◂ t.Mark m.BracketClose) (λ x. expression_tokens x ++ t.Mark m.BracketClose ∷ []) (λ x n. IsExpression x 0 (Some (t.Mark m.BracketClose))) Any
  indexed_exact = ended_by (t.Mark m.BracketClose) tt h.whole ends_bracket

  indexed_ok : (x : Expression) (i0 i j : Input) (y : Expression) (r : Input) → Took expression_tokens (At 9) x i0 i → i ≡ t.Mark m.BracketOpen ∷ j → p.indexed P D x j ≡ Some (y, r) → Took expression_tokens (At 9) y i0 r
  unfolding p.indexed
  indexed_ok x i0 i j y r took is h0 = bind_ok ((P 0 ◂ t.Mark m.BracketClose) j) _ (y, r) h0 (λ z k was h1.
      let last = indexed_exact.sound j z k was in
      took_as (e.Index x z) k y r (record {
        text = took.text ∙ ap (λ u. expression_tokens x ++ u) (is ∙ ap (λ u. t.Mark m.BracketOpen ∷ u) last.text)
            ∙ sym (append_assoc (expression_tokens x) (t.Mark m.BracketOpen ∷ (expression_tokens z ++ t.Mark m.BracketClose ∷ [])) k) ∙ ap (λ u. u ++ k) (sym (eq.tokens_Index x z));
        good = rule_in2 (eq.rule_Index x z) 9 (first k) (omega arith, before x 9 i (t.Mark m.BracketOpen) j is took.good, last.good);
      }) h1)

  called_parts : Exact b (type_arguments & (t.Mark m.ParenOpen ▸ commas (P 0) (t.Mark m.ParenClose))) (λ z. W.angles (option_map (map type_tokens) z.0) ++ t.Mark m.ParenOpen ∷ (W.commas (map expression_tokens z.1) ++ t.Mark m.ParenClose ∷ []))
      (λ z n. EachWithin (λ a. IsType a 0) z.0 × Listed (λ x k. IsExpression x 0 (Some k)) comma (t.Mark m.ParenClose) z.1) Any
  called_parts = both (type_arguments_exact b) (fewer (led_by (t.Mark m.ParenOpen) tt (arguments_exact b P D h))) (λ y r short good stops u. cc)

  -- the same to one token more: its mark is one of them
  called_wide : Exact (suc b) (type_arguments & (t.Mark m.ParenOpen ▸ commas (P 0) (t.Mark m.ParenClose))) (λ z. W.angles (option_map (map type_tokens) z.0) ++ t.Mark m.ParenOpen ∷ (W.commas (map expression_tokens z.1) ++ t.Mark m.ParenClose ∷ []))
      (λ z n. EachWithin (λ a. IsType a 0) z.0 × Listed (λ x k. IsExpression x 0 (Some k)) comma (t.Mark m.ParenClose) z.1) Any
  called_wide = both (type_arguments_exact (suc b)) (led_by (t.Mark m.ParenOpen) tt (arguments_exact b P D h)) (λ y r short good stops u. cc)

  call_good : (x : Expression) (z : Option (List TypeExpression) × List Expression) (n : Next) (i k : Input) →
      i ≡ (W.angles (option_map (map type_tokens) z.0) ++ t.Mark m.ParenOpen ∷ (W.commas (map expression_tokens z.1) ++ t.Mark m.ParenClose ∷ [])) ++ k → IsExpression x 9 (first i) →
      EachWithin (λ a. IsType a 0) z.0 × Listed (λ x k. IsExpression x 0 (Some k)) comma (t.Mark m.ParenClose) z.1 → IsExpression (to_call x z) 9 n
  call_good x (None, xs) n i k is good parts = rule_in2 (eq.rule_Call x None xs) 9 n (omega arith, subst (λ u. IsExpression x 9 (first u)) is good, parts.1)
  call_good x (Some ts, xs) n i k is good parts = rule_in2 (eq.rule_Call x (Some ts) xs) 9 n (omega arith, subst (λ u. IsExpression x 9 (first u)) is good, parts.0, parts.1)

  called_ok : (x : Expression) (i0 i : Input) (y : Expression) (r : Input) → Took expression_tokens (At 9) x i0 i → p.called P D x i ≡ Some (y, r) → Took expression_tokens (At 9) y i0 r
  unfolding p.called
  called_ok x i0 i y r took h0 = bind_ok ((type_arguments & (t.Mark m.ParenOpen ▸ commas (P 0) (t.Mark m.ParenClose))) i) _ (y, r) h0 (λ z k was h1.
      let last = called_parts.sound i z k was in
      took_as (to_call x z) k y r (record {
        text = took.text ∙ ap (λ u. expression_tokens x ++ u) last.text ∙ sym (append_assoc (expression_tokens x) _ k) ∙ ap (λ u. u ++ k) (sym (eq.tokens_Call x z.0 z.1));
        good = call_good x z (first k) i k last.text took.good last.good;
      }) h1)

  bang_ok : (x : Expression) (i0 i j : Input) (y : Expression) (r : Input) → Took expression_tokens (At 9) x i0 i → i ≡ t.Mark m.Bang ∷ j → pure (e.Bang x) j ≡ Some (y, r) → Took expression_tokens (At 9) y i0 r
  bang_ok x i0 i j y r took is h0 = took_as (e.Bang x) j y r (record {
    text = took.text ∙ ap (λ u. expression_tokens x ++ u) is ∙ sym (append_assoc (expression_tokens x) (t.Mark m.Bang ∷ []) j) ∙ ap (λ u. u ++ j) (sym (eq.tokens_Bang x));
    good = rule_in2 (eq.rule_Bang x) 9 (first j) (omega arith, before x 9 i (t.Mark m.Bang) j is took.good);
  }) h0

  longer_by_ok : (a : Look) (x : Expression) (i0 i : Input) (y : Expression) (r : Input) → look i ≡ a → Took expression_tokens (At 9) x i0 i → p.longer_by P D x a i ≡ Some (y, r) → Took expression_tokens (At 9) y i0 r
  unfolding p.selected
  longer_by_ok (l.Mark m.Dot) x i0 i y r is took h0 = selected_ok (look (next i)) x i0 i (next i) y r took (look_mark i m.Dot is) h0
  longer_by_ok (l.Mark m.BracketOpen) x i0 i y r is took h0 = indexed_ok x i0 i (next i) y r took (look_mark i m.BracketOpen is) h0
  longer_by_ok (l.Mark m.AngleOpen) x i0 i y r is took h0 = called_ok x i0 i y r took h0
  longer_by_ok (l.Mark m.ParenOpen) x i0 i y r is took h0 = called_ok x i0 i y r took h0
  longer_by_ok (l.Mark m.Bang) x i0 i y r is took h0 = bang_ok x i0 i (next i) y r took (look_mark i m.Bang is) h0
  longer_by_ok _ x i0 i y r is took h0 = absurd (cc)

  chain_ok : (n : ℕ) (x : Expression) (i0 i : Input) (y : Expression) (r : Input) → Took expression_tokens (At 9) x i0 i → p.chain P D n x i ≡ Some (y, r) → Took expression_tokens (At 9) y i0 r
  unfolding p.chain p.longer
  chain_ok zero x i0 i y r took h0 = took_as x i y r took h0
  chain_ok (suc n) x i0 i y r took h0 = cases_if (s.goes_on (look i)) (p.longer P D x >>= p.chain P D n) (pure x) i (y, r) h0
      (λ _ h1. bind_ok (p.longer P D x i) _ (y, r) h1 (λ z k was h2. chain_ok n z i0 k y r (longer_by_ok (look i) x i0 i z k refl took was) h2))
      (λ _ h1. took_as x i y r took h1)

  pub postfix_ok : (i : Input) (y : Expression) (r : Input) → p.postfix P D i ≡ Some (y, r) → Took expression_tokens (At 9) y i r
  unfolding p.postfix
  postfix_ok i y r h0 = bind_ok (p.atom P D i) _ (y, r) h0 (λ z k was h1. chain_ok (length k) z i k y r (atom_ok b P D h i z k was) h1)

  -- ---- what is read to the end of an operand goes on from it

  abbrev Goes : Expression → Type 0
  Goes x = (r : Input) → length (expression_tokens x) < suc b → IsExpression x 9 (first r) → (n : ℕ) × (length r ≤ n) × (p.postfix P D (expression_tokens x ++ r) ≡ p.chain P D n x r)

  from_atom : (x : Expression) → ((r : Input) → length (expression_tokens x) < suc b → IsExpression x 9 (first r) → p.atom P D (expression_tokens x ++ r) ≡ Some (x, r)) → Goes x
  unfolding p.postfix
  from_atom x reads r short good = (length r, omega arith, bind_takes (p.atom P D (expression_tokens x ++ r)) _ x r (reads r short good))

  chain_step : (n : ℕ) (x z : Expression) (i r : Input) → s.goes_on (look i) ≡ true → p.longer P D x i ≡ Some (z, r) → p.chain P D (suc n) x i ≡ p.chain P D n z r
  unfolding p.chain
  chain_step n x z i r goes reads =
      ap (λ c. (if c then p.longer P D x >>= p.chain P D n else pure x) i) goes ∙ bind_takes (p.longer P D x i) _ z r reads

  -- a tree that a suffix makes longer
  goes_on : (x z : Expression) (v r : Input) → Goes x → expression_tokens z ≡ expression_tokens x ++ v → 0 < length v → length (expression_tokens z) < suc b →
      IsExpression x 9 (first (v ++ r)) → s.goes_on (look (v ++ r)) ≡ true → p.longer P D x (v ++ r) ≡ Some (z, r) →
      (n : ℕ) × (length r ≤ n) × (p.postfix P D (expression_tokens z ++ r) ≡ p.chain P D n z r)
  goes_on x z v r goes text some short good more reads =
      let i : Input = v ++ r in
      let size : length (expression_tokens z) ≡ length (expression_tokens x) + length v = ap length text ∙ length-append (expression_tokens x) v in
      let all = goes i (omega arith) good in
      let turn = one_turn all.0 (length r) (let enough = all.1 in omega (arith, length-append v r)) in (
        turn.0,
        turn.2,
        ap (λ u. p.postfix P D (u ++ r)) text ∙ ap (λ u. p.postfix P D u) (append_assoc (expression_tokens x) v r) ∙ all.2 ∙ ap (λ u. p.chain P D u x i) turn.1 ∙ chain_step turn.0 x z i r more reads,
      )

  goes_member : (x : Expression) (y : Name) → Goes x → Goes (e.Member x y)
  unfolding p.longer p.selected identifier
  goes_member x y goes r short good = goes_on x (e.Member x y) (t.Mark m.Dot ∷ t.Identifier y ∷ []) r goes (eq.tokens_Member x y) (omega arith) short (rule_out2 (eq.rule_Member x y) 9 (first r) good).1 refl refl

  goes_projection : (x : Expression) (y : ℕ) → Goes x → Goes (e.Projection x y)
  unfolding p.longer p.selected number
  goes_projection x y goes r short good = goes_on x (e.Projection x y) (t.Mark m.Dot ∷ t.Number y ∷ []) r goes (eq.tokens_Projection x y) (omega arith) short (rule_out2 (eq.rule_Projection x y) 9 (first r) good).1 refl refl

  goes_bang : (x : Expression) → Goes x → Goes (e.Bang x)
  unfolding p.longer
  goes_bang x goes r short good = goes_on x (e.Bang x) (t.Mark m.Bang ∷ []) r goes (eq.tokens_Bang x) (omega arith) short (rule_out2 (eq.rule_Bang x) 9 (first r) good).1 refl refl

  goes_index : (x y : Expression) → Goes x → Goes (e.Index x y)
  unfolding p.longer p.indexed
  goes_index x y goes r short good =
      let u = rule_out2 (eq.rule_Index x y) 9 (first r) good in
      let v : Input = t.Mark m.BracketOpen ∷ (expression_tokens y ++ t.Mark m.BracketClose ∷ []) in
      let size : length (expression_tokens (e.Index x y)) ≡ length (expression_tokens x) + length v = ap length (eq.tokens_Index x y) ∙ length-append (expression_tokens x) v in
      goes_on x (e.Index x y) v r goes (eq.tokens_Index x y) (omega arith) short u.1 refl
      (bind_takes ((P 0 ◂ t.Mark m.BracketClose) ((expression_tokens y ++ t.Mark m.BracketClose ∷ []) ++ r)) _ y r (indexed_exact.complete y r (omega arith) u.2 tt))

  abbrev Arguments : Option (List TypeExpression) × List Expression → Input
  Arguments z = W.angles (option_map (map type_tokens) z.0) ++ t.Mark m.ParenOpen ∷ (W.commas (map expression_tokens z.1) ++ t.Mark m.ParenClose ∷ [])

  call_facts : (x : Expression) (z : Option (List TypeExpression) × List Expression) (r : Input) → IsExpression (to_call x z) 9 (first r) →
      IsExpression x 9 (first (Arguments z ++ r)) × (EachWithin (λ a. IsType a 0) z.0 × Listed (λ y k. IsExpression y 0 (Some k)) comma (t.Mark m.ParenClose) z.1)
  call_facts x (None, xs) r good = let u = rule_out2 (eq.rule_Call x None xs) 9 (first r) good in (u.1, (tt, u.2))
  call_facts x (Some ts, xs) r good = let u = rule_out2 (eq.rule_Call x (Some ts) xs) 9 (first r) good in (u.1, (u.2, u.3))

  call_begins : (x : Expression) (z : Option (List TypeExpression) × List Expression) (r : Input) →
      (s.goes_on (look (Arguments z ++ r)) ≡ true) × (p.longer P D x (Arguments z ++ r) ≡ p.called P D x (Arguments z ++ r)) × (0 < length (Arguments z))
  unfolding p.longer
  call_begins x (None, xs) r = (refl, refl, omega arith)
  call_begins x (Some ts, xs) r = (refl, refl, omega arith)

  goes_call : (x : Expression) (z : Option (List TypeExpression) × List Expression) → Goes x → Goes (to_call x z)
  unfolding p.called
  goes_call x z goes r short good =
      let u = call_facts x z r good in
      let size : length (expression_tokens (to_call x z)) ≡ length (expression_tokens x) + length (Arguments z) = ap length (eq.tokens_Call x z.0 z.1) ∙ length-append (expression_tokens x) (Arguments z) in
      let begins = call_begins x z r in
      goes_on x (to_call x z) (Arguments z) r goes (eq.tokens_Call x z.0 z.1) begins.2 short u.0 begins.0
      (begins.1 ∙ bind_takes ((type_arguments & (t.Mark m.ParenOpen ▸ commas (P 0) (t.Mark m.ParenClose))) (Arguments z ++ r)) _ z r (called_wide.complete z r (omega arith) u.1 tt))

  goes_cases : Cases (only_expressions Goes)
  goes_cases = record {
    Let = λ x0 x1 h0. tt;
    Var = λ x0 x1 x2 h0. tt;
    Func = λ x0 x1 x2 x3 x4 x5 h0. tt;
    TypeAlias = λ x0 x1 x2. tt;
    Class = λ x0 x1 x2 x3 x4 h0. tt;
    NamedObject = λ x0 x1 x2 h0. tt;
    Evaluate = λ x0 h0. tt;
    Assign = λ x0 x1 x2 h0 h1. λ r short good. absurd (let u = lev.at_Assign x0 x1 x2 9 (first r) good in omega arith);
    Annotated = λ x0 x1 h0. λ r short good. absurd (let u = lev.at_Annotated x0 x1 9 (first r) good in omega arith);
    Binary = λ x0 x1 x2 h0 h1. λ r short good. absurd (let u = lev.at_Binary x0 x1 x2 9 (first r) good in omega (arith, op_small x0));
    If = λ x0 x1 x2 h0 h1 h2. λ r short good. absurd (let u = lev.at_If x0 x1 x2 9 (first r) good in omega arith);
    Switch = λ x0 x1 x2 h0 h1. λ r short good. absurd (let u = lev.at_Switch x0 x1 x2 9 (first r) good in omega arith);
    While = λ x0 x1 h0 h1. λ r short good. absurd (let u = lev.at_While x0 x1 9 (first r) good in omega arith);
    Loop = λ x0 x1 h0 h1. λ r short good. absurd (let u = lev.at_Loop x0 x1 9 (first r) good in omega arith);
    For = λ x0 x1 x2 h0 h1. λ r short good. absurd (let u = lev.at_For x0 x1 x2 9 (first r) good in omega arith);
    Label = λ x0 x1 x2 h0. λ r short good. absurd (let u = lev.at_Label x0 x1 x2 9 (first r) good in omega arith);
    Break = λ x0 x1 h0. λ r short good. absurd (let u = lev.at_Break x0 x1 9 (first r) good in omega arith);
    Continue = λ x0. λ r short good. absurd (let u = lev.at_Continue x0 9 (first r) good in omega arith);
    Return = λ x0 h0. λ r short good. absurd (let u = lev.at_Return x0 9 (first r) good in omega arith);
    Do = λ x0 h0. λ r short good. absurd (let u = lev.at_Do x0 9 (first r) good in omega arith);
    DoOptional = λ x0 h0. λ r short good. absurd (let u = lev.at_DoOptional x0 9 (first r) good in omega arith);
    Await = λ x0 h0. λ r short good. absurd (let u = lev.at_Await x0 9 (first r) good in omega arith);
    Throw = λ x0 h0. λ r short good. absurd (let u = lev.at_Throw x0 9 (first r) good in omega arith);
    Try = λ x0 x1 x2 h0 h1. λ r short good. absurd (let u = lev.at_Try x0 x1 x2 9 (first r) good in omega arith);
    Assert = λ x0 h0. λ r short good. absurd (let u = lev.at_Assert x0 9 (first r) good in omega arith);
    Ignore = λ x0 h0. λ r short good. absurd (let u = lev.at_Ignore x0 9 (first r) good in omega arith);
    Debug = λ x0 h0. λ r short good. absurd (let u = lev.at_Debug x0 9 (first r) good in omega arith);
    Function = λ x0 x1 x2 x3 h0. λ r short good. absurd (let u = lev.at_Function x0 x1 x2 x3 9 (first r) good in omega arith);
    ObjectBlock = λ x0 x1 h0. λ r short good. absurd (let u = lev.at_ObjectBlock x0 x1 9 (first r) good in omega arith);
    Optional = λ x0 h0. λ r short good. absurd (let u = lev.at_Optional x0 9 (first r) good in omega arith);
    Negative = λ x0 h0. λ r short good. absurd (let u = lev.at_Negative x0 9 (first r) good in omega arith);
    Not = λ x0 h0. λ r short good. absurd (let u = lev.at_Not x0 9 (first r) good in omega arith);
    Tagged = λ x0 x1 h0. λ r short good. absurd (let u = lev.at_Tagged x0 x1 9 (first r) good in omega arith);
    Member = λ x0 x1 h0. goes_member x0 x1 h0;
    Projection = λ x0 x1 h0. goes_projection x0 x1 h0;
    Index = λ x0 x1 h0 h1. goes_index x0 x1 h0;
    Call = λ x0 x1 x2 h0 h1. goes_call x0 (x1, x2) h0;
    Bang = λ x0 h0. goes_bang x0 h0;
    Constant = λ x0. from_atom (e.Constant x0) (read_constant b P D h x0);
    Variable = λ x0. from_atom (e.Variable x0) (read_variable b P D h x0);
    Parenthesized = λ x0 h0. from_atom (e.Parenthesized x0) (read_parenthesized b P D h x0);
    Array = λ x0 x1 h0. from_atom (e.Array x0 x1) (read_array b P D h x0 x1);
    Object = λ x0 x1 h0. from_atom (e.Object x0 x1) (read_record b P D h x0 x1);
    ActorReference = λ x0 x1. from_atom (e.ActorReference x0 x1) (read_actor b P D h x0 x1);
    Block = λ x0 x1 h0. λ r short good. absurd (let u = lev.at_Block x0 x1 9 (first r) good in omega arith);
    DeclarationField_ = λ x0 x1 h0. tt;
    Case_ = λ x0 x1 h0. tt;
    ExpressionField_ = λ x0 x1 x2 x3 h0. tt;
  }

  chain_stops : (n : ℕ) (x : Expression) (r : Input) → s.goes_on (look r) ≡ false → p.chain P D n x r ≡ Some (x, r)
  unfolding p.chain
  chain_stops zero x r stop = refl
  chain_stops (suc n) x r stop = ap (λ c. (if c then p.longer P D x >>= p.chain P D n else pure x) r) stop

  postfix_done : (x : Expression) (r : Input) → length (expression_tokens x) < suc b → IsExpression x 9 (first r) → EndsPostfix (first r) → p.postfix P D (expression_tokens x ++ r) ≡ Some (x, r)
  postfix_done x r short good stops = let all = holds_Expression (only_expressions Goes) goes_cases x r short good in
      all.2 ∙ chain_stops all.0 x r (ap s.goes_on (look_first r) ∙ stops)

  pub postfix_exact : Exact (suc b) (p.postfix P D) expression_tokens (At 9) EndsPostfix
  postfix_exact = record { sound = postfix_ok; complete = postfix_done }

  -- ---- one operand

  abbrev Payload : Option Expression → Input
  Payload x = W.optional (option_map expression_tokens x)

  -- what the rule of a tag says of what it carries
  abbrev Carried : Option Expression → Next → Type 0
  Carried None n = s.begins_postfix (look_next n) ≡ false
  Carried (Some x) n = IsExpression x 9 n

  payload_done : (x : Option Expression) (r : Input) → length (Payload x) < b → Carried x (first r) → EndsPostfix (first r) → p.payload P D (Payload x ++ r) ≡ Some (x, r)
  unfolding p.payload
  payload_done None r short good stops = ap (λ c. (if c then Some <$> P 9 else pure None) r) (ap s.begins_postfix (look_first r) ∙ good)
  payload_done (Some x) r short good stops =
      let i : Input = expression_tokens x ++ r in
      let done = h.postfix.complete x r short good stops in
      let begun : s.begins_postfix (look i) ≡ true = surely (s.begins_postfix (look i)) (λ never. let none = h.must_begin_postfix i never in absurd (cc)) in
      ap (λ c. (if c then Some <$> P 9 else pure None) i) begun ∙ bind_takes (P 9 i) _ x r done

  payload_exact : Exact b (p.payload P D) Payload Carried EndsPostfix
  unfolding p.payload
  payload_exact = record {
    sound = λ i x r h0. cases_if (s.begins_postfix (look i)) (Some <$> P 9) (pure None) i (x, r) h0
        (λ _ h1. bind_ok (P 9 i) _ (x, r) h1 (λ y j was h2. let took = h.postfix.sound i y j was in took_as (Some y) j x r (record { text = took.text; good = took.good }) h2))
        (λ never h1. took_as None i x r (record { text = refl; good = sym (ap s.begins_postfix (look_first i)) ∙ never }) h1);
    complete = payload_done;
  }

  tagged_parts : Exact b (identifier & p.payload P D) (λ z. (t.Identifier z.0 ∷ []) ++ Payload z.1) (λ z n. Unit {0} × Carried z.1 n) EndsPostfix
  tagged_parts = both (a_name b) payload_exact (λ y r short good stops. tt)

  begins_same : (n : Next) → begins_postfix n ≡ s.begins_postfix (look_next n)
  begins_same None = refl
  begins_same (Some (t.Identifier x)) = refl
  begins_same (Some (t.Number x)) = refl
  begins_same (Some (t.Character x)) = refl
  begins_same (Some (t.Text x)) = refl
  begins_same (Some (t.Reserved x)) = refl
  begins_same (Some (t.Mark x)) = refl

  tagged_good : (z : Name × Option Expression) (n : Next) → Carried z.1 n → IsExpression (to_tagged z) 8 n
  tagged_good (x, None) n good = rule_in2 (eq.rule_Tagged x None) 8 n (omega arith, begins_same n ∙ good)
  tagged_good (x, Some y) n good = rule_in2 (eq.rule_Tagged x (Some y)) 8 n (omega arith, good)

  tagged_fact : (z : Name × Option Expression) (n : Next) → IsExpression (to_tagged z) 8 n → Carried z.1 n
  tagged_fact (x, None) n good = sym (begins_same n) ∙ (rule_out2 (eq.rule_Tagged x None) 8 n good).1
  tagged_fact (x, Some y) n good = (rule_out2 (eq.rule_Tagged x (Some y)) 8 n good).1

  unary_by_ok : (a : Look) (i : Input) (y : Expression) (r : Input) → look i ≡ a → p.unary_by P D a i ≡ Some (y, r) → Took expression_tokens (At 8) y i r
  unfolding p.tagged
  unary_by_ok (l.Mark m.Question) i y r is h0 =
      made_behind (t.Mark m.Question) h.unary e.Optional expression_tokens (At 8) eq.tokens_Optional (λ z n good. rule_in2 (eq.rule_Optional z) 8 n (omega arith, good)) i (next i) (look_mark i m.Question is) y r h0
  unary_by_ok (l.Mark m.Minus) i y r is h0 =
      made_behind (t.Mark m.Minus) h.unary e.Negative expression_tokens (At 8) eq.tokens_Negative (λ z n good. rule_in2 (eq.rule_Negative z) 8 n (omega arith, good)) i (next i) (look_mark i m.Minus is) y r h0
  unary_by_ok (l.Reserved w.Not) i y r is h0 =
      made_behind (t.Reserved w.Not) h.unary e.Not expression_tokens (At 8) eq.tokens_Not (λ z n good. rule_in2 (eq.rule_Not z) 8 n (omega arith, good)) i (next i) (look_word i w.Not is) y r h0
  unary_by_ok (l.Mark m.Tag) i y r is h0 =
      made_behind (t.Mark m.Tag) tagged_parts to_tagged expression_tokens (At 8) (λ z. eq.tokens_Tagged z.0 z.1) (λ z n good. tagged_good z n good.1) i (next i) (look_mark i m.Tag is) y r h0
  unary_by_ok _ i y r is h0 = let took = postfix_ok i y r h0 in record { text = took.text; good = lowers y 9 8 (first r) (omega arith) (omega arith) took.good }

  unary_ok : (i : Input) (y : Expression) (r : Input) → p.unary P D i ≡ Some (y, r) → Took expression_tokens (At 8) y i r
  unfolding p.unary
  unary_ok i y r h0 = unary_by_ok (look i) i y r refl h0

  -- a parser of operands refuses what begins with an operator of one operand
  mark_must : (a : Mark) (i : Input) → s.begins_unary (l.Mark a) ≡ true → p.postfix P D (t.Mark a ∷ i) ≡ None
  unfolding p.postfix p.atom p.constant literal
  mark_must m.Question i some = refl
  mark_must m.Minus i some = refl
  mark_must m.Tag i some = refl
  mark_must _ i some = absurd (cc)

  word_must : (a : Word) (i : Input) → s.begins_unary (l.Reserved a) ≡ true → p.postfix P D (t.Reserved a ∷ i) ≡ None
  unfolding p.postfix p.atom p.constant literal
  word_must w.Not i some = refl
  word_must _ i some = absurd (cc)

  pub not_unary : (i : Input) → s.begins_unary (look i) ≡ true → p.postfix P D i ≡ None
  not_unary [] some = absurd (cc)
  not_unary (t.Mark a ∷ i) some = mark_must a i some
  not_unary (t.Reserved a ∷ i) some = word_must a i some
  not_unary (t.Identifier x ∷ i) some = absurd (cc)
  not_unary (t.Number x ∷ i) some = absurd (cc)
  not_unary (t.Character x ∷ i) some = absurd (cc)
  not_unary (t.Text x ∷ i) some = absurd (cc)

  unary_same : (a : Look) → s.begins_unary a ≡ false → p.unary_by P D a ≡ p.postfix P D
  unary_same (l.Mark m.Question) never = absurd (cc)
  unary_same (l.Mark m.Minus) never = absurd (cc)
  unary_same (l.Mark m.Tag) never = absurd (cc)
  unary_same (l.Reserved w.Not) never = absurd (cc)
  unary_same _ never = refl

  pub unary_is : (i : Input) → s.begins_unary (look i) ≡ false → p.unary P D i ≡ p.postfix P D i
  unfolding p.unary
  unary_is i never = ap (λ q. q i) (unary_same (look i) never)

  abbrev Read : Expression → Type 0
  Read x = (r : Input) → length (expression_tokens x) < suc b → IsExpression x 8 (first r) → EndsPostfix (first r) → p.unary P D (expression_tokens x ++ r) ≡ Some (x, r)

  read_operand : (x : Expression) → ((n : Next) → IsExpression x 8 n → IsExpression x 9 n) → Read x
  read_operand x tighter r short good stops =
      let done = postfix_done x r short (tighter (first r) good) stops in
      let i : Input = expression_tokens x ++ r in
      unary_is i (hardly (s.begins_unary (look i)) (λ some. let none = not_unary i some in absurd (cc))) ∙ done

  read_Optional : (x : Expression) → Read (e.Optional x)
  unfolding p.unary
  read_Optional x r short good stops = makes_behind (t.Mark m.Question) h.unary e.Optional expression_tokens x (eq.tokens_Optional x) (p.unary P D) r refl short (rule_out2 (eq.rule_Optional x) 8 (first r) good).1 stops

  read_Negative : (x : Expression) → Read (e.Negative x)
  unfolding p.unary
  read_Negative x r short good stops = makes_behind (t.Mark m.Minus) h.unary e.Negative expression_tokens x (eq.tokens_Negative x) (p.unary P D) r refl short (rule_out2 (eq.rule_Negative x) 8 (first r) good).1 stops

  read_Not : (x : Expression) → Read (e.Not x)
  unfolding p.unary
  read_Not x r short good stops = makes_behind (t.Reserved w.Not) h.unary e.Not expression_tokens x (eq.tokens_Not x) (p.unary P D) r refl short (rule_out2 (eq.rule_Not x) 8 (first r) good).1 stops

  read_tagged : (z : Name × Option Expression) → Read (to_tagged z)
  unfolding p.unary p.tagged
  read_tagged z r short good stops = makes_behind (t.Mark m.Tag) tagged_parts to_tagged expression_tokens z (eq.tokens_Tagged z.0 z.1) (p.unary P D) r refl short (tt, tagged_fact z (first r) good) stops

  read_cases : Cases (only_expressions Read)
  read_cases = record {
    Let = λ x0 x1 h0. tt;
    Var = λ x0 x1 x2 h0. tt;
    Func = λ x0 x1 x2 x3 x4 x5 h0. tt;
    TypeAlias = λ x0 x1 x2. tt;
    Class = λ x0 x1 x2 x3 x4 h0. tt;
    NamedObject = λ x0 x1 x2 h0. tt;
    Evaluate = λ x0 h0. tt;
    Assign = λ x0 x1 x2 h0 h1. λ r short good stops. absurd (let u = lev.at_Assign x0 x1 x2 8 (first r) good in omega arith);
    Annotated = λ x0 x1 h0. λ r short good stops. absurd (let u = lev.at_Annotated x0 x1 8 (first r) good in omega arith);
    Binary = λ x0 x1 x2 h0 h1. λ r short good stops. absurd (let u = lev.at_Binary x0 x1 x2 8 (first r) good in omega (arith, op_small x0));
    If = λ x0 x1 x2 h0 h1 h2. λ r short good stops. absurd (let u = lev.at_If x0 x1 x2 8 (first r) good in omega arith);
    Switch = λ x0 x1 x2 h0 h1. λ r short good stops. absurd (let u = lev.at_Switch x0 x1 x2 8 (first r) good in omega arith);
    While = λ x0 x1 h0 h1. λ r short good stops. absurd (let u = lev.at_While x0 x1 8 (first r) good in omega arith);
    Loop = λ x0 x1 h0 h1. λ r short good stops. absurd (let u = lev.at_Loop x0 x1 8 (first r) good in omega arith);
    For = λ x0 x1 x2 h0 h1. λ r short good stops. absurd (let u = lev.at_For x0 x1 x2 8 (first r) good in omega arith);
    Label = λ x0 x1 x2 h0. λ r short good stops. absurd (let u = lev.at_Label x0 x1 x2 8 (first r) good in omega arith);
    Break = λ x0 x1 h0. λ r short good stops. absurd (let u = lev.at_Break x0 x1 8 (first r) good in omega arith);
    Continue = λ x0. λ r short good stops. absurd (let u = lev.at_Continue x0 8 (first r) good in omega arith);
    Return = λ x0 h0. λ r short good stops. absurd (let u = lev.at_Return x0 8 (first r) good in omega arith);
    Do = λ x0 h0. λ r short good stops. absurd (let u = lev.at_Do x0 8 (first r) good in omega arith);
    DoOptional = λ x0 h0. λ r short good stops. absurd (let u = lev.at_DoOptional x0 8 (first r) good in omega arith);
    Await = λ x0 h0. λ r short good stops. absurd (let u = lev.at_Await x0 8 (first r) good in omega arith);
    Throw = λ x0 h0. λ r short good stops. absurd (let u = lev.at_Throw x0 8 (first r) good in omega arith);
    Try = λ x0 x1 x2 h0 h1. λ r short good stops. absurd (let u = lev.at_Try x0 x1 x2 8 (first r) good in omega arith);
    Assert = λ x0 h0. λ r short good stops. absurd (let u = lev.at_Assert x0 8 (first r) good in omega arith);
    Ignore = λ x0 h0. λ r short good stops. absurd (let u = lev.at_Ignore x0 8 (first r) good in omega arith);
    Debug = λ x0 h0. λ r short good stops. absurd (let u = lev.at_Debug x0 8 (first r) good in omega arith);
    Function = λ x0 x1 x2 x3 h0. λ r short good stops. absurd (let u = lev.at_Function x0 x1 x2 x3 8 (first r) good in omega arith);
    ObjectBlock = λ x0 x1 h0. λ r short good stops. absurd (let u = lev.at_ObjectBlock x0 x1 8 (first r) good in omega arith);
    Optional = λ x0 h0. read_Optional x0;
    Negative = λ x0 h0. read_Negative x0;
    Not = λ x0 h0. read_Not x0;
    Tagged = λ x0 x1 h0. read_tagged (x0, x1);
    Member = λ x0 x1 h0. read_operand (e.Member x0 x1) (λ n good. lev.move_Member x0 x1 8 9 n (λ u. omega arith) good);
    Projection = λ x0 x1 h0. read_operand (e.Projection x0 x1) (λ n good. lev.move_Projection x0 x1 8 9 n (λ u. omega arith) good);
    Index = λ x0 x1 h0 h1. read_operand (e.Index x0 x1) (λ n good. lev.move_Index x0 x1 8 9 n (λ u. omega arith) good);
    Call = λ x0 x1 x2 h0 h1. read_operand (e.Call x0 x1 x2) (λ n good. lev.move_Call x0 x1 x2 8 9 n (λ u. omega arith) good);
    Bang = λ x0 h0. read_operand (e.Bang x0) (λ n good. lev.move_Bang x0 8 9 n (λ u. omega arith) good);
    Constant = λ x0. read_operand (e.Constant x0) (λ n good. lev.move_Constant x0 8 9 n (λ u. omega arith) good);
    Variable = λ x0. read_operand (e.Variable x0) (λ n good. lev.move_Variable x0 8 9 n (λ u. omega arith) good);
    Parenthesized = λ x0 h0. read_operand (e.Parenthesized x0) (λ n good. lev.move_Parenthesized x0 8 9 n (λ u. omega arith) good);
    Array = λ x0 x1 h0. read_operand (e.Array x0 x1) (λ n good. lev.move_Array x0 x1 8 9 n (λ u. omega arith) good);
    Object = λ x0 x1 h0. read_operand (e.Object x0 x1) (λ n good. lev.move_Object x0 x1 8 9 n (λ u. omega arith) good);
    ActorReference = λ x0 x1. read_operand (e.ActorReference x0 x1) (λ n good. lev.move_ActorReference x0 x1 8 9 n (λ u. omega arith) good);
    Block = λ x0 x1 h0. λ r short good stops. absurd (let u = lev.at_Block x0 x1 8 (first r) good in omega arith);
    DeclarationField_ = λ x0 x1 h0. tt;
    Case_ = λ x0 x1 h0. tt;
    ExpressionField_ = λ x0 x1 x2 x3 h0. tt;
  }

  pub unary_exact : Exact (suc b) (p.unary P D) expression_tokens (At 8) EndsPostfix
  unary_exact = record { sound = unary_ok; complete = holds_Expression (only_expressions Read) read_cases }
