-- Patterns without `or` and type are read exactly.
use Rattle.std.proofs.Common.{◌≡◌, ℕ, zero, suc, ◌+◌, ◌<◌, ◌≤◌, Bool, true, false, List, [], ◌∷◌, ◌++◌, length, map, option_map, Option, Some, None, refl, sym, ap, ◌∙◌, subst, arith, append_assoc}
use Rattle.std.specs.Prelude.{◌≢◌, if◌then◌else◌}
use Rattle.mo_syntax.specs.declared.name.Name.{Name}
use Rattle.mo_syntax.specs.declared.token.TokenKind.{TokenKind}
use Rattle.mo_syntax.specs.declared.token.TokenKind.TheVariants as t
use Rattle.mo_syntax.specs.declared.word.Word.TheVariants as w
use Rattle.mo_syntax.specs.declared.mark.Mark.TheVariants as m
use Rattle.mo_syntax.specs.declared.literal.Literal.{Literal}
use Rattle.mo_syntax.specs.declared.literal.Literal.TheVariants as lit
use Rattle.mo_syntax.specs.declared.types.TypeExpression.{TypeExpression}
use Rattle.mo_syntax.specs.declared.patterns.Pattern.{Pattern}
use Rattle.mo_syntax.specs.declared.patterns.Pattern.TheVariants as e
use Rattle.mo_syntax.specs.declared.patterns.PatternField.{PatternField}
use Rattle.mo_syntax.specs.Writing as W
use Rattle.mo_syntax.specs.Writing.{literal_token}
use Rattle.mo_syntax.specs.Parts.{Each, Within, Listed, MayEnd}
use Rattle.mo_syntax.specs.PatternGrammar.{pattern_tokens, pattern_field_tokens, IsPattern, IsPatternField}
use Rattle.mo_syntax.specs.ExpressionGrammar.{first, behind_last}
use Rattle.mo_syntax.proofs.PatternEquations as eq
use Rattle.mo_syntax.proofs.PatternInduction.{Claims, Cases, holds_Pattern, holds_PatternField}
use Rattle.mo_parser_base.specs.declared.look.Look.{Look}
use Rattle.mo_parser_base.specs.declared.look.Look.TheVariants as l
use Rattle.mo_parser_base.specs.Input.{Input, Parser, ◌<$>◌, ◌&◌, pure, look, next, behind, identifier, literal, comma, semicolon, brace, commas, semicolons}
use Rattle.mo_parser_base.proofs.Steps.{bind_ok, bind_takes, look_mark, some_is}
use Rattle.mo_parser_base.proofs.Exact.{Next, Took, Exact, Always, Any, took_as, both, behind_by, a_name, a_literal, fewer, made, commas_exact, semicolons_exact}
use Rattle.mo_parser_base.proofs.Made.{mapped, made_behind, makes_behind, makes_as, each_listed, listed_each, rule_in, rule_out, fact_in, fact_out}
use Rattle.mo_parser_patterns.specs.Patterns as p
use Rattle.mo_parser_patterns.specs.Ends.{look_next, EndsUnary, EndsAlternatives, EndsPattern}

abbrev Of : {A X : Type 0} → (A → X) → X → Type 0
Of {A} f y = (z : A) × (y ≡ f z)

abbrev pub only_patterns : (Pattern → Type 0) → Claims
only_patterns C = record { of_Pattern = C; of_PatternField = λ x. Unit {0} }

abbrev fields_claims : Claims
fields_claims = record { of_Pattern = λ x. Unit {0}; of_PatternField = Of p.to_field }

fields_cases : Cases fields_claims
fields_cases = record {
  Annotated = λ x a h. tt;
  Alternative = λ x y h1 h2. tt;
  Optional = λ x h. tt;
  Tagged = λ x y h. tt;
  Variable = λ x. tt;
  Wildcard = tt;
  Constant = λ x y. tt;
  Parenthesized = λ x h. tt;
  Object = λ x y h. tt;
  PatternField_ = λ x y h. ((x, y), refl);
}

field_of : (y : PatternField) → Of p.to_field y
field_of = holds_PatternField fields_claims fields_cases

-- ---- a pattern of a level is one of each looser level

abbrev Lowers : Pattern → Type 0
Lowers x = (l' k' : ℕ) → k' ≤ l' → IsPattern x l' → IsPattern x k'

lowers_cases : Cases (only_patterns Lowers)
lowers_cases = record {
  Annotated = λ x a h l' k' le good. rule_in (eq.rule_Annotated x a) k' (let u = rule_out (eq.rule_Annotated x a) l' good in (omega (arith, u.0), u.1, u.2));
  Alternative = λ x y h1 h2 l' k' le good. rule_in (eq.rule_Alternative x y) k' (let u = rule_out (eq.rule_Alternative x y) l' good in (omega (arith, u.0), u.1, u.2));
  Optional = λ x h l' k' le good. rule_in (eq.rule_Optional x) k' (let u = rule_out (eq.rule_Optional x) l' good in (omega (arith, u.0), u.1));
  Tagged = λ x y h l' k' le good. rule_in (eq.rule_Tagged x y) k' (let u = rule_out (eq.rule_Tagged x y) l' good in (omega (arith, u.0), u.1));
  Variable = λ x l' k' le good. rule_in (eq.rule_Variable x) k' tt;
  Wildcard = λ l' k' le good. rule_in eq.rule_Wildcard k' tt;
  Constant = λ x y l' k' le good. rule_in (eq.rule_Constant x y) k' tt;
  Parenthesized = λ x h l' k' le good. rule_in (eq.rule_Parenthesized x) k' (rule_out (eq.rule_Parenthesized x) l' good);
  Object = λ x y h l' k' le good. rule_in (eq.rule_Object x y) k' (rule_out (eq.rule_Object x y) l' good);
  PatternField_ = λ x y h. tt;
}

pub lowers : (x : Pattern) → Lowers x
lowers = holds_Pattern (only_patterns Lowers) lowers_cases

-- ---- what comes next

pub look_first : (i : Input) → look i ≡ look_next (first i)
look_first [] = refl
look_first (x ∷ i) = refl

cases_if : {A C : Type 0} (s : Bool) (q1 q2 : Parser A) (i : Input) (y : A × Input) → (if s then q1 else q2) i ≡ Some y → (s ≡ true → q1 i ≡ Some y → C) → (s ≡ false → q2 i ≡ Some y → C) → C
cases_if true q1 q2 i y h go else_go = go refl h
cases_if false q1 q2 i y h go else_go = else_go refl h

begun_by : (s : Bool) → (s ≡ false → ⊥) → s ≡ true
begun_by true h = refl
begun_by false h = absurd (h refl)

-- a parser of inner patterns, to less than so many tokens
pub record Inner (b : ℕ) (P : ℕ → Parser Pattern) : Type 0 where
  pub whole : Exact b (P 0) pattern_tokens (λ x n. IsPattern x 0) EndsPattern
  pub unary : Exact b (P 2) pattern_tokens (λ x n. IsPattern x 2) EndsUnary
  pub no_paren : (j : Input) → P 0 (t.Mark m.ParenClose ∷ j) ≡ None
  pub must_begin : (i : Input) → p.begins (look i) ≡ false → P 2 i ≡ None

module _ (b : ℕ) (P : ℕ → Parser Pattern) (h : Inner b P) where
  pub field_exact : Exact b (p.field P) pattern_field_tokens (λ x n. IsPatternField x) (λ n. (n ≢ Some (t.Mark m.EqualSign)) × EndsPattern n)
  unfolding p.field
  field_exact = mapped (both (a_name b) (fewer (behind_by (t.Mark m.EqualSign) tt h.whole)) (λ y r short good stops. tt))
      p.to_field pattern_field_tokens (λ x n. IsPatternField x) field_of (λ z. eq.tokens_PatternField z.0 z.1)
      (λ z n good. fact_in (eq.rule_PatternField _) good.1)
      (λ z n good. (tt, fact_out (eq.rule_PatternField _) good))

  patterns_exact : Exact b (commas (P 0) (t.Mark m.ParenClose)) (λ xs. W.commas (map pattern_tokens xs) ++ t.Mark m.ParenClose ∷ [])
      (λ xs n. Listed (λ x s. IsPattern x 0) comma (t.Mark m.ParenClose) xs) Any
  patterns_exact = fewer (commas_exact h.whole (t.Mark m.ParenClose) tt (λ e. cc) ((refl, λ e. cc), (λ e. cc, (λ e. cc, λ e. cc))) ((refl, λ e. cc), (λ e. cc, (λ e. cc, λ e. cc))) h.no_paren)

  no_field : (j : Input) → p.field P (brace ∷ j) ≡ None
  unfolding p.field identifier
  no_field j = refl

  fields_exact : Exact b (semicolons (p.field P)) (λ z. W.semicolons (map pattern_field_tokens z.0) z.1 ++ brace ∷ [])
      (λ z n. Listed (λ x s. IsPatternField x) semicolon (behind_last z.1) z.0 × MayEnd z.0 z.1) Any
  fields_exact = fewer (semicolons_exact field_exact (λ e. cc, ((refl, λ e. cc), (λ e. cc, (λ e. cc, λ e. cc)))) (λ e. cc, ((refl, λ e. cc), (λ e. cc, (λ e. cc, λ e. cc)))) no_field)

  -- ---- the payload of a tag

  abbrev Payload : Option Pattern → Input
  Payload x = W.optional (option_map pattern_tokens x)

  payload_done : (x : Option Pattern) (r : Input) → length (Payload x) < b → Within (λ y. IsPattern y 2) x → EndsUnary (first r) → p.payload P (Payload x ++ r) ≡ Some (x, r)
  unfolding p.payload
  payload_done None r short good stops =
      let none : p.begins (look r) ≡ false = ap p.begins (look_first r) ∙ stops in
      ap (λ c. (if c then Some <$> P 2 else pure None) r) none
  payload_done (Some x) r short good stops =
      let i : Input = pattern_tokens x ++ r in
      let done = h.unary.complete x r short good stops in
      let begun : p.begins (look i) ≡ true = begun_by (p.begins (look i)) (λ never. let none = h.must_begin i never in absurd (cc)) in
      ap (λ c. (if c then Some <$> P 2 else pure None) i) begun ∙ bind_takes (P 2 i) _ x r done

  payload_exact : Exact b (p.payload P) Payload (λ x n. Within (λ y. IsPattern y 2) x) EndsUnary
  unfolding p.payload
  payload_exact = record {
    sound = λ i x r h0. cases_if (p.begins (look i)) (Some <$> P 2) (pure None) i (x, r) h0
        (λ _ h1. bind_ok (P 2 i) _ (x, r) h1 (λ y j e h2. let took = h.unary.sound i y j e in took_as (Some y) j x r (record { text = took.text; good = took.good }) h2))
        (λ _ h1. took_as None i x r (record { text = refl; good = tt }) h1);
    complete = payload_done;
  }

  tagged_parts : Exact b (identifier & p.payload P) (λ z. (t.Identifier z.0 ∷ []) ++ Payload z.1) (λ z n. Unit {0} × Within (λ y. IsPattern y 2) z.1) EndsUnary
  tagged_parts = both (a_name b) payload_exact (λ y r short good stops. tt)

  -- ---- atoms

  abbrev to_object : List PatternField × Bool → Pattern
  to_object z = e.Object z.0 z.1

  abbrev to_tagged : Name × Option Pattern → Pattern
  to_tagged z = e.Tagged z.0 z.1

  abbrev At : ℕ → Pattern → Next → Type 0
  At l' x n = IsPattern x l'

  atom_by_ok : (a : Look) (i : Input) (y : Pattern) (r : Input) → look i ≡ a → p.atom_by P a i ≡ Some (y, r) → Took pattern_tokens (At 3) y i r
  unfolding p.variable p.constant p.parenthesized p.object
  atom_by_ok l.Identifier i y r is h0 = made (a_name b) e.Variable pattern_tokens (At 3) eq.tokens_Variable (λ z n good. rule_in (eq.rule_Variable z) 3 tt) i y r h0
  atom_by_ok (l.Mark m.Underscore) i y r is h0 =
      took_as e.Wildcard (next i) y r (record { text = look_mark i m.Underscore is ∙ ap (λ z. z ++ next i) (sym eq.tokens_Wildcard); good = rule_in eq.rule_Wildcard 3 tt }) h0
  atom_by_ok (l.Mark m.Minus) i y r is h0 =
      made_behind (t.Mark m.Minus) (a_literal b) (e.Constant true) pattern_tokens (At 3) (eq.tokens_Constant true) (λ z n good. rule_in (eq.rule_Constant true z) 3 tt) i (next i) (look_mark i m.Minus is) y r h0
  atom_by_ok (l.Mark m.ParenOpen) i y r is h0 =
      made_behind (t.Mark m.ParenOpen) patterns_exact e.Parenthesized pattern_tokens (At 3) eq.tokens_Parenthesized
      (λ z n good. rule_in (eq.rule_Parenthesized z) 3 (listed_each (λ x. IsPattern x 0) comma (t.Mark m.ParenClose) z good)) i (next i) (look_mark i m.ParenOpen is) y r h0
  atom_by_ok (l.Mark m.BraceOpen) i y r is h0 =
      made_behind (t.Mark m.BraceOpen) fields_exact to_object pattern_tokens (At 3) (λ z. eq.tokens_Object z.0 z.1)
      (λ z n good. rule_in (eq.rule_Object z.0 z.1) 3 (listed_each IsPatternField semicolon (behind_last z.1) z.0 good.0, good.1)) i (next i) (look_mark i m.BraceOpen is) y r h0
  atom_by_ok _ i y r is h0 = made (a_literal b) (e.Constant false) pattern_tokens (At 3) (eq.tokens_Constant false) (λ z n good. rule_in (eq.rule_Constant false z) 3 tt) i y r h0

  atom_ok : (i : Input) (y : Pattern) (r : Input) → p.atom P i ≡ Some (y, r) → Took pattern_tokens (At 3) y i r
  unfolding p.atom
  atom_ok i y r h0 = atom_by_ok (look i) i y r refl h0

  abbrev Read : Pattern → Type 0
  Read x = (r : Input) → length (pattern_tokens x) < suc b → IsPattern x 3 → Any (first r) → p.atom P (pattern_tokens x ++ r) ≡ Some (x, r)

  read_variable : (x : Name) → Read (e.Variable x)
  unfolding p.atom p.variable
  read_variable x r short good stops = makes_as (a_name (suc b)) e.Variable pattern_tokens x (eq.tokens_Variable x) (p.atom P) r refl short tt tt

  read_wildcard : Read e.Wildcard
  unfolding p.atom
  read_wildcard r short good stops = ap (λ z. p.atom P (z ++ r)) eq.tokens_Wildcard

  constant_begins : (x : Literal) (r : Input) → p.atom P (literal_token x ∷ r) ≡ p.constant P false (literal_token x ∷ r)
  unfolding p.atom
  constant_begins (lit.Number n) r = refl
  constant_begins (lit.Character n) r = refl
  constant_begins (lit.Text n) r = refl
  constant_begins lit.True r = refl
  constant_begins lit.False r = refl
  constant_begins lit.Null r = refl

  read_constant : (minus : Bool) (x : Literal) → Read (e.Constant minus x)
  unfolding p.atom p.constant
  read_constant true x r short good stops = makes_behind (t.Mark m.Minus) (a_literal b) (e.Constant true) pattern_tokens x (eq.tokens_Constant true x) (p.atom P) r refl short tt tt
  read_constant false x r short good stops = makes_as (a_literal (suc b)) (e.Constant false) pattern_tokens x (eq.tokens_Constant false x) (p.atom P) r (constant_begins x r) short tt tt

  read_parenthesized : (xs : List Pattern) → Read (e.Parenthesized xs)
  unfolding p.atom p.parenthesized
  read_parenthesized xs r short good stops =
      makes_behind (t.Mark m.ParenOpen) patterns_exact e.Parenthesized pattern_tokens xs (eq.tokens_Parenthesized xs) (p.atom P) r refl short
      (each_listed (λ x. IsPattern x 0) comma (t.Mark m.ParenClose) xs (rule_out (eq.rule_Parenthesized xs) 3 good)) tt

  read_object : (xs : List PatternField) (last : Bool) → Read (e.Object xs last)
  unfolding p.atom p.object
  read_object xs last r short good stops = let u = rule_out (eq.rule_Object xs last) 3 good in
      makes_behind (t.Mark m.BraceOpen) fields_exact to_object pattern_tokens (xs, last) (eq.tokens_Object xs last) (p.atom P) r refl short
      (each_listed IsPatternField semicolon (behind_last last) xs u.0, u.1) tt

  read_cases : Cases (only_patterns Read)
  read_cases = record {
    Annotated = λ x a h1 r short good stops. absurd (let u = rule_out (eq.rule_Annotated x a) 3 good in omega (arith, u.0));
    Alternative = λ x y h1 h2 r short good stops. absurd (let u = rule_out (eq.rule_Alternative x y) 3 good in omega (arith, u.0));
    Optional = λ x h1 r short good stops. absurd (let u = rule_out (eq.rule_Optional x) 3 good in omega (arith, u.0));
    Tagged = λ x y h1 r short good stops. absurd (let u = rule_out (eq.rule_Tagged x y) 3 good in omega (arith, u.0));
    Variable = read_variable;
    Wildcard = read_wildcard;
    Constant = read_constant;
    Parenthesized = λ x h1. read_parenthesized x;
    Object = λ x y h1. read_object x y;
    PatternField_ = λ x y h1. tt;
  }

  pub atom_exact : Exact (suc b) (p.atom P) pattern_tokens (λ x n. IsPattern x 3) Any
  atom_exact = record { sound = atom_ok; complete = holds_Pattern (only_patterns Read) read_cases }

  -- ---- unary patterns

  unary_by_ok : (a : Look) (i : Input) (y : Pattern) (r : Input) → look i ≡ a → p.unary_by P a i ≡ Some (y, r) → Took pattern_tokens (At 2) y i r
  unfolding p.tagged
  unary_by_ok (l.Mark m.Question) i y r is h0 =
      made_behind (t.Mark m.Question) h.unary e.Optional pattern_tokens (At 2) eq.tokens_Optional (λ z n good. rule_in (eq.rule_Optional z) 2 (omega arith, good)) i (next i) (look_mark i m.Question is) y r h0
  unary_by_ok (l.Mark m.Tag) i y r is h0 =
      made_behind (t.Mark m.Tag) tagged_parts to_tagged pattern_tokens (At 2) (λ z. eq.tokens_Tagged z.0 z.1) (λ z n good. rule_in (eq.rule_Tagged z.0 z.1) 2 (omega arith, good.1)) i (next i) (look_mark i m.Tag is) y r h0
  unary_by_ok _ i y r is h0 = let took = atom_ok i y r h0 in record { text = took.text; good = lowers y 3 2 (omega arith) took.good }

  unary_ok : (i : Input) (y : Pattern) (r : Input) → p.unary P i ≡ Some (y, r) → Took pattern_tokens (At 2) y i r
  unfolding p.unary
  unary_ok i y r h0 = unary_by_ok (look i) i y r refl h0

  abbrev Alone : Pattern → Type 0
  Alone x = (r : Input) → length (pattern_tokens x) < suc b → IsPattern x 2 → EndsUnary (first r) → p.unary P (pattern_tokens x ++ r) ≡ Some (x, r)

  alone_optional : (x : Pattern) → Alone (e.Optional x)
  unfolding p.unary
  alone_optional x r short good stops = makes_behind (t.Mark m.Question) h.unary e.Optional pattern_tokens x (eq.tokens_Optional x) (p.unary P) r refl short (rule_out (eq.rule_Optional x) 2 good).1 stops

  alone_tagged : (x : Name) (o : Option Pattern) → Alone (e.Tagged x o)
  unfolding p.unary p.tagged
  alone_tagged x o r short good stops = makes_behind (t.Mark m.Tag) tagged_parts to_tagged pattern_tokens (x, o) (eq.tokens_Tagged x o) (p.unary P) r refl short (tt, (rule_out (eq.rule_Tagged x o) 2 good).1) stops

  -- an atom
  alone_atom : (x : Pattern) (v : Input) → pattern_tokens x ≡ v → ((r : Input) → p.unary P (v ++ r) ≡ p.atom P (v ++ r)) → (IsPattern x 2 → IsPattern x 3) → Alone x
  alone_atom x v text same tighter r short good stops =
      subst (λ z. p.unary P (z ++ r) ≡ p.atom P (z ++ r)) (sym text) (same r) ∙ atom_exact.complete x r short (tighter good) tt

  constant_alone : (minus : Bool) (x : Literal) (r : Input) → p.unary P ((W.marked minus (t.Mark m.Minus) ++ literal_token x ∷ []) ++ r) ≡ p.atom P ((W.marked minus (t.Mark m.Minus) ++ literal_token x ∷ []) ++ r)
  unfolding p.unary
  constant_alone true x r = refl
  constant_alone false (lit.Number n) r = refl
  constant_alone false (lit.Character n) r = refl
  constant_alone false (lit.Text n) r = refl
  constant_alone false lit.True r = refl
  constant_alone false lit.False r = refl
  constant_alone false lit.Null r = refl

  alone_cases : Cases (only_patterns Alone)
  unfolding p.unary
  alone_cases = record {
    Annotated = λ x a h1 r short good stops. absurd (let u = rule_out (eq.rule_Annotated x a) 2 good in omega (arith, u.0));
    Alternative = λ x y h1 h2 r short good stops. absurd (let u = rule_out (eq.rule_Alternative x y) 2 good in omega (arith, u.0));
    Optional = λ x h1. alone_optional x;
    Tagged = λ x y h1. alone_tagged x y;
    Variable = λ x. alone_atom (e.Variable x) _ (eq.tokens_Variable x) (λ r. refl) (λ good. rule_in (eq.rule_Variable x) 3 tt);
    Wildcard = alone_atom e.Wildcard _ eq.tokens_Wildcard (λ r. refl) (λ good. rule_in eq.rule_Wildcard 3 tt);
    Constant = λ x y. alone_atom (e.Constant x y) _ (eq.tokens_Constant x y) (constant_alone x y) (λ good. rule_in (eq.rule_Constant x y) 3 tt);
    Parenthesized = λ x h1. alone_atom (e.Parenthesized x) _ (eq.tokens_Parenthesized x) (λ r. refl) (λ good. rule_in (eq.rule_Parenthesized x) 3 (rule_out (eq.rule_Parenthesized x) 2 good));
    Object = λ x y h1. alone_atom (e.Object x y) _ (eq.tokens_Object x y) (λ r. refl) (λ good. rule_in (eq.rule_Object x y) 3 (rule_out (eq.rule_Object x y) 2 good));
    PatternField_ = λ x y h1. tt;
  }

  pub unary_exact : Exact (suc b) (p.unary P) pattern_tokens (λ x n. IsPattern x 2) EndsUnary
  unary_exact = record { sound = unary_ok; complete = holds_Pattern (only_patterns Alone) alone_cases }
