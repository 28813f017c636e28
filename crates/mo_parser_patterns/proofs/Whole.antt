-- Patterns are read exactly.
use Rattle.std.proofs.Common.{◌≡◌, ℕ, zero, suc, ◌+◌, ◌<◌, ◌≤◌, Bool, true, false, List, [], ◌∷◌, ◌++◌, length, map, option_map, Option, Some, None, Result, Ok, Err, refl, sym, ap, ◌∙◌, subst, arith, append_assoc, length-append}
use Rattle.std.specs.Prelude.{◌≢◌, if◌then◌else◌, IfOk}
use Rattle.std.proofs.lemmas.List.{append-nil}
use Rattle.mo_syntax.specs.declared.token.TokenKind.{TokenKind}
use Rattle.mo_syntax.specs.declared.token.TokenKind.TheVariants as t
use Rattle.mo_syntax.specs.declared.word.Word.{Word}
use Rattle.mo_syntax.specs.declared.word.Word.TheVariants as w
use Rattle.mo_syntax.specs.declared.mark.Mark.{Mark}
use Rattle.mo_syntax.specs.declared.mark.Mark.TheVariants as m
use Rattle.mo_syntax.specs.declared.types.TypeExpression.{TypeExpression}
use Rattle.mo_syntax.specs.declared.patterns.Pattern.{Pattern}
use Rattle.mo_syntax.specs.declared.patterns.Pattern.TheVariants as e
use Rattle.mo_syntax.specs.declared.patterns.PatternField.{PatternField}
use Rattle.mo_syntax.specs.declared.patterns.Parameters.{Parameters}
use Rattle.mo_syntax.specs.declared.patterns.Parameters.TheVariants as parameters
use Rattle.mo_syntax.specs.Writing as W
use Rattle.mo_syntax.specs.Parts.{Within, Listed, MayEnd}
use Rattle.mo_syntax.specs.TypeGrammar.{type_tokens, IsType}
use Rattle.mo_syntax.specs.PatternGrammar.{pattern_tokens, pattern_field_tokens, parameters_tokens, IsPattern, IsPatternField, AreParameters}
use Rattle.mo_syntax.specs.ExpressionGrammar.{first, behind_last}
use Rattle.mo_syntax.proofs.PatternEquations as eq
use Rattle.mo_syntax.proofs.PatternInduction.{Claims, Cases, holds_Pattern}
use Rattle.mo_parser_base.specs.declared.stop.Stop.{Stop}
use Rattle.mo_parser_base.specs.declared.stop.Stop.TheVariants as stops
use Rattle.mo_parser_base.specs.Input.{Input, Parser, ◌<$>◌, ◌&◌, look, after, same_mark, same_word, identifier, literal, comma, semicolon, brace, commas, semicolons, Reads}
use Rattle.mo_parser_base.proofs.Steps.{bind_ok, bind_takes, eat_ok, eat_takes, eat_leaves, some_is}
use Rattle.mo_parser_base.proofs.Exact.{Next, Took, Exact, Any, took_as, both, a_name, fewer, made, ahead, commas_exact, semicolons_exact}
use Rattle.mo_parser_base.proofs.Made.{made_behind, makes_behind, makes_as, ends_by, each_listed, listed_each, rule_in, rule_out}
use Rattle.mo_parser_types.specs.Ends.{EndsType}
use Rattle.mo_parser_types.specs.Types.{annotation}
use Rattle.mo_parser_types.proofs.Whole.{annotation_exact}
use Rattle.mo_parser_patterns.specs.Patterns as p
use Rattle.mo_parser_patterns.specs.Ends.{EndsUnary, EndsAlternatives, EndsPattern, IsFront, Finds}
use Rattle.mo_parser_patterns.proofs.Unary.{only_patterns, lowers, Inner, field_exact, atom_exact, unary_exact}

abbrev At : ℕ → Pattern → Next → Type 0
At l x n = IsPattern x l

module _ (b : ℕ) (P : ℕ → Parser Pattern) (h : Inner b P) where
  -- ---- alternatives, which group to the left

  more_ok : (n : ℕ) (left : Pattern) (i0 i : Input) (y : Pattern) (r : Input) → Took pattern_tokens (At 1) left i0 i → p.more P n left i ≡ Some (y, r) → Took pattern_tokens (At 1) y i0 r
  unfolding p.more
  more_ok zero left i0 i y r took h0 = took_as left i y r took h0
  more_ok (suc n) left i0 i y r took h0 = eat_ok (t.Reserved w.Or) tt i _ _ (y, r) h0
      (λ j is h1. bind_ok (p.unary P j) _ (y, r) h1 (λ q k was h2.
      let right = (unary_exact b P h).sound j q k was in
      more_ok n (e.Alternative left q) i0 k y r (record {
        text = took.text ∙ ap (λ z. pattern_tokens left ++ z) (is ∙ ap (λ z. t.Reserved w.Or ∷ z) right.text)
            ∙ sym (append_assoc (pattern_tokens left) (t.Reserved w.Or ∷ pattern_tokens q) k) ∙ ap (λ z. z ++ k) (sym (eq.tokens_Alternative left q));
        good = rule_in (eq.rule_Alternative left q) 1 (omega arith, took.good, right.good);
      }) h2))
      (λ _ h1. took_as left i y r took h1)

  alternatives_ok : (i : Input) (y : Pattern) (r : Input) → p.alternatives P i ≡ Some (y, r) → Took pattern_tokens (At 1) y i r
  unfolding p.alternatives
  alternatives_ok i y r h0 = bind_ok (p.unary P i) _ (y, r) h0 (λ q k was h1.
      let took = (unary_exact b P h).sound i q k was in
      more_ok (length k) q i k y r (record { text = took.text; good = lowers q 2 1 (omega arith) took.good }) h1)

  -- what is read to the end of the pattern goes on from the pattern
  abbrev Goes : Pattern → Type 0
  Goes x = (r : Input) → length (pattern_tokens x) < suc b → IsPattern x 1 → EndsUnary (first r) → (n : ℕ) × (length r ≤ n) × (p.alternatives P (pattern_tokens x ++ r) ≡ p.more P n x r)

  goes_alone : (x : Pattern) → (IsPattern x 1 → IsPattern x 2) → Goes x
  unfolding p.alternatives
  goes_alone x tighter r short good stops = (length r, omega arith, bind_takes (p.unary P (pattern_tokens x ++ r)) _ x r ((unary_exact b P h).complete x r short (tighter good) stops))

  one_turn : (n k : ℕ) → suc k ≤ n → (l : ℕ) × (n ≡ suc l) × (k ≤ l)
  one_turn zero k le = absurd (omega arith)
  one_turn (suc l) k le = (l, refl, omega arith)

  more_step : (n : ℕ) (x q : Pattern) (r : Input) → length (pattern_tokens q) < suc b → IsPattern q 2 → EndsUnary (first r) →
      p.more P (suc n) x (t.Reserved w.Or ∷ (pattern_tokens q ++ r)) ≡ p.more P n (e.Alternative x q) r
  unfolding p.more
  more_step n x q r short good stops =
      eat_takes (t.Reserved w.Or) tt (pattern_tokens q ++ r) _ _
      ∙ bind_takes (p.unary P (pattern_tokens q ++ r)) _ q r ((unary_exact b P h).complete q r short good stops)

  goes_on : (x q : Pattern) → Goes x → Goes (e.Alternative x q)
  goes_on x q goes r short good stops =
      let u = rule_out (eq.rule_Alternative x q) 1 good in
      let text = eq.tokens_Alternative x q in
      let rest : Input = t.Reserved w.Or ∷ (pattern_tokens q ++ r) in
      let size : length (pattern_tokens (e.Alternative x q)) ≡ length (pattern_tokens x) + (length (pattern_tokens q) + 1) = ap length text ∙ length-append (pattern_tokens x) (t.Reserved w.Or ∷ pattern_tokens q) ∙ omega arith in
      let all = goes rest (omega arith) u.1 refl in
      let turn = one_turn all.0 (length r) (let enough = all.1 in omega (arith, length-append (pattern_tokens q) r)) in (
        turn.0,
        turn.2,
        ap (λ z. p.alternatives P (z ++ r)) text ∙ ap (λ z. p.alternatives P z) (append_assoc (pattern_tokens x) (t.Reserved w.Or ∷ pattern_tokens q) r)
            ∙ all.2 ∙ ap (λ z. p.more P z x rest) turn.1 ∙ more_step turn.0 x q r (omega arith) u.2 stops,
      )

  goes_cases : Cases (only_patterns Goes)
  goes_cases = record {
    Annotated = λ x a h1 r short good stops. absurd (let u = rule_out (eq.rule_Annotated x a) 1 good in omega (arith, u.0));
    Alternative = λ x y h1 h2. goes_on x y h1;
    Optional = λ x h1. goes_alone (e.Optional x) (λ good. rule_in (eq.rule_Optional x) 2 (omega arith, (rule_out (eq.rule_Optional x) 1 good).1));
    Tagged = λ x y h1. goes_alone (e.Tagged x y) (λ good. rule_in (eq.rule_Tagged x y) 2 (omega arith, (rule_out (eq.rule_Tagged x y) 1 good).1));
    Variable = λ x. goes_alone (e.Variable x) (λ good. rule_in (eq.rule_Variable x) 2 tt);
    Wildcard = goes_alone e.Wildcard (λ good. rule_in eq.rule_Wildcard 2 tt);
    Constant = λ x y. goes_alone (e.Constant x y) (λ good. rule_in (eq.rule_Constant x y) 2 tt);
    Parenthesized = λ x h1. goes_alone (e.Parenthesized x) (λ good. rule_in (eq.rule_Parenthesized x) 2 (rule_out (eq.rule_Parenthesized x) 1 good));
    Object = λ x y h1. goes_alone (e.Object x y) (λ good. rule_in (eq.rule_Object x y) 2 (rule_out (eq.rule_Object x y) 1 good));
    PatternField_ = λ x y h1. tt;
  }

  more_stops : (n : ℕ) (x : Pattern) (r : Input) → first r ≢ Some (t.Reserved w.Or) → p.more P n x r ≡ Some (x, r)
  unfolding p.more
  more_stops zero x r differs = refl
  more_stops (suc n) x r differs = eat_leaves (t.Reserved w.Or) r _ _ differs

  alternatives_done : (x : Pattern) (r : Input) → length (pattern_tokens x) < suc b → IsPattern x 1 → EndsAlternatives (first r) → p.alternatives P (pattern_tokens x ++ r) ≡ Some (x, r)
  alternatives_done x r short good stops = let all = holds_Pattern (only_patterns Goes) goes_cases x r short good stops.0 in all.2 ∙ more_stops all.0 x r stops.1

  alternatives_exact : Exact (suc b) (p.alternatives P) pattern_tokens (λ x n. IsPattern x 1) EndsAlternatives
  alternatives_exact = record { sound = alternatives_ok; complete = alternatives_done }

  -- ---- with a type

  abbrev to_annotated : Pattern × Option TypeExpression → Pattern
  to_annotated z = p.annotated z.0 z.1

  annotated_text : (z : Pattern × Option TypeExpression) → pattern_tokens (to_annotated z) ≡ pattern_tokens z.0 ++ W.annotation (option_map type_tokens z.1)
  annotated_text (x, None) = sym (append-nil (pattern_tokens x))
  annotated_text (x, Some a) = eq.tokens_Annotated x a

  annotated_good : (z : Pattern × Option TypeExpression) → IsPattern z.0 1 × Within (λ y. IsType y 0) z.1 → IsPattern (to_annotated z) 0
  annotated_good (x, None) good = lowers x 1 0 (omega arith) good.0
  annotated_good (x, Some a) good = rule_in (eq.rule_Annotated x a) 0 (refl, good.0, good.1)

  ends_there : (y : Option TypeExpression) (r : Input) → length (W.annotation (option_map type_tokens y)) < suc b → Within (λ x. IsType x 0) y → EndsPattern (first r) →
      EndsAlternatives (ahead (W.annotation (option_map type_tokens y)) (first r))
  ends_there None r short good stops = stops.0
  ends_there (Some y) r short good stops = (refl, λ e. cc)

  whole_parts : Exact (suc b) (p.alternatives P & annotation) (λ z. pattern_tokens z.0 ++ W.annotation (option_map type_tokens z.1)) (λ z n. IsPattern z.0 1 × Within (λ y. IsType y 0) z.1) EndsPattern
  whole_parts = both alternatives_exact (ends_by (annotation_exact (suc b)) (λ n stops. stops.1)) ends_there

  whole_ok : (i : Input) (y : Pattern) (r : Input) → p.whole P i ≡ Some (y, r) → Took pattern_tokens (At 0) y i r
  unfolding p.whole
  whole_ok i y r h0 = made whole_parts to_annotated pattern_tokens (At 0) annotated_text (λ z n good. annotated_good z good) i y r h0

  abbrev Read : Pattern → Type 0
  Read x = (r : Input) → length (pattern_tokens x) < suc b → IsPattern x 0 → EndsPattern (first r) → p.whole P (pattern_tokens x ++ r) ≡ Some (x, r)

  read_annotated : (x : Pattern) (a : TypeExpression) → Read (e.Annotated x a)
  unfolding p.whole
  read_annotated x a r short good stops = let u = rule_out (eq.rule_Annotated x a) 0 good in
      makes_as whole_parts to_annotated pattern_tokens (x, Some a) (annotated_text (x, Some a)) (p.whole P) r refl short (u.1, u.2) stops

  read_plain : (x : Pattern) → (IsPattern x 0 → IsPattern x 1) → Read x
  unfolding p.whole
  read_plain x tighter r short good stops = makes_as whole_parts to_annotated pattern_tokens (x, None) (annotated_text (x, None)) (p.whole P) r refl short (tighter good, tt) stops

  read_cases : Cases (only_patterns Read)
  read_cases = record {
    Annotated = λ x a h1. read_annotated x a;
    Alternative = λ x y h1 h2. read_plain (e.Alternative x y) (λ good. rule_in (eq.rule_Alternative x y) 1 (let u = rule_out (eq.rule_Alternative x y) 0 good in (omega arith, u.1, u.2)));
    Optional = λ x h1. read_plain (e.Optional x) (λ good. rule_in (eq.rule_Optional x) 1 (omega arith, (rule_out (eq.rule_Optional x) 0 good).1));
    Tagged = λ x y h1. read_plain (e.Tagged x y) (λ good. rule_in (eq.rule_Tagged x y) 1 (omega arith, (rule_out (eq.rule_Tagged x y) 0 good).1));
    Variable = λ x. read_plain (e.Variable x) (λ good. rule_in (eq.rule_Variable x) 1 tt);
    Wildcard = read_plain e.Wildcard (λ good. rule_in eq.rule_Wildcard 1 tt);
    Constant = λ x y. read_plain (e.Constant x y) (λ good. rule_in (eq.rule_Constant x y) 1 tt);
    Parenthesized = λ x h1. read_plain (e.Parenthesized x) (λ good. rule_in (eq.rule_Parenthesized x) 1 (rule_out (eq.rule_Parenthesized x) 0 good));
    Object = λ x y h1. read_plain (e.Object x y) (λ good. rule_in (eq.rule_Object x y) 1 (rule_out (eq.rule_Object x y) 0 good));
    PatternField_ = λ x y h1. tt;
  }

  pub whole_exact : Exact (suc b) (p.whole P) pattern_tokens (λ x n. IsPattern x 0) EndsPattern
  whole_exact = record { sound = whole_ok; complete = holds_Pattern (only_patterns Read) read_cases }

-- ---- to every depth

refused : {A : Type 0} {w : A → Input} {V : A → Next → Type 0} {S : Next → Type 0} → Exact 0 (λ i. None) w V S
refused = record { sound = λ i x r h. absurd (cc); complete = λ x r short good stops. absurd (omega arith) }

no_paren_at : (d : ℕ) (j : Input) → p.pattern_at d 0 (t.Mark m.ParenClose ∷ j) ≡ None
unfolding p.pattern_at p.level p.whole p.alternatives p.unary p.atom p.constant literal
no_paren_at zero j = refl
no_paren_at (suc d) j = refl

mark_must : (d : ℕ) (a : Mark) (j : Input) → p.mark_begins a ≡ false → p.unary (p.pattern_at d) (t.Mark a ∷ j) ≡ None
unfolding p.unary p.atom p.constant literal
mark_must d m.Question j never = absurd (cc)
mark_must d m.Tag j never = absurd (cc)
mark_must d m.Underscore j never = absurd (cc)
mark_must d m.Minus j never = absurd (cc)
mark_must d m.ParenOpen j never = absurd (cc)
mark_must d m.BraceOpen j never = absurd (cc)
mark_must d _ j never = refl

word_must : (d : ℕ) (a : Word) (j : Input) → p.word_begins a ≡ false → p.unary (p.pattern_at d) (t.Reserved a ∷ j) ≡ None
unfolding p.unary p.atom p.constant literal
word_must d w.True j never = absurd (cc)
word_must d w.False j never = absurd (cc)
word_must d w.Null j never = absurd (cc)
word_must d _ j never = refl

unary_must : (d : ℕ) (i : Input) → p.begins (look i) ≡ false → p.unary (p.pattern_at d) i ≡ None
unfolding p.unary p.atom p.constant literal
unary_must d [] never = refl
unary_must d (t.Mark a ∷ j) never = mark_must d a j never
unary_must d (t.Reserved a ∷ j) never = word_must d a j never
unary_must d (t.Identifier x ∷ j) never = absurd (cc)
unary_must d (t.Number x ∷ j) never = absurd (cc)
unary_must d (t.Character x ∷ j) never = absurd (cc)
unary_must d (t.Text x ∷ j) never = absurd (cc)

must_begin_at : (d : ℕ) (i : Input) → p.begins (look i) ≡ false → p.pattern_at d 2 i ≡ None
unfolding p.pattern_at p.level
must_begin_at zero i never = refl
must_begin_at (suc d) i never = unary_must d i never

pub inner_at : (d : ℕ) → Inner d (p.pattern_at d)
unfolding p.pattern_at p.level
inner_at zero = record { whole = refused; unary = refused; no_paren = no_paren_at 0; must_begin = must_begin_at 0 }
inner_at (suc d) = record {
  whole = whole_exact d (p.pattern_at d) (inner_at d);
  unary = unary_exact d (p.pattern_at d) (inner_at d);
  no_paren = no_paren_at (suc d);
  must_begin = must_begin_at (suc d);
}

case_at : (d : ℕ) → Exact d (p.pattern_at d 3) pattern_tokens (λ x n. IsPattern x 3) Any
unfolding p.pattern_at p.level
case_at zero = refused
case_at (suc d) = atom_exact d (p.pattern_at d) (inner_at d)

-- ---- all patterns

pub a_pattern_exact : (b : ℕ) → Exact b p.a_pattern pattern_tokens (λ x n. IsPattern x 0) EndsPattern
unfolding p.a_pattern
a_pattern_exact b = record {
  sound = λ i x r h. (inner_at (length i + 1)).whole.sound i x r h;
  complete = λ x r short good stops. let i : Input = pattern_tokens x ++ r in
      (inner_at (length i + 1)).whole.complete x r (omega (arith, length-append (pattern_tokens x) r)) good stops;
}

pub a_case_pattern_exact : (b : ℕ) → Exact b p.a_case_pattern pattern_tokens (λ x n. IsPattern x 3) Any
unfolding p.a_case_pattern
a_case_pattern_exact b = record {
  sound = λ i x r h. (case_at (length i + 1)).sound i x r h;
  complete = λ x r short good stops. let i : Input = pattern_tokens x ++ r in
      (case_at (length i + 1)).complete x r (omega (arith, length-append (pattern_tokens x) r)) good stops;
}

a_field_exact : (b : ℕ) → Exact b p.a_field pattern_field_tokens (λ x n. IsPatternField x) (λ n. (n ≢ Some (t.Mark m.EqualSign)) × EndsPattern n)
unfolding p.a_field
a_field_exact b = record {
  sound = λ i x r h. (field_exact (length i + 1) (p.pattern_at (length i + 1)) (inner_at (length i + 1))).sound i x r h;
  complete = λ x r short good stops. let i : Input = pattern_field_tokens x ++ r in
      (field_exact (length i + 1) (p.pattern_at (length i + 1)) (inner_at (length i + 1))).complete x r (omega (arith, length-append (pattern_field_tokens x) r)) good stops;
}

no_field : (j : Input) → p.a_field (brace ∷ j) ≡ None
unfolding p.a_field p.field identifier
no_field j = refl

pub fields_exact : (b : ℕ) → Exact b p.fields (λ z. W.semicolons (map pattern_field_tokens z.0) z.1 ++ brace ∷ [])
    (λ z n. Listed (λ x s. IsPatternField x) semicolon (behind_last z.1) z.0 × MayEnd z.0 z.1) Any
unfolding p.fields
fields_exact b = fewer (semicolons_exact (a_field_exact b) (λ e. cc, ((refl, λ e. cc), (λ e. cc, (λ e. cc, λ e. cc)))) (λ e. cc, ((refl, λ e. cc), (λ e. cc, (λ e. cc, λ e. cc)))) no_field)

-- ---- parameters

no_paren : (j : Input) → p.a_pattern (t.Mark m.ParenClose ∷ j) ≡ None
unfolding p.a_pattern
no_paren j = no_paren_at (length (t.Mark m.ParenClose ∷ j) + 1) j

list_exact : (b : ℕ) → Exact b (commas p.a_pattern (t.Mark m.ParenClose)) (λ xs. W.commas (map pattern_tokens xs) ++ t.Mark m.ParenClose ∷ [])
    (λ xs n. Listed (λ x s. IsPattern x 0) comma (t.Mark m.ParenClose) xs) Any
list_exact b = fewer (commas_exact (a_pattern_exact b) (t.Mark m.ParenClose) tt (λ e. cc) ((refl, λ e. cc), (λ e. cc, (λ e. cc, λ e. cc))) ((refl, λ e. cc), (λ e. cc, (λ e. cc, λ e. cc))) no_paren)

parameters_done : (b : ℕ) (x : Parameters) (r : Input) → length (parameters_tokens x) < b → AreParameters x → p.a_list (parameters_tokens x ++ r) ≡ Some (x, r)
unfolding p.a_list
parameters_done b (parameters.List xs) r short good =
    makes_behind (t.Mark m.ParenOpen) (list_exact b) parameters.List parameters_tokens xs refl p.a_list r
    (eat_takes (t.Mark m.ParenOpen) tt ((W.commas (map pattern_tokens xs) ++ t.Mark m.ParenClose ∷ []) ++ r) _ _) (omega arith) (each_listed (λ x. IsPattern x 0) comma (t.Mark m.ParenClose) xs good) tt
parameters_done b (parameters.Single x) r short good =
    makes_as (a_name b) parameters.Single parameters_tokens x refl p.a_list r (eat_leaves (t.Mark m.ParenOpen) (t.Identifier x ∷ r) (parameters.List <$> commas p.a_pattern (t.Mark m.ParenClose)) (parameters.Single <$> identifier) (λ e. cc)) short tt tt

pub parameters_exact : (b : ℕ) → Exact b p.a_list parameters_tokens (λ x n. AreParameters x) Any
unfolding p.a_list
parameters_exact b = record {
  sound = λ i y r h. eat_ok (t.Mark m.ParenOpen) tt i _ _ (y, r) h
      (λ j is h1. made_behind (t.Mark m.ParenOpen) (list_exact b) parameters.List parameters_tokens (λ x n. AreParameters x) (λ z. refl)
      (λ z n good. listed_each (λ x. IsPattern x 0) comma (t.Mark m.ParenClose) z good) i j is y r h1)
      (λ _ h1. made (a_name b) parameters.Single parameters_tokens (λ x n. AreParameters x) (λ z. refl) (λ z n good. tt) i y r h1);
  complete = λ x r short good _. parameters_done b x r short good;
}

-- ---- what the functions that read patterns owe

module _ (q : Parser Pattern) (l : ℕ) (S : Next → Type 0) (exact : (b : ℕ) → Exact b q pattern_tokens (λ x n. IsPattern x l) S) where
  pub found : (i : Input) (r : Result Pattern Stop) (new : Input) → Reads (q i) r new → IfOk r (λ x. IsFront l x i new)
  found i (Ok x) new h = let took = (exact 0).sound i x new h in record { text = took.text; good = took.good }
  found i (Err s) new h = tt

  pub only : (i : Input) (r : Result Pattern Stop) (new : Input) → Reads (q i) r new →
      (x : Pattern) (rest : Input) → IsFront l x i rest → S (first rest) → Finds x rest r new
  only i (Ok y) new h x rest front ends =
      let done = ap q front.text ∙ (exact (suc (length (pattern_tokens x)))).complete x rest (omega arith) front.good ends in
      let same = some_is (y, new) (x, rest) (sym h ∙ done) in (ap (λ z. z.0) same, ap (λ z. z.1) same)
  only i (Err stops.Memory) new h x rest front ends = refl
  only i (Err stops.Refused) new h x rest front ends =
      let done = ap q front.text ∙ (exact (suc (length (pattern_tokens x)))).complete x rest (omega arith) front.good ends in
      let none = h (λ e. cc) in absurd (cc)
