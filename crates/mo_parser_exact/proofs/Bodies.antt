-- Bodies, cases and fields are read exactly.
use Rattle.std.proofs.Common.{◌≡◌, ℕ, ◌<◌, Bool, true, false, ◌∷◌, ◌++◌, length, option_map, Option, Some, None, refl, sym, ap, ◌∙◌, subst, append_assoc}
use Rattle.std.specs.Prelude.{◌≢◌, if◌then◌else◌}
use Rattle.mo_syntax.specs.declared.token.TokenKind.{TokenKind}
use Rattle.mo_syntax.specs.declared.token.TokenKind.TheVariants as t
use Rattle.mo_syntax.specs.declared.mark.Mark.TheVariants as m
use Rattle.mo_syntax.specs.declared.types.TypeExpression.{TypeExpression}
use Rattle.mo_syntax.specs.declared.patterns.Parameters.{Parameters}
use Rattle.mo_syntax.specs.declared.declarations.Declaration.{Declaration}
use Rattle.mo_syntax.specs.declared.expressions.Expression.{Expression}
use Rattle.mo_syntax.specs.Writing as W
use Rattle.mo_syntax.specs.Writing.{literal_token}
use Rattle.mo_syntax.specs.Parts.{Within}
use Rattle.mo_syntax.specs.TypeGrammar.{type_tokens, IsType}
use Rattle.mo_syntax.specs.PatternGrammar.{parameters_tokens, AreParameters}
use Rattle.mo_syntax.specs.ExpressionGrammar.{first, begins_exp, expression_tokens, IsExpression}
use Rattle.mo_parser_base.specs.Input.{Input, Parser, ◌<$>◌, pure, look, look_of}
use Rattle.mo_parser_base.proofs.Steps.{bind_ok, bind_takes, some_is}
use Rattle.mo_parser_base.proofs.Exact.{Took, Exact, took_as, both, flag, ahead, not_first, shorter_left, shorter_right}
use Rattle.mo_parser_base.proofs.Made.{ends_by}
use Rattle.mo_parser_types.specs.Ends.{EndsType}
use Rattle.mo_parser_types.proofs.Whole.{annotation_exact}
use Rattle.mo_parser_patterns.specs.Ends.{look_next}
use Rattle.mo_parser_patterns.proofs.Unary.{look_first}
use Rattle.mo_parser_expressions.specs.Expressions as p
use Rattle.mo_parser_expressions.specs.Signs as s
use Rattle.mo_parser_exact.specs.Ends.{EndsExpression}
use Rattle.mo_parser_exact.proofs.Levels.{Next}
use Rattle.mo_parser_patterns.proofs.Whole.{parameters_exact}
use Rattle.mo_parser_exact.proofs.Operands.{Inner, cases_if, surely}
use Rattle.mo_parser_exact.proofs.Blocks.{BodyAt, block_exact, block_first}

-- an expression that may stand
abbrev pub Standing : Option Expression → Next → Type 0
Standing None n = s.begins (look_next n) ≡ false
Standing (Some x) n = IsExpression x 0 n

pub begins_same : (n : Next) → begins_exp n ≡ s.begins (look_next n)
begins_same None = refl
begins_same (Some (t.Identifier x)) = refl
begins_same (Some (t.Number x)) = refl
begins_same (Some (t.Character x)) = refl
begins_same (Some (t.Text x)) = refl
begins_same (Some (t.Reserved x)) = refl
begins_same (Some (t.Mark x)) = refl

-- what may not stand behind a signature
abbrev EndsSignature : Next → Type 0
EndsSignature n = (n ≢ Some (t.Mark m.EqualSign)) × ((n ≢ Some (t.Mark m.Colon)) × EndsType n)

abbrev Signed : Type 0
Signed = (Parameters × (Option TypeExpression × Bool)) × Expression

abbrev pub signature_written : Parameters × (Option TypeExpression × Bool) → Input
signature_written z = parameters_tokens z.0 ++ (W.annotation (option_map type_tokens z.1.0) ++ W.marked z.1.1 (t.Mark m.EqualSign))

abbrev pub SignedAt : Signed → Next → Type 0
SignedAt z n = (AreParameters z.0.0 × Within (λ y. IsType y 0) z.0.1.0) × BodyAt z.0.1.1 z.1 n

module _ (b : ℕ) (P : ℕ → Parser Expression) (D : Parser Declaration) (h : Inner b P D) where
  -- ---- an expression where the next token can begin one

  abbrev Written : Option Expression → Input
  Written x = W.optional (option_map expression_tokens x)

  optional_done : (x : Option Expression) (r : Input) → length (Written x) < b → Standing x (first r) → EndsExpression (first r) → p.optional P D (Written x ++ r) ≡ Some (x, r)
  unfolding p.optional
  optional_done None r short good stops = ap (λ c. (if c then Some <$> P 0 else pure None) r) (ap s.begins (look_first r) ∙ good)
  optional_done (Some x) r short good stops =
      let i : Input = expression_tokens x ++ r in
      let done = h.whole.complete x r short good stops in
      let begun : s.begins (look i) ≡ true = surely (s.begins (look i)) (λ never. let none = h.must_begin i never in absurd (cc)) in
      ap (λ c. (if c then Some <$> P 0 else pure None) i) begun ∙ bind_takes (P 0 i) _ x r done

  pub optional_exact : Exact b (p.optional P D) Written Standing EndsExpression
  unfolding p.optional
  optional_exact = record {
    sound = λ i x r h0. cases_if (s.begins (look i)) (Some <$> P 0) (pure None) i (x, r) h0
        (λ _ h1. bind_ok (P 0 i) _ (x, r) h1 (λ y j was h2. let took = h.whole.sound i y j was in took_as (Some y) j x r (record { text = took.text; good = took.good }) h2))
        (λ never h1. took_as None i x r (record { text = refl; good = sym (ap s.begins (look_first i)) ∙ never }) h1);
    complete = optional_done;
  }

  -- ---- bodies

  body_ok : (equal_sign : Bool) (i : Input) (y : Expression) (r : Input) → p.body P D equal_sign i ≡ Some (y, r) → Took expression_tokens (BodyAt equal_sign) y i r
  unfolding p.body
  body_ok true i y r h0 = let took = h.whole.sound i y r h0 in record { text = took.text; good = took.good }
  body_ok false i y r h0 = let took = (block_exact b P D h).sound i y r h0 in record { text = took.text; good = took.good }

  body_done : (equal_sign : Bool) (x : Expression) (r : Input) → length (expression_tokens x) < b → BodyAt equal_sign x (first r) → EndsExpression (first r) → p.body P D equal_sign (expression_tokens x ++ r) ≡ Some (x, r)
  unfolding p.body
  body_done true x r short good stops = h.whole.complete x r short good stops
  body_done false x r short good stops = (block_exact b P D h).complete x r short good tt

  pub body_exact : (equal_sign : Bool) → Exact b (p.body P D equal_sign) expression_tokens (BodyAt equal_sign) EndsExpression
  body_exact equal_sign = record { sound = body_ok equal_sign; complete = body_done equal_sign }

  -- a body begins with no token that no expression begins with
  body_first : (equal_sign : Bool) (x : Expression) (r : Input) → length (expression_tokens x) < b → BodyAt equal_sign x (first r) → EndsExpression (first r) →
      (tok : TokenKind) → s.begins (look_of tok) ≡ false → tok ≢ t.Mark m.BraceOpen → first (expression_tokens x ++ r) ≢ Some tok
  body_first true x r short good stops tok never differs =
      not_first (P 0) tok x (expression_tokens x ++ r) r (λ j. h.must_begin (tok ∷ j) never) (h.whole.complete x r short good stops)
  body_first false x r short good stops tok never differs = let begins = block_first b P D h x (first r) good in
      subst (λ u. first (u ++ r) ≢ Some tok) (sym begins.1) (λ u. differs (sym (some_is (t.Mark m.BraceOpen) tok u)))

  signature_stops : (y : Bool) (r : Input) → length (W.marked y (t.Mark m.EqualSign)) < b → Unit {0} → EndsSignature (first r) →
      (ahead (W.marked y (t.Mark m.EqualSign)) (first r) ≢ Some (t.Mark m.Colon)) × EndsType (ahead (W.marked y (t.Mark m.EqualSign)) (first r))
  signature_stops true r short good stops = (λ u. cc, (λ u. cc, λ u. cc))
  signature_stops false r short good stops = stops.1

  signature_exact : Exact b (p.signature P D) signature_written (λ z n. AreParameters z.0 × (Within (λ y. IsType y 0) z.1.0 × Unit {0})) EndsSignature
  unfolding p.signature
  signature_exact = both (parameters_exact b) (both (annotation_exact b) (ends_by (flag b (t.Mark m.EqualSign) tt) (λ n stops. stops.0)) signature_stops) (λ y r short good stops. tt)

  signed_ok : (i : Input) (z : Signed) (r : Input) → p.signed P D i ≡ Some (z, r) → Took (λ z. signature_written z.0 ++ expression_tokens z.1) SignedAt z i r
  unfolding p.signed
  signed_ok i z r h0 = bind_ok (p.signature P D i) _ (z, r) h0 (λ x j was h1. bind_ok (p.body P D x.1.1 j) _ (z, r) h1 (λ y k was' h2.
      let one = signature_exact.sound i x j was in
      let two = body_ok x.1.1 j y k was' in
      took_as (x, y) k z r (record {
        text = one.text ∙ ap (λ u. signature_written x ++ u) two.text ∙ sym (append_assoc (signature_written x) (expression_tokens y) k);
        good = ((one.good.0, one.good.1.0), two.good);
      }) h2))

  signed_done : (z : Signed) (r : Input) → length (signature_written z.0 ++ expression_tokens z.1) < b → SignedAt z (first r) → EndsExpression (first r) →
      p.signed P D ((signature_written z.0 ++ expression_tokens z.1) ++ r) ≡ Some (z, r)
  unfolding p.signed
  signed_done z r short good stops =
      let i : Input = expression_tokens z.1 ++ r in
      let small : length (expression_tokens z.1) < b = shorter_right (signature_written z.0) (expression_tokens z.1) b short in
      let not = body_first z.0.1.1 z.1 r small good.1 stops in
      ap (λ u. p.signed P D u) (append_assoc (signature_written z.0) (expression_tokens z.1) r)
      ∙ bind_takes (p.signature P D (signature_written z.0 ++ i)) _ z.0 i (signature_exact.complete z.0 i (shorter_left (signature_written z.0) (expression_tokens z.1) b short) (good.0.0, (good.0.1, tt))
      (not (t.Mark m.EqualSign) refl (λ u. cc), (not (t.Mark m.Colon) refl (λ u. cc), (not (t.Mark m.AngleOpen) refl (λ u. cc), not (t.Mark m.Arrow) refl (λ u. cc)))))
      ∙ bind_takes (p.body P D z.0.1.1 i) _ z.1 r (body_done z.0.1.1 z.1 r small good.1 stops)

  pub signed_exact : Exact b (p.signed P D) (λ z. signature_written z.0 ++ expression_tokens z.1) SignedAt EndsExpression
  signed_exact = record { sound = signed_ok; complete = signed_done }
