-- Public functions, system functions and their headings are read exactly.
use Rattle.std.proofs.Common.{◌≡◌, ℕ, ◌<◌, Bool, true, false, [], ◌∷◌, ◌++◌, length, Some, None, refl, sym, ap, ◌∙◌, arith, append_assoc}
use Rattle.std.specs.Prelude.{◌≢◌}
use Rattle.mo_syntax.specs.declared.name.Name.{Name}
use Rattle.mo_syntax.specs.declared.token.TokenKind.TheVariants as t
use Rattle.mo_syntax.specs.declared.word.Word.TheVariants as w
use Rattle.mo_syntax.specs.declared.mark.Mark.{Mark}
use Rattle.mo_syntax.specs.declared.mark.Mark.TheVariants as m
use Rattle.mo_syntax.specs.declared.expressions.Expression.{Expression}
use Rattle.mo_syntax.specs.declared.program.ActorField.{ActorField}
use Rattle.mo_syntax.specs.declared.program.ActorField.TheVariants as field
use Rattle.mo_syntax.specs.Writing as W
use Rattle.mo_syntax.specs.TypeGrammar.{type_tokens, IsType}
use Rattle.mo_syntax.specs.PatternGrammar.{parameters_tokens, AreParameters}
use Rattle.mo_syntax.specs.ExpressionGrammar.{first, expression_tokens}
use Rattle.mo_syntax.specs.ProgramGrammar.{shared_function_tokens, actor_field_tokens, IsBody, IsSharedFunction, IsActorField}
use Rattle.mo_parser_base.specs.declared.look.Look.TheVariants as l
use Rattle.mo_parser_base.specs.Input.{Input}
use Rattle.mo_parser_base.proofs.Steps.{bind_ok, bind_takes}
use Rattle.mo_parser_base.proofs.Exact.{Next, Took, Exact, took_as, both, led_by, flag, a_name, fewer, ahead, shorter_left, shorter_right}
use Rattle.mo_parser_base.proofs.Made.{mapped, as_written, ends_by}
use Rattle.mo_parser_types.specs.Ends.{EndsType}
use Rattle.mo_parser_types.proofs.Whole.{a_type_exact}
use Rattle.mo_parser_patterns.proofs.Whole.{parameters_exact}
use Rattle.mo_parser_expressions.specs.Expressions as p
use Rattle.mo_parser_exact.specs.Ends.{EndsExpression}
use Rattle.mo_parser_programs.specs.Programs as g
use Rattle.mo_parser_expressions.specs.Signs as s
use Rattle.mo_parser_exact.proofs.Blocks.{BodyAt}
use Rattle.mo_parser_exact.proofs.Depths.{a_body_exact, body_first}
use Rattle.mo_parser_programs.proofs.Prefixes.{prefix_exact}

-- what ends a heading
abbrev EndsHeading : Next → Type 0
EndsHeading n = (n ≢ Some (t.Mark m.EqualSign)) × EndsType n

abbrev heading_written : g.Heading → Input
heading_written z = t.Reserved w.Func ∷ ((t.Identifier z.0 ∷ []) ++ (parameters_tokens z.1.0 ++ ((t.Mark m.Colon ∷ type_tokens z.1.1.0) ++ W.marked z.1.1.1 (t.Mark m.EqualSign))))

abbrev HeadingAt : g.Heading → Next → Type 0
HeadingAt z n = Unit {0} × (AreParameters z.1.0 × (IsType z.1.1.0 0 × Unit {0}))

result_ends : (y : Bool) (n : Next) → EndsHeading n → EndsType (ahead (W.marked y (t.Mark m.EqualSign)) n)
result_ends true n stops = (λ u. cc, λ u. cc)
result_ends false n stops = stops.1

heading_exact : (b : ℕ) → Exact b g.heading heading_written HeadingAt EndsHeading
unfolding g.heading
heading_exact b = fewer (led_by (t.Reserved w.Func) tt (both (a_name b) (both (parameters_exact b)
    (both (fewer (led_by (t.Mark m.Colon) tt (a_type_exact b))) (ends_by (flag b (t.Mark m.EqualSign) tt) (λ n stops. stops.0)) (λ y r short good stops. result_ends y (first r) stops))
    (λ y r short good stops. tt)) (λ y r short good stops. tt)))

abbrev system_written : Name × Bool → Input
system_written z = t.Reserved w.Func ∷ ((t.Identifier z.0 ∷ []) ++ (t.Mark m.ParenOpen ∷ t.Mark m.ParenClose ∷ W.marked z.1 (t.Mark m.EqualSign)))

system_heading_exact : (b : ℕ) → Exact b g.system_heading system_written (λ z n. Unit {0} × Unit {0}) (λ n. n ≢ Some (t.Mark m.EqualSign))
unfolding g.system_heading
system_heading_exact b = fewer (led_by (t.Reserved w.Func) tt (both (a_name b) (fewer (led_by (t.Mark m.ParenOpen) tt (fewer (led_by (t.Mark m.ParenClose) tt (flag b (t.Mark m.EqualSign) tt))))) (λ y r short good stops. tt)))

-- ---- bodies

body_out : (equal_sign : Bool) (x : Expression) (n : Next) → BodyAt equal_sign x n → IsBody equal_sign x n
body_out true x n good = good
body_out false x n good = good

body_in : (equal_sign : Bool) (x : Expression) (n : Next) → IsBody equal_sign x n → BodyAt equal_sign x n
body_in true x n good = good
body_in false x n good = good

body_exact : (b : ℕ) (equal_sign : Bool) → Exact b (p.a_body equal_sign) expression_tokens (IsBody equal_sign) EndsExpression
body_exact b equal_sign = as_written (a_body_exact b equal_sign) expression_tokens (IsBody equal_sign) (λ x. refl) (body_out equal_sign) (body_in equal_sign)

-- a body begins with a `{`, or as an expression does
begins : (equal_sign : Bool) (x : Expression) (r : Input) → IsBody equal_sign x (first r) → EndsExpression (first r) → (a : Mark) → s.begins (l.Mark a) ≡ false → t.Mark a ≢ t.Mark m.BraceOpen →
    first (expression_tokens x ++ r) ≢ Some (t.Mark a)
begins equal_sign x r good stops a never differs = body_first equal_sign x r (body_in equal_sign x (first r) good) stops (t.Mark a) never differs

-- ---- functions

module _ (b : ℕ) where
  headed_ok : (i : Input) (z : g.Heading × Expression) (r : Input) → g.headed i ≡ Some (z, r) →
      Took (λ u. heading_written u.0 ++ expression_tokens u.1) (λ u n. HeadingAt u.0 None × IsBody u.0.1.1.1 u.1 n) z i r
  unfolding g.headed
  headed_ok i z r h = bind_ok (g.heading i) _ (z, r) h (λ x j was h1. bind_ok (p.a_body x.1.1.1 j) _ (z, r) h1 (λ y k was' h2.
      let one = (heading_exact b).sound i x j was in
      let two = (body_exact b x.1.1.1).sound j y k was' in
      took_as (x, y) k z r (record {
        text = one.text ∙ ap (λ u. heading_written x ++ u) two.text ∙ sym (append_assoc (heading_written x) (expression_tokens y) k);
        good = (one.good, two.good);
      }) h2))

  headed_done : (x : g.Heading) (y : Expression) (r : Input) → length (heading_written x ++ expression_tokens y) < b → HeadingAt x None → IsBody x.1.1.1 y (first r) → EndsExpression (first r) →
      g.headed ((heading_written x ++ expression_tokens y) ++ r) ≡ Some ((x, y), r)
  unfolding g.headed
  headed_done x y r short good whole stops =
      let i : Input = expression_tokens y ++ r in
      let small : length (expression_tokens y) < b = shorter_right (heading_written x) (expression_tokens y) b short in
      ap (λ u. g.headed u) (append_assoc (heading_written x) (expression_tokens y) r)
      ∙ bind_takes (g.heading (heading_written x ++ i)) _ x i ((heading_exact b).complete x i (shorter_left (heading_written x) (expression_tokens y) b short) good
      (begins x.1.1.1 y r whole stops m.EqualSign refl (λ u. cc), (begins x.1.1.1 y r whole stops m.AngleOpen refl (λ u. cc), begins x.1.1.1 y r whole stops m.Arrow refl (λ u. cc))))
      ∙ bind_takes (p.a_body x.1.1.1 i) _ y r ((body_exact b x.1.1.1).complete y r small whole stops)

  headed_exact : Exact b g.headed (λ z. heading_written z.0 ++ expression_tokens z.1) (λ z n. HeadingAt z.0 None × IsBody z.0.1.1.1 z.1 n) EndsExpression
  headed_exact = record { sound = headed_ok; complete = λ z r short good stops. headed_done z.0 z.1 r short good.0 good.1 stops }

  pub shared_function_exact : Exact b g.shared_function shared_function_tokens (λ x n. IsSharedFunction x n) EndsExpression
  unfolding g.shared_function
  shared_function_exact = mapped (both (prefix_exact b) headed_exact (λ y r short good stops. refl)) g.to_function shared_function_tokens (λ x n. IsSharedFunction x n)
      (λ x. ((x.prefix, ((x.name, (x.parameters, (x.result, x.equal_sign))), x.body)), refl)) (λ z. refl)
      (λ z n good. (good.0, good.1.0.1.0, good.1.0.1.1.0, good.1.1))
      (λ z n good. (good.0, ((tt, (good.1, (good.2, tt))), good.3)))

  -- behind `system`
  pub system_ok : (i j : Input) → i ≡ t.Reserved w.System ∷ j → (y : ActorField) (r : Input) → g.system_function j ≡ Some (y, r) → Took actor_field_tokens (λ x n. IsActorField x n) y i r
  unfolding g.system_function
  system_ok i j is y r h = bind_ok (g.system_heading j) _ (y, r) h (λ x k was h1. bind_ok (p.a_body x.1 k) _ (y, r) h1 (λ a k' was' h2.
      let one = (system_heading_exact b).sound j x k was in
      let two = (body_exact b x.1).sound k a k' was' in
      took_as (field.System x.0 x.1 a) k' y r (record {
        text = is ∙ ap (λ u. t.Reserved w.System ∷ u) (one.text ∙ ap (λ u. system_written x ++ u) two.text ∙ sym (append_assoc (system_written x) (expression_tokens a) k'));
        good = two.good;
      }) h2))

  pub system_done : (x : Name) (equal_sign : Bool) (a : Expression) (r : Input) → length (actor_field_tokens (field.System x equal_sign a)) < b → IsBody equal_sign a (first r) → EndsExpression (first r) →
      g.system_function ((system_written (x, equal_sign) ++ expression_tokens a) ++ r) ≡ Some (field.System x equal_sign a, r)
  unfolding g.system_function
  system_done x equal_sign a r short good stops =
      let z : Name × Bool = (x, equal_sign) in
      let i : Input = expression_tokens a ++ r in
      let less : length (system_written z ++ expression_tokens a) < b = omega arith in
      let small : length (expression_tokens a) < b = shorter_right (system_written z) (expression_tokens a) b less in
      ap (λ u. g.system_function u) (append_assoc (system_written z) (expression_tokens a) r)
      ∙ bind_takes (g.system_heading (system_written z ++ i)) _ z i ((system_heading_exact b).complete z i (shorter_left (system_written z) (expression_tokens a) b less) (tt, tt) (begins equal_sign a r good stops m.EqualSign refl (λ u. cc)))
      ∙ bind_takes (p.a_body equal_sign i) _ a r ((body_exact b equal_sign).complete a r small good stops)
