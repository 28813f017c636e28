-- The types that no `->` joins are read exactly.
use Rattle.std.proofs.Common.{◌≡◌, ℕ, suc, ◌<◌, Bool, true, false, List, [], ◌∷◌, ◌++◌, length, map, option_map, Option, Some, None, refl, sym, ap, ◌∙◌, subst, arith}
use Rattle.std.specs.Prelude.{◌≢◌}
use Rattle.mo_syntax.specs.declared.name.Name.{Name}
use Rattle.mo_syntax.specs.declared.token.TokenKind.TheVariants as t
use Rattle.mo_syntax.specs.declared.word.Word.TheVariants as w
use Rattle.mo_syntax.specs.declared.mark.Mark.TheVariants as m
use Rattle.mo_syntax.specs.declared.types.Sharing.{Sharing}
use Rattle.mo_syntax.specs.declared.types.TypeExpression.{TypeExpression}
use Rattle.mo_syntax.specs.declared.types.TypeExpression.TheVariants as e
use Rattle.mo_syntax.specs.declared.types.TypeField.{TypeField}
use Rattle.mo_syntax.specs.declared.types.TypeItem.{TypeItem}
use Rattle.mo_syntax.specs.declared.types.TypeMethod.{TypeMethod}
use Rattle.mo_syntax.specs.declared.types.TypeTag.{TypeTag}
use Rattle.mo_syntax.specs.Writing as W
use Rattle.mo_syntax.specs.Parts.{Within, Listed, MayEnd, NotEmpty}
use Rattle.mo_syntax.specs.TypeGrammar.{type_tokens, type_field_tokens, type_method_tokens, type_tag_tokens, IsType, IsTypeField, IsTypeItem, IsTypeMethod, IsTypeTag}
use Rattle.mo_syntax.specs.ExpressionGrammar.{first, behind_last}
use Rattle.mo_syntax.proofs.TypeEquations as eq
use Rattle.mo_syntax.proofs.TypeInduction.{Claims, Cases, holds_TypeExpression}
use Rattle.mo_parser_base.specs.declared.look.Look.{Look}
use Rattle.mo_parser_base.specs.declared.look.Look.TheVariants as l
use Rattle.mo_parser_base.specs.Input.{Input, Parser, ◌&◌, ◌▸◌, ◌◂◌, look, next, eat, identifier, comma, semicolon, brace, semicolons}
use Rattle.mo_parser_base.proofs.Steps.{bind_ok, bind_takes, expect_ok, expect_takes, look_mark, look_word}
use Rattle.mo_parser_base.proofs.Exact.{Next, Took, Exact, Any, took_as, both, led_by, ended_by, flag, behind_by, a_name, fewer, made, ahead, ahead_not, not_first, assoc_four}
use Rattle.mo_parser_base.proofs.Made.{made_behind, makes_behind, makes_as, each_listed, listed_each, each_within_listed, within_listed_each, rule_in, rule_out}
use Rattle.mo_parser_types.specs.Types as p
use Rattle.mo_parser_types.specs.Ends.{EndsPrefix, EndsType}
use Rattle.mo_parser_types.proofs.Parts.{Inner, field_of, tag_of, field_text, tag_text, types_exact, items_exact, fields_exact, methods_exact, tags_exact}

abbrev pub AtPrefix : TypeExpression → Next → Type 0
AtPrefix x n = IsType x 1

named_text : (z : Name × Option (List TypeExpression)) → type_tokens (e.Named z.0 z.1) ≡
    (t.Identifier z.0 ∷ []) ++ W.led (t.Mark m.AngleOpen) (option_map (λ xs. W.commas (map type_tokens xs) ++ t.Mark m.AngleClose ∷ []) z.1)
named_text (x, None) = eq.tokens_Named x None
named_text (x, Some xs) = eq.tokens_Named x (Some xs)

module _ (b : ℕ) (P : ℕ → Parser TypeExpression) (h : Inner b P) where
  named_parts : Exact (suc b) (identifier & p.arguments P) (λ z. (t.Identifier z.0 ∷ []) ++ W.led (t.Mark m.AngleOpen) (option_map (λ xs. W.commas (map type_tokens xs) ++ t.Mark m.AngleClose ∷ []) z.1))
      (λ z n. Unit {0} × Within (λ xs. Listed (λ x s. IsType x 0) comma (t.Mark m.AngleClose) xs) z.1) (λ n. (n ≢ Some (t.Mark m.AngleOpen)) × Unit {0})
  unfolding p.arguments
  named_parts = both (a_name (suc b)) (behind_by (t.Mark m.AngleOpen) tt (types_exact b P h)) (λ y r short good stops. tt)

  named_good : (z : Name × Option (List TypeExpression)) → Within (λ xs. Listed (λ x s. IsType x 0) comma (t.Mark m.AngleClose) xs) z.1 → IsType (e.Named z.0 z.1) 1
  named_good z good = rule_in (eq.rule_Named z.0 z.1) 1 (within_listed_each (λ a. IsType a 0) comma (t.Mark m.AngleClose) z.1 good)

  not_var : (y : TypeExpression) (r : Input) → length (type_tokens y) < b → IsType y 0 → EndsType (first r) → ahead (type_tokens y) (first r) ≢ Some (t.Reserved w.Var)
  not_var y r short good stops = ahead_not (type_tokens y) r (t.Reserved w.Var) (not_first (P 0) (t.Reserved w.Var) y (type_tokens y ++ r) r h.no_var (h.whole.complete y r short good stops))

  array_parts : Exact b ((eat (t.Reserved w.Var) & P 0) ◂ t.Mark m.BracketClose) (λ z. (W.marked z.0 (t.Reserved w.Var) ++ type_tokens z.1) ++ t.Mark m.BracketClose ∷ [])
      (λ z n. Unit {0} × IsType z.1 0) Any
  array_parts = ended_by (t.Mark m.BracketClose) tt (both (flag b (t.Reserved w.Var) tt) h.whole not_var) (λ e. cc, λ e. cc)

  abbrev to_named : Name × Option (List TypeExpression) → TypeExpression
  to_named z = e.Named z.0 z.1

  abbrev to_array : Bool × TypeExpression → TypeExpression
  to_array z = e.Array z.0 z.1

  abbrev to_object : Bool → List TypeField × Bool → TypeExpression
  to_object word z = e.Object word z.0 z.1

  abbrev to_variant : List TypeTag × Bool → TypeExpression
  to_variant z = e.Variant z.0 z.1

  abbrev to_actor : List TypeMethod × Bool → TypeExpression
  to_actor z = e.Actor z.0 z.1

  object_good : (word : Bool) (z : List TypeField × Bool) → Listed (λ x s. IsTypeField x) semicolon (behind_last z.1) z.0 × MayEnd z.0 z.1 → IsType (to_object word z) 1
  object_good word z good = rule_in (eq.rule_Object word z.0 z.1) 1 (listed_each IsTypeField semicolon (behind_last z.1) z.0 good.0, good.1)

  object_fact : (word : Bool) (z : List TypeField × Bool) → IsType (to_object word z) 1 → Listed (λ x s. IsTypeField x) semicolon (behind_last z.1) z.0 × MayEnd z.0 z.1
  object_fact word z good = let u = rule_out (eq.rule_Object word z.0 z.1) 1 good in (each_listed IsTypeField semicolon (behind_last z.1) z.0 u.0, u.1)

  actor_good : (z : List TypeMethod × Bool) → Listed (λ x s. IsTypeMethod x) semicolon (behind_last z.1) z.0 × MayEnd z.0 z.1 → IsType (to_actor z) 1
  actor_good z good = rule_in (eq.rule_Actor z.0 z.1) 1 (listed_each IsTypeMethod semicolon (behind_last z.1) z.0 good.0, good.1)

  actor_fact : (z : List TypeMethod × Bool) → IsType (to_actor z) 1 → Listed (λ x s. IsTypeMethod x) semicolon (behind_last z.1) z.0 × MayEnd z.0 z.1
  actor_fact z good = let u = rule_out (eq.rule_Actor z.0 z.1) 1 good in (each_listed IsTypeMethod semicolon (behind_last z.1) z.0 u.0, u.1)

  some_end : (xs : List TypeTag) (last : Bool) → NotEmpty xs → MayEnd xs last
  some_end xs true h = h
  some_end xs false h = tt

  variant_good : (z : List TypeTag × Bool) → (Listed (λ x s. IsTypeTag x) semicolon (behind_last z.1) z.0 × MayEnd z.0 z.1) × NotEmpty z.0 → IsType (to_variant z) 1
  variant_good z good = rule_in (eq.rule_Variant z.0 z.1) 1 (listed_each IsTypeTag semicolon (behind_last z.1) z.0 good.0.0, good.1)

  variant_fact : (z : List TypeTag × Bool) → IsType (to_variant z) 1 → (Listed (λ x s. IsTypeTag x) semicolon (behind_last z.1) z.0 × MayEnd z.0 z.1) × NotEmpty z.0
  variant_fact z good = let u = rule_out (eq.rule_Variant z.0 z.1) 1 good in ((each_listed IsTypeTag semicolon (behind_last z.1) z.0 u.0, some_end z.0 z.1 u.1), u.1)

  -- ---- what is read

  abbrev Reading : Input → TypeExpression → Input → Type 0
  Reading i y r = Took type_tokens AtPrefix y i r

  braced_ok : (a : Look) (i j : Input) (y : TypeExpression) (r : Input) → i ≡ t.Mark m.BraceOpen ∷ j → look j ≡ a → p.braced_by P a j ≡ Some (y, r) → Reading i y r
  unfolding p.variant p.object
  braced_ok (l.Mark m.Concat) i j y r is next_is h0 = expect_ok brace (next j) _ (y, r) h0 (λ k is' h1.
      took_as e.EmptyVariant k y r (record {
        text = is ∙ ap (λ z. t.Mark m.BraceOpen ∷ z) (look_mark j m.Concat next_is ∙ ap (λ z. t.Mark m.Concat ∷ z) is') ∙ ap (λ z. z ++ k) (sym eq.tokens_EmptyVariant);
        good = rule_in eq.rule_EmptyVariant 1 tt;
      }) h1)
  braced_ok (l.Mark m.Tag) i j y r is next_is h0 =
      made_behind (t.Mark m.BraceOpen) (tags_exact b P h) to_variant type_tokens AtPrefix (λ z. eq.tokens_Variant z.0 z.1) (λ z n good. variant_good z good) i j is y r h0
  braced_ok _ i j y r is next_is h0 =
      made_behind (t.Mark m.BraceOpen) (fields_exact b P h) (to_object false) type_tokens AtPrefix (λ z. eq.tokens_Object false z.0 z.1) (λ z n good. object_good false z good) i j is y r h0

  word_object_ok : (i j : Input) (y : TypeExpression) (r : Input) → i ≡ t.Reserved w.Object ∷ j → p.word_object P j ≡ Some (y, r) → Reading i y r
  unfolding p.word_object p.object
  word_object_ok i j y r is h0 = expect_ok (t.Mark m.BraceOpen) j _ (y, r) h0 (λ k is' h1.
      bind_ok (semicolons (p.field P) k) _ (y, r) h1 (λ z k' e1 h2.
      let took = (fields_exact b P h).sound k z k' e1 in
      took_as (to_object true z) k' y r (record {
        text = is ∙ ap (λ z. t.Reserved w.Object ∷ z) (is' ∙ ap (λ z. t.Mark m.BraceOpen ∷ z) took.text) ∙ ap (λ u. u ++ k') (sym (eq.tokens_Object true z.0 z.1));
        good = object_good true z took.good;
      }) h2))

  actor_parts : Exact b (t.Mark m.BraceOpen ▸ semicolons (p.method P)) (λ z. t.Mark m.BraceOpen ∷ (W.semicolons (map type_method_tokens z.0) z.1 ++ brace ∷ []))
      (λ z n. Listed (λ x s. IsTypeMethod x) semicolon (behind_last z.1) z.0 × MayEnd z.0 z.1) Any
  actor_parts = fewer (led_by (t.Mark m.BraceOpen) tt (methods_exact b P h))

  layer_by_ok : (a : Look) (i : Input) (y : TypeExpression) (r : Input) → look i ≡ a → p.layer_by P a i ≡ Some (y, r) → Reading i y r
  unfolding p.named p.parenthesized p.array p.braced p.actor
  layer_by_ok l.Identifier i y r is h0 = made named_parts to_named type_tokens AtPrefix named_text (λ z n good. named_good z good.1) i y r h0
  layer_by_ok (l.Mark m.Question) i y r is h0 =
      made_behind (t.Mark m.Question) h.prefix e.Optional type_tokens AtPrefix eq.tokens_Optional (λ z n good. rule_in (eq.rule_Optional z) 1 (omega arith, good)) i (next i) (look_mark i m.Question is) y r h0
  layer_by_ok (l.Reserved w.Async) i y r is h0 =
      made_behind (t.Reserved w.Async) h.prefix e.Async type_tokens AtPrefix eq.tokens_Async (λ z n good. rule_in (eq.rule_Async z) 1 (omega arith, good)) i (next i) (look_word i w.Async is) y r h0
  layer_by_ok (l.Mark m.ParenOpen) i y r is h0 =
      made_behind (t.Mark m.ParenOpen) (items_exact b P h) e.Parenthesized type_tokens AtPrefix eq.tokens_Parenthesized
      (λ z n good. rule_in (eq.rule_Parenthesized z) 1 (listed_each IsTypeItem comma (t.Mark m.ParenClose) z good)) i (next i) (look_mark i m.ParenOpen is) y r h0
  layer_by_ok (l.Mark m.BracketOpen) i y r is h0 =
      made_behind (t.Mark m.BracketOpen) array_parts to_array type_tokens AtPrefix (λ z. eq.tokens_Array z.0 z.1) (λ z n good. rule_in (eq.rule_Array z.0 z.1) 1 good.1) i (next i) (look_mark i m.BracketOpen is) y r h0
  layer_by_ok (l.Mark m.BraceOpen) i y r is h0 = braced_ok (look (next i)) i (next i) y r (look_mark i m.BraceOpen is) refl h0
  layer_by_ok (l.Reserved w.Object) i y r is h0 = word_object_ok i (next i) y r (look_word i w.Object is) h0
  layer_by_ok (l.Reserved w.Actor) i y r is h0 =
      made_behind (t.Reserved w.Actor) actor_parts to_actor type_tokens AtPrefix (λ z. eq.tokens_Actor z.0 z.1) (λ z n good. actor_good z good) i (next i) (look_word i w.Actor is) y r h0
  layer_by_ok _ i y r is h0 = absurd (cc)

  layer_ok : (i : Input) (y : TypeExpression) (r : Input) → p.layer P i ≡ Some (y, r) → Reading i y r
  unfolding p.layer
  layer_ok i y r h0 = layer_by_ok (look i) i y r refl h0

  -- ---- what is written is read

  abbrev Read : TypeExpression → Type 0
  Read x = (r : Input) → length (type_tokens x) < suc b → IsType x 1 → EndsPrefix (first r) → p.layer P (type_tokens x ++ r) ≡ Some (x, r)

  read_function : (s : Sharing) (a c : TypeExpression) → Read (e.Function s a c)
  read_function s a c r short good stops = absurd (let u = rule_out (eq.rule_Function s a c) 1 good in omega (arith, u.0))

  read_optional : (a : TypeExpression) → Read (e.Optional a)
  unfolding p.layer
  read_optional a r short good stops =
      makes_behind (t.Mark m.Question) h.prefix e.Optional type_tokens a (eq.tokens_Optional a) (p.layer P) r refl short (rule_out (eq.rule_Optional a) 1 good).1 stops

  read_async : (a : TypeExpression) → Read (e.Async a)
  unfolding p.layer
  read_async a r short good stops =
      makes_behind (t.Reserved w.Async) h.prefix e.Async type_tokens a (eq.tokens_Async a) (p.layer P) r refl short (rule_out (eq.rule_Async a) 1 good).1 stops

  read_named : (x : Name) (o : Option (List TypeExpression)) → Read (e.Named x o)
  unfolding p.layer p.named
  read_named x o r short good stops =
      makes_as named_parts to_named type_tokens (x, o) (named_text (x, o)) (p.layer P) r refl short
      (tt, each_within_listed (λ a. IsType a 0) comma (t.Mark m.AngleClose) o (rule_out (eq.rule_Named x o) 1 good)) (stops, tt)

  read_parenthesized : (xs : List TypeItem) → Read (e.Parenthesized xs)
  unfolding p.layer p.parenthesized
  read_parenthesized xs r short good stops =
      makes_behind (t.Mark m.ParenOpen) (items_exact b P h) e.Parenthesized type_tokens xs (eq.tokens_Parenthesized xs) (p.layer P) r refl short
      (each_listed IsTypeItem comma (t.Mark m.ParenClose) xs (rule_out (eq.rule_Parenthesized xs) 1 good)) tt

  read_array : (mutable : Bool) (a : TypeExpression) → Read (e.Array mutable a)
  unfolding p.layer p.array
  read_array mutable a r short good stops =
      makes_behind (t.Mark m.BracketOpen) array_parts to_array type_tokens (mutable, a) (eq.tokens_Array mutable a) (p.layer P) r refl short (tt, rule_out (eq.rule_Array mutable a) 1 good) tt

  abbrev Fields : List TypeField × Bool → Input
  Fields z = W.semicolons (map type_field_tokens z.0) z.1 ++ brace ∷ []

  field_plain : (z : Bool × (Name × TypeExpression)) (i : Input) →
      p.braced P ((W.marked z.0 (t.Reserved w.Var) ++ (((t.Identifier z.1.0 ∷ []) ++ t.Mark m.Colon ∷ []) ++ type_tokens z.1.1)) ++ i)
      ≡ p.object P false ((W.marked z.0 (t.Reserved w.Var) ++ (((t.Identifier z.1.0 ∷ []) ++ t.Mark m.Colon ∷ []) ++ type_tokens z.1.1)) ++ i)
  unfolding p.braced
  field_plain (true, y) i = refl
  field_plain (false, y) i = refl

  field_begins : (x : TypeField) (i : Input) → p.braced P (type_field_tokens x ++ i) ≡ p.object P false (type_field_tokens x ++ i)
  field_begins x i = let z = field_of x in
      subst (λ u. p.braced P (type_field_tokens u ++ i) ≡ p.object P false (type_field_tokens u ++ i)) (sym z.1)
      (subst (λ u. p.braced P (u ++ i) ≡ p.object P false (u ++ i)) (sym (field_text z.0)) (field_plain z.0 i))

  fields_begin : (xs : List TypeField) (last : Bool) (r : Input) → MayEnd xs last → p.braced P (Fields (xs, last) ++ r) ≡ p.object P false (Fields (xs, last) ++ r)
  unfolding p.braced
  fields_begin [] true r ends = absurd ends
  fields_begin [] false r ends = refl
  fields_begin (x ∷ xs) last r ends =
      subst (λ u. p.braced P u ≡ p.object P false u) (sym (assoc_four (type_field_tokens x) _ (W.marked last semicolon) (brace ∷ []) r)) (field_begins x _)

  read_object : (word : Bool) (xs : List TypeField) (last : Bool) → Read (e.Object word xs last)
  unfolding p.layer p.word_object p.object
  read_object true xs last r short good stops =
      let same : type_tokens (e.Object true xs last) ≡ t.Reserved w.Object ∷ t.Mark m.BraceOpen ∷ Fields (xs, last) = eq.tokens_Object true xs last in
      let n : length (type_tokens (e.Object true xs last)) ≡ length (t.Reserved w.Object ∷ t.Mark m.BraceOpen ∷ Fields (xs, last)) = ap length same in
      ap (λ z. p.layer P (z ++ r)) same
      ∙ expect_takes (t.Mark m.BraceOpen) tt (Fields (xs, last) ++ r) _
      ∙ bind_takes (semicolons (p.field P) (Fields (xs, last) ++ r)) _ (xs, last) r
      ((fields_exact b P h).complete (xs, last) r (omega arith) (object_fact true (xs, last) good) tt)
  read_object false xs last r short good stops = let fact = object_fact false (xs, last) good in
      makes_behind (t.Mark m.BraceOpen) (fields_exact b P h) (to_object false) type_tokens (xs, last) (eq.tokens_Object false xs last) (p.layer P) r
      (fields_begin xs last r fact.1) short fact tt

  read_empty : Read e.EmptyVariant
  unfolding p.layer p.braced
  read_empty r short good stops = ap (λ z. p.layer P (z ++ r)) eq.tokens_EmptyVariant ∙ expect_takes brace tt r _

  abbrev Tags : List TypeTag × Bool → Input
  Tags z = W.semicolons (map type_tag_tokens z.0) z.1 ++ brace ∷ []

  tag_begins : (x : TypeTag) (i : Input) → p.braced P (type_tag_tokens x ++ i) ≡ p.variant P (type_tag_tokens x ++ i)
  unfolding p.braced
  tag_begins x i = let z = tag_of x in
      subst (λ u. p.braced P (type_tag_tokens u ++ i) ≡ p.variant P (type_tag_tokens u ++ i)) (sym z.1)
      (subst (λ u. p.braced P (u ++ i) ≡ p.variant P (u ++ i)) (sym (tag_text z.0)) refl)

  tags_begin : (xs : List TypeTag) (last : Bool) (r : Input) → NotEmpty xs → p.braced P (Tags (xs, last) ++ r) ≡ p.variant P (Tags (xs, last) ++ r)
  tags_begin [] last r some = absurd some
  tags_begin (x ∷ xs) last r some =
      subst (λ u. p.braced P u ≡ p.variant P u) (sym (assoc_four (type_tag_tokens x) _ (W.marked last semicolon) (brace ∷ []) r)) (tag_begins x _)

  read_variant : (xs : List TypeTag) (last : Bool) → Read (e.Variant xs last)
  unfolding p.layer p.variant
  read_variant xs last r short good stops = let fact = variant_fact (xs, last) good in
      makes_behind (t.Mark m.BraceOpen) (tags_exact b P h) to_variant type_tokens (xs, last) (eq.tokens_Variant xs last) (p.layer P) r (tags_begin xs last r fact.1) short fact tt

  read_actor : (xs : List TypeMethod) (last : Bool) → Read (e.Actor xs last)
  unfolding p.layer p.actor
  read_actor xs last r short good stops =
      makes_behind (t.Reserved w.Actor) actor_parts to_actor type_tokens (xs, last) (eq.tokens_Actor xs last) (p.layer P) r refl short (actor_fact (xs, last) good) tt

  abbrev claims : Claims
  claims = record {
    of_TypeExpression = Read;
    of_TypeField = λ x. Unit {0};
    of_TypeItem = λ x. Unit {0};
    of_TypeMethod = λ x. Unit {0};
    of_TypeTag = λ x. Unit {0};
  }

  cases : Cases claims
  cases = record {
    Function = λ x0 x1 x2 h1 h2. read_function x0 x1 x2;
    Optional = λ x0 h1. read_optional x0;
    Async = λ x0 h1. read_async x0;
    Named = λ x0 x1 h1. read_named x0 x1;
    Parenthesized = λ x0 h1. read_parenthesized x0;
    Array = λ x0 x1 h1. read_array x0 x1;
    Object = λ x0 x1 x2 h1. read_object x0 x1 x2;
    EmptyVariant = read_empty;
    Variant = λ x0 x1 h1. read_variant x0 x1;
    Actor = λ x0 x1 h1. read_actor x0 x1;
    TypeField_ = λ x0 x1 x2 h1. tt;
    TypeItem_ = λ x0 x1 h1. tt;
    TypeMethod_ = λ x0 x1 h1. tt;
    TypeTag_ = λ x0 x1 h1. tt;
  }

  pub layer_exact : Exact (suc b) (p.layer P) type_tokens (λ x n. IsType x 1) EndsPrefix
  layer_exact = record { sound = layer_ok; complete = holds_TypeExpression claims cases }
