-- The parts of types are read exactly.
use Rattle.std.proofs.Common.{◌≡◌, ℕ, Bool, [], ◌∷◌, ◌++◌, length, map, option_map, Option, Some, None, refl, sym, ap, ◌∙◌, append_assoc, ◌<◌}
use Rattle.std.specs.Prelude.{◌≢◌}
use Rattle.mo_syntax.specs.declared.name.Name.{Name}
use Rattle.mo_syntax.specs.declared.token.TokenKind.TheVariants as t
use Rattle.mo_syntax.specs.declared.word.Word.TheVariants as w
use Rattle.mo_syntax.specs.declared.mark.Mark.TheVariants as m
use Rattle.mo_syntax.specs.declared.types.TypeExpression.{TypeExpression}
use Rattle.mo_syntax.specs.declared.types.TypeField.{TypeField}
use Rattle.mo_syntax.specs.declared.types.TypeItem.{TypeItem}
use Rattle.mo_syntax.specs.declared.types.TypeMethod.{TypeMethod}
use Rattle.mo_syntax.specs.declared.types.TypeTag.{TypeTag}
use Rattle.mo_syntax.specs.Writing as W
use Rattle.mo_syntax.specs.Parts.{Listed, MayEnd, NotEmpty}
use Rattle.mo_syntax.specs.TypeGrammar.{type_tokens, type_field_tokens, type_item_tokens, type_method_tokens, type_tag_tokens, item_name, IsType, IsTypeField, IsTypeItem, IsTypeMethod, IsTypeTag}
use Rattle.mo_syntax.specs.ExpressionGrammar.{first, behind_last}
use Rattle.mo_syntax.proofs.TypeEquations as eq
use Rattle.mo_syntax.proofs.TypeInduction.{Claims, Cases, holds_TypeField, holds_TypeItem, holds_TypeMethod, holds_TypeTag}
use Rattle.mo_parser_base.specs.Input.{Input, Parser, and_then, pure, ◌&◌, after, same_mark, expect, identifier, label, comma, semicolon, brace, commas, semicolons, some_semicolons}
use Rattle.mo_parser_base.proofs.Steps.{bind_ok, bind_takes, label_ok, label_takes, label_leaves}
use Rattle.mo_parser_base.proofs.Exact.{Exact, Any, took_as, both, led_by, ended_by, flag, behind_by, a_name, fewer, shorter_right, commas_exact, semicolons_exact, some_semicolons_exact}
use Rattle.mo_parser_base.proofs.Made.{mapped, fact_in, fact_out}
use Rattle.mo_parser_types.specs.Types as p
use Rattle.mo_parser_types.specs.Ends.{EndsPrefix, EndsType}

-- ---- every part is made of its parts

abbrev Of : {A X : Type 0} → (A → X) → X → Type 0
Of {A} f y = (z : A) × (y ≡ f z)

abbrev claims : Claims
claims = record {
  of_TypeExpression = λ x. Unit {0};
  of_TypeField = Of p.to_field;
  of_TypeItem = Of p.to_item;
  of_TypeMethod = Of p.to_method;
  of_TypeTag = Of p.to_tag;
}

cases : Cases claims
cases = record {
  Function = λ x0 x1 x2 h1 h2. tt;
  Optional = λ x0 h. tt;
  Async = λ x0 h. tt;
  Named = λ x0 x1 h. tt;
  Parenthesized = λ x0 h. tt;
  Array = λ x0 x1 h. tt;
  Object = λ x0 x1 x2 h. tt;
  EmptyVariant = tt;
  Variant = λ x0 x1 h. tt;
  Actor = λ x0 x1 h. tt;
  TypeField_ = λ x0 x1 x2 h. ((x0, (x1, x2)), refl);
  TypeItem_ = λ x0 x1 h. ((x0, x1), refl);
  TypeMethod_ = λ x0 x1 h. ((x0, x1), refl);
  TypeTag_ = λ x0 x1 h. ((x0, x1), refl);
}

pub field_of : (y : TypeField) → Of p.to_field y
field_of = holds_TypeField claims cases

pub item_of : (y : TypeItem) → Of p.to_item y
item_of = holds_TypeItem claims cases

pub method_of : (y : TypeMethod) → Of p.to_method y
method_of = holds_TypeMethod claims cases

pub tag_of : (y : TypeTag) → Of p.to_tag y
tag_of = holds_TypeTag claims cases

-- ---- their writing

pub field_text : (z : Bool × (Name × TypeExpression)) → type_field_tokens (p.to_field z) ≡ W.marked z.0 (t.Reserved w.Var) ++ (((t.Identifier z.1.0 ∷ []) ++ t.Mark m.Colon ∷ []) ++ type_tokens z.1.1)
field_text z = eq.tokens_TypeField z.0 z.1.0 z.1.1

item_text : (z : Option Name × TypeExpression) → type_item_tokens (p.to_item z) ≡ item_name z.0 ++ type_tokens z.1
item_text z = eq.tokens_TypeItem z.0 z.1

method_text : (z : Name × TypeExpression) → type_method_tokens (p.to_method z) ≡ ((t.Identifier z.0 ∷ []) ++ t.Mark m.Colon ∷ []) ++ type_tokens z.1
method_text z = eq.tokens_TypeMethod z.0 z.1

pub tag_text : (z : Name × Option TypeExpression) → type_tag_tokens (p.to_tag z) ≡ (t.Mark m.Tag ∷ t.Identifier z.0 ∷ []) ++ W.led (t.Mark m.Colon) (option_map type_tokens z.1)
tag_text z = eq.tokens_TypeTag z.0 z.1

-- a parser of inner types, to less than so many tokens
pub record Inner (b : ℕ) (P : ℕ → Parser TypeExpression) : Type 0 where
  pub whole : Exact b (P 0) type_tokens (λ x n. IsType x 0) EndsType
  pub prefix : Exact b (P 1) type_tokens (λ x n. IsType x 1) EndsPrefix
  pub no_paren : (j : Input) → P 0 (t.Mark m.ParenClose ∷ j) ≡ None
  pub no_angle : (j : Input) → P 0 (t.Mark m.AngleClose ∷ j) ≡ None
  pub no_var : (j : Input) → P 0 (t.Reserved w.Var ∷ j) ≡ None
  -- a name before a `:` is a whole type
  pub at_colon : (x : Name) (j : Input) (y : TypeExpression) (r : Input) → P 0 (t.Identifier x ∷ t.Mark m.Colon ∷ j) ≡ Some (y, r) → first r ≡ Some (t.Mark m.Colon)

module _ (b : ℕ) (P : ℕ → Parser TypeExpression) (h : Inner b P) where
  pub field_exact : Exact b (p.field P) type_field_tokens (λ x n. IsTypeField x) EndsType
  unfolding p.field
  field_exact = mapped (both (flag b (t.Reserved w.Var) tt) (both (ended_by (t.Mark m.Colon) tt (a_name b) tt) h.whole (λ y r short good stops. tt)) (λ y r short good stops e. cc))
      p.to_field type_field_tokens (λ x n. IsTypeField x) field_of field_text
      (λ z n good. fact_in (eq.rule_TypeField _) good.1.1)
      (λ z n good. (tt, (tt, fact_out (eq.rule_TypeField _) good)))

  pub method_exact : Exact b (p.method P) type_method_tokens (λ x n. IsTypeMethod x) EndsType
  unfolding p.method
  method_exact = mapped (both (ended_by (t.Mark m.Colon) tt (a_name b) tt) h.whole (λ y r short good stops. tt))
      p.to_method type_method_tokens (λ x n. IsTypeMethod x) method_of method_text
      (λ z n good. fact_in (eq.rule_TypeMethod _) good.1)
      (λ z n good. (tt, fact_out (eq.rule_TypeMethod _) good))

  pub tag_exact : Exact b (p.tag P) type_tag_tokens (λ x n. IsTypeTag x) (λ n. (n ≢ Some (t.Mark m.Colon)) × EndsType n)
  unfolding p.tag
  tag_exact = mapped (both (fewer (led_by (t.Mark m.Tag) tt (a_name b))) (fewer (behind_by (t.Mark m.Colon) tt h.whole)) (λ y r short good stops. tt))
      p.to_tag type_tag_tokens (λ x n. IsTypeTag x) tag_of tag_text
      (λ z n good. fact_in (eq.rule_TypeTag _) good.1)
      (λ z n good. (tt, fact_out (eq.rule_TypeTag _) good))

  -- an item's name is told from a type by the `:` behind it
  not_named : (x : TypeExpression) (r : Input) → length (type_tokens x) < b → IsType x 0 → EndsType (first r) → first r ≢ Some (t.Mark m.Colon) →
      (y : Name) (j : Input) → type_tokens x ++ r ≢ t.Identifier y ∷ t.Mark m.Colon ∷ j
  not_named x r short good stops differs y j is =
      differs (h.at_colon y j x r (ap (P 0) (sym is) ∙ h.whole.complete x r short good stops))

  item_done : (z : Option Name × TypeExpression) (r : Input) → length (item_name z.0 ++ type_tokens z.1) < b → IsType z.1 0 → EndsType (first r) → first r ≢ Some (t.Mark m.Colon) →
      (label & P 0) (item_name z.0 ++ (type_tokens z.1 ++ r)) ≡ Some (z, r)
  item_done (None, x) r short good stops differs =
      bind_takes (label (type_tokens x ++ r)) _ None (type_tokens x ++ r) (label_leaves (type_tokens x ++ r) (not_named x r short good stops differs))
      ∙ bind_takes (P 0 (type_tokens x ++ r)) _ x r (h.whole.complete x r short good stops)
  item_done (Some y, x) r short good stops differs =
      bind_takes (label (t.Identifier y ∷ t.Mark m.Colon ∷ (type_tokens x ++ r))) _ (Some y) (type_tokens x ++ r) (label_takes y (type_tokens x ++ r))
      ∙ bind_takes (P 0 (type_tokens x ++ r)) _ x r (h.whole.complete x r (shorter_right (t.Identifier y ∷ t.Mark m.Colon ∷ []) (type_tokens x) b short) good stops)

  item_parts : Exact b (label & P 0) (λ z. item_name z.0 ++ type_tokens z.1) (λ z n. IsType z.1 0) (λ n. EndsType n × (n ≢ Some (t.Mark m.Colon)))
  item_parts = record {
    sound = λ i z r h0. bind_ok (label i) _ (z, r) h0 (λ x j e h1. bind_ok (P 0 j) _ (z, r) h1 (λ y k e1 h2.
        let took = h.whole.sound j y k e1 in
        took_as (x, y) k z r (record { text = label_ok i x j e ∙ ap (λ u. item_name x ++ u) took.text ∙ sym (append_assoc (item_name x) (type_tokens y) k); good = took.good }) h2));
    complete = λ z r short good stops. ap (λ u. (label & P 0) u) (append_assoc (item_name z.0) (type_tokens z.1) r) ∙ item_done z r short good stops.0 stops.1;
  }

  pub item_exact : Exact b (p.item P) type_item_tokens (λ x n. IsTypeItem x) (λ n. EndsType n × (n ≢ Some (t.Mark m.Colon)))
  unfolding p.item
  item_exact = mapped item_parts p.to_item type_item_tokens (λ x n. IsTypeItem x) item_of item_text
      (λ z n good. fact_in (eq.rule_TypeItem _) good)
      (λ z n good. fact_out (eq.rule_TypeItem _) good)

  -- ---- lists of them

  pub types_exact : Exact b (commas (P 0) (t.Mark m.AngleClose)) (λ xs. W.commas (map type_tokens xs) ++ t.Mark m.AngleClose ∷ [])
      (λ xs n. Listed (λ x s. IsType x 0) comma (t.Mark m.AngleClose) xs) Any
  types_exact = fewer (commas_exact h.whole (t.Mark m.AngleClose) tt (λ e. cc) (λ e. cc, λ e. cc) (λ e. cc, λ e. cc) h.no_angle)

  no_item : (j : Input) → p.item P (t.Mark m.ParenClose ∷ j) ≡ None
  unfolding p.item label
  no_item j = ap (λ o. and_then (and_then o (λ y k. Some ((None, y), k))) (λ z. pure (p.to_item z))) (h.no_paren j)

  pub items_exact : Exact b (commas (p.item P) (t.Mark m.ParenClose)) (λ xs. W.commas (map type_item_tokens xs) ++ t.Mark m.ParenClose ∷ [])
      (λ xs n. Listed (λ x s. IsTypeItem x) comma (t.Mark m.ParenClose) xs) Any
  items_exact = fewer (commas_exact item_exact (t.Mark m.ParenClose) tt (λ e. cc) ((λ e. cc, λ e. cc), λ e. cc) ((λ e. cc, λ e. cc), λ e. cc) no_item)

  no_field : (j : Input) → p.field P (brace ∷ j) ≡ None
  unfolding p.field after identifier
  no_field j = refl

  pub fields_exact : Exact b (semicolons (p.field P)) (λ z. W.semicolons (map type_field_tokens z.0) z.1 ++ brace ∷ [])
      (λ z n. Listed (λ x s. IsTypeField x) semicolon (behind_last z.1) z.0 × MayEnd z.0 z.1) Any
  fields_exact = fewer (semicolons_exact field_exact (λ e. cc, λ e. cc) (λ e. cc, λ e. cc) no_field)

  no_method : (j : Input) → p.method P (brace ∷ j) ≡ None
  unfolding p.method identifier
  no_method j = refl

  pub methods_exact : Exact b (semicolons (p.method P)) (λ z. W.semicolons (map type_method_tokens z.0) z.1 ++ brace ∷ [])
      (λ z n. Listed (λ x s. IsTypeMethod x) semicolon (behind_last z.1) z.0 × MayEnd z.0 z.1) Any
  methods_exact = fewer (semicolons_exact method_exact (λ e. cc, λ e. cc) (λ e. cc, λ e. cc) no_method)

  no_tag : (j : Input) → p.tag P (brace ∷ j) ≡ None
  unfolding p.tag expect same_mark
  no_tag j = refl

  pub tags_exact : Exact b (some_semicolons (p.tag P)) (λ z. W.semicolons (map type_tag_tokens z.0) z.1 ++ brace ∷ [])
      (λ z n. (Listed (λ x s. IsTypeTag x) semicolon (behind_last z.1) z.0 × MayEnd z.0 z.1) × NotEmpty z.0) Any
  tags_exact = fewer (some_semicolons_exact tag_exact (λ e. cc, (λ e. cc, λ e. cc)) (λ e. cc, (λ e. cc, λ e. cc)) no_tag)
