-- Types are read exactly.
use Rattle.std.proofs.Common.{◌≡◌, ℕ, zero, suc, ◌+◌, ◌<◌, Bool, true, false, ◌∷◌, ◌++◌, length, option_map, Option, Some, None, Result, Ok, Err, refl, sym, ap, ◌∙◌, subst, arith, length-append}
use Rattle.std.specs.Prelude.{◌≢◌, IfOk}
use Rattle.std.proofs.lemmas.List.{append-nil}
use Rattle.mo_syntax.specs.declared.name.Name.{Name}
use Rattle.mo_syntax.specs.declared.token.TokenKind.{TokenKind}
use Rattle.mo_syntax.specs.declared.token.TokenKind.TheVariants as t
use Rattle.mo_syntax.specs.declared.word.Word.TheVariants as w
use Rattle.mo_syntax.specs.declared.mark.Mark.TheVariants as m
use Rattle.mo_syntax.specs.declared.types.Sharing.{Sharing}
use Rattle.mo_syntax.specs.declared.types.Sharing.TheVariants as sharing
use Rattle.mo_syntax.specs.declared.types.TypeExpression.{TypeExpression}
use Rattle.mo_syntax.specs.declared.types.TypeExpression.TheVariants as e
use Rattle.mo_syntax.specs.Writing as W
use Rattle.mo_syntax.specs.Parts.{Within}
use Rattle.mo_syntax.specs.TypeGrammar.{type_tokens, IsType}
use Rattle.mo_syntax.specs.ExpressionGrammar.{first}
use Rattle.mo_syntax.proofs.TypeEquations as eq
use Rattle.mo_syntax.proofs.TypeInduction.{Claims, Cases, holds_TypeExpression}
use Rattle.mo_parser_base.specs.declared.stop.Stop.{Stop}
use Rattle.mo_parser_base.specs.declared.stop.Stop.TheVariants as stops
use Rattle.mo_parser_base.specs.Input.{Input, Parser, and_then, pure, ◌>>=◌, ◌&◌, ◌▸◌, after, same_mark, same_word, eat, behind, identifier, Reads}
use Rattle.mo_parser_base.proofs.Steps.{eat_ok, eat_takes, eat_leaves, some_is}
use Rattle.mo_parser_base.proofs.Exact.{Next, Took, Exact, both, led_by, flag, behind_by, fewer, made, ahead, ahead_not, not_first}
use Rattle.mo_parser_base.proofs.Made.{made_behind, makes_behind, makes_as, rule_in, rule_out}
use Rattle.mo_parser_types.specs.Types as p
use Rattle.mo_parser_types.specs.Ends.{EndsPrefix, EndsType, IsFront, Finds}
use Rattle.mo_parser_types.proofs.Parts.{Inner}
use Rattle.mo_parser_types.proofs.Layer.{layer_exact}

-- ---- a type of the tighter level is one of the looser, and the other way round but for functions

abbrev nothing : (TypeExpression → Type 0) → Claims
nothing C = record {
  of_TypeExpression = C;
  of_TypeField = λ x. Unit {0};
  of_TypeItem = λ x. Unit {0};
  of_TypeMethod = λ x. Unit {0};
  of_TypeTag = λ x. Unit {0};
}

abbrev Looser : TypeExpression → Type 0
Looser x = IsType x 1 → IsType x 0

looser_cases : Cases (nothing Looser)
looser_cases = record {
  Function = λ s a c h1 h2 good. absurd (let u = rule_out (eq.rule_Function s a c) 1 good in omega (arith, u.0));
  Optional = λ a h good. rule_in (eq.rule_Optional a) 0 (omega arith, (rule_out (eq.rule_Optional a) 1 good).1);
  Async = λ a h good. rule_in (eq.rule_Async a) 0 (omega arith, (rule_out (eq.rule_Async a) 1 good).1);
  Named = λ x o h good. rule_in (eq.rule_Named x o) 0 (rule_out (eq.rule_Named x o) 1 good);
  Parenthesized = λ x h good. rule_in (eq.rule_Parenthesized x) 0 (rule_out (eq.rule_Parenthesized x) 1 good);
  Array = λ x y h good. rule_in (eq.rule_Array x y) 0 (rule_out (eq.rule_Array x y) 1 good);
  Object = λ x y z h good. rule_in (eq.rule_Object x y z) 0 (rule_out (eq.rule_Object x y z) 1 good);
  EmptyVariant = λ good. rule_in eq.rule_EmptyVariant 0 tt;
  Variant = λ x y h good. rule_in (eq.rule_Variant x y) 0 (rule_out (eq.rule_Variant x y) 1 good);
  Actor = λ x y h good. rule_in (eq.rule_Actor x y) 0 (rule_out (eq.rule_Actor x y) 1 good);
  TypeField_ = λ x0 x1 x2 h1. tt;
  TypeItem_ = λ x0 x1 h1. tt;
  TypeMethod_ = λ x0 x1 h1. tt;
  TypeTag_ = λ x0 x1 h1. tt;
}

pub looser : (x : TypeExpression) → Looser x
looser = holds_TypeExpression (nothing Looser) looser_cases

joined_text : (z : TypeExpression × Option TypeExpression) → type_tokens (p.joined z.0 z.1) ≡ type_tokens z.0 ++ W.led (t.Mark m.Arrow) (option_map type_tokens z.1)
joined_text (a, None) = sym (append-nil (type_tokens a))
joined_text (a, Some c) = eq.tokens_Function sharing.Local a c

joined_good : (z : TypeExpression × Option TypeExpression) → IsType z.0 1 × Within (λ y. IsType y 0) z.1 → IsType (p.joined z.0 z.1) 0
joined_good (a, None) good = looser a good.0
joined_good (a, Some c) good = rule_in (eq.rule_Function sharing.Local a c) 0 (refl, good.0, good.1)

shared_text : (z : Bool × (TypeExpression × TypeExpression)) → type_tokens (p.to_shared z) ≡ t.Reserved w.Shared ∷ (W.marked z.0 (t.Reserved w.Query) ++ (type_tokens z.1.0 ++ t.Mark m.Arrow ∷ type_tokens z.1.1))
shared_text (true, (a, c)) = eq.tokens_Function sharing.SharedQuery a c
shared_text (false, (a, c)) = eq.tokens_Function sharing.Shared a c

module _ (b : ℕ) (P : ℕ → Parser TypeExpression) (h : Inner b P) where
  not_angle : (y : Option TypeExpression) (r : Input) → length (W.led (t.Mark m.Arrow) (option_map type_tokens y)) < suc b → Within (λ x. IsType x 0) y →
      (first r ≢ Some (t.Mark m.Arrow)) × EndsType (first r) → EndsPrefix (ahead (W.led (t.Mark m.Arrow) (option_map type_tokens y)) (first r))
  not_angle None r short good stops = stops.1.0
  not_angle (Some y) r short good stops = λ e. cc

  local_parts : Exact (suc b) (p.layer P & behind (t.Mark m.Arrow) (P 0)) (λ z. type_tokens z.0 ++ W.led (t.Mark m.Arrow) (option_map type_tokens z.1))
      (λ z n. IsType z.0 1 × Within (λ y. IsType y 0) z.1) (λ n. (n ≢ Some (t.Mark m.Arrow)) × EndsType n)
  local_parts = both (layer_exact b P h) (behind_by (t.Mark m.Arrow) tt h.whole) not_angle

  no_query : (j : Input) → p.layer P (t.Reserved w.Query ∷ j) ≡ None
  unfolding p.layer
  no_query j = refl

  no_shared : (j : Input) → p.layer P (t.Reserved w.Shared ∷ j) ≡ None
  unfolding p.layer
  no_shared j = refl

  function_parts : Exact b (p.layer P & (t.Mark m.Arrow ▸ P 0)) (λ z. type_tokens z.0 ++ t.Mark m.Arrow ∷ type_tokens z.1) (λ z n. IsType z.0 1 × IsType z.1 0) EndsType
  function_parts = both (fewer (layer_exact b P h)) (fewer (led_by (t.Mark m.Arrow) tt h.whole)) (λ y r short good stops e. cc)

  not_query : (z : TypeExpression × TypeExpression) (r : Input) → length (type_tokens z.0 ++ t.Mark m.Arrow ∷ type_tokens z.1) < b → IsType z.0 1 × IsType z.1 0 → EndsType (first r) →
      ahead (type_tokens z.0 ++ t.Mark m.Arrow ∷ type_tokens z.1) (first r) ≢ Some (t.Reserved w.Query)
  not_query z r short good stops = ahead_not (type_tokens z.0 ++ t.Mark m.Arrow ∷ type_tokens z.1) r (t.Reserved w.Query)
      (not_first (p.layer P & (t.Mark m.Arrow ▸ P 0)) (t.Reserved w.Query) z ((type_tokens z.0 ++ t.Mark m.Arrow ∷ type_tokens z.1) ++ r) r
      (λ j. ap (λ o. and_then o (λ x. (t.Mark m.Arrow ▸ P 0) >>= (λ y. pure (x, y)))) (no_query j)) (function_parts.complete z r short good stops))

  shared_parts : Exact b (eat (t.Reserved w.Query) & (p.layer P & (t.Mark m.Arrow ▸ P 0))) (λ z. W.marked z.0 (t.Reserved w.Query) ++ (type_tokens z.1.0 ++ t.Mark m.Arrow ∷ type_tokens z.1.1))
      (λ z n. Unit {0} × (IsType z.1.0 1 × IsType z.1.1 0)) EndsType
  shared_parts = both (flag b (t.Reserved w.Query) tt) function_parts not_query

  abbrev to_joined : TypeExpression × Option TypeExpression → TypeExpression
  to_joined z = p.joined z.0 z.1

  whole_ok : (i : Input) (y : TypeExpression) (r : Input) → p.whole P i ≡ Some (y, r) → Took type_tokens (λ x n. IsType x 0) y i r
  unfolding p.whole p.shared p.local
  whole_ok i y r h0 = eat_ok (t.Reserved w.Shared) tt i _ _ (y, r) h0
      (λ j is h1. made_behind (t.Reserved w.Shared) shared_parts p.to_shared type_tokens (λ x n. IsType x 0) shared_text
      (λ z n good. rule_in (eq.rule_Function (p.sharing_of z.0) z.1.0 z.1.1) 0 (refl, good.1.0, good.1.1)) i j is y r h1)
      (λ _ h1. made local_parts to_joined type_tokens (λ x n. IsType x 0) joined_text (λ z n good. joined_good z good) i y r h1)

  abbrev Read : TypeExpression → Type 0
  Read x = (r : Input) → length (type_tokens x) < suc b → IsType x 0 → EndsType (first r) → p.whole P (type_tokens x ++ r) ≡ Some (x, r)

  not_shared : (z : TypeExpression × Option TypeExpression) (r : Input) → length (type_tokens (to_joined z)) < suc b → IsType z.0 1 × Within (λ y. IsType y 0) z.1 → EndsType (first r) →
      first (type_tokens (to_joined z) ++ r) ≢ Some (t.Reserved w.Shared)
  not_shared z r short good stops =
      not_first (p.layer P & behind (t.Mark m.Arrow) (P 0)) (t.Reserved w.Shared) z (type_tokens (to_joined z) ++ r) r
      (λ j. ap (λ o. and_then o (λ x. behind (t.Mark m.Arrow) (P 0) >>= (λ y. pure (x, y)))) (no_shared j))
      (ap (λ u. (p.layer P & behind (t.Mark m.Arrow) (P 0)) (u ++ r)) (joined_text z)
      ∙ local_parts.complete z r (subst (λ u. length u < suc b) (joined_text z) short) good (stops.1, stops))

  -- a type, and maybe its result, behind no `shared`
  read_local : (z : TypeExpression × Option TypeExpression) (r : Input) → length (type_tokens (to_joined z)) < suc b → IsType z.0 1 × Within (λ y. IsType y 0) z.1 → EndsType (first r) →
      p.whole P (type_tokens (to_joined z) ++ r) ≡ Some (to_joined z, r)
  unfolding p.whole p.local
  read_local z r short good stops =
      let done = makes_as local_parts to_joined type_tokens z (joined_text z) (p.local P) r refl short good (stops.1, stops) in
      eat_leaves (t.Reserved w.Shared) (type_tokens (to_joined z) ++ r) _ _ (not_shared z r short good stops) ∙ done

  read_plain : (x : TypeExpression) → (IsType x 0 → IsType x 1) → Read x
  read_plain x tighter r short good stops = read_local (x, None) r short (tighter good, tt) stops

  read_function : (s : Sharing) (a c : TypeExpression) → Read (e.Function s a c)
  unfolding p.whole p.shared
  read_function sharing.Local a c r short good stops = let u = rule_out (eq.rule_Function sharing.Local a c) 0 good in read_local (a, Some c) r short (u.1, u.2) stops
  read_function sharing.Shared a c r short good stops = let u = rule_out (eq.rule_Function sharing.Shared a c) 0 good in
      makes_behind (t.Reserved w.Shared) shared_parts p.to_shared type_tokens (false, (a, c)) (shared_text (false, (a, c))) (p.whole P) r
      (eat_takes (t.Reserved w.Shared) tt ((type_tokens a ++ t.Mark m.Arrow ∷ type_tokens c) ++ r) _ _) short (tt, (u.1, u.2)) stops
  read_function sharing.SharedQuery a c r short good stops = let u = rule_out (eq.rule_Function sharing.SharedQuery a c) 0 good in
      makes_behind (t.Reserved w.Shared) shared_parts p.to_shared type_tokens (true, (a, c)) (shared_text (true, (a, c))) (p.whole P) r
      (eat_takes (t.Reserved w.Shared) tt ((t.Reserved w.Query ∷ (type_tokens a ++ t.Mark m.Arrow ∷ type_tokens c)) ++ r) _ _) short (tt, (u.1, u.2)) stops

  read_cases : Cases (nothing Read)
  read_cases = record {
    Function = λ s a c h1 h2. read_function s a c;
    Optional = λ a h1. read_plain (e.Optional a) (λ good. rule_in (eq.rule_Optional a) 1 (omega arith, (rule_out (eq.rule_Optional a) 0 good).1));
    Async = λ a h1. read_plain (e.Async a) (λ good. rule_in (eq.rule_Async a) 1 (omega arith, (rule_out (eq.rule_Async a) 0 good).1));
    Named = λ x o h1. read_plain (e.Named x o) (λ good. rule_in (eq.rule_Named x o) 1 (rule_out (eq.rule_Named x o) 0 good));
    Parenthesized = λ x h1. read_plain (e.Parenthesized x) (λ good. rule_in (eq.rule_Parenthesized x) 1 (rule_out (eq.rule_Parenthesized x) 0 good));
    Array = λ x y h1. read_plain (e.Array x y) (λ good. rule_in (eq.rule_Array x y) 1 (rule_out (eq.rule_Array x y) 0 good));
    Object = λ x y z h1. read_plain (e.Object x y z) (λ good. rule_in (eq.rule_Object x y z) 1 (rule_out (eq.rule_Object x y z) 0 good));
    EmptyVariant = read_plain e.EmptyVariant (λ good. rule_in eq.rule_EmptyVariant 1 tt);
    Variant = λ x y h1. read_plain (e.Variant x y) (λ good. rule_in (eq.rule_Variant x y) 1 (rule_out (eq.rule_Variant x y) 0 good));
    Actor = λ x y h1. read_plain (e.Actor x y) (λ good. rule_in (eq.rule_Actor x y) 1 (rule_out (eq.rule_Actor x y) 0 good));
    TypeField_ = λ x0 x1 x2 h1. tt;
    TypeItem_ = λ x0 x1 h1. tt;
    TypeMethod_ = λ x0 x1 h1. tt;
    TypeTag_ = λ x0 x1 h1. tt;
  }

  pub whole_exact : Exact (suc b) (p.whole P) type_tokens (λ x n. IsType x 0) EndsType
  whole_exact = record { sound = whole_ok; complete = holds_TypeExpression (nothing Read) read_cases }

-- ---- to every depth

refused : {A : Type 0} {w : A → Input} {V : A → Next → Type 0} {S : Next → Type 0} → Exact 0 (λ i. None) w V S
refused = record { sound = λ i x r h. absurd (cc); complete = λ x r short good stops. absurd (omega arith) }

pub no_paren_at : (d : ℕ) (j : Input) → p.type_at d 0 (t.Mark m.ParenClose ∷ j) ≡ None
unfolding p.type_at p.level p.whole p.local p.layer after
no_paren_at zero j = refl
no_paren_at (suc d) j = refl

pub no_angle_at : (d : ℕ) (j : Input) → p.type_at d 0 (t.Mark m.AngleClose ∷ j) ≡ None
unfolding p.type_at p.level p.whole p.local p.layer after
no_angle_at zero j = refl
no_angle_at (suc d) j = refl

pub no_var_at : (d : ℕ) (j : Input) → p.type_at d 0 (t.Reserved w.Var ∷ j) ≡ None
unfolding p.type_at p.level p.whole p.local p.layer after same_word
no_var_at zero j = refl
no_var_at (suc d) j = refl

at_colon_at : (d : ℕ) (x : Name) (j : Input) (y : TypeExpression) (r : Input) → p.type_at d 0 (t.Identifier x ∷ t.Mark m.Colon ∷ j) ≡ Some (y, r) → first r ≡ Some (t.Mark m.Colon)
unfolding p.type_at p.level p.whole p.local p.layer p.named p.arguments after same_mark identifier
at_colon_at zero x j y r h = absurd (cc)
at_colon_at (suc d) x j y r h = sym (ap (λ z. first z.1) (some_is (e.Named x None, t.Mark m.Colon ∷ j) (y, r) h))

pub inner_at : (d : ℕ) → Inner d (p.type_at d)
unfolding p.type_at p.level
inner_at zero = record { whole = refused; prefix = refused; no_paren = no_paren_at 0; no_angle = no_angle_at 0; no_var = no_var_at 0; at_colon = at_colon_at 0 }
inner_at (suc d) = record {
  whole = whole_exact d (p.type_at d) (inner_at d);
  prefix = layer_exact d (p.type_at d) (inner_at d);
  no_paren = no_paren_at (suc d);
  no_angle = no_angle_at (suc d);
  no_var = no_var_at (suc d);
  at_colon = at_colon_at (suc d);
}

-- all types
pub a_type_exact : (b : ℕ) → Exact b p.a_type type_tokens (λ x n. IsType x 0) EndsType
unfolding p.a_type
a_type_exact b = record {
  sound = λ i x r h. (inner_at (length i + 1)).whole.sound i x r h;
  complete = λ x r short good stops. let i : Input = type_tokens x ++ r in
      (inner_at (length i + 1)).whole.complete x r (omega (arith, length-append (type_tokens x) r)) good stops;
}

pub annotation_exact : (b : ℕ) → Exact b p.annotation (λ x. W.annotation (option_map type_tokens x)) (λ x n. Within (λ y. IsType y 0) x) (λ n. (n ≢ Some (t.Mark m.Colon)) × EndsType n)
unfolding p.annotation
annotation_exact b = fewer (behind_by (t.Mark m.Colon) tt (a_type_exact b))

-- what `:` begins no type
pub no_type : (s : TokenKind) → ((d : ℕ) (j : Input) → p.type_at d 0 (s ∷ j) ≡ None) → (j : Input) → p.a_type (s ∷ j) ≡ None
unfolding p.a_type
no_type s none j = none (length (s ∷ j) + 1) j

-- ---- what the function that reads a type owes

pub found : (i : Input) (r : Result TypeExpression Stop) (new : Input) → Reads (p.a_type i) r new → IfOk r (λ x. IsFront x i new)
found i (Ok x) new h = let took = (a_type_exact 0).sound i x new h in record { text = took.text; good = took.good }
found i (Err s) new h = tt

pub only : (i : Input) (r : Result TypeExpression Stop) (new : Input) → Reads (p.a_type i) r new →
    (x : TypeExpression) (rest : Input) → IsFront x i rest → EndsType (first rest) → Finds x rest r new
only i (Ok y) new h x rest front ends =
    let done = ap p.a_type front.text ∙ (a_type_exact (suc (length (type_tokens x)))).complete x rest (omega arith) front.good ends in
    let same = some_is (y, new) (x, rest) (sym h ∙ done) in (ap (λ z. z.0) same, ap (λ z. z.1) same)
only i (Err stops.Memory) new h x rest front ends = refl
only i (Err stops.Refused) new h x rest front ends =
    let done = ap p.a_type front.text ∙ (a_type_exact (suc (length (type_tokens x)))).complete x rest (omega arith) front.good ends in
    let none = h (λ e. cc) in absurd (cc)
