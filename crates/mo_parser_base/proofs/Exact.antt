-- Parsers that are exact: what is read is written so and meets the grammar, and what is written so is read.
use Rattle.std.proofs.Common.{◌≡◌, ℕ, zero, suc, ◌+◌, ◌≤◌, ◌<◌, Bool, true, false, List, [], ◌∷◌, ◌++◌, length, map, option_map, Option, Some, None, refl, sym, ap, ◌∙◌, subst, arith, append_assoc, length-append}
use Rattle.std.specs.Prelude.{if◌then◌else◌, ◌≢◌}
use Rattle.std.specs.List.{flat_map}
use Rattle.std.proofs.lemmas.List.{append-nil}
use Rattle.mo_syntax.specs.declared.token.TokenKind.{TokenKind}
use Rattle.mo_syntax.specs.declared.token.TokenKind.TheVariants as t
use Rattle.mo_syntax.specs.Writing as W
use Rattle.mo_syntax.specs.Parts.{Within, Listed, MayEnd, NotEmpty}
use Rattle.mo_syntax.specs.Writing.{literal_token}
use Rattle.mo_syntax.specs.ExpressionGrammar.{first, behind_last}
use Rattle.mo_parser_base.specs.Input.{Input, Parser, pure, ◌<$>◌, ◌&◌, ◌▸◌, ◌◂◌, behind, eat, sees, next, after, identifier, number, text, literal, comma, semicolon, brace, commas, commas_from, semicolons, semicolons_from, some_semicolons}
use Rattle.mo_parser_base.proofs.Steps.{IsSign, bind_ok, bind_takes, eat_ok, eat_takes, eat_leaves, expect_ok, expect_takes, identifier_ok, number_ok, text_ok, literal_ok, literal_takes, some_is, sees_true, sees_it, sees_other}

abbrev pub Next : Type 0
Next = Option TokenKind

abbrev pub Always : {A : Type 0} → A → Next → Type 0
Always x n = Unit {0}

abbrev pub Any : Next → Type 0
Any n = Unit {0}

-- the value is the front of the tokens
pub record Took {A : Type 0} (w : A → Input) (V : A → Next → Type 0) (x : A) (i r : Input) : Type 0 where
  pub text : i ≡ w x ++ r
  pub good : V x (first r)

-- `w` is the writing of a value, `V` what the grammar says of it before a token, and `S` holds of the tokens that go on with no value.
pub record Exact {A : Type 0} (bound : ℕ) (p : Parser A) (w : A → Input) (V : A → Next → Type 0) (S : Next → Type 0) : Type 0 where
  pub sound : (i : Input) (x : A) (r : Input) → p i ≡ Some (x, r) → Took w V x i r
  pub complete : (x : A) (r : Input) → length (w x) < bound → V x (first r) → S (first r) → p (w x ++ r) ≡ Some (x, r)

-- the first token, or the one behind
abbrev pub ahead : Input → Next → Next
ahead [] n = n
ahead (x ∷ i) n = Some x

pub first_ahead : (i r : Input) → first (i ++ r) ≡ ahead i (first r)
first_ahead [] r = refl
first_ahead (x ∷ i) r = refl

pub ahead_not : (i r : Input) (s : TokenKind) → first (i ++ r) ≢ Some s → ahead i (first r) ≢ Some s
ahead_not i r s differs = subst (λ n. n ≢ Some s) (first_ahead i r) differs

-- the parts of a list in braces one by one
pub assoc_four : (a c d e r : Input) → (((a ++ c) ++ d) ++ e) ++ r ≡ a ++ (c ++ (d ++ (e ++ r)))
assoc_four a c d e r = append_assoc ((a ++ c) ++ d) e r ∙ append_assoc (a ++ c) d (e ++ r) ∙ append_assoc a c (d ++ (e ++ r))

pub shorter_left : (a c : Input) (b : ℕ) → length (a ++ c) < b → length a < b
shorter_left a c b h = omega (arith, length-append a c)

pub shorter_right : (a c : Input) (b : ℕ) → length (a ++ c) < b → length c < b
shorter_right a c b h = omega (arith, length-append a c)

pub took_as : {A : Type 0} {w : A → Input} {V : A → Next → Type 0} {i : Input} (x : A) (j : Input) (y : A) (r : Input) → Took w V x i j → pure x j ≡ Some (y, r) → Took w V y i r
took_as {w = w} {V = V} {i = i} x j y r h e = subst (λ z. Took w V z.0 i z.1) (some_is (x, j) (y, r) e) h

-- what is made of what is read
pub made : {A X : Type 0} {b : ℕ} {p : Parser A} {w : A → Input} {V : A → Next → Type 0} {S : Next → Type 0} → Exact b p w V S → (f : A → X) (v : X → Input) (U : X → Next → Type 0) →
    ((x : A) → v (f x) ≡ w x) → ((x : A) (n : Next) → V x n → U (f x) n) → (i : Input) (y : X) (r : Input) → (f <$> p) i ≡ Some (y, r) → Took v U y i r
made {p = p} {w = w} exact f v U same holds i y r h = bind_ok (p i) _ (y, r) h (λ x j e h1.
    let took = exact.sound i x j e in
    took_as (f x) j y r (record { text = took.text ∙ ap (λ z. z ++ j) (sym (same x)); good = holds x (first j) took.good }) h1)

pub makes : {A X : Type 0} {b : ℕ} {p : Parser A} {w : A → Input} {V : A → Next → Type 0} {S : Next → Type 0} → Exact b p w V S → (f : A → X) (v : X → Input) →
    (x : A) → v (f x) ≡ w x → (r : Input) → length (v (f x)) < b → V x (first r) → S (first r) → (f <$> p) (v (f x) ++ r) ≡ Some (f x, r)
makes {b = b} {p = p} {w = w} exact f v x same r short good stops =
    ap (λ z. (f <$> p) (z ++ r)) same
    ∙ bind_takes (p (w x ++ r)) _ x r (exact.complete x r (subst (λ z. length z < b) same short) good stops)

pub fewer : {A : Type 0} {b : ℕ} {p : Parser A} {w : A → Input} {V : A → Next → Type 0} {S : Next → Type 0} → Exact (suc b) p w V S → Exact b p w V S
fewer exact = record { sound = exact.sound; complete = λ x r short good stops. exact.complete x r (omega arith) good stops }

-- one after the other
pub both : {A B : Type 0} {b : ℕ} {p : Parser A} {q : Parser B} {w : A → Input} {v : B → Input} {V : A → Next → Type 0} {U : B → Next → Type 0} {S T : Next → Type 0} →
    Exact b p w V S → Exact b q v U T → ((y : B) (r : Input) → length (v y) < b → U y (first r) → T (first r) → S (ahead (v y) (first r))) →
    Exact b (p & q) (λ z. w z.0 ++ v z.1) (λ z n. V z.0 (ahead (v z.1) n) × U z.1 n) T
both {b = b} {p = p} {q = q} {w = w} {v = v} {V = V} {U = U} {S = S} {T = T} ep eq link = record {
  sound = λ i z r h. bind_ok (p i) _ (z, r) h (λ x j e h1. bind_ok (q j) _ (z, r) h1 (λ y k e1 h2.
      let one = ep.sound i x j e in
      let two = eq.sound j y k e1 in
      took_as (x, y) k z r (record {
        text = one.text ∙ ap (λ u. w x ++ u) two.text ∙ sym (append_assoc (w x) (v y) k);
        good = (subst (λ n. V x n) (ap first two.text ∙ first_ahead (v y) k) one.good, two.good);
      }) h2));
  complete = λ z r short good stops.
      let i : Input = v z.1 ++ r in
      ap (λ u. (p & q) u) (append_assoc (w z.0) (v z.1) r)
      ∙ bind_takes (p (w z.0 ++ i)) _ z.0 i
      (ep.complete z.0 i (shorter_left (w z.0) (v z.1) b short)
      (subst (λ n. V z.0 n) (sym (first_ahead (v z.1) r)) good.0)
      (subst S (sym (first_ahead (v z.1) r)) (link z.1 r (shorter_right (w z.0) (v z.1) b short) good.1 stops)))
      ∙ bind_takes (q i) _ z.1 r (eq.complete z.1 r (shorter_right (w z.0) (v z.1) b short) good.1 stops);
}

-- behind a word or mark
pub led_by : {A : Type 0} {b : ℕ} {p : Parser A} {w : A → Input} {V : A → Next → Type 0} {S : Next → Type 0} (s : TokenKind) → IsSign s → Exact b p w V S →
    Exact (suc b) (s ▸ p) (λ x. s ∷ w x) V S
led_by {b = b} {p = p} {w = w} s sign exact = record {
  sound = λ i x r h. expect_ok s i _ (x, r) h (λ j is h1. let took = exact.sound j x r h1 in record { text = is ∙ ap (λ z. s ∷ z) took.text; good = took.good });
  complete = λ x r short good stops. expect_takes s sign (w x ++ r) (λ _. p) ∙ exact.complete x r (omega arith) good stops;
}

-- before a word or mark
pub ended_by : {A : Type 0} {b : ℕ} {p : Parser A} {w : A → Input} {V : A → Next → Type 0} {S : Next → Type 0} (s : TokenKind) → IsSign s → Exact b p w V S → S (Some s) →
    Exact b (p ◂ s) (λ x. w x ++ s ∷ []) (λ x n. V x (Some s)) Any
ended_by {b = b} {p = p} {w = w} {V = V} s sign exact stop = record {
  sound = λ i y r h. bind_ok (p i) _ (y, r) h (λ x j e h1. expect_ok s j _ (y, r) h1 (λ k is h2.
      let took = exact.sound i x j e in
      took_as x k y r (record {
        text = took.text ∙ ap (λ z. w x ++ z) is ∙ sym (append_assoc (w x) (s ∷ []) k);
        good = subst (λ z. V x (first z)) is took.good;
      }) h2));
  complete = λ x r short good stops.
      ap (λ z. (p ◂ s) z) (append_assoc (w x) (s ∷ []) r)
      ∙ bind_takes (p (w x ++ s ∷ r)) _ x (s ∷ r) (exact.complete x (s ∷ r) (shorter_left (w x) (s ∷ []) b short) good stop)
      ∙ expect_takes s sign r _;
}

-- a word or mark that may stand
flag_at : (s : TokenKind) (i : Input) (x : Bool) → sees s i ≡ x → Took (λ y. W.marked y s) Always x i (if x then next i else i)
flag_at s i true is = record { text = sees_true s i is; good = tt }
flag_at s i false is = record { text = refl; good = tt }

flag_ok : (s : TokenKind) (i : Input) (x : Bool) (r : Input) → eat s i ≡ Some (x, r) → Took (λ y. W.marked y s) Always x i r
unfolding after
flag_ok s i x r h = took_as (sees s i) (after s i) x r (flag_at s i (sees s i) refl) h

flag_done : (s : TokenKind) → IsSign s → (x : Bool) (r : Input) → first r ≢ Some s → eat s (W.marked x s ++ r) ≡ Some (x, r)
unfolding after
flag_done s sign true r stops = ap (λ z. Some (z, if z then r else s ∷ r)) (sees_it s sign r)
flag_done s sign false r stops = ap (λ z. Some (z, if z then next r else r)) (sees_other s r stops)

pub flag : (b : ℕ) (s : TokenKind) → IsSign s → Exact b (eat s) (λ x. W.marked x s) Always (λ n. n ≢ Some s)
flag b s sign = record { sound = λ i x r h. flag_ok s i x r h; complete = λ x r short good stops. flag_done s sign x r stops }

-- what may follow a word or mark that may stand
behind_done : {A : Type 0} {b : ℕ} {p : Parser A} {w : A → Input} {V : A → Next → Type 0} {S : Next → Type 0} (s : TokenKind) → IsSign s → Exact b p w V S →
    (x : Option A) (r : Input) → length (W.led s (option_map w x)) < suc b → Within (λ y. V y (first r)) x → first r ≢ Some s → S (first r) →
    behind s p (W.led s (option_map w x) ++ r) ≡ Some (x, r)
behind_done {p = p} s sign exact None r short good differs stops = eat_leaves s r _ _ differs
behind_done {p = p} {w = w} s sign exact (Some x) r short good differs stops =
    eat_takes s sign (w x ++ r) _ _ ∙ bind_takes (p (w x ++ r)) _ x r (exact.complete x r (omega arith) good stops)

pub behind_by : {A : Type 0} {b : ℕ} {p : Parser A} {w : A → Input} {V : A → Next → Type 0} {S : Next → Type 0} (s : TokenKind) → IsSign s → Exact b p w V S →
    Exact (suc b) (behind s p) (λ x. W.led s (option_map w x)) (λ x n. Within (λ y. V y n) x) (λ n. (n ≢ Some s) × S n)
behind_by {p = p} {w = w} {V = V} s sign exact = record {
  sound = λ i y r h. eat_ok s sign i _ _ (y, r) h
      (λ j is h1. bind_ok (p j) _ (y, r) h1 (λ x k e h2.
      let took = exact.sound j x k e in
      took_as (Some x) k y r (record { text = is ∙ ap (λ z. s ∷ z) took.text; good = took.good }) h2))
      (λ _ h1. took_as None i y r (record { text = refl; good = tt }) h1);
  complete = λ x r short good stops. behind_done s sign exact x r short good stops.0 stops.1;
}

-- ---- single tokens with a value

pub a_name : (b : ℕ) → Exact b identifier (λ x. t.Identifier x ∷ []) Always Any
unfolding identifier
a_name b = record { sound = λ i x r h. record { text = identifier_ok i x r h; good = tt }; complete = λ x r short good stops. refl }

pub a_number : (b : ℕ) → Exact b number (λ x. t.Number x ∷ []) Always Any
unfolding number
a_number b = record { sound = λ i x r h. record { text = number_ok i x r h; good = tt }; complete = λ x r short good stops. refl }

pub a_text : (b : ℕ) → Exact b text (λ x. t.Text x ∷ []) Always Any
unfolding text
a_text b = record { sound = λ i x r h. record { text = text_ok i x r h; good = tt }; complete = λ x r short good stops. refl }

pub a_literal : (b : ℕ) → Exact b literal (λ x. literal_token x ∷ []) Always Any
a_literal b = record { sound = λ i x r h. record { text = literal_ok i x r h; good = tt }; complete = λ x r short good stops. literal_takes x r }

-- ---- lists

-- an item and a separator before a list
one_more_item : (s : TokenKind) (x i r : Input) (y : Input) (ys : List Input) → i ≡ W.separated s (y ∷ ys) ++ r → x ++ s ∷ i ≡ W.separated s (x ∷ y ∷ ys) ++ r
one_more_item s x i r y ys h = ap (λ z. x ++ s ∷ z) h ∙ sym (append_assoc x _ r)

regrouped : {A : Type 0} (found xs : List A) (x : A) (ys : List A) → ys ≡ (found ++ x ∷ []) ++ xs → ys ≡ found ++ x ∷ xs
regrouped found xs x ys h = h ∙ append_assoc found (x ∷ []) xs

-- there are at least as many tokens as separators
many : {A : Type 0} (s : TokenKind) (w : A → Input) (xs : List A) → length xs ≤ length (flat_map (λ y. s ∷ y) (map w xs))
many s w [] = omega arith
many s w (x ∷ xs) = omega (arith, many s w xs, length-append (s ∷ w x) (flat_map (λ y. s ∷ y) (map w xs)))

pub first_is : (i : Input) (s : TokenKind) → first i ≡ Some s → i ≡ s ∷ next i
first_is [] s e = absurd (cc)
first_is (x ∷ i) s e = ap (λ z. z ∷ i) (some_is x s e)

-- what is read doesn't begin with a token that the parser refuses
pub not_first : {A : Type 0} (p : Parser A) (s : TokenKind) (x : A) (i r : Input) → ((j : Input) → p (s ∷ j) ≡ None) → p i ≡ Some (x, r) → first i ≢ Some s
not_first p s x i r refuses reads e = let never : p i ≡ None = ap p (first_is i s e) ∙ refuses (next i) in absurd (cc)

module _ {A : Type 0} {b : ℕ} {p : Parser A} {w : A → Input} {V : A → Next → Type 0} {S : Next → Type 0} (exact : Exact b p w V S) where
  abbrev At : A → TokenKind → Type 0
  At x s = V x (Some s)

  -- what is read of a list with commas, from the next item on
  record TookCommas (close : TokenKind) (xs : List A) (i r : Input) : Type 0 where
    text : i ≡ W.separated comma (map w xs) ++ close ∷ r
    good : Listed At comma close xs

  commas_from_ok : (close : TokenKind) (n : ℕ) (found : List A) (i : Input) (ys : List A) (r : Input) → commas_from p close n found i ≡ Some (ys, r) →
      (x : A) × (xs : List A) × (ys ≡ found ++ x ∷ xs) × TookCommas close (x ∷ xs) i r
  unfolding commas_from
  commas_from_ok close zero found i ys r h = absurd (cc)
  commas_from_ok close (suc n) found i ys r h = bind_ok (p i) _ (ys, r) h (λ x j e h1.
      let took = exact.sound i x j e in
      eat_ok comma tt j _ _ (ys, r) h1
      (λ k is h2. let more = commas_from_ok close n (found ++ x ∷ []) k ys r h2 in (
        x,
        more.0 ∷ more.1,
        regrouped found (more.0 ∷ more.1) x ys more.2,
        record {
          text = took.text ∙ ap (λ z. w x ++ z) is ∙ one_more_item comma (w x) k (close ∷ r) (w more.0) (map w more.1) more.3.text;
          good = (subst (λ z. V x (first z)) is took.good, more.3.good);
        },
      ))
      (λ _ h2. expect_ok close j _ (ys, r) h2 (λ k is h3.
      let same = some_is (found ++ x ∷ [], k) (ys, r) h3 in (
        x,
        [],
        ap (λ z. z.0) (sym same),
        record {
          text = took.text ∙ ap (λ z. w x ++ z) (is ∙ ap (λ z. close ∷ z.1) same) ∙ ap (λ z. z ++ close ∷ r) (sym (append-nil (w x)));
          good = subst (λ z. V x (first z)) is took.good;
        },
      ))))

  abbrev commas_written : TokenKind → List A → Input
  commas_written close xs = W.commas (map w xs) ++ close ∷ []

  commas_ok : (close : TokenKind) → IsSign close → (i : Input) (ys : List A) (r : Input) → commas p close i ≡ Some (ys, r) →
      Took (commas_written close) (λ xs _. Listed At comma close xs) ys i r
  unfolding commas
  commas_ok close sign i ys r h = eat_ok close sign i _ _ (ys, r) h
      (λ j is h1. took_as [] j ys r (record { text = is; good = tt }) h1)
      (λ _ h1. let took = commas_from_ok close (length i) [] i ys r h1 in
      subst (λ z. Took (commas_written close) (λ xs _. Listed At comma close xs) z i r) (sym took.2)
      (record { text = took.3.text ∙ sym (append_assoc (W.commas (map w (took.0 ∷ took.1))) (close ∷ []) r); good = took.3.good }))

  commas_from_done : (close : TokenKind) → IsSign close → close ≢ comma → S (Some comma) → S (Some close) →
      (xs : List A) (x : A) (n : ℕ) (found : List A) (r : Input) → length xs < n → length (W.separated comma (map w (x ∷ xs))) < b →
      Listed At comma close (x ∷ xs) → commas_from p close n found (W.separated comma (map w (x ∷ xs)) ++ close ∷ r) ≡ Some (found ++ x ∷ xs, r)
  unfolding commas_from
  commas_from_done close sign differs before_comma before_close xs x zero found r turns short good = absurd (omega arith)
  commas_from_done close sign differs before_comma before_close [] x (suc n) found r turns short good =
      let none = append-nil (w x) in
      ap (λ z. commas_from p close (suc n) found (z ++ close ∷ r)) none
      ∙ bind_takes (p (w x ++ close ∷ r)) _ x (close ∷ r) (exact.complete x (close ∷ r) (subst (λ z. length z < b) none short) good before_close)
      ∙ eat_leaves comma (close ∷ r) _ _ (λ e. differs (some_is close comma e))
      ∙ expect_takes close sign r _
  commas_from_done close sign differs before_comma before_close (y ∷ xs) x (suc n) found r turns short good =
      let more : Input = W.separated comma (map w (y ∷ xs)) in
      let m : length (w x ++ comma ∷ more) ≡ length (w x) + (length more + 1) = length-append (w x) (comma ∷ more) ∙ omega arith in
      ap (λ z. commas_from p close (suc n) found z) (append_assoc (w x) (comma ∷ more) (close ∷ r))
      ∙ bind_takes (p (w x ++ comma ∷ (more ++ close ∷ r))) _ x (comma ∷ (more ++ close ∷ r))
      (exact.complete x (comma ∷ (more ++ close ∷ r)) (omega arith) good.0 before_comma)
      ∙ eat_takes comma tt (more ++ close ∷ r) _ _
      ∙ commas_from_done close sign differs before_comma before_close xs y n (found ++ x ∷ []) r (omega arith) (omega arith) good.1
      ∙ ap (λ z. Some (z, r)) (append_assoc found (x ∷ []) (y ∷ xs))

  commas_begin : (close : TokenKind) → S (Some comma) → S (Some close) → ((j : Input) → p (close ∷ j) ≡ None) →
      (x : A) (xs : List A) (r : Input) → length (W.separated comma (map w (x ∷ xs))) < b → Listed At comma close (x ∷ xs) →
      first (W.separated comma (map w (x ∷ xs)) ++ close ∷ r) ≢ Some close
  commas_begin close before_comma before_close refuses x [] r short good =
      let none = append-nil (w x) in
      subst (λ z. first (z ++ close ∷ r) ≢ Some close) (sym none)
      (not_first p close x (w x ++ close ∷ r) (close ∷ r) refuses (exact.complete x (close ∷ r) (subst (λ z. length z < b) none short) good before_close))
  commas_begin close before_comma before_close refuses x (y ∷ xs) r short good =
      let more : Input = W.separated comma (map w (y ∷ xs)) in
      subst (λ z. first z ≢ Some close) (sym (append_assoc (w x) (comma ∷ more) (close ∷ r)))
      (not_first p close x (w x ++ comma ∷ (more ++ close ∷ r)) (comma ∷ (more ++ close ∷ r)) refuses
      (exact.complete x (comma ∷ (more ++ close ∷ r)) (shorter_left (w x) (comma ∷ more) b short) good.0 before_comma))

  commas_done : (close : TokenKind) → IsSign close → close ≢ comma → S (Some comma) → S (Some close) → ((j : Input) → p (close ∷ j) ≡ None) →
      (xs : List A) (r : Input) → length (commas_written close xs) < suc b → Listed At comma close xs → commas p close (commas_written close xs ++ r) ≡ Some (xs, r)
  unfolding commas
  commas_done close sign differs before_comma before_close refuses [] r short good = eat_takes close sign r _ _
  commas_done close sign differs before_comma before_close refuses (x ∷ xs) r short good =
      let ws : Input = W.separated comma (map w (x ∷ xs)) in
      let i : Input = ws ++ close ∷ r in
      let more : Input = flat_map (λ y. comma ∷ y) (map w xs) in
      let n : length i ≡ length (w x) + length more + length (close ∷ r) = length-append ws (close ∷ r) ∙ ap (λ z. z + length (close ∷ r)) (length-append (w x) more) in
      let few : length xs ≤ length more = many comma w xs in
      let small : length ws < b = omega (arith, length-append ws (close ∷ [])) in
      ap (λ z. commas p close z) (append_assoc ws (close ∷ []) r)
      ∙ eat_leaves close i _ _ (commas_begin close before_comma before_close refuses x xs r small good)
      ∙ commas_from_done close sign differs before_comma before_close xs x (length i) [] r (omega arith) small good

  -- items with commas between them, before a closing mark that begins no item
  pub commas_exact : (close : TokenKind) → IsSign close → close ≢ comma → S (Some comma) → S (Some close) → ((j : Input) → p (close ∷ j) ≡ None) →
      Exact (suc b) (commas p close) (λ xs. W.commas (map w xs) ++ close ∷ []) (λ xs _. Listed (λ x s. V x (Some s)) comma close xs) Any
  commas_exact close sign differs before_comma before_close refuses = record {
    sound = λ i x r h. commas_ok close sign i x r h;
    complete = λ x r short good _. commas_done close sign differs before_comma before_close refuses x r short good;
  }

  -- ---- the same with semicolons, up to a closing brace

  record TookSemicolons (xs : List A) (last : Bool) (i r : Input) : Type 0 where
    text : i ≡ W.separated semicolon (map w xs) ++ (W.marked last semicolon ++ brace ∷ r)
    good : Listed At semicolon (behind_last last) xs

  semicolons_from_ok : (n : ℕ) (found : List A) (i : Input) (ys : List A × Bool) (r : Input) → semicolons_from p n found i ≡ Some (ys, r) →
      (x : A) × (xs : List A) × (ys.0 ≡ found ++ x ∷ xs) × TookSemicolons (x ∷ xs) ys.1 i r
  unfolding semicolons_from
  semicolons_from_ok zero found i ys r h = absurd (cc)
  semicolons_from_ok (suc n) found i ys r h = bind_ok (p i) _ (ys, r) h (λ x j e h1.
      let took = exact.sound i x j e in
      eat_ok semicolon tt j _ _ (ys, r) h1
      (λ k is h2. eat_ok brace tt k _ _ (ys, r) h2
      (λ k' is' h3. let same = some_is ((found ++ x ∷ [], true), k') (ys, r) h3 in (
        x,
        [],
        ap (λ z. z.0.0) (sym same),
        subst (λ z. TookSemicolons (x ∷ []) z.0.1 i z.1) same (record {
          text = took.text ∙ ap (λ z. w x ++ z) (is ∙ ap (λ z. semicolon ∷ z) is') ∙ ap (λ z. z ++ semicolon ∷ brace ∷ k') (sym (append-nil (w x)));
          good = subst (λ z. V x (first z)) is took.good;
        }),
      ))
      (λ _ h3. let more = semicolons_from_ok n (found ++ x ∷ []) k ys r h3 in (
        x,
        more.0 ∷ more.1,
        regrouped found (more.0 ∷ more.1) x ys.0 more.2,
        record {
          text = took.text ∙ ap (λ z. w x ++ z) is ∙ one_more_item semicolon (w x) k (W.marked ys.1 semicolon ++ brace ∷ r) (w more.0) (map w more.1) more.3.text;
          good = (subst (λ z. V x (first z)) is took.good, more.3.good);
        },
      )))
      (λ _ h2. expect_ok brace j _ (ys, r) h2 (λ k is h3.
      let same = some_is ((found ++ x ∷ [], false), k) (ys, r) h3 in (
        x,
        [],
        ap (λ z. z.0.0) (sym same),
        subst (λ z. TookSemicolons (x ∷ []) z.0.1 i z.1) same (record {
          text = took.text ∙ ap (λ z. w x ++ z) is ∙ ap (λ z. z ++ brace ∷ k) (sym (append-nil (w x)));
          good = subst (λ z. V x (first z)) is took.good;
        }),
      ))))

  abbrev semicolons_written : List A × Bool → Input
  semicolons_written z = W.semicolons (map w z.0) z.1 ++ brace ∷ []

  abbrev Ended : List A × Bool → Next → Type 0
  Ended z n = Listed At semicolon (behind_last z.1) z.0 × MayEnd z.0 z.1

  semicolons_text : (xs : List A) (last : Bool) (r : Input) → W.separated semicolon (map w xs) ++ (W.marked last semicolon ++ brace ∷ r) ≡ semicolons_written (xs, last) ++ r
  semicolons_text xs last r =
      ap (λ z. W.separated semicolon (map w xs) ++ z) (sym (append_assoc (W.marked last semicolon) (brace ∷ []) r))
      ∙ sym (append_assoc (W.separated semicolon (map w xs)) (W.marked last semicolon ++ brace ∷ []) r)
      ∙ ap (λ z. z ++ r) (sym (append_assoc (W.separated semicolon (map w xs)) (W.marked last semicolon) (brace ∷ [])))

  may_end : (x : A) (xs : List A) (last : Bool) → MayEnd (x ∷ xs) last
  may_end x xs true = tt
  may_end x xs false = tt

  semicolons_turns_ok : (i : Input) (n : ℕ) (ys : List A × Bool) (r : Input) → semicolons_from p n [] i ≡ Some (ys, r) → Took semicolons_written (λ z m. Ended z m × NotEmpty z.0) ys i r
  semicolons_turns_ok i n ys r h = let took = semicolons_from_ok n [] i ys r h in
      subst (λ z. Took semicolons_written (λ u m. Ended u m × NotEmpty u.0) (z, ys.1) i r) (sym took.2)
      (record { text = took.3.text ∙ semicolons_text (took.0 ∷ took.1) ys.1 r; good = ((took.3.good, may_end took.0 took.1 ys.1), tt) })

  semicolons_ok : (i : Input) (ys : List A × Bool) (r : Input) → semicolons p i ≡ Some (ys, r) → Took semicolons_written Ended ys i r
  unfolding semicolons
  semicolons_ok i ys r h = eat_ok brace tt i _ _ (ys, r) h
      (λ j is h1. took_as ([], false) j ys r (record { text = is; good = (tt, tt) }) h1)
      (λ _ h1. let took = semicolons_turns_ok i (length i) ys r h1 in record { text = took.text; good = took.good.0 })

  semicolons_begin : S (Some semicolon) → S (Some brace) → ((j : Input) → p (brace ∷ j) ≡ None) →
      (x : A) (xs : List A) (last : Bool) (r : Input) → length (W.separated semicolon (map w (x ∷ xs))) < b → Listed At semicolon (behind_last last) (x ∷ xs) →
      first (W.separated semicolon (map w (x ∷ xs)) ++ (W.marked last semicolon ++ brace ∷ r)) ≢ Some brace
  semicolons_begin before_semi before_brace refuses x [] true r short good =
      let none = append-nil (w x) in
      let tail : Input = semicolon ∷ brace ∷ r in
      subst (λ z. first (z ++ tail) ≢ Some brace) (sym none)
      (not_first p brace x (w x ++ tail) tail refuses (exact.complete x tail (subst (λ z. length z < b) none short) good before_semi))
  semicolons_begin before_semi before_brace refuses x [] false r short good =
      let none = append-nil (w x) in
      let tail : Input = brace ∷ r in
      subst (λ z. first (z ++ tail) ≢ Some brace) (sym none)
      (not_first p brace x (w x ++ tail) tail refuses (exact.complete x tail (subst (λ z. length z < b) none short) good before_brace))
  semicolons_begin before_semi before_brace refuses x (y ∷ xs) last r short good =
      let more : Input = W.separated semicolon (map w (y ∷ xs)) in
      let tail : Input = W.marked last semicolon ++ brace ∷ r in
      subst (λ z. first z ≢ Some brace) (sym (append_assoc (w x) (semicolon ∷ more) tail))
      (not_first p brace x (w x ++ semicolon ∷ (more ++ tail)) (semicolon ∷ (more ++ tail)) refuses
      (exact.complete x (semicolon ∷ (more ++ tail)) (shorter_left (w x) (semicolon ∷ more) b short) good.0 before_semi))

  semicolons_from_done : S (Some semicolon) → S (Some brace) → ((j : Input) → p (brace ∷ j) ≡ None) →
      (xs : List A) (x : A) (last : Bool) (n : ℕ) (found : List A) (r : Input) → length xs < n → length (W.separated semicolon (map w (x ∷ xs))) < b →
      Listed At semicolon (behind_last last) (x ∷ xs) →
      semicolons_from p n found (W.separated semicolon (map w (x ∷ xs)) ++ (W.marked last semicolon ++ brace ∷ r)) ≡ Some ((found ++ x ∷ xs, last), r)
  unfolding semicolons_from
  semicolons_from_done before_semi before_brace refuses xs x last zero found r turns short good = absurd (omega arith)
  semicolons_from_done before_semi before_brace refuses [] x true (suc n) found r turns short good =
      let none = append-nil (w x) in
      ap (λ z. semicolons_from p (suc n) found (z ++ semicolon ∷ brace ∷ r)) none
      ∙ bind_takes (p (w x ++ semicolon ∷ brace ∷ r)) _ x (semicolon ∷ brace ∷ r) (exact.complete x (semicolon ∷ brace ∷ r) (subst (λ z. length z < b) none short) good before_semi)
      ∙ eat_takes semicolon tt (brace ∷ r) _ _
      ∙ eat_takes brace tt r _ _
  semicolons_from_done before_semi before_brace refuses [] x false (suc n) found r turns short good =
      let none = append-nil (w x) in
      ap (λ z. semicolons_from p (suc n) found (z ++ brace ∷ r)) none
      ∙ bind_takes (p (w x ++ brace ∷ r)) _ x (brace ∷ r) (exact.complete x (brace ∷ r) (subst (λ z. length z < b) none short) good before_brace)
      ∙ eat_leaves semicolon (brace ∷ r) _ _ (λ e. cc)
      ∙ expect_takes brace tt r _
  semicolons_from_done before_semi before_brace refuses (y ∷ xs) x last (suc n) found r turns short good =
      let more : Input = W.separated semicolon (map w (y ∷ xs)) in
      let tail : Input = W.marked last semicolon ++ brace ∷ r in
      let m : length (w x ++ semicolon ∷ more) ≡ length (w x) + (length more + 1) = length-append (w x) (semicolon ∷ more) ∙ omega arith in
      let small : length more < b = omega arith in
      ap (λ z. semicolons_from p (suc n) found z) (append_assoc (w x) (semicolon ∷ more) tail)
      ∙ bind_takes (p (w x ++ semicolon ∷ (more ++ tail))) _ x (semicolon ∷ (more ++ tail)) (exact.complete x (semicolon ∷ (more ++ tail)) (omega arith) good.0 before_semi)
      ∙ eat_takes semicolon tt (more ++ tail) _ _
      ∙ eat_leaves brace (more ++ tail) _ _ (semicolons_begin before_semi before_brace refuses y xs last r small good.1)
      ∙ semicolons_from_done before_semi before_brace refuses xs y last n (found ++ x ∷ []) r (omega arith) small good.1
      ∙ ap (λ z. Some ((z, last), r)) (append_assoc found (x ∷ []) (y ∷ xs))

  semicolons_small : (xs : List A) (last : Bool) → length (semicolons_written (xs, last)) < suc b → length (W.separated semicolon (map w xs)) < b
  semicolons_small xs last short = omega (
    arith,
    length-append (W.separated semicolon (map w xs) ++ W.marked last semicolon) (brace ∷ []),
    length-append (W.separated semicolon (map w xs)) (W.marked last semicolon),
  )

  -- there are turns enough
  semicolons_turns : (x : A) (xs : List A) (i tail : Input) → i ≡ W.separated semicolon (map w (x ∷ xs)) ++ tail → 0 < length tail → length xs < length i
  semicolons_turns x xs i tail is some =
      let more : Input = flat_map (λ y. semicolon ∷ y) (map w xs) in
      let n : length i ≡ length (w x) + length more + length tail = ap length is ∙ length-append (w x ++ more) tail ∙ ap (λ z. z + length tail) (length-append (w x) more) in
      let few : length xs ≤ length more = many semicolon w xs in
      omega arith

  tail_some : (last : Bool) (r : Input) → 0 < length (W.marked last semicolon ++ brace ∷ r)
  tail_some true r = omega arith
  tail_some false r = omega arith

  semicolons_turned : S (Some semicolon) → S (Some brace) → ((j : Input) → p (brace ∷ j) ≡ None) →
      (xs : List A) (last : Bool) (r : Input) → length (semicolons_written (xs, last)) < suc b → NotEmpty xs → Listed At semicolon (behind_last last) xs →
      semicolons_from p (length (semicolons_written (xs, last) ++ r)) [] (semicolons_written (xs, last) ++ r) ≡ Some ((xs, last), r)
  semicolons_turned before_semi before_brace refuses [] last r short some good = absurd some
  semicolons_turned before_semi before_brace refuses (x ∷ xs) last r short some good =
      let text = semicolons_text (x ∷ xs) last r in
      let i : Input = semicolons_written (x ∷ xs, last) ++ r in
      ap (λ z. semicolons_from p (length i) [] z) (sym text)
      ∙ semicolons_from_done before_semi before_brace refuses xs x last (length i) [] r
      (semicolons_turns x xs i (W.marked last semicolon ++ brace ∷ r) (sym text) (tail_some last r)) (semicolons_small (x ∷ xs) last short) good

  semicolons_done : S (Some semicolon) → S (Some brace) → ((j : Input) → p (brace ∷ j) ≡ None) →
      (xs : List A) (last : Bool) (r : Input) → length (semicolons_written (xs, last)) < suc b → Listed At semicolon (behind_last last) xs → MayEnd xs last →
      semicolons p (semicolons_written (xs, last) ++ r) ≡ Some ((xs, last), r)
  unfolding semicolons
  semicolons_done before_semi before_brace refuses [] true r short good ends = absurd ends
  semicolons_done before_semi before_brace refuses [] false r short good ends = eat_takes brace tt r _ _
  semicolons_done before_semi before_brace refuses (x ∷ xs) last r short good ends =
      let text = semicolons_text (x ∷ xs) last r in
      eat_leaves brace (semicolons_written (x ∷ xs, last) ++ r) _ _
      (subst (λ z. first z ≢ Some brace) text (semicolons_begin before_semi before_brace refuses x xs last r (semicolons_small (x ∷ xs) last short) good))
      ∙ semicolons_turned before_semi before_brace refuses (x ∷ xs) last r short tt good

  -- items with semicolons between them, before a closing brace, which begins no item
  pub semicolons_exact : S (Some semicolon) → S (Some brace) → ((j : Input) → p (brace ∷ j) ≡ None) →
      Exact (suc b) (semicolons p) (λ z. W.semicolons (map w z.0) z.1 ++ brace ∷ []) (λ z _. Listed (λ x s. V x (Some s)) semicolon (behind_last z.1) z.0 × MayEnd z.0 z.1) Any
  semicolons_exact before_semi before_brace refuses = record {
    sound = λ i x r h. semicolons_ok i x r h;
    complete = λ z r short good _. semicolons_done before_semi before_brace refuses z.0 z.1 r short good.0 good.1;
  }

  -- the same where there is an item
  pub some_semicolons_exact : S (Some semicolon) → S (Some brace) → ((j : Input) → p (brace ∷ j) ≡ None) →
      Exact (suc b) (some_semicolons p) (λ z. W.semicolons (map w z.0) z.1 ++ brace ∷ [])
      (λ z _. (Listed (λ x s. V x (Some s)) semicolon (behind_last z.1) z.0 × MayEnd z.0 z.1) × NotEmpty z.0) Any
  unfolding some_semicolons
  some_semicolons_exact before_semi before_brace refuses = record {
    sound = λ i x r h. semicolons_turns_ok i (length i) x r h;
    complete = λ z r short good _. semicolons_turned before_semi before_brace refuses z.0 z.1 r short good.1 good.0.0;
  }
