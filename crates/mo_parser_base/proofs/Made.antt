-- Trees that are made of what is read, and what holds of lists of them.
use Rattle.std.proofs.Common.{◌≡◌, ℕ, suc, ◌<◌, List, [], ◌∷◌, ◌++◌, length, Option, Some, None, sym, ap, ◌∙◌, subst, arith}
use Rattle.mo_syntax.specs.declared.token.TokenKind.{TokenKind}
use Rattle.mo_syntax.specs.Parts.{Each, Within, EachWithin, Listed}
use Rattle.mo_syntax.specs.ExpressionGrammar.{first}
use Rattle.mo_parser_base.specs.Input.{Input, Parser, ◌<$>◌}
use Rattle.mo_parser_base.proofs.Steps.{bind_ok, bind_takes}
use Rattle.mo_parser_base.proofs.Exact.{Next, Took, Exact, took_as, made, makes}

-- a tree that each tree of its type is made like
pub mapped : {A X : Type 0} {b : ℕ} {p : Parser A} {w : A → Input} {V : A → Next → Type 0} {S : Next → Type 0} → Exact b p w V S → (f : A → X) (v : X → Input) (U : X → Next → Type 0) →
    ((y : X) → (z : A) × (y ≡ f z)) → ((x : A) → v (f x) ≡ w x) → ((x : A) (n : Next) → V x n → U (f x) n) → ((x : A) (n : Next) → U (f x) n → V x n) → Exact b (f <$> p) v U S
mapped {b = b} {p = p} {S = S} exact f v U onto same to from = record {
  sound = λ i y r h. made exact f v U same to i y r h;
  complete = λ y r short good stops. let z = onto y in
      subst (λ u. length (v u) < b → U u (first r) → (f <$> p) (v u ++ r) ≡ Some (u, r)) (sym z.1)
      (λ short' good'. makes exact f v z.0 (same z.0) r short' (from z.0 (first r) good') stops) short good;
}

-- the same behind a token
pub made_behind : {A X : Type 0} {b : ℕ} {p : Parser A} {w : A → Input} {V : A → Next → Type 0} {S : Next → Type 0} (s : TokenKind) → Exact b p w V S →
    (f : A → X) (v : X → Input) (U : X → Next → Type 0) → ((x : A) → v (f x) ≡ s ∷ w x) → ((x : A) (n : Next) → V x n → U (f x) n) →
    (i j : Input) → i ≡ s ∷ j → (y : X) (r : Input) → (f <$> p) j ≡ Some (y, r) → Took v U y i r
made_behind {p = p} {w = w} s exact f v U same to i j is y r h = bind_ok (p j) _ (y, r) h (λ x k e h1.
    let took = exact.sound j x k e in
    took_as (f x) k y r (record { text = is ∙ ap (λ z. s ∷ z) took.text ∙ ap (λ z. z ++ k) (sym (same x)); good = to x (first k) took.good }) h1)

-- by a parser that does the same there
pub makes_as : {A X : Type 0} {b : ℕ} {p : Parser A} {w : A → Input} {V : A → Next → Type 0} {S : Next → Type 0} → Exact b p w V S →
    (f : A → X) (v : X → Input) (x : A) → v (f x) ≡ w x → (q : Parser X) (r : Input) → q (w x ++ r) ≡ (f <$> p) (w x ++ r) →
    length (v (f x)) < b → V x (first r) → S (first r) → q (v (f x) ++ r) ≡ Some (f x, r)
makes_as {b = b} {p = p} {w = w} exact f v x same q r does short good stops =
    ap (λ z. q (z ++ r)) same ∙ does ∙ bind_takes (p (w x ++ r)) _ x r (exact.complete x r (subst (λ z. length z < b) same short) good stops)

pub makes_behind : {A X : Type 0} {b : ℕ} {p : Parser A} {w : A → Input} {V : A → Next → Type 0} {S : Next → Type 0} (s : TokenKind) → Exact b p w V S →
    (f : A → X) (v : X → Input) (x : A) → v (f x) ≡ s ∷ w x → (q : Parser X) (r : Input) → q (s ∷ (w x ++ r)) ≡ (f <$> p) (w x ++ r) →
    length (v (f x)) < suc b → V x (first r) → S (first r) → q (v (f x) ++ r) ≡ Some (f x, r)
makes_behind {b = b} {p = p} {w = w} s exact f v x same q r does short good stops =
    let n : length (s ∷ w x) < suc b = subst (λ z. length z < suc b) same short in
    ap (λ z. q (z ++ r)) same ∙ does ∙ bind_takes (p (w x ++ r)) _ x r (exact.complete x r (omega arith) good stops)

-- ---- lists whose items don't depend on what follows

pub each_listed : {A : Type 0} (P : A → Type 0) (c d : TokenKind) (xs : List A) → Each P xs → Listed (λ x s. P x) c d xs
each_listed P c d [] h = tt
each_listed P c d (x ∷ []) h = h.0
each_listed P c d (x ∷ y ∷ xs) h = (h.0, each_listed P c d (y ∷ xs) h.1)

pub listed_each : {A : Type 0} (P : A → Type 0) (c d : TokenKind) (xs : List A) → Listed (λ x s. P x) c d xs → Each P xs
listed_each P c d [] h = tt
listed_each P c d (x ∷ []) h = (h, tt)
listed_each P c d (x ∷ y ∷ xs) h = (h.0, listed_each P c d (y ∷ xs) h.1)

pub each_within_listed : {A : Type 0} (P : A → Type 0) (c d : TokenKind) (xs : Option (List A)) → EachWithin P xs → Within (λ ys. Listed (λ x s. P x) c d ys) xs
each_within_listed P c d None h = tt
each_within_listed P c d (Some xs) h = each_listed P c d xs h

pub within_listed_each : {A : Type 0} (P : A → Type 0) (c d : TokenKind) (xs : Option (List A)) → Within (λ ys. Listed (λ x s. P x) c d ys) xs → EachWithin P xs
within_listed_each P c d None h = tt
within_listed_each P c d (Some xs) h = listed_each P c d xs h

-- ---- rules

-- what a rule says, where it is an equation of predicates
pub rule_in : {L : Type 0} {R S : L → Type 0} → R ≡ S → (l : L) → S l → R l
rule_in e l h = subst (λ r. r l) (sym e) h

pub rule_out : {L : Type 0} {R S : L → Type 0} → R ≡ S → (l : L) → R l → S l
rule_out e l h = subst (λ r. r l) e h

pub fact_in : {R S : Type 0} → R ≡ S → S → R
fact_in e h = subst (λ r. r) (sym e) h

pub fact_out : {R S : Type 0} → R ≡ S → R → S
fact_out e h = subst (λ r. r) e h

-- the same parser by another writing
pub as_written : {A : Type 0} {b : ℕ} {p : Parser A} {w : A → Input} {V : A → Next → Type 0} {S : Next → Type 0} → Exact b p w V S → (v : A → Input) (U : A → Next → Type 0) →
    ((x : A) → v x ≡ w x) → ((x : A) (n : Next) → V x n → U x n) → ((x : A) (n : Next) → U x n → V x n) → Exact b p v U S
as_written {b = b} {p = p} exact v U same to from = record {
  sound = λ i x r h. let took = exact.sound i x r h in record { text = took.text ∙ ap (λ z. z ++ r) (sym (same x)); good = to x (first r) took.good };
  complete = λ x r short good stops. ap (λ z. p (z ++ r)) (same x) ∙ exact.complete x r (subst (λ z. length z < b) (same x) short) (from x (first r) good) stops;
}

-- other tokens that go on
pub ends_by : {A : Type 0} {b : ℕ} {p : Parser A} {w : A → Input} {V : A → Next → Type 0} {S T : Next → Type 0} → Exact b p w V S → ((n : Next) → T n → S n) → Exact b p w V T
ends_by exact ends = record { sound = exact.sound; complete = λ x r short good stops. exact.complete x r short good (ends (first r) stops) }
