-- A step that may take a token, before what depends on whether it did.
use Rattle.std.proofs.Common.{◌≡◌, ℕ, suc, ◌<◌, ◌≤◌, Bool, true, false, ◌∷◌, ◌++◌, length, option_map, Option, Some, None, refl, ap, ◌∙◌, arith}
use Rattle.std.specs.Prelude.{if◌then◌else◌, ◌≢◌}
use Rattle.mo_syntax.specs.declared.token.TokenKind.{TokenKind}
use Rattle.mo_syntax.specs.Writing as W
use Rattle.mo_syntax.specs.ExpressionGrammar.{first}
use Rattle.mo_parser_base.specs.Input.{Input, Parser, sees, next, after, expect, behind}
use Rattle.mo_parser_base.proofs.Steps.{IsSign, sees_true, sees_false, sees_it, sees_other, bind_ok, bind_takes, eat_ok, eat_takes, eat_leaves}
use Rattle.mo_parser_base.proofs.Exact.{Next, Exact, took_as}

cases_eat_then : {B C : Type 0} (s : Bool) (f : Bool → Parser B) (n i : Input) (y : B × Input) → f s (if s then n else i) ≡ Some y → (s ≡ true → f true n ≡ Some y → C) → (s ≡ false → f false i ≡ Some y → C) → C
cases_eat_then true f n i y h go else_go = go refl h
cases_eat_then false f n i y h go else_go = else_go refl h

pub eat_ok_then : {B C : Type 0} (s : TokenKind) → IsSign s → (i : Input) (f : Bool → Parser B) (y : B × Input) → f (sees s i) (after s i) ≡ Some y →
    ((j : Input) → i ≡ s ∷ j → f true j ≡ Some y → C) → (first i ≢ Some s → f false i ≡ Some y → C) → C
unfolding after
eat_ok_then s sign i f y h go else_go = cases_eat_then (sees s i) f (next i) i y h
    (λ is r. go (next i) (sees_true s i is) r)
    (λ is r. else_go (sees_false s sign i is) r)

pub eat_takes_then : {B : Type 0} (s : TokenKind) → IsSign s → (i : Input) (f : Bool → Parser B) → f (sees s (s ∷ i)) (after s (s ∷ i)) ≡ f true i
unfolding after
eat_takes_then s sign i f = ap (λ b. f b (if b then i else s ∷ i)) (sees_it s sign i)

pub eat_leaves_then : {B : Type 0} (s : TokenKind) (i : Input) (f : Bool → Parser B) → first i ≢ Some s → f (sees s i) (after s i) ≡ f false i
unfolding after
eat_leaves_then s i f differs = ap (λ b. f b (if b then next i else i)) (sees_other s i differs)

pub expect_it : (s : TokenKind) → IsSign s → (i : Input) → expect s (s ∷ i) ≡ Some (tt, i)
unfolding expect
expect_it s sign i = ap (λ b. if b then Some (tt, i) else None) (sees_it s sign i)

-- where nothing is there, the word or mark doesn't follow
abbrev pub Tight : {A : Type 0} → TokenKind → (A → Next → Type 0) → Option A → Next → Type 0
Tight s V None n = n ≢ Some s
Tight s V (Some x) n = V x n

tight_done : {A : Type 0} {b : ℕ} {p : Parser A} {w : A → Input} {V : A → Next → Type 0} {S : Next → Type 0} (s : TokenKind) → IsSign s → Exact b p w V S →
    (x : Option A) (r : Input) → length (W.led s (option_map w x)) < suc b → Tight s V x (first r) → S (first r) → behind s p (W.led s (option_map w x) ++ r) ≡ Some (x, r)
tight_done s sign exact None r short good stops = eat_leaves s r _ _ good
tight_done {p = p} {w = w} s sign exact (Some x) r short good stops =
    eat_takes s sign (w x ++ r) _ _ ∙ bind_takes (p (w x ++ r)) _ x r (exact.complete x r (omega arith) good stops)

pub behind_tight : {A : Type 0} {b : ℕ} {p : Parser A} {w : A → Input} {V : A → Next → Type 0} {S : Next → Type 0} (s : TokenKind) → IsSign s → Exact b p w V S →
    Exact (suc b) (behind s p) (λ x. W.led s (option_map w x)) (Tight s V) S
behind_tight {p = p} {w = w} {V = V} s sign exact = record {
  sound = λ i y r h. eat_ok s sign i _ _ (y, r) h
      (λ j is h1. bind_ok (p j) _ (y, r) h1 (λ x k e h2.
      let took = exact.sound j x k e in
      took_as (Some x) k y r (record { text = is ∙ ap (λ z. s ∷ z) took.text; good = took.good }) h2))
      (λ differs h1. took_as None i y r (record { text = refl; good = differs }) h1);
  complete = tight_done s sign exact;
}

-- to fewer tokens
pub cut : {A : Type 0} {c b : ℕ} {p : Parser A} {w : A → Input} {V : A → Next → Type 0} {S : Next → Type 0} → b ≤ c → Exact c p w V S → Exact b p w V S
cut less exact = record { sound = exact.sound; complete = λ x r short good stops. exact.complete x r (omega arith) good stops }
