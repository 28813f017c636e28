-- What is made, where it is known what it is.
use Rattle.std.proofs.Common.{◌≡◌, ℕ, ◌+◌, Result, Ok, Err, IfOk, ◌∙◌, sym, ap}
use Rattle.typing_rules.specs.Spans.{Span}
use Rattle.abstract_type_walk.specs.Stands.{Is, Stands}

pub if_ok : {A E : Type 0} (r : Result A E) (P Q : A → Type 0) → IfOk r P → ((a : A) → P a → Q a) → IfOk r Q
if_ok (Ok a) P Q h k = k a h
if_ok (Err e) P Q h k = tt

-- a part of the tree
pub stands : {A B E : Type 0} (see : A → B) (span wanted : Span B) (at : ℕ) (b : B) (n : ℕ) (r : Result (A × ℕ) E) → IfOk r (Is see b n) → wanted ≡ span → b ≡ span.from at
    → n ≡ at + span.size → IfOk r (Stands see wanted at)
stands {B = B} see span wanted at b n r h w f s = if_ok r (Is see b n) (Stands see wanted at) h (λ made k. record {
  part = k.part ∙ f ∙ ap (λ (z : Span B). z.from at) (sym w);
  next = k.next ∙ s ∙ ap (λ (z : Span B). at + z.size) (sym w);
})

-- a part whose span is that of another
pub as_stands : {A B : Type 0} (see : A → B) (span wanted : Span B) (at : ℕ) (made : A × ℕ) → wanted ≡ span → Stands see span at made → Stands see wanted at made
as_stands {B = B} see span wanted at made w h = record {
  part = h.part ∙ ap (λ (z : Span B). z.from at) (sym w);
  next = h.next ∙ ap (λ (z : Span B). at + z.size) (sym w);
}
