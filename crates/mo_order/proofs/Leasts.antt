-- The first of several, by any order.
use Rattle.std.proofs.Common.{◌≡◌, ◌⊎◌, inl, inr, refl, subst, Option, Some, None}
use Rattle.std.proofs.Math.Logic.{⊎_elim}
use Rattle.mo_order.specs.Least.{Least, OneOf}

-- the first of two kinds, where the first of one is known
pub joined : {A : Type 0} (Before : A → A → Type 0) (chain : (a b c : A) → Before a b → Before b c → Before a c) (P Q : A → Type 0) (one all : Option A)
    → Least Before P one → Least Before (OneOf one Q) all → Least Before (λ a. P a ⊎ Q a) all
joined Before chain P Q None None p r = λ a h. ⊎_elim (λ q. p a q) (λ q. r a (inr q)) h
joined Before chain P Q (Some f) None p r = absurd (r f (inl refl))
joined {A} Before chain P Q None (Some a) p r = (⊎_elim (λ e. cc) (λ q. inr q) r.0, λ b h. ⊎_elim (λ q. absurd (p b q)) (λ q. r.1 b (inr q)) h)
joined {A} Before chain P Q (Some f) (Some a) p r = (
  ⊎_elim (λ e. let h : f ≡ a = cc in inl (subst P h p.0)) (λ q. inr q) r.0,
  λ b h. ⊎_elim (λ q. chain a f b (r.1 f (inl refl)) (p.1 b q)) (λ q. r.1 b (inr q)) h,
)

-- the first by another description
pub same : {A : Type 0} (Before : A → A → Type 0) (P Q : A → Type 0) (first : Option A) → ((a : A) → P a → Q a) → ((a : A) → Q a → P a)
    → Least Before P first → Least Before Q first
same Before P Q None to from h = λ a q. h a (from a q)
same Before P Q (Some f) to from h = (to f h.0, λ b q. h.1 b (from b q))

turned : {A : Type 0} (Before : A → A → Type 0) (P Q : A → Type 0) (first : Option A) → Least Before (λ a. P a ⊎ Q a) first → Least Before (λ a. Q a ⊎ P a) first
turned Before P Q first h = same Before (λ a. P a ⊎ Q a) (λ a. Q a ⊎ P a) first (λ a s. ⊎_elim (λ p. inr p) (λ q. inl q) s) (λ a s. ⊎_elim (λ q. inr q) (λ p. inl p) s) h

-- the first of two kinds, where the first of each is known
pub both : {A : Type 0} (Before : A → A → Type 0) (chain : (a b c : A) → Before a b → Before b c → Before a c) (P Q : A → Type 0) (one other all : Option A)
    → Least Before P one → Least Before Q other → Least Before (OneOf one (λ a. other ≡ Some a)) all → Least Before (λ a. P a ⊎ Q a) all
both Before chain P Q one other all p q h =
    turned Before Q P all (joined Before chain Q P other all q
    (turned Before P (λ a. other ≡ Some a) all (joined Before chain P (λ a. other ≡ Some a) one all p h)))

-- where there are none of the others
pub unchanged : {A : Type 0} (Before : A → A → Type 0) (itself : (a : A) → Before a a) (Q : A → Type 0) (one : Option A) → ((a : A) → Q a → ⊥)
    → Least Before (OneOf one Q) one
unchanged Before itself Q None empty = λ a h. ⊎_elim (λ e. cc) (λ q. empty a q) h
unchanged Before itself Q (Some f) empty = (inl refl, λ b h. ⊎_elim (λ e. let s : f ≡ b = cc in subst (λ z. Before f z) s (itself f)) (λ q. absurd (empty b q)) h)
