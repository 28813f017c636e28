-- What judgements meet and give, step by step.
use Rattle.std.proofs.Common.{◌≡◌, inl, inr, ℕ, Bool, true, false, List, [], ◌∷◌, ◌++◌, Option, Some, None, Ok, Err, refl, sym, ap, subst}
use Rattle.std.specs.Prelude.{map}
use Rattle.mo_types.specs.Sub.{Each}
use Rattle.typed_tree.specs.Shareable.{IsShareable}
use Rattle.typing_rules.specs.declared.condition.Condition.{Condition}
use Rattle.typing_rules.specs.declared.condition.Condition.TheVariants as condition
use Rattle.typing_rules.specs.Terms.{Term}
use Rattle.typing_rules.specs.Definitions.{Definitions}
use Rattle.typing_rules.specs.Heads.{head}
use Rattle.typing_rules.specs.Judgements.{Question, Judgement, Gives, Fails, Asks, Meets, Part, If, Case, Given, Tests, Needs, MeetsEach, NeedsEach, AsksAll, AsksEither}
use Rattle.typing_rules.specs.Judgements as j
use Rattle.typing_rules.specs.Answers.{Fault, fault, answer, Comes, Holds}
use Rattle.proper_laws.specs.Meets.{MeetsOnly}

module _ (defs : Definitions) (P : Term → Type 0) where
  module _ {A : Type 0} where
    pub more : (j : Judgement A) (Q R : A → Type 0) → MeetsOnly defs P j Q → ((a : A) → Q a → R a) → MeetsOnly defs P j R
    more (Gives a) Q R m f = f a m
    more (Fails c place) Q R m f = tt
    more (Asks q next) Q R m f = (λ h. more (next true) Q R (m.0 h) f, more (next false) Q R m.1 f)
    more (Meets t next) Q R m f = (m.0, more next Q R m.1 f)

    pub part : {B : Type 0} (j : Judgement B) (k : B → Judgement A) (Q : B → Type 0) (R : A → Type 0) → MeetsOnly defs P j Q → ((b : B) → Q b → MeetsOnly defs P (k b) R) → MeetsOnly defs P (Part j k) R
    part (Gives b) k Q R m f = f b m
    part (Fails c place) k Q R m f = tt
    part (Asks q next) k Q R m f = (λ h. part (next true) k Q R (m.0 h) f, part (next false) k Q R m.1 f)
    part (Meets t next) k Q R m f = (m.0, part next k Q R m.1 f)

    pub given : {X : Type 0} (c : Condition) (place : ℕ) (o : Option X) (k : X → Judgement A) (R : A → Type 0) → ((x : X) → o ≡ Some x → MeetsOnly defs P (k x) R) → MeetsOnly defs P (Given c place o k) R
    given c place None k R f = tt
    given c place (Some x) k R f = f x refl

    pub tests : (c : Condition) (place : ℕ) (b : Bool) (j : Judgement A) (R : A → Type 0) → (b ≡ true → MeetsOnly defs P j R) → MeetsOnly defs P (Tests c place b j) R
    tests c place true j R f = f refl
    tests c place false j R f = tt

    pub needs : (c : Condition) (place : ℕ) (q : Question) (j : Judgement A) (R : A → Type 0) → (Holds defs q → MeetsOnly defs P j R) → MeetsOnly defs P (Needs c place q j) R
    needs c place q j R f = (λ h. f h, tt)

    pub if_so : (b : Bool) (j k : Unit {0} → Judgement A) (R : A → Type 0) → (b ≡ true → MeetsOnly defs P (j tt) R) → (b ≡ false → MeetsOnly defs P (k tt) R) → MeetsOnly defs P (If b j k) R
    if_so true j k R f g = f refl
    if_so false j k R f g = g refl

    pub by_case : {X : Type 0} (o : Option X) (j : X → Judgement A) (k : Unit {0} → Judgement A) (R : A → Type 0) → ((x : X) → o ≡ Some x → MeetsOnly defs P (j x) R) → (o ≡ None → MeetsOnly defs P (k tt) R)
        → MeetsOnly defs P (Case o j k) R
    by_case None j k R f g = g refl
    by_case (Some x) j k R f g = f x refl

    pub meets_each : (ts : List Term) (j : Judgement A) (R : A → Type 0) → Each P ts → MeetsOnly defs P j R → MeetsOnly defs P (MeetsEach ts j) R
    meets_each [] j R h m = m
    meets_each (t ∷ ts) j R h m = (h.0, meets_each ts j R h.1 m)

    pub needs_each : (c : Condition) (place : ℕ) (qs : List Question) (j : Judgement A) (R : A → Type 0) → (Each (Holds defs) qs → MeetsOnly defs P j R) → MeetsOnly defs P (NeedsEach c place qs j) R
    needs_each c place [] j R f = f tt
    needs_each c place (q ∷ qs) j R f = (λ h. needs_each c place qs j R (λ k. f (h, k)), tt)

    pub asks_all : (qs : List Question) (k : Bool → Judgement A) (R : A → Type 0) → ((b : Bool) → MeetsOnly defs P (k b) R) → MeetsOnly defs P (AsksAll qs k) R
    asks_all [] k R f = f true
    asks_all (q ∷ qs) k R f = (λ h. asks_all qs k R f, f false)

    pub asks_either : (q r : Question) (k : Bool → Judgement A) (R : A → Type 0) → ((b : Bool) → MeetsOnly defs P (k b) R) → MeetsOnly defs P (AsksEither q r k) R
    asks_either q r k R f = (λ h. f true, (λ h. f true, f false))

  -- ---- what comes of judgements

  apart : {A : Type 0} (a : A) (f : Fault) (ts us : List Term) → answer (Ok a) ts ≡ answer (Err f) us → ⊥
  apart a f ts us e = let h : Ok a ≡ Err f = ap (λ z. z.is) e in cc

  same_given : {A : Type 0} (a b : A) (ts us : List Term) → answer (Ok a) ts ≡ answer (Ok b) us → b ≡ a
  same_given a b ts us e = let h : Ok a ≡ Ok b = ap (λ z. z.is) e in cc

  each_last : (ts : List Term) (t : Term) → Each P ts → P t → Each P (ts ++ t ∷ [])
  each_last [] t h k = (k, tt)
  each_last (u ∷ ts) t h k = (h.0, each_last ts t h.1 k)

  -- what is given has its property, and all that was met has
  pub comes_of : {A : Type 0} (j : Judgement A) (Q : A → Type 0) (a : A) (met now : List Term) → Comes defs j met (answer (Ok a) now) → Each P met → MeetsOnly defs P j Q → Q a × Each P now
  comes_of (Gives b) Q a met now h e m = (subst Q (same_given a b now met h) m, subst (λ ts. Each P ts) (sym (ap (λ z. z.met) h)) e)
  comes_of (Fails c place) Q a met now h e m = absurd (apart a (fault c place) now met h)
  comes_of (Asks q next) Q a met now (inl h) e m = comes_of (next true) Q a met now h.1 e (m.0 h.0)
  comes_of (Asks q next) Q a met now (inr h) e m = comes_of (next false) Q a met now h.1 e m.1
  comes_of (Meets t next) Q a met now (inl h) e m = comes_of next Q a (met ++ t ∷ []) now h.1 (each_last met t e m.0) m.1
  comes_of (Meets t next) Q a met now (inr h) e m = absurd (apart a (fault condition.TooManyTypes 0) now (met ++ t ∷ []) h.1)

-- what holds of questions whether types are shareable
pub each_shareable : (defs : Definitions) (ts : List Term) → Each (Holds defs) (map j.IsShareable ts) → Each (IsShareable (head defs)) ts
each_shareable defs [] h = tt
each_shareable defs (t ∷ ts) h = (h.0, each_shareable defs ts h.1)
