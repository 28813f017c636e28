-- Properties of what judgements give, step by step.
use Rattle.std.proofs.Common.{◌≡◌, inl, inr, ℕ, Bool, true, false, List, [], ◌∷◌, ◌++◌, Option, Some, None, Ok, Err, refl, sym, ap, subst}
use Rattle.subtype_laws.specs.Reached.{Among}
use Rattle.typing_rules.specs.declared.condition.Condition.{Condition}
use Rattle.typing_rules.specs.declared.condition.Condition.TheVariants as condition
use Rattle.typing_rules.specs.Terms.{Term}
use Rattle.typing_rules.specs.Definitions.{Definitions}
use Rattle.typing_rules.specs.Judgements.{Judgement, Gives, Fails, Asks, Meets, Part, If, Case, Given, Tests}
use Rattle.typing_rules.specs.Answers.{Fault, fault, answer, Comes}
use Rattle.desugaring_laws.specs.Yields.{Yields}

apart : {A : Type 0} (a : A) (f : Fault) (ts us : List Term) → answer (Ok a) ts ≡ answer (Err f) us → ⊥
apart a f ts us e = let h : Ok a ≡ Err f = ap (λ z. z.is) e in cc

module _ (defs : Definitions) (terms : List Term) where
  module _ {A : Type 0} where
    pub anything : (j : Judgement A) → Yields defs terms j (λ a. Unit {0})
    anything (Gives a) = tt
    anything (Fails c place) = tt
    anything (Asks q next) = (λ h. anything (next true), λ h. anything (next false))
    anything (Meets t next) = λ h. anything next

    pub more : (j : Judgement A) (P Q : A → Type 0) → Yields defs terms j P → ((a : A) → P a → Q a) → Yields defs terms j Q
    more (Gives a) P Q y f = f a y
    more (Fails c place) P Q y f = tt
    more (Asks q next) P Q y f = (λ h. more (next true) P Q (y.0 h) f, λ h. more (next false) P Q (y.1 h) f)
    more (Meets t next) P Q y f = λ h. more next P Q (y h) f

    pub given : {X : Type 0} (c : Condition) (place : ℕ) (o : Option X) (k : X → Judgement A) (P : A → Type 0) → ((x : X) → o ≡ Some x → Yields defs terms (k x) P) → Yields defs terms (Given c place o k) P
    given c place None k P f = tt
    given c place (Some x) k P f = f x refl

    pub tests : (c : Condition) (place : ℕ) (b : Bool) (j : Judgement A) (P : A → Type 0) → (b ≡ true → Yields defs terms j P) → Yields defs terms (Tests c place b j) P
    tests c place true j P f = f refl
    tests c place false j P f = tt

    pub if_so : (b : Bool) (j k : Unit {0} → Judgement A) (P : A → Type 0) → (b ≡ true → Yields defs terms (j tt) P) → (b ≡ false → Yields defs terms (k tt) P) → Yields defs terms (If b j k) P
    if_so true j k P f g = f refl
    if_so false j k P f g = g refl

    pub by_case : {X : Type 0} (o : Option X) (j : X → Judgement A) (k : Unit {0} → Judgement A) (P : A → Type 0) → ((x : X) → o ≡ Some x → Yields defs terms (j x) P) → (o ≡ None → Yields defs terms (k tt) P)
        → Yields defs terms (Case o j k) P
    by_case None j k P f g = g refl
    by_case (Some x) j k P f g = f x refl

    pub part : {B : Type 0} (j : Judgement B) (k : B → Judgement A) (Q : B → Type 0) (P : A → Type 0) → Yields defs terms j Q → ((b : B) → Q b → Yields defs terms (k b) P) → Yields defs terms (Part j k) P
    part (Gives b) k Q P y f = f b y
    part (Fails c place) k Q P y f = tt
    part (Asks q next) k Q P y f = (λ h. part (next true) k Q P (y.0 h) f, λ h. part (next false) k Q P (y.1 h) f)
    part (Meets t next) k Q P y f = λ h. part next k Q P (y h) f

  -- ---- what comes of judgements

  among_first : (t : Term) (ts us : List Term) → Among t ts → Among t (ts ++ us)
  among_first t [] us m = absurd m
  among_first t (u ∷ ts) us (inl e) = inl e
  among_first t (u ∷ ts) us (inr m) = inr (among_first t ts us m)

  among_last : (t : Term) (ts : List Term) → Among t (ts ++ t ∷ [])
  among_last t [] = inl refl
  among_last t (u ∷ ts) = inr (among_last t ts)

  -- what was met stays so
  met_stay : {A : Type 0} (j : Judgement A) (a : A) (met now : List Term) → Comes defs j met (answer (Ok a) now) → (t : Term) → Among t met → Among t now
  met_stay (Gives b) a met now h t m = subst (λ ts. Among t ts) (sym (ap (λ z. z.met) h)) m
  met_stay (Fails c place) a met now h t m = absurd (apart a (fault c place) now met h)
  met_stay (Asks q next) a met now (inl h) t m = met_stay (next true) a met now h.1 t m
  met_stay (Asks q next) a met now (inr h) t m = met_stay (next false) a met now h.1 t m
  met_stay (Meets u next) a met now (inl h) t m = met_stay next a (met ++ u ∷ []) now h.1 t (among_first t met (u ∷ []) m)
  met_stay (Meets u next) a met now (inr h) t m = absurd (apart a (fault condition.TooManyTypes 0) now (met ++ u ∷ []) h.1)

  same_given : {A : Type 0} (a b : A) (ts us : List Term) → answer (Ok a) ts ≡ answer (Ok b) us → b ≡ a
  same_given a b ts us e = let h : Ok a ≡ Ok b = ap (λ z. z.is) e in cc

  pub yields_given : {A : Type 0} (j : Judgement A) (P : A → Type 0) (a : A) (met now : List Term) → Comes defs j met (answer (Ok a) now) → ((t : Term) → Among t now → Among t terms) → Yields defs terms j P → P a
  yields_given (Gives b) P a met now h all y = subst P (same_given a b now met h) y
  yields_given (Fails c place) P a met now h all y = absurd (apart a (fault c place) now met h)
  yields_given (Asks q next) P a met now (inl h) all y = yields_given (next true) P a met now h.1 all (y.0 h.0)
  yields_given (Asks q next) P a met now (inr h) all y = yields_given (next false) P a met now h.1 all (y.1 h.0)
  yields_given (Meets t next) P a met now (inl h) all y =
      yields_given next P a (met ++ t ∷ []) now h.1 all (y (all t (met_stay next a (met ++ t ∷ []) now h.1 t (among_last t met))))
  yields_given (Meets t next) P a met now (inr h) all y = absurd (apart a (fault condition.TooManyTypes 0) now (met ++ t ∷ []) h.1)
