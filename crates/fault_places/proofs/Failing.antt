-- Judgements that fail only at numbers below a bound.
use Rattle.std.proofs.Common.{◌≡◌, ◌<◌, inl, inr, ℕ, Bool, true, false, List, [], ◌∷◌, ◌++◌, Option, Some, None, Ok, Err, ap, subst, sym}
use Rattle.mo_syntax.specs.Parts.{Within}
use Rattle.typing_rules.specs.declared.condition.Condition.{Condition}
use Rattle.typing_rules.specs.declared.condition.Condition.TheVariants as condition
use Rattle.typing_rules.specs.Answers.{Fault, fault, answer, Comes}
use Rattle.typing_rules.specs.Definitions.{Definitions}
use Rattle.typing_rules.specs.Judgements.{Question, Judgement, Gives, Fails, Asks, Meets, Part, If, Case, Given, Tests, Needs, NeedsEach, MeetsEach, AsksAll, AsksEither}
use Rattle.typing_rules.specs.Terms.{Term}

module _ (n : ℕ) where
  unfoldable pub FailsBelow : {A : Type 0} → Judgement A → Type 0
  FailsBelow (Gives a) = Unit {0}
  FailsBelow (Fails c place) = place < n
  FailsBelow (Asks q next) = (yes : Bool) → FailsBelow (next yes)
  FailsBelow (Meets t next) = FailsBelow next

  pub fails : (A : Type 0) (c : Condition) (place : ℕ) → place < n → FailsBelow {A = A} (Fails c place)
  unfolding FailsBelow
  fails A c place h = h

  module _ {A : Type 0} where
    pub gives : (a : A) → FailsBelow (Gives a)
    unfolding FailsBelow
    gives a = tt

    pub asks : (q : Question) (next : Bool → Judgement A) → ((yes : Bool) → FailsBelow (next yes)) → FailsBelow (Asks q next)
    unfolding FailsBelow
    asks q next f = f

    pub meets : (t : Term) (next : Judgement A) → FailsBelow next → FailsBelow (Meets t next)
    unfolding FailsBelow
    meets t next f = f

    pub part : {B : Type 0} (j : Judgement B) (k : B → Judgement A) → FailsBelow j → ((b : B) → FailsBelow (k b)) → FailsBelow (Part j k)
    unfolding FailsBelow
    part (Gives b) k i f = f b
    part (Fails c place) k i f = i
    part (Asks q next) k i f = λ yes. part (next yes) k (i yes) f
    part (Meets t next) k i f = part next k i f

    pub if_so : (b : Bool) (j k : Unit {0} → Judgement A) → FailsBelow (j tt) → FailsBelow (k tt) → FailsBelow (If b j k)
    if_so true j k f g = f
    if_so false j k f g = g

    pub by_case : {B : Type 0} (o : Option B) (j : B → Judgement A) (k : Unit {0} → Judgement A) → ((b : B) → FailsBelow (j b)) → FailsBelow (k tt) → FailsBelow (Case o j k)
    by_case None j k f g = g
    by_case (Some b) j k f g = f b

    pub given : {B : Type 0} (c : Condition) (place : ℕ) (o : Option B) (k : B → Judgement A) → place < n → ((b : B) → FailsBelow (k b)) → FailsBelow (Given c place o k)
    given c place None k h f = fails A c place h
    given c place (Some b) k h f = f b

    -- where something is known of what is there
    pub by_case_of : {B : Type 0} (Q : B → Type 0) (o : Option B) (j : B → Judgement A) (k : Unit {0} → Judgement A) → Within Q o → ((b : B) → Q b → FailsBelow (j b)) → FailsBelow (k tt) → FailsBelow (Case o j k)
    by_case_of Q None j k i f g = g
    by_case_of Q (Some b) j k i f g = f b i

    pub given_of : {B : Type 0} (Q : B → Type 0) (c : Condition) (place : ℕ) (o : Option B) (k : B → Judgement A) → Within Q o → place < n → ((b : B) → Q b → FailsBelow (k b)) → FailsBelow (Given c place o k)
    given_of Q c place None k i h f = fails A c place h
    given_of Q c place (Some b) k i h f = f b i

    pub tests : (c : Condition) (place : ℕ) (b : Bool) (j : Judgement A) → place < n → FailsBelow j → FailsBelow (Tests c place b j)
    tests c place true j h f = f
    tests c place false j h f = fails A c place h

    pub needs : (c : Condition) (place : ℕ) (q : Question) (j : Judgement A) → place < n → FailsBelow j → FailsBelow (Needs c place q j)
    needs c place q j h f = asks q _ (λ yes. tests c place yes j h f)

    pub meets_each : (ts : List Term) (j : Judgement A) → FailsBelow j → FailsBelow (MeetsEach ts j)
    meets_each [] j f = f
    meets_each (t ∷ ts) j f = meets t _ (meets_each ts j f)

    pub needs_each : (c : Condition) (place : ℕ) (qs : List Question) (j : Judgement A) → place < n → FailsBelow j → FailsBelow (NeedsEach c place qs j)
    needs_each c place [] j h f = f
    needs_each c place (q ∷ qs) j h f = needs c place q _ h (needs_each c place qs j h f)

    pub asks_all : (qs : List Question) (k : Bool → Judgement A) → ((yes : Bool) → FailsBelow (k yes)) → FailsBelow (AsksAll qs k)
    asks_all [] k f = f true
    asks_all (q ∷ qs) k f = asks q _ (λ yes. if_so yes _ _ (asks_all qs k f) (f false))

    pub asks_either : (q r : Question) (k : Bool → Judgement A) → ((yes : Bool) → FailsBelow (k yes)) → FailsBelow (AsksEither q r k)
    asks_either q r k f = asks q _ (λ yes. if_so yes _ _ (f true) (asks r _ f))

  -- ---- what they come to

  module _ (defs : Definitions) {A : Type 0} where
    same_fault : (f g : Fault) (ts us : List Term) → answer {A = A} (Err f) ts ≡ answer (Err g) us → g.place < n → f.place < n
    same_fault f g ts us e h = let i : Err f ≡ Err g = ap (λ z. z.is) e in let k : f ≡ g = cc in subst (λ (z : Fault). z.place < n) (sym k) h

    no_fault : (a : A) (f : Fault) (ts us : List Term) → answer (Err f) ts ≡ answer (Ok a) us → ⊥
    no_fault a f ts us e = let h : Err f ≡ Ok a = ap (λ z. z.is) e in cc

    -- a fault is at such a number, or that of too many types, which is at the first token
    pub fault_below : 0 < n → (j : Judgement A) (f : Fault) (met now : List Term) → FailsBelow j → Comes defs j met (answer (Err f) now) → f.place < n
    unfolding FailsBelow
    fault_below z (Gives a) f met now i h = absurd (no_fault a f now met h)
    fault_below z (Fails c place) f met now i h = same_fault f (fault c place) now met h i
    fault_below z (Asks q next) f met now i (inl h) = fault_below z (next true) f met now (i true) h.1
    fault_below z (Asks q next) f met now i (inr h) = fault_below z (next false) f met now (i false) h.1
    fault_below z (Meets t next) f met now i (inl h) = fault_below z next f (met ++ t ∷ []) now i h.1
    fault_below z (Meets t next) f met now i (inr h) = same_fault f (fault condition.TooManyTypes 0) now (met ++ t ∷ []) h.1 z
