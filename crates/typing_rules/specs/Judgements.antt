-- What a rule of typing is made of. A judgement gives what is judged with its type, or names a condition that is false and its place. On the way it asks
-- whether types stand in a relation, and notes which types are met.
use Rattle.std.specs.Prelude.{ℕ, Bool, true, false, List, [], ◌∷◌, Option, Some, None}
use Rattle.typing_rules.specs.declared.condition.Condition.{Condition}
use Rattle.typing_rules.specs.AbstractSyntax.{Bytes}
use Rattle.typing_rules.specs.Terms.{Term}

-- what a rule asks
pub data Question : Type 0 where
  -- t is a subtype of u; both were met before
  IsBelow : (t u : Term) → Question
  IsShareable : (t : Term) → Question
  -- shareable, without Any: for `==`
  IsComparable : (t : Term) → Question
  -- some principal has this text
  IsPrincipal : (text : Bytes) → Question

pub data Judgement (A : Type 0) : Type 0 where
  Gives : (a : A) → Judgement A
  -- the condition is false at the node whose first token has this number
  Fails : (c : Condition) → (place : ℕ) → Judgement A
  Asks : (q : Question) → (next : Bool → Judgement A) → Judgement A
  Meets : (t : Term) → (next : Judgement A) → Judgement A

module _ {A : Type 0} where
  -- a part's judgement, and then what follows from what it gives
  abbrev pub Part : {B : Type 0} → Judgement B → (B → Judgement A) → Judgement A
  Part (Gives b) k = k b
  Part (Fails c place) k = Fails c place
  Part (Asks q next) k = Asks q (λ b. Part (next b) k)
  Part (Meets t next) k = Meets t (Part next k)

  -- by whether it is so
  abbrev pub If : Bool → (Unit {0} → Judgement A) → (Unit {0} → Judgement A) → Judgement A
  If true j k = j tt
  If false j k = k tt

  -- by whether a value is there
  abbrev pub Case : {B : Type 0} → Option B → (B → Judgement A) → (Unit {0} → Judgement A) → Judgement A
  Case None j k = k tt
  Case (Some b) j k = j b

  -- the condition c at the place, that a value is there, and then what follows
  abbrev pub Given : {B : Type 0} → Condition → ℕ → Option B → (B → Judgement A) → Judgement A
  Given c place None k = Fails c place
  Given c place (Some b) k = k b

  -- the condition c at the place, that it is so, and then j
  abbrev pub Tests : Condition → ℕ → Bool → Judgement A → Judgement A
  Tests c place true j = j
  Tests c place false j = Fails c place

  -- the condition c at the place, that the answer is yes, and then j
  abbrev pub Needs : Condition → ℕ → Question → Judgement A → Judgement A
  Needs c place q j = Asks q (λ yes. Tests c place yes j)

  -- types that are met one after the other
  abbrev pub MeetsEach : List Term → Judgement A → Judgement A
  MeetsEach [] j = j
  MeetsEach (t ∷ ts) j = Meets t (MeetsEach ts j)

  -- the same of each of several questions
  abbrev pub NeedsEach : Condition → ℕ → List Question → Judgement A → Judgement A
  NeedsEach c place [] j = j
  NeedsEach c place (q ∷ qs) j = Needs c place q (NeedsEach c place qs j)

  -- whether the answers are all yes
  abbrev pub AsksAll : List Question → (Bool → Judgement A) → Judgement A
  AsksAll [] k = k true
  AsksAll (q ∷ qs) k = Asks q (λ yes. If yes (λ _. AsksAll qs k) (λ _. k false))

  -- whether one of both answers is yes
  abbrev pub AsksEither : Question → Question → (Bool → Judgement A) → Judgement A
  AsksEither q r k = Asks q (λ yes. If yes (λ _. k true) (λ _. Asks r k))

-- where nothing is given
abbrev pub Fine : Judgement (Unit {0})
Fine = Gives tt
