-- What a judgement comes to, by the answers to what it asks.
use Rattle.std.specs.Prelude.{◌≡◌, ◌⊎◌, ℕ, true, false, List, [], ◌∷◌, ◌++◌, Result, Ok, Err}
use Rattle.mo_num.specs.PrincipalText as principal
use Rattle.mo_types.specs.Sub.{IsSubtype}
use Rattle.typed_tree.specs.Shareable as share
use Rattle.typing_rules.specs.declared.condition.Condition.{Condition}
use Rattle.typing_rules.specs.declared.condition.Condition.TheVariants as condition
use Rattle.typing_rules.specs.AbstractSyntax.{Bytes}
use Rattle.typing_rules.specs.Terms.{Term}
use Rattle.typing_rules.specs.Definitions.{Definitions}
use Rattle.typing_rules.specs.Heads.{head}
use Rattle.typing_rules.specs.Counts.{FewTypes}
use Rattle.typing_rules.specs.Judgements.{Question, IsBelow, IsShareable, IsComparable, IsPrincipal, Judgement, Gives, Fails, Asks, Meets}

-- a condition that is false, and the first token of the node of which it is
pub record Fault : Type 0 where
  pub place : ℕ
  pub condition : Condition

abbrev pub fault : Condition → ℕ → Fault
fault c place = record { place = place; condition = c }

-- what a judgement gives, or the fault; and the types that were met up to then
pub record Answer (A : Type 0) : Type 0 where
  pub is : Result A Fault
  pub met : List Term

abbrev pub answer : {A : Type 0} → Result A Fault → List Term → Answer A
answer r ts = record { is = r; met = ts }

-- some principal has this text
abbrev pub IsPrincipalText : Bytes → Type 0
IsPrincipalText text = (bytes : List ℕ) × principal.IsPrincipal bytes × principal.IsTextOf bytes text

module _ (defs : Definitions) where
  -- the answer to the question is yes
  abbrev pub Holds : Question → Type 0
  Holds (IsBelow t u) = IsSubtype (head defs) t u
  Holds (IsShareable t) = share.IsShareable (head defs) t
  Holds (IsComparable t) = share.IsComparable (head defs) t
  Holds (IsPrincipal text) = IsPrincipalText text

  -- The judgement comes to r, where these types were met before. The limit on types holds up to there: where it is passed, that is the fault, at the first
  -- token of the program.
  abbrev pub Comes : {A : Type 0} → Judgement A → List Term → Answer A → Type 0
  Comes (Gives a) met r = r ≡ answer (Ok a) met
  Comes (Fails c place) met r = r ≡ answer (Err (fault c place)) met
  Comes (Asks q next) met r = (Holds q × Comes (next true) met r) ⊎ ((Holds q → ⊥) × Comes (next false) met r)
  Comes (Meets t next) met r =
      (FewTypes defs (met ++ t ∷ []) × Comes next (met ++ t ∷ []) r)
      ⊎ ((FewTypes defs (met ++ t ∷ []) → ⊥) × (r ≡ answer (Err (fault condition.TooManyTypes 0)) (met ++ t ∷ [])))
