-- A judgement has an answer, where what is asked has one.
use Rattle.std.proofs.Common.{◌⊎◌, inl, inr, Bool, true, false, List, [], ◌∷◌, ◌++◌, Ok, Err, refl}
use Rattle.typing_rules.specs.declared.condition.Condition.TheVariants as condition
use Rattle.typing_rules.specs.Terms.{Term}
use Rattle.typing_rules.specs.Definitions.{Definitions}
use Rattle.typing_rules.specs.Counts.{FewTypes}
use Rattle.typing_rules.specs.Judgements.{Question, Judgement, Gives, Fails, Asks, Meets}
use Rattle.typing_rules.specs.Answers.{fault, Answer, answer, Holds, Comes}

module _ {A : Type 0} (defs : Definitions) (told : (q : Question) → Holds defs q ⊎ (Holds defs q → ⊥)) (counted : (met : List Term) → FewTypes defs met ⊎ (FewTypes defs met → ⊥)) where
  Answered : Judgement A → List Term → Type 0
  Answered j met = (r : Answer A) × Comes defs j met r

  asked : (q : Question) (next : Bool → Judgement A) (met : List Term) → ((b : Bool) → Answered (next b) met) → Holds defs q ⊎ (Holds defs q → ⊥) → Answered (Asks q next) met
  unfolding Answered
  asked q next met ih (inl h) = let a = ih true in (a.0, inl (h, a.1))
  asked q next met ih (inr h) = let a = ih false in (a.0, inr (h, a.1))

  meets : (t : Term) (next : Judgement A) (met : List Term) → Answered next (met ++ t ∷ []) → FewTypes defs (met ++ t ∷ []) ⊎ (FewTypes defs (met ++ t ∷ []) → ⊥) → Answered (Meets t next) met
  unfolding Answered
  meets t next met a (inl h) = (a.0, inl (h, a.1))
  meets t next met a (inr h) = (answer (Err (fault condition.TooManyTypes 0)) (met ++ t ∷ []), inr (h, refl))

  exists : (j : Judgement A) (met : List Term) → Answered j met
  unfolding Answered
  exists (Gives a) met = (answer (Ok a) met, refl)
  exists (Fails c at) met = (answer (Err (fault c at)) met, refl)
  exists (Asks q next) met = asked q next met (λ b. exists (next b) met) (told q)
  exists (Meets t next) met = meets t next met (exists next (met ++ t ∷ [])) (counted (met ++ t ∷ []))

  pub some_answer : (j : Judgement A) (met : List Term) → (r : Answer A) × Comes defs j met r
  unfolding Answered
  some_answer j met = exists j met
