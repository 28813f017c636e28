-- Judgements computed, where the answers to what they ask are known.
use Rattle.std.proofs.Common.{◌≡◌, ◌⊎◌, inl, inr, Bool, true, false, ◌&&◌, List, [], ◌∷◌, ◌++◌, Option, Some, None, Ok, Err, is_some, refl, sym, ap, subst, append-nil}
use Rattle.typing_rules.specs.Terms.{Term}
use Rattle.typing_rules.specs.Definitions.{Definitions}
use Rattle.typing_rules.specs.Counts.{FewTypes}
use Rattle.typing_rules.specs.Judgements.{Question, Judgement, Gives, Fails, Asks, Meets}
use Rattle.typing_rules.specs.Answers.{fault, Answer, answer, Holds, Comes}
use Rattle.typing_rules.proofs.Counting.{fewer}
use Rattle.typing_rules.proofs.PrincipalTexts.{Truth}

-- the answers that are known are right
abbrev pub Says : Definitions → (Question → Option Bool) → Type 0
Says defs ask = (q : Question) (b : Bool) → ask q ≡ Some b → Truth b (Holds defs q)

abbrev pub said : Option Bool → Bool
said None = false
said (Some b) = b

after : (xs : List Term) (t : Term) (ys : List Term) → (xs ++ t ∷ []) ++ ys ≡ xs ++ t ∷ ys
after [] t ys = refl
after (x ∷ xs) t ys = ap (λ l. x ∷ l) (after xs t ys)

-- more types are met, and none is forgotten
record Grew (met now : List Term) : Type 0 where
  pub more : List Term
  pub is : now ≡ met ++ more

module _ {A : Type 0} (ask : Question → Option Bool) where
  abbrev pub run : Judgement A → List Term → Answer A
  run (Gives a) met = answer (Ok a) met
  run (Fails c at) met = answer (Err (fault c at)) met
  run (Asks q next) met = run (next (said (ask q))) met
  run (Meets t next) met = run next (met ++ t ∷ [])

  -- each answer that is asked for is known
  abbrev pub known : Judgement A → Bool
  known (Gives a) = true
  known (Fails c at) = true
  known (Asks q next) = is_some (ask q) && known (next (said (ask q)))
  known (Meets t next) = known next

  grew : (j : Judgement A) (met : List Term) → Grew met (run j met).met
  grew (Gives a) met = record { more = []; is = sym (append-nil met) }
  grew (Fails c at) met = record { more = []; is = sym (append-nil met) }
  grew (Asks q next) met = grew (next (said (ask q))) met
  grew (Meets t next) met =
      let g = grew next (met ++ t ∷ []) in
      record { more = t ∷ g.more; is = subst (λ l. (run next (met ++ t ∷ [])).met ≡ l) (after met t g.more) g.is }

  module _ (defs : Definitions) (says : Says defs ask) where
    answered : (q : Question) (next : Bool → Judgement A) (met : List Term) (o : Option Bool) → ask q ≡ o → is_some o && known (next (said o)) ≡ true
        → FewTypes defs (run (next (said o)) met).met
        → ((b : Bool) → known (next b) ≡ true → FewTypes defs (run (next b) met).met → Comes defs (next b) met (run (next b) met))
        → (Holds defs q × Comes defs (next true) met (run (next (said o)) met)) ⊎ ((Holds defs q → ⊥) × Comes defs (next false) met (run (next (said o)) met))
    answered q next met None e k f ih = cc
    answered q next met (Some true) e k f ih = inl (says q true e, ih true k f)
    answered q next met (Some false) e k f ih = inr (says q false e, ih false k f)

    pub comes : (j : Judgement A) (met : List Term) → known j ≡ true → FewTypes defs (run j met).met → Comes defs j met (run j met)
    comes (Gives a) met k f = refl
    comes (Fails c at) met k f = refl
    comes (Asks q next) met k f = answered q next met (ask q) refl k f (λ b. comes (next b) met)
    comes (Meets t next) met k f =
        let g = grew next (met ++ t ∷ []) in
        inl (fewer defs (met ++ t ∷ []) g.more (subst (λ l. FewTypes defs l) g.is f), comes next (met ++ t ∷ []) k f)
