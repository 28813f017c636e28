-- What a judgement with a part comes to.
use Rattle.std.proofs.Common.{◌≡◌, inl, inr, Bool, true, false, List, [], ◌∷◌, ◌++◌, Ok, Err, refl, sym, ap, ◌∙◌, subst}
use Rattle.typing_rules.specs.declared.condition.Condition.TheVariants as condition
use Rattle.typing_rules.specs.Terms.{Term}
use Rattle.typing_rules.specs.Definitions.{Definitions}
use Rattle.typing_rules.specs.Counts.{FewTypes}
use Rattle.typing_rules.specs.Judgements.{Question, Judgement, Gives, Fails, Asks, Meets, Part}
use Rattle.typing_rules.specs.Answers.{Fault, fault, Answer, answer, Holds, Comes}
use Rattle.typing_rules.specs.Parted.{Parted}

same_answer : {A : Type 0} (p q : Answer A) → p.is ≡ q.is → p.met ≡ q.met → p ≡ q
same_answer p q e f = ap (λ r. answer r p.met) e ∙ ap (λ ts. answer q.is ts) f

gave : {B : Type 0} (b c : B) (ts us : List Term) → answer (Ok b) ts ≡ answer (Ok c) us → b ≡ c
gave b c ts us e = let h : Ok b ≡ Ok c = ap (λ z. z.is) e in cc

apart : {B : Type 0} (b : B) (f : Fault) (ts us : List Term) → answer (Ok b) ts ≡ answer (Err f) us → ⊥
apart b f ts us e = let h : Ok b ≡ Err f = ap (λ z. z.is) e in cc

failed : {B : Type 0} (f g : Fault) (ts us : List Term) → answer {A = B} (Err f) ts ≡ answer (Err g) us → f ≡ g
failed f g ts us e = let h : Err f ≡ Err g = ap (λ z. z.is) e in cc

module _ {A B : Type 0} (defs : Definitions) (k : B → Judgement A) where
  yes : (q : Question) (next : Bool → Judgement B) (met : List Term) (r : Answer A) → Holds defs q → Parted defs (next true) k met r → Parted defs (Asks q next) k met r
  yes q next met r h (inl x) = inl (x.0, x.1, inl (h, x.2), x.3)
  yes q next met r h (inr x) = inr (x.0, inl (h, x.1), x.2)

  no : (q : Question) (next : Bool → Judgement B) (met : List Term) (r : Answer A) → (Holds defs q → ⊥) → Parted defs (next false) k met r → Parted defs (Asks q next) k met r
  no q next met r h (inl x) = inl (x.0, x.1, inr (h, x.2), x.3)
  no q next met r h (inr x) = inr (x.0, inr (h, x.1), x.2)

  few : (t : Term) (next : Judgement B) (met : List Term) (r : Answer A) → FewTypes defs (met ++ t ∷ []) → Parted defs next k (met ++ t ∷ []) r → Parted defs (Meets t next) k met r
  few t next met r h (inl x) = inl (x.0, x.1, inl (h, x.2), x.3)
  few t next met r h (inr x) = inr (x.0, inl (h, x.1), x.2)

  pub part_to : (j : Judgement B) (met : List Term) (r : Answer A) → Comes defs (Part j k) met r → Parted defs j k met r
  part_to (Gives b) met r x = inl (b, met, refl, x)
  part_to (Fails c at) met r x = inr (fault c at, ap (λ z. answer (Err (fault c at)) z.met) x, ap (λ z. z.is) x)
  part_to (Asks q next) met r (inl x) = yes q next met r x.0 (part_to (next true) met r x.1)
  part_to (Asks q next) met r (inr x) = no q next met r x.0 (part_to (next false) met r x.1)
  part_to (Meets t next) met r (inl x) = few t next met r x.0 (part_to next (met ++ t ∷ []) r x.1)
  part_to (Meets t next) met r (inr x) =
      inr (fault condition.TooManyTypes 0, inr (x.0, ap (λ z. answer (Err (fault condition.TooManyTypes 0)) z.met) x.1), ap (λ z. z.is) x.1)

  pub part_from : (j : Judgement B) (met : List Term) (r : Answer A) → Parted defs j k met r → Comes defs (Part j k) met r
  part_from (Gives b) met r (inl x) = subst (λ c. Comes defs (k c) met r) (gave x.0 b x.1 met x.2) (subst (λ z. Comes defs (k x.0) z.met r) x.2 x.3)
  part_from (Gives b) met r (inr x) = absurd (apart b x.0 met r.met (sym x.1))
  part_from (Fails c at) met r (inl x) = absurd (apart x.0 (fault c at) x.1 met x.2)
  part_from (Fails c at) met r (inr x) = same_answer r (answer (Err (fault c at)) met) (x.2 ∙ ap (λ f. Err f) (failed x.0 (fault c at) r.met met x.1)) (ap (λ z. z.met) x.1)
  part_from (Asks q next) met r (inl (b, later, inl h, y)) = inl (h.0, part_from (next true) met r (inl (b, later, h.1, y)))
  part_from (Asks q next) met r (inl (b, later, inr h, y)) = inr (h.0, part_from (next false) met r (inl (b, later, h.1, y)))
  part_from (Asks q next) met r (inr (f, inl h, y)) = inl (h.0, part_from (next true) met r (inr (f, h.1, y)))
  part_from (Asks q next) met r (inr (f, inr h, y)) = inr (h.0, part_from (next false) met r (inr (f, h.1, y)))
  part_from (Meets t next) met r (inl (b, later, inl h, y)) = inl (h.0, part_from next (met ++ t ∷ []) r (inl (b, later, h.1, y)))
  part_from (Meets t next) met r (inl (b, later, inr h, y)) = absurd (apart b (fault condition.TooManyTypes 0) later (met ++ t ∷ []) h.1)
  part_from (Meets t next) met r (inr (f, inl h, y)) = inl (h.0, part_from next (met ++ t ∷ []) r (inr (f, h.1, y)))
  part_from (Meets t next) met r (inr (f, inr h, y)) = inr (h.0, same_answer r (answer (Err (fault condition.TooManyTypes 0)) (met ++ t ∷ [])) (y ∙ ap (λ g. Err g) (failed f (fault condition.TooManyTypes 0) r.met (met ++ t ∷ []) h.1)) (ap (λ z. z.met) h.1))
