-- The greatest of several types.
use Rattle.std.proofs.Common.{inl, inr, ℕ, Bool, true, false, List, [], ◌∷◌, map, refl, subst}
use Rattle.mo_types.specs.Sub.{Each, IsSubtype}
use Rattle.subtype_laws.specs.Reached.{Among}
use Rattle.typing_rules.specs.declared.condition.Condition.{Condition}
use Rattle.typing_rules.specs.Answers.{Holds}
use Rattle.typing_rules.specs.Definitions.{Definitions}
use Rattle.typing_rules.specs.Ends.{FirstAbove, Greatest}
use Rattle.typing_rules.specs.Heads.{head}
use Rattle.typing_rules.specs.Judgements.{Question, IsBelow, Judgement, AsksAll}
use Rattle.typing_rules.specs.Terms.{Term}
use Rattle.desugaring_laws.specs.Yields.{Yields}

module _ (defs : Definitions) (terms : List Term) where
  pub asks_all : {A : Type 0} (qs : List Question) (k : Bool → Judgement A) (P : A → Type 0) → (Each (Holds defs) qs → Yields defs terms (k true) P) → Yields defs terms (k false) P → Yields defs terms (AsksAll qs k) P
  asks_all [] k P f n = f tt
  asks_all (q ∷ qs) k P f n = (λ h. asks_all qs k P (λ hs. f (h, hs)) n, λ no. n)

  -- one of these types, above all of them
  pub record IsGreatest (all : List Term) (u : Term) : Type 0 where
    pub among : Among u all
    pub above : (v : Term) → Among v all → IsSubtype (head defs) v u

  all_below : (us : List Term) (u : Term) → Each (Holds defs) (map (λ v. IsBelow v u) us) → (v : Term) → Among v us → IsSubtype (head defs) v u
  all_below [] u h v m = absurd m
  all_below (x ∷ us) u h v (inl e) = subst (λ z. IsSubtype (head defs) z u) e h.0
  all_below (x ∷ us) u h v (inr m) = all_below us u h.1 v m

  first_above : (c : Condition) (at : ℕ) (all us : List Term) → ((u : Term) → Among u us → Among u all) → Yields defs terms (FirstAbove c at all us) (IsGreatest all)
  first_above c at all [] h = tt
  first_above c at all (u ∷ us) h =
      asks_all (map (λ v. IsBelow v u) all) _ (IsGreatest all) (λ hs. record { among = h u (inl refl); above = all_below all u hs }) (first_above c at all us (λ v m. h v (inr m)))

  pub greatest : (c : Condition) (at : ℕ) (us : List Term) → Yields defs terms (Greatest c at us) (IsGreatest us)
  greatest c at us = first_above c at us us (λ u m. m)
