-- A few steps lead from one configuration to another, on which nothing is asked of values.
use Rattle.std.proofs.Common.{◌≡◌, ◌⊎◌, inl, inr, ℕ, zero, suc, ◌+◌, ◌≤◌, refl, ap, ◌∙◌, arith}
use Rattle.mo_meaning.specs.Configurations.{Surroundings}
use Rattle.mo_machine.specs.Configurations.{Configuration, Still}
use Rattle.mo_machine.specs.Turns.{step, steps, then_steps}
use Rattle.elaboration_steps.specs.Stacks.{owed}
use Rattle.elaboration_runs.specs.Whole.{Serves}

module _ (s : Surroundings) where
  pub data Leads : Configuration → Configuration → Type 0 where
    Here : (c : Configuration) → Leads c c
    Then : (c c1 c2 : Configuration) → step s c ≡ Still c1 → Serves c → c.weight ≤ c1.weight → c.depth ≤ c1.depth → c1.prints ≡ c.prints → owed c.stack ≡ 0 → Leads c1 c2 → Leads c c2

  -- on the way it is no more than there
  pub record Before (c c2 : Configuration) : Type 0 where
    pub serves : Serves c
    pub light : c.weight ≤ c2.weight
    pub shallow : c.depth ≤ c2.depth
    pub prints : c2.prints ≡ c.prints
    pub owes : owed c.stack ≡ 0

  grows : (c c2 : Configuration) → Leads c c2 → (c.weight ≤ c2.weight) × (c.depth ≤ c2.depth) × (c2.prints ≡ c.prints)
  grows c c2 (Here x) = (omega arith, omega arith, refl)
  grows c c2 (Then x c1 y e h w d p o l) =
      let r = grows c1 c2 l in
      let a : c1.weight ≤ c2.weight = r.0 in
      let b : c1.depth ≤ c2.depth = r.1 in
      (omega (arith, w, a), omega (arith, d, b), r.2 ∙ p)

  pub on_the_way : (i : ℕ) (c c2 : Configuration) → Leads c c2 → ((c1 : Configuration) × (steps s i c ≡ Still c1) × Before c1 c2) ⊎ ((j : ℕ) × (steps s i c ≡ steps s j c2))
  on_the_way i c c2 (Here x) = inr (i, refl)
  on_the_way zero c c2 (Then x c1 y e h w d p o l) =
      let r = grows c c2 (Then x c1 y e h w d p o l) in
      inl (c, refl, record { serves = h; light = r.0; shallow = r.1; prints = r.2; owes = o })
  on_the_way (suc i) c c2 (Then x c1 y e h w d p o l) = by (on_the_way i c1 c2 l)
    where
      by : ((c3 : Configuration) × (steps s i c1 ≡ Still c3) × Before c3 c2) ⊎ ((j : ℕ) × (steps s i c1 ≡ steps s j c2)) → ((c3 : Configuration) × (steps s (suc i) c ≡ Still c3) × Before c3 c2) ⊎ ((j : ℕ) × (steps s (suc i) c ≡ steps s j c2))
      by (inl r) = inl (r.0, ap (then_steps s (steps s i)) e ∙ r.1, r.2)
      by (inr r) = inr (r.0, ap (then_steps s (steps s i)) e ∙ r.1)

  pub leads_steps : (c c2 : Configuration) → Leads c c2 → (j : ℕ) × ((m : ℕ) → steps s (j + m) c ≡ steps s m c2)
  leads_steps c c2 (Here x) = (0, λ m. ap (λ i. steps s i c) (let z : 0 + m ≡ m = omega arith in z))
  leads_steps c c2 (Then x c1 y e h w d p o l) =
      let r = leads_steps c1 c2 l in
      (suc (r.0), λ m. ap (λ i. steps s i c) (let z : suc (r.0) + m ≡ suc (r.0 + m) = omega arith in z) ∙ (ap (then_steps s (steps s (r.0 + m))) e ∙ r.1 m))
