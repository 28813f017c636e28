-- What holds to a depth holds to each lesser one.
use Rattle.std.proofs.Common.{◌≡◌, ◌≤◌, ◌+◌, ◌-◌, ℕ, zero, suc, subst, arith}
use Rattle.mo_types.specs.declared.node.Node.{Node}
use Rattle.mo_types.specs.Sub.{Sub}
use Rattle.subtype_laws.proofs.Monotone.{node_map}

module _ {A : Type 0} (head : A → Node A) where
  pub sub_less : (n : ℕ) (t u : A) → Sub head (suc n) t u → Sub head n t u
  unfolding Sub
  sub_less zero t u h = tt
  sub_less (suc n) t u h = node_map (Sub head (suc n)) (Sub head n) (sub_less n) u (head t) (head u) h

  sub_down : (k m : ℕ) (t u : A) → Sub head (k + m) t u → Sub head m t u
  sub_down zero m t u h = let e : 0 + m ≡ m = omega arith in subst (λ n. Sub head n t u) e h
  sub_down (suc k) m t u h = let e : suc k + m ≡ suc (k + m) = omega arith in sub_down k m t u (sub_less (k + m) t u (subst (λ n. Sub head n t u) e h))

  pub lesser : (m n : ℕ) (t u : A) → m ≤ n → Sub head n t u → Sub head m t u
  lesser m n t u l h = let e : n ≡ (n - m) + m = omega arith in sub_down (n - m) m t u (subst (λ k. Sub head k t u) e h)
