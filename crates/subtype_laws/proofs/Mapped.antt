-- A map of types under which heads correspond keeps subtyping.
use Rattle.std.proofs.Common.{◌≡◌, ℕ, refl, subst}
use Rattle.mo_types.specs.declared.node.Node.{Node}
use Rattle.mo_types.specs.Sub.{Sub}
use Rattle.subtype_laws.specs.Renamed.{Corresponds}
use Rattle.subtype_laws.proofs.Renamed.{Turned, turned, sub_go}

module _ {A B : Type 0} (head : A → Node A) (other : B → Node B) (f : A → B) (same : (a : A) → Corresponds (λ c d. f c ≡ d) (head a) (other (f a))) where
  abbrev Is : A → B → Type 0
  Is a b = f a ≡ b

  each : (a : A) (b : B) → Is a b → Corresponds Is (head a) (other b)
  each a b e = subst (λ b. Corresponds Is (head a) (other b)) e (same a)

  pub there : (n : ℕ) (t u : A) → Sub head n t u → Sub other n (f t) (f u)
  there n t u h = sub_go Is head other each n t u (f t) (f u) refl refl h

  pub back : (n : ℕ) (t u : A) → Sub other n (f t) (f u) → Sub head n t u
  back n t u h = sub_go (Turned Is) other head (λ b a r. turned Is (head a) (other b) (each a b r)) n (f t) (f u) t u refl refl h
