-- Where the bounds of type parameters go in a circle, the parameters are below each type, and yet Nat is within their bounds.
use Rattle.std.proofs.Common.{◌≡◌, ◌<◌, inl, inr, ℕ, zero, suc, List, [], ◌∷◌, Some, refl, sym, subst, arith}
use Rattle.mo_types.specs.declared.node.Node.TheVariants as node
use Rattle.mo_types.specs.declared.node.TypeId.{TypeId}
use Rattle.mo_types.specs.Sub.{IsSubtype, Sub}
use Rattle.typed_tree.specs.Instances.{AreWithinBounds, IsInstance, PutIn, argument_of}
use Rattle.typed_tree.specs.Types.{AreLawful}
use Rattle.mo_soundness.specs.Circle.{at, circle, circle_head}

mutual
  unfolding Sub

  first : (n : ℕ) → Sub circle_head n (at 0) (at 3)
  first zero = tt
  first (suc n) = inr (second n)

  second : (n : ℕ) → Sub circle_head n (at 1) (at 3)
  second zero = tt
  second (suc n) = inr (first n)

pub below_text : IsSubtype circle_head (at 0) (at 3)
below_text = record { by = first }

-- ---- Nat for both

abbrev both : List ℕ
both = 0 ∷ 1 ∷ []

abbrev nats : List TypeId
nats = at 2 ∷ at 2 ∷ []

mutual
  unfolding Sub

  same : (n : ℕ) → Sub circle_head n (at 2) (at 2)
  same zero = tt
  same (suc n) = inr (inl refl)

nat_self : IsSubtype circle_head (at 2) (at 2)
nat_self = record { by = same }

a_becomes : (n : ℕ) → PutIn circle_head both nats n (at 0) (at 2)
unfolding PutIn
a_becomes zero = tt
a_becomes (suc n) = (nat_self, nat_self)

b_becomes : (n : ℕ) → PutIn circle_head both nats n (at 1) (at 2)
unfolding PutIn
b_becomes zero = tt
b_becomes (suc n) = (nat_self, nat_self)

abbrev Fine : ℕ → TypeId → TypeId → Type 0
Fine v t b = (c : TypeId) × IsInstance circle_head both nats b c × IsSubtype circle_head t c

within : (i : ℕ) (b : TypeId) (v : ℕ) (t : TypeId) → circle_head (at i) ≡ node.Variable v b → argument_of both nats v ≡ Some t → Fine v t b
within zero b v t e a =
    let bound : at 1 ≡ b = cc in
    let number : 0 ≡ v = cc in
    let argument : at 2 ≡ t = (let z : Some (at 2) ≡ Some t = subst (λ v. argument_of both nats v ≡ Some t) (sym number) a in cc) in
    (at 2, subst (λ b. IsInstance circle_head both nats b (at 2)) bound (record { by = b_becomes }), subst (λ t. IsSubtype circle_head t (at 2)) argument nat_self)
within (suc zero) b v t e a =
    let bound : at 0 ≡ b = cc in
    let number : 1 ≡ v = cc in
    let argument : at 2 ≡ t = (let z : Some (at 2) ≡ Some t = subst (λ v. argument_of both nats v ≡ Some t) (sym number) a in cc) in
    (at 2, subst (λ b. IsInstance circle_head both nats b (at 2)) bound (record { by = a_becomes }), subst (λ t. IsSubtype circle_head t (at 2)) argument nat_self)
within (suc (suc zero)) b v t e a = cc
within (suc (suc (suc zero))) b v t e a = cc
within (suc (suc (suc (suc i)))) b v t e a = cc

pub nats_within : AreWithinBounds circle_head both nats
nats_within = record { by = λ p b v t e a. within p.index b v t e a }

-- ---- no rank goes down all the way round

pub circles_are_not_lawful : AreLawful circle → ⊥
circles_are_not_lawful lawful =
    let there : lawful.rank 1 < lawful.rank 0 = lawful.bounds_end (at 0) (at 1) (at 0) 0 1 refl refl in
    let back : lawful.rank 0 < lawful.rank 1 = lawful.bounds_end (at 1) (at 0) (at 1) 1 0 refl refl in
    omega (arith, there, back)
