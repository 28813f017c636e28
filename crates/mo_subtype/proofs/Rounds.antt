-- Rounds of a search: after k rounds the question holds to depth k + n exactly where all of the list hold to depth n.
use Rattle.std.proofs.Common.{◌≡◌, ℕ, zero, suc, ◌+◌, ◌<◌, ◌-◌, List, [], ◌∷◌, Option, Some, None, refl, subst, arith}
use Rattle.std.specs.Prelude.{slice_get}
use Rattle.mo_types.specs.declared.node.Node.{Node}
use Rattle.mo_types.specs.Sub.{AtSome, Each, Sub}
use Rattle.mo_subtype.specs.declared.pairs.Pair.{Pair}
use Rattle.mo_subtype.specs.Questions.{pair, asked}
use Rattle.mo_subtype.proofs.Questions.{Holds, node_to, node_from, each_map}

module _ {A : Type 0} (head : A → Node A) where
  pub sub_to : (n : ℕ) (q : Pair A) → Sub head (suc n) q.low q.high → AtSome (asked head q) (Each (Holds (Sub head n)))
  unfolding Sub
  sub_to n q h = node_to A (Sub head n) q.high (head q.low) (head q.high) h

  pub sub_from : (n : ℕ) (q : Pair A) → AtSome (asked head q) (Each (Holds (Sub head n))) → Sub head (suc n) q.low q.high
  unfolding Sub
  sub_from n q h = node_from A (Sub head n) q.high (head q.low) (head q.high) h

  pub sub_zero : (t u : A) → Sub head zero t u
  unfolding Sub
  sub_zero t u = tt

  at_map : {X : Type 0} (o : Option X) (P Q : X → Type 0) → ((x : X) → P x → Q x) → AtSome o P → AtSome o Q
  at_map None P Q f h = h
  at_map (Some x) P Q f h = f x h

  -- a lesser depth holds with a greater one
  pub sub_less : (n : ℕ) (t u : A) → Sub head (suc n) t u → Sub head n t u
  sub_less zero t u h = sub_zero t u
  sub_less (suc n) t u h =
      sub_from n (pair t u) (at_map (asked head (pair t u)) (Each (Holds (Sub head (suc n)))) (Each (Holds (Sub head n))) (λ qs. each_map (Holds (Sub head (suc n))) (Holds (Sub head n)) (λ q. sub_less n q.low q.high) qs) (sub_to (suc n) (pair t u) h))

  pub sub_down : (m k : ℕ) (t u : A) → Sub head (k + m) t u → Sub head m t u
  sub_down m zero t u h = let e : 0 + m ≡ m = omega arith in subst (λ n. Sub head n t u) e h
  sub_down m (suc k) t u h = let e : suc k + m ≡ suc (k + m) = omega arith in sub_down m k t u (sub_less (k + m) t u (subst (λ n. Sub head n t u) e h))

-- the question holds to depth k + n exactly where the list holds to depth n
pub record Round {A : Type 0} (head : A → Node A) (k : ℕ) (low high : A) (qs : List (Pair A)) : Type 0 where
  pub to : (n : ℕ) → Sub head (k + n) low high → Each (Holds (Sub head n)) qs
  pub back : (n : ℕ) → Each (Holds (Sub head n)) qs → Sub head (k + n) low high

module _ {A : Type 0} (head : A → Node A) where
  at_each : (n : ℕ) (qs : List (Pair A)) (q : Pair A) (i : ℕ) → slice_get qs i ≡ Some q → Each (Holds (Sub head n)) qs → Sub head n q.low q.high
  at_each n [] q i e h = cc
  at_each n (x ∷ qs) q zero e h = let f : Some x ≡ Some q = e in let g : x ≡ q = cc in subst (Holds (Sub head n)) g h.0
  at_each n (x ∷ qs) q (suc i) e h = at_each n qs q i e h.1

  each_in : (P : Pair A → Type 0) (qs : List (Pair A)) → ((q : Pair A) (i : ℕ) → slice_get qs i ≡ Some q → P q) → Each P qs
  each_in P [] f = tt
  each_in P (q ∷ qs) f = (f q 0 refl, each_in P qs (λ r i e. f r (suc i) e))

  some_all : (o : Option (List (Pair A))) (P Q : Pair A → Type 0) → ((q : Pair A) → P q → Q q) → AtSome o (Each P) → AtSome o (Each Q)
  some_all None P Q f h = h
  some_all (Some qs) P Q f h = each_map P Q f qs h

  pub first : (low high : A) → Round head 0 low high (pair low high ∷ [])
  first low high = record {
    to = λ n h. (let e : 0 + n ≡ n = omega arith in subst (λ m. Sub head m low high) e h, tt);
    back = λ n h. let e : n ≡ 0 + n = omega arith in subst (λ m. Sub head m low high) e h.0;
  }

  -- what a round finds of a list: it leads into the next list, which holds nothing else
  pub record Next (old new : List (Pair A)) : Type 0 where
    pub kept : (q : Pair A) (i : ℕ) → slice_get old i ≡ Some q → AtSome (asked head q) (Each (λ r. (j : ℕ) × (slice_get new j ≡ Some r)))
    pub found : (n : ℕ) → Each (Holds (Sub head (suc n))) old → Each (Holds (Sub head n)) new

  pub next : (k : ℕ) (low high : A) (old new : List (Pair A)) → Round head k low high old → Next old new → Round head (suc k) low high new
  next k low high old new r s = record {
    to = λ n h. let e : suc k + n ≡ k + suc n = omega arith in s.found n (r.to (suc n) (subst (λ m. Sub head m low high) e h));
    back = λ n h. let e : k + suc n ≡ suc k + n = omega arith in
        subst (λ m. Sub head m low high) e (r.back (suc n)
        (each_in (Holds (Sub head (suc n))) old (λ q i e. sub_from head n q
        (some_all (asked head q) (λ r. (j : ℕ) × (slice_get new j ≡ Some r)) (Holds (Sub head n)) (λ r j. at_each n new r j.0 j.1 h) (s.kept q i e)))));
  }

  each_zero : (qs : List (Pair A)) → Each (Holds (Sub head 0)) qs
  each_zero [] = tt
  each_zero (q ∷ qs) = (sub_zero head q.low q.high, each_zero qs)

  -- a clash in round k refutes depth k + 1, and no less
  pub clash : (k : ℕ) (low high : A) (qs : List (Pair A)) (q : Pair A) (i : ℕ) → Round head k low high qs → slice_get qs i ≡ Some q → asked head q ≡ None → Sub head (suc k) low high → ⊥
  clash k low high qs q i r e c h =
      let g : suc k ≡ k + 1 = omega arith in
      let s : Sub head 1 q.low q.high = at_each 1 qs q i e (r.to 1 (subst (λ m. Sub head m low high) g h)) in
      let a : AtSome (asked head q) (Each (Holds (Sub head 0))) = sub_to head 0 q s in
      subst (λ o. AtSome o (Each (Holds (Sub head 0)))) c a

  pub below_clash : (k : ℕ) (low high : A) (qs : List (Pair A)) → Round head k low high qs → (m : ℕ) → m < suc k → Sub head m low high
  below_clash k low high qs r m l =
      let e : k + 0 ≡ (k - m) + m = omega arith in
      sub_down head m (k - m) low high (subst (λ j. Sub head j low high) e (r.back 0 (each_zero qs)))

  -- a closed list holds at each depth
  pub closed : (qs : List (Pair A)) → ((q : Pair A) (i : ℕ) → slice_get qs i ≡ Some q → AtSome (asked head q) (Each (λ r. (j : ℕ) × (slice_get qs j ≡ Some r)))) → (n : ℕ) (q : Pair A) (i : ℕ) → slice_get qs i ≡ Some q → Sub head n q.low q.high
  closed qs c zero q i e = sub_zero head q.low q.high
  closed qs c (suc n) q i e = sub_from head n q (some_all (asked head q) (λ r. (j : ℕ) × (slice_get qs j ≡ Some r)) (Holds (Sub head n)) (λ r j. closed qs c n r j.0 j.1) (c q i e))
