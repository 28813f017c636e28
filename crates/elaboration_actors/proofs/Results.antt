-- Where an execution follows another, each of its results is one of the other.
use Rattle.std.proofs.Common.{◌≡◌, ℕ, zero, suc, ◌+◌, ◌*◌, ◌≤◌, refl, sym, ap, ◌∙◌, subst, List, [], ◌++◌, length, Option, Some, None, arith}
use Rattle.std.proofs.Math.Nat.{mul-add, mul-le-mul_right}
use Rattle.mo_actor.specs.Executions.{Completion, Completes, Traps, Execution, ReadingCost, trapping, at_once, after_reading}
use Rattle.mo_actor.specs.Measures.{Measure}
use Rattle.mo_actor.specs.Results.{Result, Completed, Trapped, Exhausted, IsPrefix, HasResult}
use Rattle.mo_actor.specs.Passes.{AlikeResults}
use Rattle.core_laws.proofs.ComesOut.{Covers}
use Rattle.elaboration.proofs.Coming.{assoc}
use Rattle.elaboration_actors.specs.Ends.{HasEnd}
use Rattle.elaboration_actors.specs.Bodies.{CompletionsBelong, ProgressBelongs, Follows}

prefixes : {A : Type 0} (a b c : List A) → IsPrefix a b → IsPrefix b c → IsPrefix a c
prefixes a b c h i = (h.0 ++ i.0, i.1 ∙ (ap (λ x. x ++ i.0) (h.1) ∙ assoc a (h.0) (i.0)))

module _ (times : ℕ) {A B : Type 0} (Both : A → B → Type 0) (pays_old pays_new : Measure) (first charged memory charged_new : ℕ) (covers : Covers times pays_old pays_new first charged memory charged_new)
    (x : Execution A) (y : Execution B) (follows : Follows times Both x y) where
  abbrev pub Out : Result A → Result B → Type 0
  Out = AlikeResults (λ w w' a b. (w' ≤ times * w) × Both a b)

  abbrev Comes : Result B → Type 0
  Comes r = (o : Result A) × HasResult pays_old first charged x o × Out o r

  completed : (prints : List (List ℕ)) (weight : ℕ) (b : B) (n : ℕ) → (x n).prints ≡ prints → weight ≤ times * (x n).weight → (c : Option (Completion A)) → (x n).completion ≡ c
      → CompletionsBelong times Both c (Some (Completes b)) → Comes (Completed prints weight b)
  completed prints weight b n p w None z h = absurd h
  completed prints weight b n p w (Some (Traps text)) z h = absurd h
  completed prints weight b n p w (Some (Completes a)) z h = (
    Completed (x n).prints (x n).weight a,
    (n, (x n).depth, ap (λ c. record { prints = (x n).prints; weight = (x n).weight; depth = (x n).depth; completion = c }) z),
    (p, (w, h)),
  )

  trapped : (prints : List (List ℕ)) (text : List ℕ) (n : ℕ) → (x n).prints ≡ prints → (c : Option (Completion A)) → (x n).completion ≡ c → CompletionsBelong times Both c (Some (Traps text)) → Comes (Trapped prints text)
  trapped prints text n p None z h = absurd h
  trapped prints text n p (Some (Completes a)) z h = absurd h
  trapped prints text n p (Some (Traps said)) z h = (Trapped (x n).prints said, (n, refl, z), (p, sym h))

  pub comes_out : (r : Result B) → HasResult pays_new memory charged_new y r → Comes r
  comes_out (Completed prints weight b) h =
      let f = follows (h.0) in
      let al : ProgressBelongs times Both (x (f.0)) (record { prints = prints; weight = weight; depth = h.1; completion = Some (Completes b) }) = subst (λ p. ProgressBelongs times Both (x (f.0)) p) (h.2) (f.1) in
      completed prints weight b (f.0) (sym al.whole) al.weight (x (f.0)).completion refl al.completion
  comes_out (Trapped prints text) h =
      let f = follows (h.0) in
      by (f.0) (f.1) (y (h.0)).completion refl (h.2)
    where
      by : (n : ℕ) → ProgressBelongs times Both (x n) (y (h.0)) → (c : Option (Completion B)) → (y (h.0)).completion ≡ c → c ≡ Some (Traps text) → Comes (Trapped prints text)
      by n al c is e =
          let z : ProgressBelongs times Both (x n) (record { prints = (y (h.0)).prints; weight = (y (h.0)).weight; depth = (y (h.0)).depth; completion = Some (Traps text) }) =
          subst (λ c. ProgressBelongs times Both (x n) (record { prints = (y (h.0)).prints; weight = (y (h.0)).weight; depth = (y (h.0)).depth; completion = c })) (is ∙ e) al in
          trapped prints text n (sym z.whole ∙ h.1) (x n).completion refl z.completion
  comes_out (Exhausted prints cause) h =
      let f = follows (h.0) in
      let al : ProgressBelongs times Both (x (f.0)) (y (h.0)) = f.1 in (
        Exhausted prints cause,
        (f.0, h.1, prefixes prints (y (h.0)).prints (x (f.0)).prints (h.2) al.begun, covers cause (x (f.0)).weight (x (f.0)).depth (y (h.0)).weight (y (h.0)).depth al.weight al.depth (h.3)),
        (refl, refl),
      )

-- ---- what comes before an execution, or in its place

before : (w' c x y z : ℕ) → w' ≤ x → 1 * c ≤ y → z ≡ y + x → c + w' ≤ z
before w' c x y z h b a = omega (arith, h, b, a)

module _ (times : ℕ) (one : 1 ≤ times) {A B : Type 0} (Both : A → B → Type 0) where
  pub trapping_follows : (text : List ℕ) → Follows times Both (trapping text) (trapping text)
  trapping_follows text zero = (zero, record { begun = ([], refl); whole = tt; weight = omega arith; depth = omega arith; completion = tt })
  trapping_follows text (suc k) =
      (suc k, record { begun = ([], refl); whole = refl; weight = (let z : 1 * (1 + length text) ≤ times * (1 + length text) = mul-le-mul_right (1 + length text) one in omega (arith, z)); depth = omega arith; completion = refl })

  pub at_once_follows : (a : A) (b : B) → Both a b → Follows times Both (at_once (Completes a)) (at_once (Completes b))
  at_once_follows a b both k = (k, record { begun = ([], refl); whole = refl; weight = omega arith; depth = omega arith; completion = both })

  pub reading_follows : (cost : ReadingCost) (x : Execution A) (y : Execution B) → Follows times Both x y → Follows times Both (after_reading cost x) (after_reading cost y)
  reading_follows cost x y h k =
      let f = h k in
      let al : ProgressBelongs times Both (x (f.0)) (y k) = f.1 in
      let dl = al.depth in (
        f.0,
        record {
          begun = al.begun;
          whole = al.whole;
          weight = before (y k).weight cost.weight (times * (x (f.0)).weight) (times * cost.weight) (times * (cost.weight + (x (f.0)).weight)) al.weight (mul-le-mul_right cost.weight one) (mul-add times cost.weight (x (f.0)).weight);
          depth = omega (arith, dl);
          completion = al.completion;
        },
      )

-- ---- ends

pub trapping_ends : {A : Type 0} (text : List ℕ) → HasEnd {A = A} (trapping text)
trapping_ends text = (1, Traps text, refl)
