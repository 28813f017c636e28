-- What holds of every open call, through each change of their list.
use Rattle.std.proofs.Common.{◌≡◌, ℕ, Bool, true, false, not, cond, List, [], ◌∷◌, ◌++◌, Some, subst, nat_eq, find}
use Rattle.std.specs.List.{AllByRecursion}
use Rattle.canister_host.specs.declared.calls.OpenCall.{OpenCall}
use Rattle.actor_refinement.specs.Simulates.{others_open}

module _ (P : OpenCall → Type 0) where
  pub one_more : (waiting : List OpenCall) (o : OpenCall) → AllByRecursion P waiting → P o → AllByRecursion P (waiting ++ o ∷ [])
  one_more [] o all is = (is, tt)
  one_more (w ∷ waiting) o all is = (all.0, one_more waiting o all.1 is)

  pub one_fewer : (number : ℕ) (waiting : List OpenCall) → AllByRecursion P waiting → AllByRecursion P (others_open number waiting)
  one_fewer number [] all = tt
  one_fewer number (w ∷ waiting) all = by (not (nat_eq w.number number)) (one_fewer number waiting all.1)
    where
      by : (b : Bool) → AllByRecursion P (others_open number waiting) → AllByRecursion P (cond b (w ∷ others_open number waiting) (others_open number waiting))
      by true rest = (all.0, rest)
      by false rest = rest

  pub one_found : (number : ℕ) (waiting : List OpenCall) (o : OpenCall) → AllByRecursion P waiting → find (λ w. nat_eq w.number number) waiting ≡ Some o → P o
  one_found number [] o all e = absurd (cc)
  one_found number (w ∷ waiting) o all e = by (nat_eq w.number number) (λ q. one_found number waiting o all.1 q) e
    where
      by : (b : Bool) → (find (λ w. nat_eq w.number number) waiting ≡ Some o → P o) → cond b (Some w) (find (λ w. nat_eq w.number number) waiting) ≡ Some o → P o
      by true next e = let same : w ≡ o = cc in subst P same all.0
      by false next e = next e
