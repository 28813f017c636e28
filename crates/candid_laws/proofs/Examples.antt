-- Types that are sound.
use Rattle.std.proofs.Common.{◌≡◌, ℕ, zero, suc, List, [], ◌∷◌, Some, None, length, ap, arith}
use Rattle.mo_types.specs.declared.wire.Ref.{Ref}
use Rattle.mo_types.specs.declared.wire.Ref.TheVariants.{Of}
use Rattle.mo_types.specs.Wire.{wire}
use Rattle.mo_types.specs.Header.{Visits, Done, Skip, New, IsKnown}
use Rattle.mo_types.specs.Examples.{list_head}
use Rattle.mo_types.proofs.Candid.{list_visited}
use Rattle.candid_laws.specs.Examples.{result_head}
use Rattle.candid_laws.specs.Sound.{IsWellLabelled, AreSound}
use Rattle.candid_laws.proofs.Unique.{one_order}

pub list_sound : AreSound list_head (0 ∷ [])
list_sound = record {
  sound = λ t r. sound t;
  few = λ order v. let e : 2 ≡ length order = ap (λ (l : List (Ref ℕ)). length l) (one_order (wire list_head) (Of 0 ∷ []) (Of 0 ∷ Of 1 ∷ []) order list_visited v) in omega arith;
}
  where
    sound : (t : ℕ) → IsWellLabelled list_head (list_head t)
    sound zero = tt
    sound (suc zero) = tt
    sound (suc (suc t)) = tt

none_known : IsKnown (wire result_head) [] (Of 0) → ⊥
none_known k = let f : None ≡ Some k.1.other = k.1.there in cc

result_visited : Visits (wire result_head) [] (Of 0 ∷ []) (Of 0 ∷ [])
result_visited = New (Of 0) (λ h. h) none_known (Skip (Of 3) tt (Skip (Of 2) tt Done))

pub result_sound : AreSound result_head (0 ∷ [])
result_sound = record {
  sound = λ t r. sound t;
  few = λ order v. let e : 1 ≡ length order = ap (λ (l : List (Ref ℕ)). length l) (one_order (wire result_head) (Of 0 ∷ []) (Of 0 ∷ []) order result_visited v) in omega arith;
}
  where
    sound : (t : ℕ) → IsWellLabelled result_head (result_head t)
    sound zero = ((λ e. omega (arith, e), tt), (tt, tt))
    sound (suc t) = tt
