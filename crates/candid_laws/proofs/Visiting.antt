-- What a visit meets: types with parts, that are reached.
use Rattle.std.proofs.Common.{◌≡◌, ℕ, zero, suc, List, [], ◌∷◌, ◌++◌, Some, slice_get, refl, subst}
use Rattle.mo_types.specs.declared.wire.Wire.{Wire}
use Rattle.mo_types.specs.Sub.{Each}
use Rattle.mo_types.specs.Header.{IsSimple, parts_of, Visits, Done, Skip, Old, New}
use Rattle.candid_laws.specs.Sound.{Reached, Root, Part}

pub each_join : {X : Type 0} (P : X → Type 0) (xs ys : List X) → Each P xs → Each P ys → Each P (xs ++ ys)
each_join P [] ys h k = k
each_join P (x ∷ xs) ys h k = (h.0, each_join P xs ys h.1 k)

-- what holds of each place holds of each
pub each_of : {X : Type 0} (P : X → Type 0) (xs : List X) → ((i : ℕ) (x : X) → slice_get xs i ≡ Some x → P x) → Each P xs
each_of P [] h = tt
each_of P (x ∷ xs) h = (h 0 x refl, each_of P xs (λ i y e. h (suc i) y e))

pub each_at : {X : Type 0} (P : X → Type 0) (xs : List X) (i : ℕ) (x : X) → Each P xs → slice_get xs i ≡ Some x → P x
each_at P [] i x h e = cc
each_at P (y ∷ ys) zero x h e = let f : Some y ≡ Some x = e in let g : y ≡ x = cc in subst P g h.0
each_at P (y ∷ ys) (suc i) x h e = each_at P ys i x h.1 e

module _ {B : Type 0} (head : B → Wire B) (roots : List B) where
  abbrev IsReached : B → Type 0
  IsReached b = Reached head roots b

  -- in an order: a type with parts, that is reached
  abbrev pub IsPlaced : B → Type 0
  IsPlaced b = (IsSimple (head b) → ⊥) × IsReached b

  met : (order todo out : List B) → Each IsPlaced order → Each IsReached todo → Visits head order todo out → Each IsPlaced out
  met order [] out h k Done = h
  met order (t ∷ ts) out h k (Skip _ i v) = met order ts out h k.1 v
  met order (t ∷ ts) out h k (Old _ i v) = met order ts out h k.1 v
  met order (t ∷ ts) out h k (New _ i j v) =
      met (order ++ t ∷ []) (parts_of (head t) ++ ts) out (each_join IsPlaced order (t ∷ []) h ((i, k.0), tt))
      (each_join IsReached (parts_of (head t)) ts (each_of IsReached (parts_of (head t)) (λ n x e. Part n k.0 e)) k.1) v

  pub visited : (out : List B) → Visits head [] roots out → Each IsPlaced out
  visited out v = met [] roots out tt (each_of IsReached roots (λ i x e. Root i e)) v
