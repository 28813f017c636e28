-- The functions give the shortest spellings.
use Rattle.std.proofs.Common.{◌≡◌, ℕ, zero, suc, ◌+◌, ◌-◌, ◌/◌, ◌%◌, ◌<◌, ◌≤◌, inl, inr, Bool, true, false, List, [], ◌∷◌, length, refl, sym, ap, subst, arith, ℤ, pos, negsuc}
use Rattle.std.specs.Prelude.{nat_lt}
use Rattle.std.proofs.lemmas.Int.{ints}
use Rattle.std.proofs.lemmas.Bool.{ltb-true, ltb-false}
use Rattle.mo_num.specs.Leb.{IsLeb, IsSleb, IsShortestLeb, IsShortestSleb, AppendsLeb, AppendsSleb}
use Rattle.mo_num.proofs.Digits.{leb_more, sleb_more}
use Rattle.mo_coding.specs.Numbers.{leb_by, leb, positive_by, negative_by, sleb}

from_leb : (new : List ℕ) (n : ℕ) → AppendsLeb [] new n → IsShortestLeb new n
from_leb new n a = subst (λ b. IsShortestLeb b n) (sym a.1) a.2

from_sleb : (new : List ℕ) (n : ℤ) → AppendsSleb [] new n → IsShortestSleb new n
from_sleb new n a = subst (λ b. IsShortestSleb b n) (sym a.1) a.2

some_bytes : (n : ℕ) (other : List ℕ) → IsLeb other n → 1 ≤ length other
some_bytes n [] h = absurd h
some_bytes n (b ∷ bs) h = omega arith

one_byte : (n : ℕ) → n < 128 → IsShortestLeb (n ∷ []) n
one_byte n h = record { spells = (h, refl); least = some_bytes n }

shortest_by : (more n : ℕ) → n ≤ more → IsShortestLeb (leb_by more n) n
shortest_by zero n h = one_byte n (omega (arith, h))
shortest_by (suc more) n h = by (nat_lt n 128) refl (shortest_by more (n / 128)) where
  by : (b : Bool) → nat_lt n 128 ≡ b → (n / 128 ≤ more → IsShortestLeb (leb_by more (n / 128)) (n / 128)) → IsShortestLeb (elim b [ true ↦ n ∷ [] | false ↦ (n % 128 + 128) ∷ leb_by more (n / 128) ]) n
  by true e r = one_byte n (ltb-true n 128 e)
  by false e r =
      let big : 128 ≤ n = ltb-false n 128 e in
      from_leb _ n (leb_more [] ((n % 128 + 128) ∷ []) ((n % 128 + 128) ∷ leb_by more (n / 128)) n big refl (leb_by more (n / 128), refl, r (omega (arith, h, big))))

pub shortest_is : (n : ℕ) → IsShortestLeb (leb n) n
shortest_is n = shortest_by n n (omega arith)

-- ---- signed numbers

some_signed : (n : ℤ) (other : List ℕ) → IsSleb other n → 1 ≤ length other
some_signed n [] h = absurd h
some_signed n (b ∷ bs) h = omega arith

positive_byte : (n : ℕ) → n < 64 → IsShortestSleb (n ∷ []) (pos n)
positive_byte n h = record { spells = inl (h, refl); least = some_signed (pos n) }

negative_byte : (n : ℕ) → n < 64 → IsShortestSleb ((127 - n) ∷ []) (negsuc n)
negative_byte n h = record { spells = inr (omega (arith, h), omega (arith, h), omega (arith, ints, h)); least = some_signed (negsuc n) }

positive_is : (more n : ℕ) → n ≤ more → IsShortestSleb (positive_by more n) (pos n)
positive_is zero n h = positive_byte n (omega (arith, h))
positive_is (suc more) n h = by (nat_lt n 64) refl (positive_is more (n / 128)) where
  by : (b : Bool) → nat_lt n 64 ≡ b → (n / 128 ≤ more → IsShortestSleb (positive_by more (n / 128)) (pos (n / 128))) → IsShortestSleb (elim b [ true ↦ n ∷ [] | false ↦ (n % 128 + 128) ∷ positive_by more (n / 128) ]) (pos n)
  by true e r = positive_byte n (ltb-true n 64 e)
  by false e r =
      let big : 64 ≤ n = ltb-false n 64 e in
      from_sleb _ (pos n) (sleb_more [] ((n % 128 + 128) ∷ []) ((n % 128 + 128) ∷ positive_by more (n / 128)) (pos n) (pos (n / 128)) (n % 128) (inr (omega (arith, ints, big))) (omega arith) (omega (arith, ints)) refl (positive_by more (n / 128), refl, r (omega (arith, h, big))))

negative_is : (more n : ℕ) → n ≤ more → IsShortestSleb (negative_by more n) (negsuc n)
negative_is zero n h = negative_byte n (omega (arith, h))
negative_is (suc more) n h = by (nat_lt n 64) refl (negative_is more (n / 128)) where
  by : (b : Bool) → nat_lt n 64 ≡ b → (n / 128 ≤ more → IsShortestSleb (negative_by more (n / 128)) (negsuc (n / 128))) → IsShortestSleb (elim b [ true ↦ (127 - n) ∷ [] | false ↦ (255 - n % 128) ∷ negative_by more (n / 128) ]) (negsuc n)
  by true e r = negative_byte n (ltb-true n 64 e)
  by false e r =
      let big : 64 ≤ n = ltb-false n 64 e in
      let low : 255 - n % 128 ≡ 127 - n % 128 + 128 = omega arith in
      from_sleb _ (negsuc n) (sleb_more [] ((255 - n % 128) ∷ []) ((255 - n % 128) ∷ negative_by more (n / 128)) (negsuc n) (negsuc (n / 128)) (127 - n % 128) (inl (omega (arith, ints, big))) (omega arith) (omega (arith, ints)) (ap (λ d. d ∷ []) low) (negative_by more (n / 128), refl, r (omega (arith, h, big))))

pub signed_is : (n : ℤ) → IsShortestSleb (sleb n) n
signed_is (pos n) = positive_is n n (omega arith)
signed_is (negsuc n) = negative_is n n (omega arith)
