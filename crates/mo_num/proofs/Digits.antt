-- One more low digit before the digits of the rest: what the writers do, turn by turn.
use Rattle.std.proofs.Common.{◌≡◌, ℕ, ◌+◌, ◌*◌, ◌<◌, ◌≤◌, ◌/◌, ◌%◌, ◌⊎◌, List, [], ◌∷◌, ◌++◌, length, arith, append_assoc, ◌∙◌, ap, subst, inl, inr, ℤ, pos, negsuc, ◌+ℤ◌, ◌*ℤ◌, ◌≤ℤ◌, ◌<ℤ◌}
use Rattle.std.proofs.lemmas.Int.{ints}
use Rattle.std.specs.Int.{int_div_euclid, int_rem_euclid}
use Rattle.mo_num.specs.Leb.{IsLeb, IsSleb, IsShortestLeb, IsShortestSleb, AppendsLeb, AppendsSleb}

-- A spelling has at least one byte.
leb_nonempty : (n : ℕ) (other : List ℕ) → IsLeb other n → 1 ≤ length other
leb_nonempty n [] h = absurd h
leb_nonempty n (b ∷ bs) h = omega arith

sleb_nonempty : (n : ℤ) (other : List ℕ) → IsSleb other n → 1 ≤ length other
sleb_nonempty n [] h = absurd h
sleb_nonempty n (b ∷ bs) h = omega arith

leb_more_least : (b n : ℕ) (high : ℕ) (bs : List ℕ) → 128 ≤ n → 128 ≤ b → b < 256 → n + 128 ≡ b + 128 * high → IsShortestLeb bs high → (other : List ℕ) → IsLeb other n → length (b ∷ bs) ≤ length other
leb_more_least b n high bs big lo hi e short [] h = absurd h
leb_more_least b n high bs big lo hi e short (o ∷ []) h = absurd (omega arith)
leb_more_least b n high bs big lo hi e short (o ∷ p ∷ os) h =
    let same : h.2 ≡ high = omega arith in
    let rest : IsLeb (p ∷ os) high = subst (λ k. IsLeb (p ∷ os) k) same h.4 in
    let le : length bs ≤ length (p ∷ os) = short.least (p ∷ os) rest in
    omega arith

pub leb_more_spells : (b n : ℕ) (high : ℕ) (bs : List ℕ) → 128 ≤ b → b < 256 → n + 128 ≡ b + 128 * high → IsLeb bs high → IsLeb (b ∷ bs) n
leb_more_spells b n high [] lo hi e h = absurd h
leb_more_spells b n high (c ∷ cs) lo hi e h = (lo, hi, high, e, h)

pub leb_more : (old mid new : List ℕ) (n : ℕ) → 128 ≤ n → mid ≡ old ++ (n % 128 + 128) ∷ [] → AppendsLeb mid new (n / 128) → AppendsLeb old new n
leb_more old mid new n big mid_is more =
    let lo : 128 ≤ n % 128 + 128 = omega arith in
    let hi : n % 128 + 128 < 256 = omega arith in
    let e : n + 128 ≡ (n % 128 + 128) + 128 * (n / 128) = omega arith in (
      (n % 128 + 128) ∷ more.0,
      more.1 ∙ ap (λ m. m ++ more.0) mid_is ∙ append_assoc old ((n % 128 + 128) ∷ []) more.0,
      record {
        spells = leb_more_spells _ _ _ more.0 lo hi e more.2.spells;
        least = leb_more_least _ _ _ more.0 big lo hi e more.2;
      },
    )

-- One byte does not hold the number.
abbrev pub IsWide : ℤ → Type 0
IsWide n = (n <ℤ negsuc 63) ⊎ (pos 64 ≤ℤ n)

sleb_more_least : (b : ℕ) (n high : ℤ) (bs : List ℕ) → IsWide n → 128 ≤ b → b < 256 → n +ℤ pos 128 ≡ pos b +ℤ (pos 128 *ℤ high) → IsShortestSleb bs high → (other : List ℕ) → IsSleb other n → length (b ∷ bs) ≤ length other
sleb_more_least b n high bs wide lo hi e short [] h = absurd h
sleb_more_least b n high bs (inl low) lo hi e short (o ∷ []) (inl h) = absurd (omega (arith, ints))
sleb_more_least b n high bs (inl low) lo hi e short (o ∷ []) (inr h) = absurd (omega (arith, ints))
sleb_more_least b n high bs (inr big) lo hi e short (o ∷ []) (inl h) = absurd (omega (arith, ints))
sleb_more_least b n high bs (inr big) lo hi e short (o ∷ []) (inr h) = absurd (omega (arith, ints))
sleb_more_least b n high bs wide lo hi e short (o ∷ p ∷ os) h =
    let same : h.2 ≡ high = omega (arith, ints) in
    let rest : IsSleb (p ∷ os) high = subst (λ k. IsSleb (p ∷ os) k) same h.4 in
    let le : length bs ≤ length (p ∷ os) = short.least (p ∷ os) rest in
    omega arith

pub sleb_more_spells : (b : ℕ) (n high : ℤ) (bs : List ℕ) → 128 ≤ b → b < 256 → n +ℤ pos 128 ≡ pos b +ℤ (pos 128 *ℤ high) → IsSleb bs high → IsSleb (b ∷ bs) n
sleb_more_spells b n high [] lo hi e h = absurd h
sleb_more_spells b n high (c ∷ cs) lo hi e h = (lo, hi, high, e, h)

-- The low digit and the rest make the number.
pub digits_make : (n : ℤ) (d : ℕ) → int_rem_euclid n (pos 128) ≡ pos d → n ≡ pos d +ℤ (pos 128 *ℤ int_div_euclid n (pos 128))
digits_make (pos a) d e = omega (arith, ints)
digits_make (negsuc a) d e = omega (arith, ints)

pub sleb_more : (old mid new : List ℕ) (n high : ℤ) (d : ℕ) → IsWide n → d < 128 → n ≡ pos d +ℤ (pos 128 *ℤ high) → mid ≡ old ++ (d + 128) ∷ [] → AppendsSleb mid new high → AppendsSleb old new n
sleb_more old mid new n high d wide d_lo whole mid_is more =
    let lo : 128 ≤ d + 128 = omega arith in
    let hi : d + 128 < 256 = omega arith in
    let e : n +ℤ pos 128 ≡ pos (d + 128) +ℤ (pos 128 *ℤ high) = omega (arith, ints) in (
      (d + 128) ∷ more.0,
      more.1 ∙ ap (λ m. m ++ more.0) mid_is ∙ append_assoc old ((d + 128) ∷ []) more.0,
      record {
        spells = sleb_more_spells _ _ _ more.0 lo hi e more.2.spells;
        least = sleb_more_least _ _ _ more.0 wide lo hi e more.2;
      },
    )
