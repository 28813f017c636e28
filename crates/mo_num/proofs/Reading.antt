-- What reading answers, from the last byte to the first.
use Rattle.std.proofs.Common.{◌≡◌, ℕ, suc, ◌+◌, ◌-◌, ◌*◌, ◌^◌, ◌<◌, ◌≤◌, List, [], ◌∷◌, Ok, Err, ◌⊎◌, inl, inr, refl, sym, ap, subst, arith, ℤ, pos, neg_ℤ, ◌+ℤ◌, ◌-ℤ◌, ◌*ℤ◌, ◌≤ℤ◌, Fits, w8, get_or}
use Rattle.std.proofs.Math.Pow.{pow_mono}
use Rattle.std.proofs.lemmas.Int.{ints}
use Rattle.mo_num.specs.declared.leb_reader.LebFault.{LebFault}
use Rattle.mo_num.specs.declared.leb_reader.LebFault.TheVariants.{Short, TooWide}
use Rattle.mo_num.specs.Leb.{IsLeb, IsSleb}
use Rattle.mo_num.specs.LebRead.{Begins, Reads, ReadsLeb, ReadsSleb, IsSigned, most}
use Rattle.mo_num.proofs.Digits.{leb_more_spells, sleb_more_spells}
use Rattle.mo_num.proofs.Widths.{most_more, most_some, most_one, seven_more, half_more, fits_more, fits_less, signed_more, signed_less}

-- A last byte.
begins_one : {V : Type 0} (Spells : List ℕ → V → Type 0) (limit b : ℕ) (bs : List ℕ) (n : V) → 1 ≤ limit → Spells (b ∷ []) n → Begins Spells limit (b ∷ bs) n 1
begins_one Spells limit b bs n some h = record { front = b ∷ []; rest = bs; whole = refl; counted = refl; allowed = some; spells = h }

-- One more byte before the others.
begins_more : {V : Type 0} (Spells : List ℕ → V → Type 0) (limit b : ℕ) (bs : List ℕ) (high n : V) (count : ℕ) → ((front : List ℕ) → Spells front high → Spells (b ∷ front) n) → Begins Spells limit bs high count → Begins Spells (suc limit) (b ∷ bs) n (suc count)
begins_more Spells limit b bs high n count more h = record {
  front = b ∷ h.front;
  rest = h.rest;
  whole = ap (λ r. b ∷ r) h.whole;
  counted = ap suc h.counted;
  allowed = omega (arith, h.allowed);
  spells = more h.front h.spells;
}

pub leb_last : (bits b : ℕ) (bs : List ℕ) → 1 ≤ bits → b < 128 → b < 2 ^ bits → ReadsLeb bits (b ∷ bs) (Ok (b, 1))
leb_last bits b bs some low fits = (begins_one IsLeb (most bits) b bs b (most_some bits some) (low, refl), fits)

pub leb_last_wide : (bits b : ℕ) (bs : List ℕ) → 1 ≤ bits → b < 128 → (b < 2 ^ bits → ⊥) → ReadsLeb bits (b ∷ bs) (Err TooWide)
leb_last_wide bits b bs some low wide = inr (b, 1, begins_one IsLeb (most bits) b bs b (most_some bits some) (low, refl), wide)

pub none_ends : {V : Type 0} (Spells : List ℕ → V → Type 0) (Fits : V → Type 0) (bits b : ℕ) (bs : List ℕ) → 1 ≤ bits → bits ≤ 7 → 128 ≤ b → Reads Spells Fits (most bits) (b ∷ bs) (Err TooWide)
none_ends Spells Fits bits b bs some few high =
    let P : ℕ → Type 0 = λ limit. Reads Spells Fits limit (b ∷ bs) (Err TooWide) in
    subst P (sym (most_one bits some few)) (inl (omega arith, (high, tt)))

pub leb_more_ok : (bits b high count : ℕ) (bs : List ℕ) → 7 < bits → 128 ≤ b → b < 256 → ReadsLeb (bits - 7) bs (Ok (high, count)) → ReadsLeb bits (b ∷ bs) (Ok (b - 128 + 128 * high, count + 1))
leb_more_ok bits b high count bs wide lo hi h =
    let e : b - 128 + 128 * high + 128 ≡ b + 128 * high = omega arith in
    let P : ℕ → ℕ → Type 0 = λ limit c. Begins IsLeb limit (b ∷ bs) (b - 128 + 128 * high) c in
    let more : Begins IsLeb (suc (most (bits - 7))) (b ∷ bs) (b - 128 + 128 * high) (suc count) = begins_more IsLeb (most (bits - 7)) b bs high (b - 128 + 128 * high) count (λ front s. leb_more_spells b _ high front lo hi e s) h.0 in
    let c : suc count ≡ count + 1 = omega arith in
    (subst (λ l. P l (count + 1)) (sym (most_more bits wide)) (subst (λ k. P (suc (most (bits - 7))) k) c more), fits_more bits b high _ wide lo hi e h.1)

pub leb_more_err : (bits b : ℕ) (bs : List ℕ) (fault : LebFault) → 7 < bits → 128 ≤ b → b < 256 → ReadsLeb (bits - 7) bs (Err fault) → ReadsLeb bits (b ∷ bs) (Err fault)
leb_more_err bits b bs Short wide lo hi h = let m = most_more bits wide in (omega (arith, m, h.0), (lo, h.1))
leb_more_err bits b bs TooWide wide lo hi h = subst (λ l. Reads IsLeb (λ n. n < 2 ^ bits) l (b ∷ bs) (Err TooWide)) (sym (most_more bits wide)) (go h)
  where
    go : ReadsLeb (bits - 7) bs (Err TooWide) → Reads IsLeb (λ n. n < 2 ^ bits) (suc (most (bits - 7))) (b ∷ bs) (Err TooWide)
    go (inl none) = inl (omega (arith, none.0), (lo, none.1))
    go (inr some) =
        let e : b - 128 + 128 * some.0 + 128 ≡ b + 128 * some.0 = omega arith in
        inr (
          b - 128 + 128 * some.0,
          suc some.1,
          begins_more IsLeb (most (bits - 7)) b bs some.0 (b - 128 + 128 * some.0) some.1 (λ front s. leb_more_spells b _ some.0 front lo hi e s) some.2,
          λ f. some.3 (fits_less bits b some.0 _ wide lo hi e f),
        )

-- The first byte of a slice.
pub first_byte : (bytes : List ℕ) (b : ℕ) (bs : List ℕ) → bytes ≡ b ∷ bs → ((i : ℕ) → Fits w8 (get_or bytes i 0)) → b < 256
first_byte bytes b bs e fits =
    let f : Fits w8 (get_or (b ∷ bs) 0 0) = subst (λ l. Fits w8 (get_or l 0 0)) e (fits 0) in
    f.fits

pub rest_fits : (bits high : ℕ) → bits ≤ 128 → 7 < bits → high < 2 ^ (bits - 7) → 128 * high + 128 ≤ 2 ^ 128
rest_fits bits high small wide h =
    let s : 2 ^ bits ≡ 128 * 2 ^ (bits - 7) = seven_more bits (omega arith) in
    let p : 2 ^ bits ≤ 2 ^ 128 = pow_mono small in
    omega (arith, s, p, h)

pub rest_signed : (bits : ℕ) (high : ℤ) → bits ≤ 128 → 7 < bits → IsSigned (bits - 7) high → (neg_ℤ (pos (2 ^ 127)) ≤ℤ (pos 128 *ℤ high)) × ((pos 128 *ℤ high +ℤ pos 128) ≤ℤ pos (2 ^ 127))
rest_signed bits high small wide h =
    let s : 2 ^ (bits - 1) ≡ 128 * 2 ^ (bits - 7 - 1) = half_more bits wide in
    let less : bits - 1 ≤ 127 = omega arith in
    let p : 2 ^ (bits - 1) ≤ 2 ^ 127 = pow_mono less in
    (omega (arith, ints, s, p, h.0, h.1), omega (arith, ints, s, p, h.0, h.1))

-- The value of a last byte, by its sign.
abbrev pub IsLast : ℕ → ℤ → Type 0
IsLast b n = ((b < 64) × (n ≡ pos b)) ⊎ ((64 ≤ b) × (b < 128) × (n +ℤ pos 128 ≡ pos b))

pub sleb_last : (bits b : ℕ) (bs : List ℕ) (n : ℤ) → 1 ≤ bits → IsLast b n → IsSigned bits n → ReadsSleb bits (b ∷ bs) (Ok (n, 1))
sleb_last bits b bs n some last fits = (begins_one IsSleb (most bits) b bs n (most_some bits some) last, fits)

pub sleb_last_wide : (bits b : ℕ) (bs : List ℕ) (n : ℤ) → 1 ≤ bits → IsLast b n → (IsSigned bits n → ⊥) → ReadsSleb bits (b ∷ bs) (Err TooWide)
sleb_last_wide bits b bs n some last wide = inr (n, 1, begins_one IsSleb (most bits) b bs n (most_some bits some) last, wide)

-- The low digit of a longer number, and what stands before it.
abbrev pub joined : ℕ → ℤ → ℤ
joined b high = (pos b -ℤ pos 128) +ℤ (pos 128 *ℤ high)

joined_is : (b : ℕ) (high : ℤ) → joined b high +ℤ pos 128 ≡ pos b +ℤ (pos 128 *ℤ high)
joined_is b high = omega (arith, ints)

pub sleb_more_ok : (bits b count : ℕ) (high : ℤ) (bs : List ℕ) → 7 < bits → 128 ≤ b → b < 256 → ReadsSleb (bits - 7) bs (Ok (high, count)) → ReadsSleb bits (b ∷ bs) (Ok (joined b high, count + 1))
sleb_more_ok bits b count high bs wide lo hi h =
    let P : ℕ → ℕ → Type 0 = λ limit c. Begins IsSleb limit (b ∷ bs) (joined b high) c in
    let more : Begins IsSleb (suc (most (bits - 7))) (b ∷ bs) (joined b high) (suc count) = begins_more IsSleb (most (bits - 7)) b bs high (joined b high) count (λ front s. sleb_more_spells b _ high front lo hi (joined_is b high) s) h.0 in
    let c : suc count ≡ count + 1 = omega arith in
    (subst (λ l. P l (count + 1)) (sym (most_more bits wide)) (subst (λ k. P (suc (most (bits - 7))) k) c more), signed_more bits b high _ wide lo hi (joined_is b high) h.1)

pub sleb_more_err : (bits b : ℕ) (bs : List ℕ) (fault : LebFault) → 7 < bits → 128 ≤ b → b < 256 → ReadsSleb (bits - 7) bs (Err fault) → ReadsSleb bits (b ∷ bs) (Err fault)
sleb_more_err bits b bs Short wide lo hi h = let m = most_more bits wide in (omega (arith, m, h.0), (lo, h.1))
sleb_more_err bits b bs TooWide wide lo hi h = subst (λ l. Reads IsSleb (λ n. IsSigned bits n) l (b ∷ bs) (Err TooWide)) (sym (most_more bits wide)) (go h)
  where
    go : ReadsSleb (bits - 7) bs (Err TooWide) → Reads IsSleb (λ n. IsSigned bits n) (suc (most (bits - 7))) (b ∷ bs) (Err TooWide)
    go (inl none) = inl (omega (arith, none.0), (lo, none.1))
    go (inr some) = inr (
      joined b some.0,
      suc some.1,
      begins_more IsSleb (most (bits - 7)) b bs some.0 (joined b some.0) some.1 (λ front s. sleb_more_spells b _ some.0 front lo hi (joined_is b some.0) s) some.2,
      λ f. some.3 (signed_less bits b some.0 _ wide lo hi (joined_is b some.0) f),
    )
