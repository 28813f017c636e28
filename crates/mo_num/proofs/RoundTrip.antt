-- What was written is read.
use Rattle.std.proofs.Common.{◌≡◌, ℕ, zero, suc, ◌+◌, ◌-◌, ◌*◌, ◌^◌, ◌<◌, ◌≤◌, List, ◌++◌, length, drop, Ok, inl, inr, ap, ◌∙◌, arith, ℤ, length-append}
use Rattle.std.proofs.lemmas.Int.{ints}
use Rattle.std.proofs.lemmas.Bool.{cases_lt}
use Rattle.std.proofs.Math.Pow.{pow_mono}
use Rattle.mo_num.specs.Leb.{IsLeb, IsSleb, AppendsLeb, AppendsSleb}
use Rattle.mo_num.specs.LebRead.{ReadsLeb, ReadsSleb, IsSigned, most}
use Rattle.mo_num.proofs.Bounds.{cap, half, IsWithin, leb_within, sleb_within}
use Rattle.mo_num.proofs.Widths.{seven_more}
use Rattle.std.proofs.Math.Seq.{drop-append_seam}

-- Numbers of so many bits have spellings of the length that reading allows.
cap_holds : (k bits : ℕ) → bits ≤ 7 * suc k → 2 ^ bits ≤ cap k
cap_holds zero bits h = let p : 2 ^ bits ≤ 2 ^ 7 = pow_mono {i = bits} {j = 7} (omega arith) in omega (arith, p)
cap_holds (suc k) bits h = elim (cases_lt bits 7) [
  | inl few ↦
      let p : 2 ^ bits ≤ 2 ^ 7 = pow_mono {i = bits} {j = 7} (omega arith) in
      let q : 2 ^ 0 ≤ cap k = cap_holds k 0 (omega arith) in
      omega (arith, p, q)
  | inr more ↦
      let e : 2 ^ bits ≡ 128 * 2 ^ (bits - 7) = seven_more bits more in
      let q : 2 ^ (bits - 7) ≤ cap k = cap_holds k (bits - 7) (omega arith) in
      omega (arith, e, q)
]

half_holds : (k bits : ℕ) → bits ≤ 7 * k + 6 → 2 ^ bits ≤ half k
half_holds zero bits h = let p : 2 ^ bits ≤ 2 ^ 6 = pow_mono {i = bits} {j = 6} (omega arith) in omega (arith, p)
half_holds (suc k) bits h = elim (cases_lt bits 7) [
  | inl few ↦
      let p : 2 ^ bits ≤ 2 ^ 7 = pow_mono {i = bits} {j = 7} (omega arith) in
      let q : 2 ^ 0 ≤ half k = half_holds k 0 (omega arith) in
      omega (arith, p, q)
  | inr more ↦
      let e : 2 ^ bits ≡ 128 * 2 ^ (bits - 7) = seven_more bits more in
      let q : 2 ^ (bits - 7) ≤ half k = half_holds k (bits - 7) (omega arith) in
      omega (arith, e, q)
]

-- The appended bytes stand behind the old ones.
appended : (old new bytes rest : List ℕ) → new ≡ old ++ bytes → (drop (length old) new ++ rest ≡ bytes ++ rest) × (length bytes ≡ length new - length old)
appended old new bytes rest e = (ap (λ l. l ++ rest) (ap (λ l. drop (length old) l) e ∙ drop-append_seam old bytes), omega (arith, ap length e, length-append old bytes))

pub leb_back : (bits value : ℕ) (old new rest : List ℕ) → 1 ≤ bits → value < 2 ^ bits → AppendsLeb old new value → ReadsLeb bits (drop (length old) new ++ rest) (Ok (value, length new - length old))
leb_back bits value old new rest some fits h =
    let k : ℕ = most bits - 1 in
    let c : 2 ^ bits ≤ cap k = cap_holds k bits (omega arith) in
    let other : (bytes : List ℕ) × IsLeb bytes value × (length bytes ≤ suc k) = leb_within k value (omega (arith, fits, c)) in
    let least : length h.0 ≤ length other.0 = h.2.least other.0 other.1 in
    let a = appended old new h.0 rest h.1 in
    (record { front = h.0; rest = rest; whole = a.0; counted = a.1; allowed = omega (arith, least, other.2, a.1); spells = h.2.spells }, fits)

pub sleb_back : (bits : ℕ) (value : ℤ) (old new rest : List ℕ) → 1 ≤ bits → IsSigned bits value → AppendsSleb old new value → ReadsSleb bits (drop (length old) new ++ rest) (Ok (value, length new - length old))
sleb_back bits value old new rest some fits h =
    let k : ℕ = most bits - 1 in
    let c : 2 ^ (bits - 1) ≤ half k = half_holds k (bits - 1) (omega arith) in
    let w : IsWithin (half k) value = (omega (arith, ints, fits.0, c), omega (arith, ints, fits.1, c)) in
    let other : (bytes : List ℕ) × IsSleb bytes value × (length bytes ≤ suc k) = sleb_within k value w in
    let least : length h.0 ≤ length other.0 = h.2.least other.0 other.1 in
    let a = appended old new h.0 rest h.1 in
    (record { front = h.0; rest = rest; whole = a.0; counted = a.1; allowed = omega (arith, least, other.2, a.1); spells = h.2.spells }, fits)
