-- Numbers are read exactly.
use Rattle.std.proofs.Common.{◌≡◌, ℕ, zero, suc, ◌+◌, ◌-◌, ◌*◌, ◌^◌, ◌≤◌, ◌<◌, Bool, true, false, cond, List, [], ◌∷◌, ◌++◌, length, get_or, take_all, take, drop, Result, Ok, Err, ◌⊎◌, inl, inr, refl, sym, ap, ◌∙◌, length-append, arith, ℤ, pos, neg_ℤ, ◌+ℤ◌, ◌-ℤ◌, ◌*ℤ◌, ◌≤ℤ◌, ◌<ℤ◌}
use Rattle.std.specs.Prelude.{nat_lt, ◌&&◌, int_le}
use Rattle.std.specs.List.{AllByRecursion}
use Rattle.std.proofs.lemmas.Int.{ints}
use Rattle.std.proofs.lemmas.Bool.{lt-ltb, le-ltb, ltb-true, ltb-false}
use Rattle.std.proofs.Math.Seq.{drop-append_seam}
use Rattle.mo_num.specs.Leb.{IsLeb, IsSleb}
use Rattle.mo_num.specs.LebRead.{most, Begins, NoneEnds, Reads, ReadsLeb, ReadsSleb, IsSigned}
use Rattle.mo_num.specs.declared.leb_reader.LebFault.TheVariants as leb
use Rattle.exact_reading.specs.Reading.{◌>>=◌, made, kept, digits_at, last_digit, is_between, is_signed, unsigned_at, signed_at, u32_at}
use Rattle.exact_reading.proofs.Exact.{Front, Exact, okay, refused, refused_ok, bind_ok, chosen, same_pair, kept_exact}

-- a spelling of at most k bytes
abbrev pub Within : {V : Type 0} → (List ℕ → V → Type 0) → ℕ → V → List ℕ → Type 0
Within Spells k v bytes = (length bytes ≤ k) × Spells bytes v

-- What the digits of a kind of numbers have.
record Digits {V : Type 0} (Spells : List ℕ → V → Type 0) (last : ℕ → V) (more : ℕ → V → V) : Type 0 where
  pub some : (v : V) → Spells [] v → ⊥
  pub ends : (b : ℕ) → b < 128 → Spells (b ∷ []) (last b)
  pub goes : (b : ℕ) (high : V) (front : List ℕ) → 128 ≤ b → b < 256 → Spells front high → Spells (b ∷ front) (more b high)
  pub ended : (b : ℕ) (v : V) → Spells (b ∷ []) v → (b < 128) × (last b ≡ v)
  pub gone : (b c : ℕ) (cs : List ℕ) (v : V) → Spells (b ∷ c ∷ cs) v → (128 ≤ b) × (b < 256) × (high : V) × (more b high ≡ v) × Spells (c ∷ cs) high

abbrev pub AreBytes : List ℕ → Type 0
AreBytes bytes = AllByRecursion (λ b. b < 256) bytes

module _ {F V : Type 0} (Spells : List ℕ → V → Type 0) (last : ℕ → V) (more : ℕ → V → V) (short wide : F) (d : Digits Spells last more) where
  digits_sound : (k : ℕ) (bytes : List ℕ) (r : V × List ℕ) → digits_at short wide last more k bytes ≡ Ok r → Front (Within Spells k) bytes r.0 r.1
  digits_sound zero bytes r e = cc
  digits_sound (suc k) [] r e = cc
  digits_sound (suc k) (b ∷ bs) r e = by (digits_sound k bs) (chosen (nat_lt b 128) (okay (last b, bs)) _ (okay r) e)
    where
      long : ((s : V × List ℕ) → digits_at short wide last more k bs ≡ Ok s → Front (Within Spells k) bs s.0 s.1) → nat_lt b 128 ≡ false → ((nat_lt b 256 ≡ true) × (made (more b) (digits_at short wide last more k) bs ≡ okay r)) ⊎ ((nat_lt b 256 ≡ false) × (refused wide ≡ okay r)) → Front (Within Spells (suc k)) (b ∷ bs) r.0 r.1
      long ih big (inl h) =
          let s = bind_ok (digits_at short wide last more k bs) _ r h.1 in
          let a = ih s.0 s.1 in
          same_pair (Within Spells (suc k)) (b ∷ bs) (more b s.0.0, s.0.1) r s.2 (record {
            front = b ∷ a.front;
            split = ap (λ l. b ∷ l) a.split;
            spells = (omega (arith, a.spells.0), d.goes b s.0.0 a.front (ltb-false b 128 big) (ltb-true b 256 h.0) a.spells.1);
          })
      long ih big (inr h) = absurd (refused_ok wide r h.1)

      by : ((s : V × List ℕ) → digits_at short wide last more k bs ≡ Ok s → Front (Within Spells k) bs s.0 s.1) → ((nat_lt b 128 ≡ true) × (okay {F = F} (last b, bs) ≡ okay r)) ⊎ ((nat_lt b 128 ≡ false) × (cond (nat_lt b 256) (made (more b) (digits_at short wide last more k) bs) (refused wide) ≡ okay r)) → Front (Within Spells (suc k)) (b ∷ bs) r.0 r.1
      by ih (inl h) = same_pair (Within Spells (suc k)) (b ∷ bs) (last b, bs) r h.1 (record { front = b ∷ []; split = refl; spells = (omega arith, d.ends b (ltb-true b 128 h.0)) })
      by ih (inr h) = long ih h.0 (chosen (nat_lt b 256) _ (refused wide) (okay r) h.1)

  digits_complete : (k : ℕ) (v : V) (front rest : List ℕ) → Within Spells k v front → digits_at short wide last more k (front ++ rest) ≡ Ok (v, rest)
  digits_complete k v [] rest h = absurd (d.some v h.1)
  digits_complete zero v (b ∷ bs) rest h = absurd (omega (arith, h.0))
  digits_complete (suc k) v (b ∷ []) rest h =
      let e = d.ended b v h.1 in
      ap (λ t. cond t (Ok (last b, rest)) (cond (nat_lt b 256) (made (more b) (digits_at short wide last more k) rest) (Err wide))) (lt-ltb b 128 e.0) ∙ ap (λ z. Ok (z, rest)) e.1
  digits_complete (suc k) v (b ∷ c ∷ cs) rest h =
      let g = d.gone b c cs v h.1 in
      let i = digits_complete k g.2 (c ∷ cs) rest (omega (arith, h.0), g.4) in
      let tail : List ℕ = (c ∷ cs) ++ rest in
      ap (λ t. cond t (Ok (last b, tail)) (cond (nat_lt b 256) (made (more b) (digits_at short wide last more k) tail) (Err wide))) (le-ltb b 128 g.0)
      ∙ ap (λ t. cond t (made (more b) (digits_at short wide last more k) tail) (Err wide)) (lt-ltb b 256 g.1)
      ∙ ap (λ (s : Result (V × List ℕ) F). s >>= λ x. Ok (more b x.0, x.1)) i
      ∙ ap (λ z. Ok (z, rest)) g.3

  digits_exact : (k : ℕ) → Exact (Within Spells k) (digits_at short wide last more k)
  digits_exact k = record { sound = digits_sound k; complete = λ v front rest h. digits_complete k v front rest h }

  digits_short : (k : ℕ) (bytes : List ℕ) → AreBytes bytes → length bytes < k → NoneEnds bytes → digits_at short wide last more k bytes ≡ Err short
  digits_short zero bytes all lt none = absurd (omega (arith, lt))
  digits_short (suc k) [] all lt none = refl
  digits_short (suc k) (b ∷ bs) all lt none =
      ap (λ t. cond t (Ok (last b, bs)) (cond (nat_lt b 256) (made (more b) (digits_at short wide last more k) bs) (Err wide))) (le-ltb b 128 none.0)
      ∙ ap (λ t. cond t (made (more b) (digits_at short wide last more k) bs) (Err wide)) (lt-ltb b 256 all.0)
      ∙ ap (λ (s : Result (V × List ℕ) F). s >>= λ x. Ok (more b x.0, x.1)) (digits_short k bs all.1 (omega (arith, lt)) none.1)

  digits_wide : (k : ℕ) (bytes : List ℕ) → k ≤ length bytes → NoneEnds (take k bytes) → digits_at short wide last more k bytes ≡ Err wide
  digits_wide zero bytes le none = refl
  digits_wide (suc k) [] le none = absurd (omega (arith, le))
  digits_wide (suc k) (b ∷ bs) le none =
      ap (λ t. cond t (Ok (last b, bs)) (cond (nat_lt b 256) (made (more b) (digits_at short wide last more k) bs) (Err wide))) (le-ltb b 128 none.0)
      ∙ by (nat_lt b 256) (digits_at short wide last more k bs) (digits_wide k bs (omega (arith, le)) none.1)
    where
      by : (t : Bool) (s : Result (V × List ℕ) F) → s ≡ Err wide → cond {A = Result (V × List ℕ) F} t (s >>= λ x. Ok (more b x.0, x.1)) (Err wide) ≡ Err wide
      by false s e = refl
      by true s e = ap (λ (s : Result (V × List ℕ) F). s >>= λ x. Ok (more b x.0, x.1)) e

  module _ (Fits : V → Type 0) (k : ℕ) (test : V → Bool) (yes : (v : V) → Fits v → test v ≡ true) (fits : (v : V) → test v ≡ true → Fits v) where
    front_is : (bytes : List ℕ) (n : V) (count : ℕ) → Begins Spells k bytes n count → digits_at short wide last more k bytes ≡ Ok (n, drop count bytes)
    front_is bytes n count b =
        let e : digits_at short wide last more k bytes ≡ Ok (n, b.rest) = ap (digits_at short wide last more k) b.whole ∙ digits_complete k n b.front b.rest (omega (arith, b.counted, b.allowed), b.spells) in
        let d : b.rest ≡ drop count bytes = sym (drop-append_seam b.front b.rest) ∙ ap (λ c. drop c (b.front ++ b.rest)) b.counted ∙ ap (λ l. drop count l) (sym b.whole) in
        e ∙ ap (λ l. Ok (n, l)) d

    reads_ok : (bytes : List ℕ) (n : V) (count : ℕ) → Reads Spells Fits k bytes (Ok (n, count)) → kept wide test (digits_at short wide last more k) bytes ≡ Ok (n, drop count bytes)
    reads_ok bytes n count h =
        ap (λ (s : Result (V × List ℕ) F). s >>= λ x. cond (test x.0) (Ok x) (Err wide)) (front_is bytes n count h.0) ∙ ap (λ t. cond t (Ok (n, drop count bytes)) (Err wide)) (yes n h.1)

    reads_short : (bytes : List ℕ) → AreBytes bytes → Reads Spells Fits k bytes (Err leb.Short) → kept wide test (digits_at short wide last more k) bytes ≡ Err short
    reads_short bytes all h = ap (λ (s : Result (V × List ℕ) F). s >>= λ x. cond (test x.0) (Ok x) (Err wide)) (digits_short k bytes all h.0 h.1)

    reads_wide : (bytes : List ℕ) → Reads Spells Fits k bytes (Err leb.TooWide) → kept wide test (digits_at short wide last more k) bytes ≡ Err wide
    reads_wide bytes (inl h) = ap (λ (s : Result (V × List ℕ) F). s >>= λ x. cond (test x.0) (Ok x) (Err wide)) (digits_wide k bytes h.0 h.1)
    reads_wide bytes (inr h) =
        ap (λ (s : Result (V × List ℕ) F). s >>= λ x. cond (test x.0) (Ok x) (Err wide)) (front_is bytes h.0 h.1 h.2) ∙ by (test h.0) refl
      where
        by : (t : Bool) → test h.0 ≡ t → cond {A = Result (V × List ℕ) F} t (Ok (h.0, drop h.1 bytes)) (Err wide) ≡ Err wide
        by false e = refl
        by true e = absurd (h.3 (fits h.0 e))

leb_digits : Digits IsLeb (λ b. b) (λ b high. b - 128 + 128 * high)
leb_digits = record {
  some = λ v h. h;
  ends = λ b h. (h, refl);
  goes = λ b high front lo hi s. goes b high front lo hi s;
  ended = λ b v h. (h.0, sym h.1);
  gone = λ b c cs v h. (h.0, h.1, h.2, omega (arith, h.0, h.3), h.4);
}
  where
    goes : (b high : ℕ) (front : List ℕ) → 128 ≤ b → b < 256 → IsLeb front high → IsLeb (b ∷ front) (b - 128 + 128 * high)
    goes b high [] lo hi s = absurd s
    goes b high (c ∷ cs) lo hi s = (lo, hi, high, omega arith, s)

abbrev IsLast : ℕ → ℤ → Type 0
IsLast b n = ((b < 64) × (n ≡ pos b)) ⊎ ((64 ≤ b) × (b < 128) × (n +ℤ pos 128 ≡ pos b))

sleb_ends : (b : ℕ) → b < 128 → (t : Bool) → nat_lt b 64 ≡ t → IsLast b (cond t (pos b) (pos b -ℤ pos 128))
sleb_ends b h true e = inl (ltb-true b 64 e, refl)
sleb_ends b h false e = inr (ltb-false b 64 e, h, omega (arith, ints))

sleb_ended : (b : ℕ) (v : ℤ) → IsLast b v → (b < 128) × (last_digit b ≡ v)
sleb_ended b v (inl h) = (omega (arith, h.0), ap (λ t. cond t (pos b) (pos b -ℤ pos 128)) (lt-ltb b 64 h.0) ∙ sym h.1)
sleb_ended b v (inr h) =
    let e : pos b -ℤ pos 128 ≡ v = omega (arith, ints, h.2) in
    (h.1, ap (λ t. cond t (pos b) (pos b -ℤ pos 128)) (le-ltb b 64 h.0) ∙ e)

sleb_digits : Digits IsSleb last_digit (λ b high. (pos b -ℤ pos 128) +ℤ (pos 128 *ℤ high))
sleb_digits = record {
  some = λ v h. h;
  ends = λ b h. sleb_ends b h (nat_lt b 64) refl;
  goes = λ b high front lo hi s. goes b high front lo hi s;
  ended = sleb_ended;
  gone = λ b c cs v h. (h.0, h.1, h.2, omega (arith, ints, h.3), h.4);
}
  where
    goes : (b : ℕ) (high : ℤ) (front : List ℕ) → 128 ≤ b → b < 256 → IsSleb front high → IsSleb (b ∷ front) ((pos b -ℤ pos 128) +ℤ (pos 128 *ℤ high))
    goes b high [] lo hi s = absurd s
    goes b high (c ∷ cs) lo hi s = (lo, hi, high, omega (arith, ints), s)

-- Unsigned numbers of so many bits.
abbrev pub IsUnsigned : ℕ → ℕ → List ℕ → Type 0
IsUnsigned bits n bytes = IsLeb bytes n × (length bytes ≤ most bits) × (n < 2 ^ bits)

module _ {F : Type 0} (short wide : F) (bits : ℕ) where
  pub unsigned_exact : Exact (IsUnsigned bits) (unsigned_at short wide bits)
  unfolding unsigned_at
  unsigned_exact = kept_exact (Within IsLeb (most bits)) (IsUnsigned bits) wide (λ n. nat_lt n (2 ^ bits)) _ (digits_exact IsLeb (λ b. b) (λ b high. b - 128 + 128 * high) short wide leb_digits (most bits))
      (λ n front h t. (h.1, h.0, ltb-true n (2 ^ bits) t))
      (λ n front h. ((h.1, h.0), lt-ltb n (2 ^ bits) h.2))

  pub unsigned_reads : (bytes : List ℕ) (n count : ℕ) → ReadsLeb bits bytes (Ok (n, count)) → unsigned_at short wide bits bytes ≡ Ok (n, drop count bytes)
  unfolding unsigned_at
  unsigned_reads bytes n count h = reads_ok IsLeb (λ b. b) (λ b high. b - 128 + 128 * high) short wide leb_digits (λ n. n < 2 ^ bits) (most bits) (λ n. nat_lt n (2 ^ bits)) (λ n h. lt-ltb n (2 ^ bits) h) (λ n h. ltb-true n (2 ^ bits) h) bytes n count h

  pub unsigned_short : (bytes : List ℕ) → AreBytes bytes → ReadsLeb bits bytes (Err leb.Short) → unsigned_at short wide bits bytes ≡ Err short
  unfolding unsigned_at
  unsigned_short bytes all h = reads_short IsLeb (λ b. b) (λ b high. b - 128 + 128 * high) short wide leb_digits (λ n. n < 2 ^ bits) (most bits) (λ n. nat_lt n (2 ^ bits)) (λ n h. lt-ltb n (2 ^ bits) h) (λ n h. ltb-true n (2 ^ bits) h) bytes all h

  pub unsigned_wide : (bytes : List ℕ) → ReadsLeb bits bytes (Err leb.TooWide) → unsigned_at short wide bits bytes ≡ Err wide
  unfolding unsigned_at
  unsigned_wide bytes h = reads_wide IsLeb (λ b. b) (λ b high. b - 128 + 128 * high) short wide leb_digits (λ n. n < 2 ^ bits) (most bits) (λ n. nat_lt n (2 ^ bits)) (λ n h. lt-ltb n (2 ^ bits) h) (λ n h. ltb-true n (2 ^ bits) h) bytes h

-- Signed ones.
both_true : (a b : Bool) → (a && b) ≡ true → (a ≡ true) × (b ≡ true)
both_true true true e = (refl, refl)
both_true true false e = cc
both_true false b e = cc

le_true : (a b : ℤ) → a ≤ℤ b → int_le a b ≡ true
le_true a b h = by (int_le a b) refl
  where
    by : (t : Bool) → int_le a b ≡ t → int_le a b ≡ true
    by true e = e
    by false e = absurd (omega (arith, ints, h))

true_le : (a b : ℤ) → int_le a b ≡ true → a ≤ℤ b
true_le a b e = omega (arith, ints)

pub between_true : (a b z : ℤ) → a ≤ℤ z → z ≤ℤ b → is_between a b z ≡ true
between_true a b z h k = ap (λ t. t && int_le z b) (le_true a z h) ∙ le_true z b k

pub true_between : (a b z : ℤ) → is_between a b z ≡ true → (a ≤ℤ z) × (z ≤ℤ b)
true_between a b z e = let p = both_true (int_le a z) (int_le z b) e in (true_le a z p.0, true_le z b p.1)

below : (z p : ℤ) → z <ℤ p → z ≤ℤ (p -ℤ pos 1)
below z p h = omega (arith, ints)

under : (z p : ℤ) → z ≤ℤ (p -ℤ pos 1) → z <ℤ p
under z p h = omega (arith, ints)

signed_true : (bits : ℕ) (z : ℤ) → IsSigned bits z → is_signed bits z ≡ true
signed_true bits z h = between_true _ _ z h.0 (below z (pos (2 ^ (bits - 1))) h.1)

true_signed : (bits : ℕ) (z : ℤ) → is_signed bits z ≡ true → IsSigned bits z
true_signed bits z e = let b = true_between (neg_ℤ (pos (2 ^ (bits - 1)))) (pos (2 ^ (bits - 1)) -ℤ pos 1) z e in (b.0, under z (pos (2 ^ (bits - 1))) b.1)

abbrev pub IsSignedNumber : ℕ → ℤ → List ℕ → Type 0
IsSignedNumber bits z bytes = IsSleb bytes z × (length bytes ≤ most bits) × IsSigned bits z

module _ {F : Type 0} (short wide : F) (bits : ℕ) where
  pub signed_exact : Exact (IsSignedNumber bits) (signed_at short wide bits)
  unfolding signed_at
  signed_exact = kept_exact (Within IsSleb (most bits)) (IsSignedNumber bits) wide (is_signed bits) _ (digits_exact IsSleb last_digit (λ b high. (pos b -ℤ pos 128) +ℤ (pos 128 *ℤ high)) short wide sleb_digits (most bits))
      (λ z front h t. (h.1, h.0, true_signed bits z t))
      (λ z front h. ((h.1, h.0), signed_true bits z h.2))

  pub signed_reads : (bytes : List ℕ) (n : ℤ) (count : ℕ) → ReadsSleb bits bytes (Ok (n, count)) → signed_at short wide bits bytes ≡ Ok (n, drop count bytes)
  unfolding signed_at
  signed_reads bytes n count h = reads_ok IsSleb last_digit (λ b high. (pos b -ℤ pos 128) +ℤ (pos 128 *ℤ high)) short wide sleb_digits (λ z. IsSigned bits z) (most bits) (is_signed bits) (signed_true bits) (true_signed bits) bytes n count h

  pub signed_short : (bytes : List ℕ) → AreBytes bytes → ReadsSleb bits bytes (Err leb.Short) → signed_at short wide bits bytes ≡ Err short
  unfolding signed_at
  signed_short bytes all h = reads_short IsSleb last_digit (λ b high. (pos b -ℤ pos 128) +ℤ (pos 128 *ℤ high)) short wide sleb_digits (λ z. IsSigned bits z) (most bits) (is_signed bits) (signed_true bits) (true_signed bits) bytes all h

  pub signed_wide : (bytes : List ℕ) → ReadsSleb bits bytes (Err leb.TooWide) → signed_at short wide bits bytes ≡ Err wide
  unfolding signed_at
  signed_wide bytes h = reads_wide IsSleb last_digit (λ b high. (pos b -ℤ pos 128) +ℤ (pos 128 *ℤ high)) short wide sleb_digits (λ z. IsSigned bits z) (most bits) (is_signed bits) (signed_true bits) (true_signed bits) bytes h

-- A number of one byte.
pub u32_first : {F : Type 0} (short wide : F) (bytes : List ℕ) → 1 ≤ length bytes → get_or bytes 0 0 < 128 → u32_at short wide bytes ≡ Ok (get_or bytes 0 0, take (length bytes - 1) (drop 1 bytes))
u32_first short wide [] some h = absurd (omega arith)
u32_first short wide (b ∷ bs) some h =
    let n : length bs ≤ length (b ∷ bs) - 1 = omega arith in
    (unsigned_exact short wide 32).complete b (b ∷ []) bs ((h, refl), omega arith, omega (arith, h)) ∙ ap (λ l. Ok (b, l)) (sym (take_all (length (b ∷ bs) - 1) bs n))

-- The bytes of a number are there.
pub begins_within : {V : Type 0} (Spells : List ℕ → V → Type 0) (limit : ℕ) (bytes : List ℕ) (n : V) (count : ℕ) → Begins Spells limit bytes n count → count ≤ length bytes
begins_within Spells limit bytes n count b = omega (arith, b.counted, ap length b.whole, length-append b.front b.rest)

-- What a slice holds are bytes.
pub are_bytes : (bytes : List ℕ) → ((i : ℕ) → get_or bytes i 0 < 256) → AreBytes bytes
are_bytes [] h = tt
are_bytes (b ∷ bs) h = (h 0, are_bytes bs (λ i. h (suc i)))
