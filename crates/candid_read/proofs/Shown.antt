-- Flags, texts and references are read exactly.
use Rattle.std.proofs.Common.{◌≡◌, ℕ, zero, suc, ◌≤◌, ◌<◌, true, false, cond, List, [], ◌∷◌, ◌++◌, length, take, drop, Result, Ok, Err, ◌⊎◌, inl, inr, refl, sym, ap, ◌∙◌, subst, append_assoc, length-append, take-append-drop, length-take-le, arith}
use Rattle.std.specs.Prelude.{nat_lt}
use Rattle.std.specs.Str.{is_utf8}
use Rattle.std.proofs.lemmas.Bool.{lt-ltb, le-ltb, ltb-true, ltb-false}
use Rattle.std.proofs.Math.Seq.{drop-append_seam, take-append_seam}
use Rattle.mo_types.specs.declared.datum.Datum.{Datum}
use Rattle.mo_types.specs.declared.datum.Datum.TheVariants as part
use Rattle.mo_types.specs.declared.wire.Plain.TheVariants as plain
use Rattle.mo_types.specs.Values.{is_method_name}
use Rattle.mo_types.specs.Spelling.{Then, padded, IsString, IsPrincipal}
use Rattle.candid_header.specs.declared.fault.Fault.{Fault}
use Rattle.candid_header.specs.declared.fault.Fault.TheVariants.{Short, BadValue}
use Rattle.exact_reading.specs.Reading.{◌>>=◌, kept, both}
use Rattle.candid_header.specs.Reading.{Reading, first, u32_at, split_at, string_at}
use Rattle.exact_reading.proofs.Exact.{Front, Exact, refused, refused_ok, ok_is, bind_ok, chosen, not_ok, same_pair, made_exact, made_sound, made_complete, kept_exact}
use Rattle.candid_header.proofs.Exact.{okay, both_exact}
use Rattle.candid_header.proofs.Numbers.{IsU32, u32_exact}
use Rattle.candid_header.proofs.Lists.{string_exact}
use Rattle.candid_read.specs.Parts.{flag_by, one_at, text_at, few_bytes_at, principal_at, method_name_at, method_at}
use Rattle.candid_read.proofs.Amounts.{Sound, Plainly}

-- ---- flags

pub flag_sound : Sound (Plainly plain.Bool) (first flag_by)
flag_sound [] r e = absurd (not_ok e)
flag_sound (zero ∷ bs) r e = same_pair (Plainly plain.Bool) (0 ∷ bs) (part.Flag false, bs) r e (record { front = 0 ∷ []; split = refl; spells = refl })
flag_sound (suc zero ∷ bs) r e = same_pair (Plainly plain.Bool) (1 ∷ bs) (part.Flag true, bs) r e (record { front = 1 ∷ []; split = refl; spells = refl })
flag_sound (suc (suc b) ∷ bs) r e = absurd (not_ok e)

abbrev IsOne : ℕ → List ℕ → Type 0
IsOne n bytes = (n ≡ 1) × (bytes ≡ 1 ∷ [])

one_sound : (bytes : List ℕ) (r : ℕ × List ℕ) → one_at bytes ≡ Ok r → Front IsOne bytes r.0 r.1
one_sound [] r e = absurd (not_ok e)
one_sound (zero ∷ bs) r e = absurd (not_ok e)
one_sound (suc zero ∷ bs) r e = same_pair IsOne (1 ∷ bs) (1, bs) r e (record { front = 1 ∷ []; split = refl; spells = (refl, refl) })
one_sound (suc (suc b) ∷ bs) r e = absurd (not_ok e)

one_exact : Exact IsOne one_at
one_exact = record { sound = one_sound; complete = λ n front rest h. ap (λ l. one_at (l ++ rest)) h.1 ∙ ap (λ k. okay (k, rest)) (sym h.0) }

-- ---- texts

abbrev IsText : List ℕ → List ℕ → Type 0
IsText text bytes = (is_utf8 text ≡ true) × IsString padded text bytes

abbrev utf8_at : Reading (List ℕ)
utf8_at = kept BadValue is_utf8 (string_at BadValue)

utf8_exact : Exact IsText utf8_at
utf8_exact = kept_exact (IsString padded) IsText BadValue is_utf8 (string_at BadValue) (string_exact BadValue) (λ x front h t. (t, h)) (λ x front h. (h.1, h.0))

pub text_sound : Sound (Plainly plain.Text) text_at
unfolding text_at
text_sound bytes r e = made_sound IsText (Plainly plain.Text) (λ t. part.Text t) utf8_at utf8_exact (λ x front h. h) bytes r e

pub text_complete : (text front rest : List ℕ) → IsText text front → text_at (front ++ rest) ≡ Ok (part.Text text, rest)
unfolding text_at
text_complete text front rest h = made_complete IsText (λ t. part.Text t) utf8_at utf8_exact text front rest h

-- ---- references

split_sound : (n : ℕ) (bytes : List ℕ) (r : List ℕ × List ℕ) → split_at n bytes ≡ Ok r → (bytes ≡ r.0 ++ r.1) × (length r.0 ≡ n)
split_sound n bytes r e = by (chosen (nat_lt (length bytes) n) (refused Short) (okay (take n bytes, drop n bytes)) (okay r) e)
  where
    by : ((nat_lt (length bytes) n ≡ true) × (refused Short ≡ okay r)) ⊎ ((nat_lt (length bytes) n ≡ false) × (okay (take n bytes, drop n bytes) ≡ okay r)) → (bytes ≡ r.0 ++ r.1) × (length r.0 ≡ n)
    by (inl h) = absurd (refused_ok Short r h.1)
    by (inr h) = subst (λ z. (bytes ≡ z.0 ++ z.1) × (length z.0 ≡ n)) (ok_is _ r h.1) (sym (take-append-drop n bytes), length-take-le n bytes (ltb-false (length bytes) n h.0))

split_complete : (front rest : List ℕ) → split_at (length front) (front ++ rest) ≡ Ok (front, rest)
split_complete front rest =
    let le : length front ≤ length (front ++ rest) = omega (arith, length-append front rest) in
    ap (λ b. cond b (Err Short) (Ok (take (length front) (front ++ rest), drop (length front) (front ++ rest)))) (le-ltb (length (front ++ rest)) (length front) le)
    ∙ ap (λ t. Ok (t, drop (length front) (front ++ rest))) (take-append_seam front rest)
    ∙ ap (λ d. Ok (front, d)) (drop-append_seam front rest)

abbrev IsFew : List ℕ → List ℕ → Type 0
IsFew p bytes = (length p ≤ 29) × IsString padded p bytes

abbrev IsCount : ℕ → List ℕ → Type 0
IsCount n bytes = (n ≤ 29) × IsU32 n bytes

abbrev count_at : Reading ℕ
count_at = kept BadValue (λ n. nat_lt n 30) (u32_at BadValue)

count_exact : Exact IsCount count_at
count_exact = kept_exact IsU32 IsCount BadValue (λ n. nat_lt n 30) (u32_at BadValue) (u32_exact BadValue) (λ n front h t. let lt : n < 30 = ltb-true n 30 t in (omega (arith, lt), h)) (λ n front h. (h.1, lt-ltb n 30 (omega (arith, h.0))))

few_exact : Exact IsFew few_bytes_at
unfolding few_bytes_at
few_exact = record {
  sound = λ bytes r e.
      let s = bind_ok (count_at bytes) _ r e in
      let t = split_sound s.0.0 s.0.1 r s.2 in
      let a = count_exact.sound bytes s.0 s.1 in
      record {
        front = a.front ++ r.0;
        split = a.split ∙ ap (λ l. a.front ++ l) t.0 ∙ sym (append_assoc a.front r.0 r.1);
        spells = (omega (arith, a.spells.0, t.1), record { front = a.front; back = r.0; whole = refl; first = subst (λ n. IsU32 n a.front) (sym t.1) a.spells.1; second = refl });
      };
  complete = λ x front rest k.
      let h = k.1 in
      let e : front ++ rest ≡ h.front ++ (x ++ rest) = ap (λ l. l ++ rest) (h.whole ∙ ap (λ l. h.front ++ l) h.second) ∙ append_assoc h.front x rest in
      let a : count_at (front ++ rest) ≡ Ok (length x, x ++ rest) = ap count_at e ∙ count_exact.complete (length x) h.front (x ++ rest) (k.0, h.first) in
      ap (λ (s : Result (ℕ × List ℕ) Fault). s >>= λ n. split_at n.0 n.1) a ∙ split_complete x rest;
}

pub principal_exact : Exact (IsPrincipal padded) principal_at
unfolding principal_at
principal_exact = made_exact (λ z. Then (IsOne z.0) (IsFew z.1)) (IsPrincipal padded) (λ x. x.1) (λ p. (1, p)) (both one_at few_bytes_at) (λ p. refl)
    (λ x front h. (h.second.0, record { front = h.front; back = h.back; whole = h.whole; first = h.first.1; second = h.second.1 }))
    (λ p front h. record { front = h.1.front; back = h.1.back; whole = h.1.whole; first = (refl, h.1.first); second = (h.0, h.1.second) })
    (both_exact IsOne IsFew one_at few_bytes_at one_exact few_exact)

abbrev IsName : List ℕ → List ℕ → Type 0
IsName name bytes = (is_method_name name ≡ true) × IsString padded name bytes

name_exact : Exact IsName method_name_at
unfolding method_name_at
name_exact = kept_exact (IsString padded) IsName BadValue is_method_name (string_at BadValue) (string_exact BadValue) (λ x front h t. (t, h)) (λ x front h. (h.1, h.0))

-- a method of an actor
abbrev pub IsMethod : Datum → List ℕ → Type 0
IsMethod (part.Method p name) bytes = (is_method_name name ≡ true) × Then (λ b. b ≡ 1 ∷ []) (λ b. Then (IsPrincipal padded p) (IsString padded name) b) bytes
IsMethod d bytes = ⊥

abbrev Three : ℕ × (List ℕ × List ℕ) → List ℕ → Type 0
Three x bytes = Then (IsOne x.0) (λ b. Then (IsPrincipal padded x.1.0) (IsName x.1.1) b) bytes

abbrev three_at : Reading (ℕ × (List ℕ × List ℕ))
three_at = both one_at (both principal_at method_name_at)

three_exact : Exact Three three_at
three_exact =
    both_exact IsOne (λ z. Then (IsPrincipal padded z.0) (IsName z.1)) one_at (both principal_at method_name_at) one_exact
    (both_exact (IsPrincipal padded) IsName principal_at method_name_at principal_exact name_exact)

abbrev method : ℕ × (List ℕ × List ℕ) → Datum
method x = part.Method x.1.0 x.1.1

pub method_sound : Sound IsMethod method_at
unfolding method_at
method_sound bytes r e =
    made_sound Three IsMethod method three_at three_exact
    (λ x front h. (h.second.second.0, record { front = h.front; back = h.back; whole = h.whole; first = h.first.1; second = record { front = h.second.front; back = h.second.back; whole = h.second.whole; first = h.second.first; second = h.second.second.1 } }))
    bytes r e

pub method_complete : (p name front rest : List ℕ) → IsMethod (part.Method p name) front → method_at (front ++ rest) ≡ Ok (part.Method p name, rest)
unfolding method_at
method_complete p name front rest k =
    let h = k.1 in
    made_complete Three method three_at three_exact (1, (p, name)) front rest
    (record { front = h.front; back = h.back; whole = h.whole; first = (refl, h.first); second = record { front = h.second.front; back = h.second.back; whole = h.second.whole; first = h.second.first; second = (k.0, h.second.second) } })
