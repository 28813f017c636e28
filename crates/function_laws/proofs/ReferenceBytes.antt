-- The bytes that are read from the text of a principal are at most 29.
use Rattle.std.proofs.Common.{◌≡◌, ◌≤◌, ◌<◌, ℕ, zero, suc, ◌+◌, ◌*◌, ◌/◌, Bool, true, false, List, [], ◌∷◌, ◌++◌, length, map, refl, sym, ap, ◌∙◌, subst, arith}
use Rattle.std.proofs.Math.Nat.{div-add-mod}
use Rattle.std.proofs.lemmas.Bool.{eqb-true, lt-ltb}
use Rattle.std.specs.Prelude.{cond, nat_eq, nat_lt, drop, ◌%◌, ◌-◌, if◌then◌else◌}
use Rattle.mo_num.specs.PrincipalText.{IsPrincipal, letter, grouped, shown, IsTextOf}
use Rattle.mo_num.proofs.PrincipalTexts.{checksum_length}
use Rattle.mo_types.specs.Sub.{Each}
use Rattle.desugaring.specs.PrincipalBytes.{digits, bytes_of, decoded, principal_bytes}

-- ---- letters and dashes

abbrev IsLetter : ℕ → Type 0
IsLetter c = nat_eq c 45 ≡ false

differs : (a b : ℕ) → (a ≡ b → ⊥) → nat_eq a b ≡ false
differs a b n = by (nat_eq a b) refl where
  by : (c : Bool) → nat_eq a b ≡ c → nat_eq a b ≡ false
  by true e = absurd (n (eqb-true a b e))
  by false e = e

letter_is : (d : ℕ) → IsLetter (letter d)
letter_is d = by (nat_lt d 26) refl where
  by : (b : Bool) → nat_lt d 26 ≡ b → IsLetter (if nat_lt d 26 then 97 + d else 24 + d)
  by true e = subst (λ b. IsLetter (if b then 97 + d else 24 + d)) (sym e) (differs (97 + d) 45 (λ h. absurd (omega (arith, h))))
  by false e = subst (λ b. IsLetter (if b then 97 + d else 24 + d)) (sym e) (differs (24 + d) 45 (λ h. small (omega (arith, h)))) where
    small : d < 26 → ⊥
    small k = let t : true ≡ false = sym (lt-ltb d 26 k) ∙ e in absurd (let z : true ≡ false = t in cc)

letters_are : (ds : List ℕ) → Each IsLetter (map letter ds)
letters_are [] = tt
letters_are (d ∷ ds) = (letter_is d, letters_are ds)

one_more : (c : ℕ) (cs : List ℕ) → IsLetter c → length (digits (c ∷ cs)) ≡ suc (length (digits cs))
one_more c cs h = ap (λ b. length (cond b (digits cs) (cond (nat_lt c 97) (c - 24) (c - 97) ∷ digits cs))) h

no_more : (cs : List ℕ) → length (digits (45 ∷ cs)) ≡ length (digits cs)
no_more cs = refl

digits_of_letters : (ls : List ℕ) → Each IsLetter ls → length (digits ls) ≡ length ls
digits_of_letters [] h = refl
digits_of_letters (c ∷ cs) h = omega (arith, one_more c cs h.0, digits_of_letters cs h.1)

digits_of_groups : (ls : List ℕ) → Each IsLetter ls → length (digits (grouped ls)) ≡ length ls
digits_of_groups [] h = refl
digits_of_groups (a ∷ []) h = digits_of_letters (a ∷ []) h
digits_of_groups (a ∷ b ∷ []) h = digits_of_letters (a ∷ b ∷ []) h
digits_of_groups (a ∷ b ∷ c ∷ []) h = digits_of_letters (a ∷ b ∷ c ∷ []) h
digits_of_groups (a ∷ b ∷ c ∷ d ∷ []) h = digits_of_letters (a ∷ b ∷ c ∷ d ∷ []) h
digits_of_groups (a ∷ b ∷ c ∷ d ∷ e ∷ []) h = digits_of_letters (a ∷ b ∷ c ∷ d ∷ e ∷ []) h
digits_of_groups (a ∷ b ∷ c ∷ d ∷ e ∷ f ∷ rest) h =
    let tail = grouped (f ∷ rest) in
    let h1 = one_more a (b ∷ c ∷ d ∷ e ∷ 45 ∷ tail) h.0 in
    let h2 = one_more b (c ∷ d ∷ e ∷ 45 ∷ tail) h.1.0 in
    let h3 = one_more c (d ∷ e ∷ 45 ∷ tail) h.1.1.0 in
    let h4 = one_more d (e ∷ 45 ∷ tail) h.1.1.1.0 in
    let h5 = one_more e (45 ∷ tail) h.1.1.1.1.0 in
    omega (arith, h1, h2, h3, h4, h5, no_more tail, digits_of_groups (f ∷ rest) h.1.1.1.1.1)

length_letters : (ds : List ℕ) → length (map letter ds) ≡ length ds
length_letters [] = refl
length_letters (d ∷ ds) = ap suc (length_letters ds)

digits_shown : (ds : List ℕ) → length (digits (shown ds)) ≡ length ds
unfolding shown
digits_shown ds = digits_of_groups (map letter ds) (letters_are ds) ∙ length_letters ds

-- ---- bytes

length_append : (xs : List ℕ) (y : ℕ) → length (xs ++ y ∷ []) ≡ 1 + length xs
length_append [] y = refl
length_append (x ∷ xs) y = omega (arith, length_append xs y)

bytes_length : (k n : ℕ) → length (bytes_of k n) ≡ k
bytes_length zero n = refl
bytes_length (suc k) n = omega (arith, length_append (bytes_of k (n / 256)) (n % 256), bytes_length k (n / 256))

dropped : (xs : List ℕ) (m : ℕ) → length xs ≡ 4 + m → length (drop 4 xs) ≡ m
dropped [] m h = absurd (omega (arith, h))
dropped (a ∷ []) m h = absurd (omega (arith, h))
dropped (a ∷ b ∷ []) m h = absurd (omega (arith, h))
dropped (a ∷ b ∷ c ∷ []) m h = absurd (omega (arith, h))
dropped (a ∷ b ∷ c ∷ d ∷ xs) m h = omega (arith, h)

whole_bytes : (n m p : ℕ) → 5 * n ≡ 8 * m + p → p < 5 → 5 * n / 8 ≡ m
whole_bytes n m p h k = omega (arith, h, k, div-add-mod (5 * n) 8)

-- at most 29
pub few_bytes : (bytes text : List ℕ) → IsPrincipal bytes → IsTextOf bytes text → length (principal_bytes text) ≤ 29
few_bytes bytes text p t =
    let ds = t.digits in
    let s = t.spelled in
    let e : length (digits text) ≡ length ds = ap (λ x. length (digits x)) t.text_is ∙ digits_shown ds in
    let w : 5 * length ds / 8 ≡ 4 + length bytes = whole_bytes (length ds) (4 + length bytes) s.padding (s.filled ∙ ap (λ n. 8 * n + s.padding) (checksum_length bytes)) s.few in
    let l : length (decoded (digits text)) ≡ 4 + length bytes = bytes_length (5 * length (digits text) / 8) _ ∙ (ap (λ n. 5 * n / 8) e ∙ w) in
    let d : length (principal_bytes text) ≡ length bytes = dropped (decoded (digits text)) (length bytes) l in
    omega (arith, d, p.0)
