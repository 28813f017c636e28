-- The text of a principal, from the whole to the parts.
use Rattle.std.proofs.Common.{◌≡◌, ℕ, zero, suc, ◌+◌, ◌*◌, ◌^◌, ◌<◌, ◌≤◌, List, [], ◌∷◌, ◌++◌, length, get_or, take, drop, map, sym, ap, subst, ◌∙◌, arith, Fits, w8}
use Rattle.std.specs.List.{AllByRecursion}
use Rattle.std.specs.Option.{MatchOption}
use Rattle.std.proofs.Common.{Option, Some, None}
use Rattle.std.specs.Int.{to_be_bytes, from_be_bytes, w32}
use Rattle.std.proofs.lemmas.Nat.{pow_pos, be_bytes_4, from_be_bytes-to_be_bytes_4}
use Rattle.std.proofs.lemmas.List.{take-append-drop, length-take-le}
use Rattle.mo_num.specs.Crc.{crc32_of}
use Rattle.mo_num.specs.PrincipalText.{IsPrincipal, IsBase32, IsTextOf, with_checksum, number, letter, shown}
use Rattle.mo_num.proofs.Numbers.{number_one, digit_one}
use Rattle.mo_num.proofs.Letters.{map_length, letters_one}
use Rattle.mo_num.proofs.Groups.{one_group, next_group, short_more, IsLong, long_text}

-- The bytes of a slice are below 256.
pub bytes_below : (bytes : List ℕ) → ((i : ℕ) → Fits w8 (get_or bytes i 0)) → AllByRecursion (λ b. b < 256) bytes
bytes_below [] h = tt
bytes_below (b ∷ bs) h = (let f = h 0 in f.fits, bytes_below bs (λ i. h (suc i)))

pub checksum_length : (p : List ℕ) → length (with_checksum p) ≡ 4 + length p
unfolding with_checksum
checksum_length p = omega arith

pub checksum_below : (p : List ℕ) → AllByRecursion (λ b. b < 256) p → AllByRecursion (λ b. b < 256) (with_checksum p)
unfolding with_checksum
checksum_below p h = (omega arith, (omega arith, (omega arith, (omega arith, h))))

front_below : (n : ℕ) (bytes : List ℕ) → AllByRecursion (λ b. b < 256) bytes → (i : ℕ) → get_or (take n bytes) i 0 < 256
front_below zero bytes h i = omega arith
front_below (suc n) [] h i = omega arith
front_below (suc n) (b ∷ bs) h zero = h.0
front_below (suc n) (b ∷ bs) h (suc i) = front_below n bs h.1 i

pub back_below : (n : ℕ) (bytes : List ℕ) → AllByRecursion (λ b. b < 256) bytes → AllByRecursion (λ b. b < 256) (drop n bytes)
back_below zero bytes h = h
back_below (suc n) [] h = tt
back_below (suc n) (b ∷ bs) h = back_below n bs h.1

-- The checksum, and what stands behind it.
pub checksum_parts : (bytes p : List ℕ) → bytes ≡ with_checksum p → (take 4 bytes ≡ to_be_bytes w32 (crc32_of p)) × (drop 4 bytes ≡ p)
unfolding with_checksum
checksum_parts bytes p e = (ap (λ l. take 4 l) e, ap (λ l. drop 4 l) e)

pub checksum_made : (bytes : List ℕ) → take 4 bytes ≡ to_be_bytes w32 (crc32_of (drop 4 bytes)) → bytes ≡ with_checksum (drop 4 bytes)
unfolding with_checksum
checksum_made bytes e = sym (take-append-drop 4 bytes) ∙ ap (λ l. l ++ drop 4 bytes) e

-- Another checksum.
pub checksum_other : (bytes p : List ℕ) → crc32_of (drop 4 bytes) < 2 ^ 32 → (crc32_of (drop 4 bytes) ≡ from_be_bytes w32 (take 4 bytes) → ⊥) → bytes ≡ with_checksum p → ⊥
checksum_other bytes p small other e =
    let parts = checksum_parts bytes p e in
    let small_p : crc32_of p < 2 ^ 32 = subst (λ l. crc32_of l < 2 ^ 32) parts.1 small in
    other (ap crc32_of parts.1 ∙ sym (from_be_bytes-to_be_bytes_4 (crc32_of p) small_p) ∙ ap (λ l. from_be_bytes w32 l) (sym parts.0))

pub checksum_same : (bytes : List ℕ) → 4 ≤ length bytes → ((i : ℕ) → Fits w8 (get_or bytes i 0)) → crc32_of (drop 4 bytes) ≡ from_be_bytes w32 (take 4 bytes) → bytes ≡ with_checksum (drop 4 bytes)
checksum_same bytes enough fits e =
    let len : length (take 4 bytes) ≡ 4 = length-take-le 4 bytes enough in
    let below : AllByRecursion (λ b. b < 256) bytes = bytes_below bytes fits in
    checksum_made bytes (sym (be_bytes_4 (take 4 bytes) (crc32_of (drop 4 bytes)) len (front_below 4 bytes below) e))

-- A text shows one list of digits.
few_one : (xs ys : List ℕ) → length xs ≤ 5 → AllByRecursion (λ d. d < 32) xs → AllByRecursion (λ d. d < 32) ys → shown xs ≡ shown ys → xs ≡ ys
few_one xs ys few h k e =
    let a : shown xs ≡ map letter xs = one_group xs few in
    let n : length ys ≤ 5 = short_more ys (omega (arith, ap length e, ap length a, map_length xs, few)) in
    letters_one xs ys h k (sym a ∙ e ∙ one_group ys n)

pub shown_one : (xs ys : List ℕ) → AllByRecursion (λ d. d < 32) xs → AllByRecursion (λ d. d < 32) ys → shown xs ≡ shown ys → xs ≡ ys
shown_one [] ys h k e = few_one [] ys (omega arith) h k e
shown_one (a ∷ []) ys h k e = few_one (a ∷ []) ys (omega arith) h k e
shown_one (a ∷ b ∷ []) ys h k e = few_one (a ∷ b ∷ []) ys (omega arith) h k e
shown_one (a ∷ b ∷ c ∷ []) ys h k e = few_one (a ∷ b ∷ c ∷ []) ys (omega arith) h k e
shown_one (a ∷ b ∷ c ∷ d ∷ []) ys h k e = few_one (a ∷ b ∷ c ∷ d ∷ []) ys (omega arith) h k e
shown_one (a ∷ b ∷ c ∷ d ∷ x ∷ []) ys h k e = few_one (a ∷ b ∷ c ∷ d ∷ x ∷ []) ys (omega arith) h k e
shown_one (a ∷ b ∷ c ∷ d ∷ x ∷ f ∷ ds) ys h k e =
    let own : shown (a ∷ b ∷ c ∷ d ∷ x ∷ f ∷ ds) ≡ letter a ∷ letter b ∷ letter c ∷ letter d ∷ letter x ∷ 45 ∷ shown (f ∷ ds) = next_group a b c d x f ds in
    let l : IsLong (shown (a ∷ b ∷ c ∷ d ∷ x ∷ f ∷ ds)) ys = long_text (shown (a ∷ b ∷ c ∷ d ∷ x ∷ f ∷ ds)) ys e (omega (arith, ap length own)) in
    let five : map letter (a ∷ b ∷ c ∷ d ∷ x ∷ []) ≡ map letter l.0 = sym (ap (λ t. take 5 t) own) ∙ l.3 in
    let first : a ∷ b ∷ c ∷ d ∷ x ∷ [] ≡ l.0 = letters_one (a ∷ b ∷ c ∷ d ∷ x ∷ []) l.0 (h.0, (h.1.0, (h.1.1.0, (h.1.1.1.0, (h.1.1.1.1.0, tt))))) (l.7 k).0 five in
    let back : shown (f ∷ ds) ≡ shown l.1 = sym (ap (λ t. drop 6 t) own) ∙ l.5 in
    let rest : f ∷ ds ≡ l.1 = shown_one (f ∷ ds) l.1 h.1.1.1.1.1 (l.7 k).1 back in
    ap (λ t. t ++ f ∷ ds) first ∙ ap (λ t. l.0 ++ t) rest ∙ sym l.2

-- The length of a text.
pub shown_length : (xs : List ℕ) → 5 * length (shown xs) ≤ 6 * length xs
shown_length [] = let e = ap length (one_group [] (omega arith)) in omega (arith, e)
shown_length (a ∷ []) = let e = ap length (one_group (a ∷ []) (omega arith)) in omega (arith, e)
shown_length (a ∷ b ∷ []) = let e = ap length (one_group (a ∷ b ∷ []) (omega arith)) in omega (arith, e)
shown_length (a ∷ b ∷ c ∷ []) = let e = ap length (one_group (a ∷ b ∷ c ∷ []) (omega arith)) in omega (arith, e)
shown_length (a ∷ b ∷ c ∷ d ∷ []) = let e = ap length (one_group (a ∷ b ∷ c ∷ d ∷ []) (omega arith)) in omega (arith, e)
shown_length (a ∷ b ∷ c ∷ d ∷ x ∷ []) = let e = ap length (one_group (a ∷ b ∷ c ∷ d ∷ x ∷ []) (omega arith)) in omega (arith, e)
shown_length (a ∷ b ∷ c ∷ d ∷ x ∷ f ∷ ds) =
    let e = ap length (next_group a b c d x f ds) in
    let rest : 5 * length (shown (f ∷ ds)) ≤ 6 * length (f ∷ ds) = shown_length (f ∷ ds) in
    omega (arith, e, rest)

pub shown_longer : (xs : List ℕ) → length xs ≤ length (shown xs)
shown_longer [] = omega arith
shown_longer (a ∷ []) = let e = ap length (one_group (a ∷ []) (omega arith)) in omega (arith, e)
shown_longer (a ∷ b ∷ []) = let e = ap length (one_group (a ∷ b ∷ []) (omega arith)) in omega (arith, e)
shown_longer (a ∷ b ∷ c ∷ []) = let e = ap length (one_group (a ∷ b ∷ c ∷ []) (omega arith)) in omega (arith, e)
shown_longer (a ∷ b ∷ c ∷ d ∷ []) = let e = ap length (one_group (a ∷ b ∷ c ∷ d ∷ []) (omega arith)) in omega (arith, e)
shown_longer (a ∷ b ∷ c ∷ d ∷ x ∷ []) = let e = ap length (one_group (a ∷ b ∷ c ∷ d ∷ x ∷ []) (omega arith)) in omega (arith, e)
shown_longer (a ∷ b ∷ c ∷ d ∷ x ∷ f ∷ ds) =
    let e = ap length (next_group a b c d x f ds) in
    let rest : length (f ∷ ds) ≤ length (shown (f ∷ ds)) = shown_longer (f ∷ ds) in
    omega (arith, e, rest)

pub text_length : (p text : List ℕ) → IsPrincipal p → IsTextOf p text → length text ≤ 63
text_length p text h t =
    let l = shown_length t.digits in
    let e = ap length t.text_is in
    let c = checksum_length p in
    omega (arith, l, e, c, h.0, t.spelled.filled, t.spelled.few)

-- Digits write one list of bytes.
pub base32_one : (xs ys digits : List ℕ) → AllByRecursion (λ b. b < 256) xs → AllByRecursion (λ b. b < 256) ys → IsBase32 xs digits → IsBase32 ys digits → xs ≡ ys
base32_one xs ys digits h k x y =
    let len : length xs ≡ length ys = omega (arith, x.filled, y.filled, x.few, y.few) in
    let pad : x.padding ≡ y.padding = omega (arith, x.filled, y.filled, x.few, y.few) in
    let e : number 256 xs * 2 ^ x.padding ≡ number 256 ys * 2 ^ x.padding = sym x.same ∙ y.same ∙ ap (λ n. number 256 ys * 2 ^ n) (sym pad) in
    let n : number 256 xs ≡ number 256 ys = digit_one (number 256 xs) (number 256 ys) 0 0 (2 ^ x.padding) (pow_pos x.padding) (pow_pos x.padding) (omega (arith, e)) in
    number_one 256 xs ys len h k n

-- What reading behind a right checksum answers.
pub checked_answer : (o : Option (List ℕ)) (bytes rest : List ℕ) → rest ≡ drop 4 bytes → AllByRecursion (λ b. b < 256) bytes → bytes ≡ with_checksum (drop 4 bytes) → MatchOption o (29 < length rest) (λ p. (length rest ≤ 29) × (p ≡ rest)) → MatchOption o ((p : List ℕ) → IsPrincipal p → bytes ≡ with_checksum p → ⊥) (λ p. IsPrincipal p × (bytes ≡ with_checksum p))
checked_answer None bytes rest r below made h = λ p is e. omega (arith, h, ap length r, ap length (checksum_parts bytes p e).1, is.0)
checked_answer (Some p) bytes rest r below made h =
    let e : p ≡ drop 4 bytes = h.1 ∙ r in
    let P : List ℕ → Type 0 = λ l. IsPrincipal l × (bytes ≡ with_checksum l) in
    subst P (sym e) ((omega (arith, h.0, ap length r), back_below 4 bytes below), made)

-- What reading the bytes answers of the text.
pub text_answer : (o : Option (List ℕ)) (text digits bytes : List ℕ) → text ≡ shown digits → AllByRecursion (λ d. d < 32) digits → AllByRecursion (λ b. b < 256) bytes → IsBase32 bytes digits → MatchOption o ((p : List ℕ) → IsPrincipal p → bytes ≡ with_checksum p → ⊥) (λ p. IsPrincipal p × (bytes ≡ with_checksum p)) → MatchOption o ((p : List ℕ) → IsPrincipal p → IsTextOf p text → ⊥) (λ p. IsPrincipal p × IsTextOf p text)
text_answer None text digits bytes e below small spelled h = λ p is t.
    let d : digits ≡ t.digits = shown_one digits t.digits below t.spelled.below (sym e ∙ t.text_is) in
    let s : IsBase32 (with_checksum p) digits = subst (λ l. IsBase32 (with_checksum p) l) (sym d) t.spelled in
    h p is (base32_one bytes (with_checksum p) digits small (checksum_below p is.1) spelled s)
text_answer (Some p) text digits bytes e below small spelled h = (h.0, record { digits = digits; spelled = subst (λ l. IsBase32 l digits) h.1 spelled; text_is = e })

-- No bytes are written by the digits.
pub text_none : (text digits : List ℕ) → text ≡ shown digits → AllByRecursion (λ d. d < 32) digits → ((bytes : List ℕ) → IsBase32 bytes digits → ⊥) → (p : List ℕ) → IsPrincipal p → IsTextOf p text → ⊥
text_none text digits e below none p is t =
    let d : digits ≡ t.digits = shown_one digits t.digits below t.spelled.below (sym e ∙ t.text_is) in
    none (with_checksum p) (subst (λ l. IsBase32 (with_checksum p) l) (sym d) t.spelled)
