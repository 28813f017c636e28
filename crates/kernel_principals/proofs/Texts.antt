-- The text of a principal gives its bytes back.
use Rattle.std.proofs.Common.{◌≡◌, ◌∙◌, ℕ, zero, suc, ◌+◌, ◌*◌, ◌/◌, ◌^◌, ◌<◌, ◌≤◌, Bool, true, false, List, [], ◌∷◌, ◌++◌, length, map, refl, sym, ap, subst, arith}
use Rattle.std.proofs.Math.Nat.{div-add-mod, mul-div_cancel}
use Rattle.std.proofs.lemmas.Bool.Decides.{nat_tests}
use Rattle.std.proofs.lemmas.Nat.{div-mul-add, pow_pos}
use Rattle.std.specs.List.{AllByRecursion}
use Rattle.std.specs.Prelude.{cond, nat_eq, nat_lt, drop, ◌%◌, ◌-◌, if◌then◌else◌}
use Rattle.mo_num.specs.PrincipalText.{IsBase32, IsPrincipal, IsTextOf, grouped, letter, number, shown, with_checksum}
use Rattle.mo_num.proofs.Numbers.{number_more}
use Rattle.mo_num.proofs.PrincipalTexts.{checksum_below, checksum_parts}
use Rattle.desugaring.specs.PrincipalBytes.{bytes_of, decoded, digits, principal_bytes}

-- ---- letters and dashes

low_letter : (d : ℕ) (cs : List ℕ) → d < 26 → digits ((97 + d) ∷ cs) ≡ d ∷ digits cs
low_letter d cs h = grind (arith, nat_tests)

high_letter : (d : ℕ) (cs : List ℕ) → 26 ≤ d → d < 32 → digits ((24 + d) ∷ cs) ≡ d ∷ digits cs
high_letter d cs h k = grind (arith, nat_tests)

one_back : (d : ℕ) (cs : List ℕ) → d < 32 → digits (letter d ∷ cs) ≡ d ∷ digits cs
one_back d cs h = grind (arith, nat_tests, low_letter, high_letter)

each_back : (ds : List ℕ) → AllByRecursion (λ d. d < 32) ds → digits (map letter ds) ≡ ds
each_back [] h = refl
each_back (d ∷ ds) h = one_back d (map letter ds) h.0 ∙ ap (λ (l : List ℕ). d ∷ l) (each_back ds h.1)

groups_back : (ds : List ℕ) → AllByRecursion (λ d. d < 32) ds → digits (grouped (map letter ds)) ≡ ds
groups_back [] h = refl
groups_back (a ∷ []) h = each_back (a ∷ []) h
groups_back (a ∷ b ∷ []) h = each_back (a ∷ b ∷ []) h
groups_back (a ∷ b ∷ c ∷ []) h = each_back (a ∷ b ∷ c ∷ []) h
groups_back (a ∷ b ∷ c ∷ d ∷ []) h = each_back (a ∷ b ∷ c ∷ d ∷ []) h
groups_back (a ∷ b ∷ c ∷ d ∷ e ∷ []) h = each_back (a ∷ b ∷ c ∷ d ∷ e ∷ []) h
groups_back (a ∷ b ∷ c ∷ d ∷ e ∷ f ∷ rest) h =
    let tail : List ℕ = grouped (map letter (f ∷ rest)) in
    one_back a (letter b ∷ letter c ∷ letter d ∷ letter e ∷ 45 ∷ tail) h.0
    ∙ ap (λ (l : List ℕ). a ∷ l) (one_back b (letter c ∷ letter d ∷ letter e ∷ 45 ∷ tail) h.1.0
    ∙ ap (λ (l : List ℕ). b ∷ l) (one_back c (letter d ∷ letter e ∷ 45 ∷ tail) h.1.1.0
    ∙ ap (λ (l : List ℕ). c ∷ l) (one_back d (letter e ∷ 45 ∷ tail) h.1.1.1.0
    ∙ ap (λ (l : List ℕ). d ∷ l) (one_back e (45 ∷ tail) h.1.1.1.1.0
    ∙ ap (λ (l : List ℕ). e ∷ l) (groups_back (f ∷ rest) h.1.1.1.1.1)))))

digits_back : (ds : List ℕ) → AllByRecursion (λ d. d < 32) ds → digits (shown ds) ≡ ds
unfolding shown
digits_back ds h = groups_back ds h

-- ---- bytes

module _ (P : ℕ → Type 0) where
  front_has : (xs : List ℕ) (x : ℕ) → AllByRecursion P (xs ++ x ∷ []) → AllByRecursion P xs × P x
  front_has [] x h = (tt, h.0)
  front_has (y ∷ xs) x h = let r = front_has xs x h.1 in ((h.0, r.0), r.1)

split_last : (x : ℕ) (xs : List ℕ) → (front : List ℕ) × ((last : ℕ) × (x ∷ xs ≡ front ++ last ∷ []))
split_last x [] = ([], (x, refl))
split_last x (y ∷ xs) = let r = split_last y xs in (x ∷ r.0, (r.1.0, ap (λ (l : List ℕ). x ∷ l) r.1.1))

length_last : (xs : List ℕ) (x : ℕ) → length (xs ++ x ∷ []) ≡ suc (length xs)
length_last [] x = refl
length_last (y ∷ xs) x = ap suc (length_last xs x)

last_rest : (a b : ℕ) → b < 256 → (a * 256 + b) % 256 ≡ b
last_rest a b h = omega (arith, div-add-mod (a * 256 + b) 256, div-mul-add a 256 b h)

next_byte : (n m a b : ℕ) → b < 256 → m ≡ a * 256 + b → bytes_of (suc n) m ≡ bytes_of n a ++ b ∷ []
next_byte n m a b h e =
    ap (λ (k : ℕ). bytes_of (suc n) k) e
    ∙ (ap (λ (k : ℕ). bytes_of n k ++ ((a * 256 + b) % 256) ∷ []) (div-mul-add a 256 b h) ∙ ap (λ (k : ℕ). bytes_of n a ++ k ∷ []) (last_rest a b h))

number_back : (n : ℕ) (bs : List ℕ) → length bs ≡ n → AllByRecursion (λ b. b < 256) bs → bytes_of n (number 256 bs) ≡ bs
number_back zero [] e h = refl
number_back zero (x ∷ xs) e h = absurd (omega (arith, e))
number_back (suc n) [] e h = absurd (omega (arith, e))
number_back (suc n) (x ∷ xs) e h =
    let r = split_last x xs in
    let front : List ℕ = r.0 in
    let b : ℕ = r.1.0 in
    let all = front_has (λ k. k < 256) front b (subst (AllByRecursion (λ k. k < 256)) r.1.1 h) in
    let len : length front ≡ n = omega (arith, e, ap length r.1.1, length_last front b) in
    next_byte n (number 256 (x ∷ xs)) (number 256 front) b all.1 (ap (number 256) r.1.1 ∙ number_more 256 front b)
    ∙ (ap (λ (l : List ℕ). l ++ b ∷ []) (number_back n front len all.0) ∙ sym r.1.1)

whole_bytes : (n m p : ℕ) → 5 * n ≡ 8 * m + p → p < 5 → (5 * n / 8 ≡ m) × (5 * n % 8 ≡ p)
whole_bytes n m p h k = (omega (arith, h, k, div-add-mod (5 * n) 8), omega (arith, h, k, div-add-mod (5 * n) 8))

decoded_back : (bytes ds : List ℕ) → AllByRecursion (λ b. b < 256) bytes → IsBase32 bytes ds → decoded ds ≡ bytes
decoded_back bytes ds h b =
    let w = whole_bytes (length ds) (length bytes) b.padding b.filled b.few in
    let q : number 32 ds / 2 ^ b.padding ≡ number 256 bytes = ap (λ (k : ℕ). k / 2 ^ b.padding) b.same ∙ mul-div_cancel (number 256 bytes) (pow_pos b.padding) in
    ap (λ (k : ℕ). bytes_of k (number 32 ds / 2 ^ (5 * length ds % 8))) w.0
    ∙ (ap (λ (k : ℕ). bytes_of (length bytes) (number 32 ds / 2 ^ k)) w.1
    ∙ (ap (bytes_of (length bytes)) q ∙ number_back (length bytes) bytes refl h))

pub bytes_back : (bytes text : List ℕ) → IsPrincipal bytes → IsTextOf bytes text → bytes ≡ principal_bytes text
bytes_back bytes text p t =
    sym (ap (λ (x : List ℕ). drop 4 (decoded (digits x))) t.text_is
    ∙ (ap (λ (x : List ℕ). drop 4 (decoded x)) (digits_back t.digits t.spelled.below)
    ∙ (ap (λ (x : List ℕ). drop 4 x) (decoded_back (with_checksum bytes) t.digits (checksum_below bytes p.1) t.spelled) ∙ (checksum_parts (with_checksum bytes) bytes refl).1)))
