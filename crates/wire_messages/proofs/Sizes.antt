-- The bytes of a number are ten at most.
use Rattle.std.proofs.Common.{◌≡◌, ℕ, zero, suc, ◌+◌, ◌-◌, ◌*◌, ◌/◌, ◌%◌, ◌^◌, ◌<◌, ◌≤◌, List, [], ◌∷◌, length, Bool, true, false, nat_lt, Option, Some, ℤ, pos, negsuc, ◌≤ℤ◌, refl, ap, arith}
use Rattle.std.proofs.lemmas.Int.{ints}
use Rattle.std.proofs.lemmas.Bool.{ltb-true, ltb-false}
use Rattle.mo_num.specs.declared.kind.Kind.{Kind}
use Rattle.mo_num.specs.declared.kind.Kind.TheVariants as kind
use Rattle.mo_num.specs.Kinds.{least, greatest}
use Rattle.exact_reading.specs.Reading.{is_between, is_signed}
use Rattle.exact_reading.proofs.Numbers.{true_between}
use Rattle.mo_types.specs.declared.datum.Datum.TheVariants as part
use Rattle.mo_types.specs.Spelling.{low_first, as_bytes}
use Rattle.mo_types.specs.Wire.{plain_number}
use Rattle.mo_coding.specs.Numbers.{leb_by, leb, positive_by, negative_by, sleb}
use Rattle.mo_coding.specs.Pieces.{given}
use Rattle.mo_coding.specs.Values.{plain_part}
use Rattle.wire_numbers.proofs.Spelled.{room}

-- one of two, by a test
abbrev chosen : {A : Type 0} → Bool → A → A → A
chosen t a b = elim t [ true ↦ a | false ↦ b ]

either : (t : Bool) (most : ℕ) (a b : List ℕ) → length a ≤ most → (t ≡ false → length b ≤ most) → length (chosen t a b) ≤ most
either true most a b h k = h
either false most a b h k = k refl

leb_short : (k f n : ℕ) → n < room 128 k → length (leb_by f n) ≤ suc k
leb_short k zero n lt = omega arith
leb_short zero (suc f) n lt = either (nat_lt n 128) 1 (n ∷ []) ((n % 128 + 128) ∷ leb_by f (n / 128)) (omega arith) (λ e. absurd (let ge : 128 ≤ n = ltb-false n 128 e in omega (arith, lt, ge)))
leb_short (suc k) (suc f) n lt =
    either (nat_lt n 128) (suc (suc k)) (n ∷ []) ((n % 128 + 128) ∷ leb_by f (n / 128)) (omega arith) (λ e. let ih = leb_short k f (n / 128) (omega (arith, lt)) in omega (arith, ih))

positive_short : (k f n : ℕ) → n < room 64 k → length (positive_by f n) ≤ suc k
positive_short k zero n lt = omega arith
positive_short zero (suc f) n lt = either (nat_lt n 64) 1 (n ∷ []) ((n % 128 + 128) ∷ positive_by f (n / 128)) (omega arith) (λ e. absurd (let ge : 64 ≤ n = ltb-false n 64 e in omega (arith, lt, ge)))
positive_short (suc k) (suc f) n lt =
    either (nat_lt n 64) (suc (suc k)) (n ∷ []) ((n % 128 + 128) ∷ positive_by f (n / 128)) (omega arith) (λ e. let ih = positive_short k f (n / 128) (omega (arith, lt)) in omega (arith, ih))

negative_short : (k f n : ℕ) → n < room 64 k → length (negative_by f n) ≤ suc k
negative_short k zero n lt = omega arith
negative_short zero (suc f) n lt = either (nat_lt n 64) 1 ((127 - n) ∷ []) ((255 - n % 128) ∷ negative_by f (n / 128)) (omega arith) (λ e. absurd (let ge : 64 ≤ n = ltb-false n 64 e in omega (arith, lt, ge)))
negative_short (suc k) (suc f) n lt =
    either (nat_lt n 64) (suc (suc k)) ((127 - n) ∷ []) ((255 - n % 128) ∷ negative_by f (n / 128)) (omega arith) (λ e. let ih = negative_short k f (n / 128) (omega (arith, lt)) in omega (arith, ih))

sleb_short : (z : ℤ) → negsuc (2 ^ 63 - 1) ≤ℤ z → z ≤ℤ pos (2 ^ 63 - 1) → length (sleb z) ≤ 10
sleb_short (pos n) least most = positive_short 9 n n (omega (arith, ints, most))
sleb_short (negsuc n) least most = negative_short 9 n n (omega (arith, ints, least))

low_length : (w n : ℕ) → length (low_first w n) ≡ w
low_length zero n = refl
low_length (suc w) n = ap suc (low_length w (n / 256))

fixed_length : (w : ℕ) (z : ℤ) → length (as_bytes w z) ≡ w
fixed_length w (pos n) = low_length w n
fixed_length w (negsuc n) = low_length w (2 ^ (8 * w) - (n + 1))

given_some : (t : Bool) (piece : Option (List ℕ)) (text : List ℕ) → given t piece ≡ Some text → (t ≡ true) × (piece ≡ Some text)
given_some true piece text e = (refl, e)
given_some false piece text e = cc

inside_some : (a b : List ℕ) → Some a ≡ Some b → a ≡ b
inside_some a b e = cc

fixed_short : (k : Kind) (w : ℕ) (z : ℤ) (text : List ℕ) → w ≤ 8 → given (is_between (least k) (greatest k) z) (Some (as_bytes w z)) ≡ Some text → length text ≤ 10
fixed_short k w z text few e =
    let g = given_some (is_between (least k) (greatest k) z) (Some (as_bytes w z)) text e in
    let same : length (as_bytes w z) ≡ length text = ap length (inside_some (as_bytes w z) text g.1) in
    omega (arith, same, fixed_length w z, few)

pub number_short : (k : Kind) (z : ℤ) (text : List ℕ) → plain_part (plain_number k) (part.Number z) ≡ Some text → length text ≤ 10
number_short kind.Nat (pos n) text e =
    let g = given_some (nat_lt n (2 ^ 63)) (given (nat_lt n (2 ^ 70)) (Some (leb n))) text e in
    let g2 = given_some (nat_lt n (2 ^ 70)) (Some (leb n)) text g.1 in
    let lt : n < 2 ^ 63 = ltb-true n (2 ^ 63) g.0 in
    let few = leb_short 8 n n (omega (arith, lt)) in
    let same : length (leb n) ≡ length text = ap length (inside_some (leb n) text g2.1) in
    omega (arith, same, few)
number_short kind.Nat (negsuc n) text e = cc
number_short kind.Int z text e =
    let g = given_some (is_between (least kind.Int) (greatest kind.Int) z) (given (is_signed 70 z) (Some (sleb z))) text e in
    let g2 = given_some (is_signed 70 z) (Some (sleb z)) text g.1 in
    let range = true_between (least kind.Int) (greatest kind.Int) z g.0 in
    let few = sleb_short z range.0 range.1 in
    let same : length (sleb z) ≡ length text = ap length (inside_some (sleb z) text g2.1) in
    omega (arith, same, few)
number_short kind.Nat8 z text e = fixed_short kind.Nat8 1 z text (omega arith) e
number_short kind.Nat16 z text e = fixed_short kind.Nat16 2 z text (omega arith) e
number_short kind.Nat32 z text e = fixed_short kind.Nat32 4 z text (omega arith) e
number_short kind.Nat64 z text e = fixed_short kind.Nat64 8 z text (omega arith) e
number_short kind.Int8 z text e = fixed_short kind.Int8 1 z text (omega arith) e
number_short kind.Int16 z text e = fixed_short kind.Int16 2 z text (omega arith) e
number_short kind.Int32 z text e = fixed_short kind.Int32 4 z text (omega arith) e
number_short kind.Int64 z text e = fixed_short kind.Int64 8 z text (omega arith) e
