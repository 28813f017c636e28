-- Hexadecimal words are read as the library reads them.
use Rattle.std.proofs.Common.{◌≡◌, ℕ, ◌+◌, ◌*◌, ◌%◌, List, [], ◌∷◌, length, inl, inr, Option, Some, None, ◌⊎◌, Result, Ok, Err, refl, sym, ap, ◌∙◌, arith}
use Rattle.std.proofs.lemmas.Bool.{cases_lt}
use Rattle.std.proofs.lemmas.Bool.Decides.{nat_tests}
use Rattle.hex.specs.Hex.{decode_of, decode_pairs, digit_or_error, hex_digit_value, ◌>>=◌}
use Rattle.hex.proofs.HexLemmas.{decode_of-even}
use Rattle.hex.specs.declared.error.FromHexError.{FromHexError}
use Rattle.hex.specs.declared.error.FromHexError.TheVariants.{OddLength}
use Rattle.play_script.specs.Words.{digit_value, byte_of, before_all, hex_bytes}

-- what was read, if anything was
abbrev pub value_of : Result (List ℕ) FromHexError → Option (List ℕ)
value_of (Ok bytes) = Some bytes
value_of (Err e) = None

same_digit : (c : ℕ) → hex_digit_value c ≡ digit_value c
same_digit c = grind (arith, nat_tests)

-- the byte of two digits before the others
joined : (i high low : ℕ) (h l : Option ℕ) (r : Result (List ℕ) FromHexError)
    → value_of ((digit_or_error high i h >>= (λ x. digit_or_error low (i + 1) l >>= (λ y. Ok (x * 16 + y)))) >>= (λ byte. r >>= (λ bytes. Ok (byte ∷ bytes))))
    ≡ before_all (byte_of h l) (value_of r)
joined i high low None l r = refl
joined i high low (Some x) None r = refl
joined i high low (Some x) (Some y) (Err e) = refl
joined i high low (Some x) (Some y) (Ok bytes) = let e : x * 16 + y ≡ 16 * x + y = omega arith in ap (λ (v : ℕ). Some (v ∷ bytes)) e

same_pairs : (i : ℕ) (text : List ℕ) → value_of (decode_pairs i text) ≡ hex_bytes text
unfolding decode_pairs
same_pairs i [] = refl
same_pairs i (digit ∷ []) = refl
same_pairs i (high ∷ low ∷ rest) =
    joined i high low (hex_digit_value high) (hex_digit_value low) (decode_pairs (i + 2) rest)
    ∙ ap (λ h. before_all (byte_of h (hex_digit_value low)) (value_of (decode_pairs (i + 2) rest))) (same_digit high)
    ∙ ap (λ l. before_all (byte_of (digit_value high) l) (value_of (decode_pairs (i + 2) rest))) (same_digit low)
    ∙ ap (λ r. before_all (byte_of (digit_value high) (digit_value low)) r) (same_pairs (i + 2) rest)

nothing_behind : (byte : Option ℕ) → before_all byte None ≡ None
nothing_behind None = refl
nothing_behind (Some byte) = refl

odd_is_none : (text : List ℕ) → length text % 2 ≡ 1 → hex_bytes text ≡ None
odd_is_none [] odd = absurd (omega arith)
odd_is_none (digit ∷ []) odd = refl
odd_is_none (high ∷ low ∷ rest) odd =
    ap (before_all (byte_of (digit_value high) (digit_value low))) (odd_is_none rest (omega arith)) ∙ nothing_behind (byte_of (digit_value high) (digit_value low))

two_ways : (n : ℕ) → (n % 2 ≡ 1) ⊎ (n % 2 ≡ 0)
two_ways n = elim (cases_lt (n % 2) 1) [
  | inl below ↦ inr (omega arith)
  | inr above ↦ inl (omega arith)
]

odd_is_refused : (text : List ℕ) → length text % 2 ≡ 1 → decode_of text ≡ Err OddLength
odd_is_refused text odd = grind (arith)

pub same_value : (text : List ℕ) → value_of (decode_of text) ≡ hex_bytes text
same_value text = elim (two_ways (length text)) [
  | inl odd ↦ ap value_of (odd_is_refused text odd) ∙ sym (odd_is_none text odd)
  | inr even ↦ ap value_of (decode_of-even text even) ∙ same_pairs 0 text
]

pub read_value : (text bytes : List ℕ) → decode_of text ≡ Ok bytes → Some bytes ≡ hex_bytes text
read_value text bytes is = sym (ap value_of is) ∙ same_value text

pub read_nothing : (text : List ℕ) (e : FromHexError) → decode_of text ≡ Err e → None ≡ hex_bytes text
read_nothing text e is = sym (ap value_of is) ∙ same_value text
