-- The number of a label, byte by byte.
use Rattle.std.proofs.Common.{◌≡◌, ℕ, suc, ◌+◌, ◌*◌, ◌^◌, ◌%◌, ◌<◌, List, [], ◌∷◌, ◌++◌, length, sym, ap, ◌∙◌, arith, take, get_or, length-append, add-one}
use Rattle.std.proofs.Math.Nat.{pow-suc, mul_assoc}
use Rattle.std.proofs.Math.Seq.{take-suc}
use Rattle.mo_types.specs.Label.{weighted, label_id}

weighted_snoc : (bytes : List ℕ) (b : ℕ) → weighted (bytes ++ b ∷ []) ≡ weighted bytes * 223 + b
weighted_snoc [] b = let e : b * 1 + 0 ≡ 0 * 223 + b = omega arith in e
weighted_snoc (x ∷ bytes) b =
    let i : weighted (bytes ++ b ∷ []) ≡ weighted bytes * 223 + b = weighted_snoc bytes b in
    let a : length (bytes ++ b ∷ []) ≡ length bytes + 1 = length-append bytes (b ∷ []) in
    let l : length (bytes ++ b ∷ []) ≡ suc (length bytes) = omega arith in
    let p : 223 ^ length (bytes ++ b ∷ []) ≡ 223 ^ length bytes * 223 = ap (λ n. 223 ^ n) l ∙ pow-suc 223 (length bytes) in
    let q : x * 223 ^ length (bytes ++ b ∷ []) ≡ x * 223 ^ length bytes * 223 = ap (λ n. x * n) p ∙ sym (mul_assoc x (223 ^ length bytes) 223) in
    omega arith

-- the number so far, and one byte more
pub label_more : (bytes : List ℕ) (i id : ℕ) → i < length bytes → id ≡ label_id (take i bytes) → (id * 223 + get_or bytes i 0) % 4294967296 ≡ label_id (take (i + 1) bytes)
label_more bytes i id h e =
    let t : take (i + 1) bytes ≡ take i bytes ++ get_or bytes i 0 ∷ [] = ap (λ n. take n bytes) (add-one i) ∙ take-suc bytes i 0 h in
    let w : weighted (take (i + 1) bytes) ≡ weighted (take i bytes) * 223 + get_or bytes i 0 = ap weighted t ∙ weighted_snoc (take i bytes) (get_or bytes i 0) in
    let s : id ≡ weighted (take i bytes) % 4294967296 = e in
    omega arith
