-- Bytes that are copied one by one.
use Rattle.std.proofs.Common.{◌≡◌, ℕ, zero, suc, ◌+◌, ◌%◌, ◌<◌, ◌≤◌, List, [], ◌∷◌, ◌++◌, length, take, drop, replicate, get_or, sym, ap, ◌∙◌, arith, drop-cons, length-append, append_assoc}
use Rattle.std.proofs.lemmas.List.{take_at, length-take-le, take-append-drop, append-nil}
use Rattle.std.proofs.Math.Nat.{mod-eq_of_lt}
use Rattle.module_laws.specs.Stored.{written}
use Rattle.module_laws.proofs.StoredBytes.{stored}
use Rattle.memory_routines.specs.Heaps.{HoldsBytes}
use Rattle.memory_routines.specs.Copying.{placed}

-- None is placed.
pub placed_none : (memory : List ℕ) (a b : ℕ) → placed memory a b 0 ≡ memory
placed_none memory a b =
    let e : b + 0 ≡ b = omega arith in
    ap (λ n. (take b memory ++ []) ++ drop n memory) e ∙ ap (λ l. l ++ drop b memory) (append-nil (take b memory)) ∙ take-append-drop b memory

-- One is written, and the others are placed.
pub placed_more : (memory : List ℕ) (a b n : ℕ) → a + suc n ≤ b → b + suc n ≤ length memory → get_or memory a 0 < 256 → placed (written memory b 1 (get_or memory a 0)) (a + 1) (b + 1) n ≡ placed memory a b (suc n)
placed_more memory a b n under inside byte =
    let v : ℕ = get_or memory a 0 in
    let to : List ℕ = written memory b 1 v in
    let is = stored memory b 1 v (omega (arith, inside)) in
    let whole : v % 256 ≡ v = mod-eq_of_lt byte in
    let front : List ℕ = take b memory ++ (v % 256 ∷ []) in
    let long : length front ≡ b + 1 = length-append (take b memory) (v % 256 ∷ []) ∙ omega (arith, length-take-le b memory (omega (arith, inside))) in
    let begin : take (b + 1) to ≡ take b memory ++ (v ∷ []) = take_at front (drop (b + 1) memory) (b + 1) long ∙ ap (λ x. take b memory ++ (x ∷ [])) whole in
    let from : take n (drop (a + 1) to) ≡ take n (drop (a + 1) memory) = is.below (a + 1) n (omega (arith, under)) in
    let after : drop (b + 1 + n) to ≡ drop (b + 1 + n) memory = is.above (b + 1 + n) (omega arith) in
    let next : a + 1 ≡ suc a = omega arith in
    let last : b + 1 + n ≡ b + suc n = omega arith in
    let first : v ∷ take n (drop (a + 1) memory) ≡ take (suc n) (drop a memory) = ap (λ k. v ∷ take n (drop k memory)) next ∙ sym (ap (take (suc n)) (drop-cons memory a 0 (omega (arith, under, inside)))) in
    (λ i. (begin i ++ from i) ++ after i)
    ∙ (λ i. append_assoc (take b memory) (v ∷ []) (take n (drop (a + 1) memory)) i ++ drop (last i) memory)
    ∙ ap (λ l. (take b memory ++ l) ++ drop (b + suc n) memory) first

get-append : (l r : List ℕ) → HoldsBytes l → HoldsBytes r → HoldsBytes (l ++ r)
get-append [] r p q k = q k
get-append (x ∷ l) r p q zero = p zero
get-append (x ∷ l) r p q (suc k) = get-append l r (λ k. p (suc k)) q k

no_bytes : HoldsBytes []
no_bytes k = omega arith

zeros : (n : ℕ) → HoldsBytes (replicate n 0)
zeros zero k = no_bytes k
zeros (suc n) zero = omega arith
zeros (suc n) (suc k) = zeros n k

-- A memory that has grown holds bytes.
pub grown_bytes : (memory : List ℕ) (n : ℕ) → HoldsBytes memory → HoldsBytes (memory ++ replicate n 0)
grown_bytes memory n h = get-append memory (replicate n 0) h (zeros n)

taken : (n : ℕ) (l : List ℕ) → HoldsBytes l → HoldsBytes (take n l)
taken zero l h k = no_bytes k
taken (suc n) [] h k = no_bytes k
taken (suc n) (x ∷ l) h zero = h zero
taken (suc n) (x ∷ l) h (suc k) = taken n l (λ k. h (suc k)) k

dropped : (n : ℕ) (l : List ℕ) → HoldsBytes l → HoldsBytes (drop n l)
dropped zero l h k = h k
dropped (suc n) [] h k = no_bytes k
dropped (suc n) (x ∷ l) h k = dropped n l (λ k. h (suc k)) k

pub written_bytes : (memory : List ℕ) (b v : ℕ) → HoldsBytes memory → HoldsBytes (written memory b 1 v)
written_bytes memory b v h = get-append (take b memory ++ (v % 256 ∷ [])) (drop (b + 1) memory) (get-append (take b memory) (v % 256 ∷ []) (taken b memory h) one) (dropped (b + 1) memory h)
  where
    one : HoldsBytes (v % 256 ∷ [])
    one zero = omega arith
    one (suc k) = no_bytes k

pub placed_bytes : (memory : List ℕ) (a b n : ℕ) → HoldsBytes memory → HoldsBytes (placed memory a b n)
placed_bytes memory a b n h = get-append (take b memory ++ take n (drop a memory)) (drop (b + n) memory) (get-append (take b memory) (take n (drop a memory)) (taken b memory h) (taken n (drop a memory) (dropped a memory h))) (dropped (b + n) memory h)
