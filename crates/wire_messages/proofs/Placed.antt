-- Bytes that are put one behind the other.
use Rattle.std.proofs.Common.{◌≡◌, ℕ, zero, suc, ◌+◌, ◌≤◌, List, [], ◌∷◌, ◌++◌, length, take, drop, refl, sym, ap, ◌∙◌, arith, length-append, length-drop, append_assoc}
use Rattle.std.proofs.lemmas.List.{take_at, drop_at, length-take-le, take-take}
use Rattle.memory_routines.specs.Numerals.{between}

pub between_length : (memory : List ℕ) (a : ℕ) (text : List ℕ) → a + length text ≤ length memory → length (between memory a text (a + length text)) ≡ length memory
between_length memory a text le =
    length-append (take a memory ++ text) (drop (a + length text) memory) ∙ omega (arith, length-append (take a memory) text, length-take-le a memory (omega (arith, le)), length-drop (a + length text) memory, le)

front : (memory : List ℕ) (a : ℕ) (text : List ℕ) → a + length text ≤ length memory → length (take a memory ++ text) ≡ a + length text
front memory a text le = length-append (take a memory) text ∙ omega (arith, length-take-le a memory (omega (arith, le)))

pub between_below : (memory : List ℕ) (a : ℕ) (text : List ℕ) → a + length text ≤ length memory → take a (between memory a text (a + length text)) ≡ take a memory
between_below memory a text le =
    ap (take a) (append_assoc (take a memory) text (drop (a + length text) memory)) ∙ take_at (take a memory) (text ++ drop (a + length text) memory) a (length-take-le a memory (omega (arith, le)))

-- the one text and then the other
pub between_more : (memory : List ℕ) (a : ℕ) (text more : List ℕ) → a + length text + length more ≤ length memory
    → between (between memory a text (a + length text)) (a + length text) more (a + length text + length more) ≡ between memory a (text ++ more) (a + length (text ++ more))
between_more memory a text more le =
    let one : List ℕ = take a memory ++ text in
    let long : length one ≡ a + length text = front memory a text (omega (arith, le)) in
    let e : ℕ = a + length text + length more in
    let begin : take (a + length text) (one ++ drop (a + length text) memory) ≡ one = take_at one (drop (a + length text) memory) (a + length text) long in
    let behind : drop e (one ++ drop (a + length text) memory) ≡ drop e memory = dropped one (drop (a + length text) memory) (a + length text) (length more) long ∙ drop_twice memory (a + length text) (length more) in
    let last : e ≡ a + length (text ++ more) = omega (arith, length-append text more) in
    (λ i. (begin i ++ more) ++ behind i) ∙ (λ i. append_assoc (take a memory) text more i ++ drop (last i) memory)
  where
    drop_twice : (l : List ℕ) (m n : ℕ) → drop n (drop m l) ≡ drop (m + n) l
    drop_twice l zero n = ap (λ k. drop k l) (let e : n ≡ 0 + n = omega arith in e)
    drop_twice [] (suc m) n = nothing n ∙ sym (nothing (suc m + n))
      where
        nothing : (n : ℕ) → drop {A = ℕ} n [] ≡ []
        nothing zero = refl
        nothing (suc n) = refl
    drop_twice (x ∷ l) (suc m) n = drop_twice l m n ∙ ap (λ k. drop k (x ∷ l)) (let e : suc (m + n) ≡ suc m + n = omega arith in e)

    dropped : (front back : List ℕ) (m n : ℕ) → length front ≡ m → drop (m + n) (front ++ back) ≡ drop n back
    dropped front back m n e = sym (drop_twice (front ++ back) m n) ∙ ap (drop n) (drop_at front back m e)

-- what lies below a place is seen in the memory up to there
pub seen_below : (l : List ℕ) (a b n : ℕ) → b + n ≤ a → take n (drop b (take a l)) ≡ take n (drop b l)
seen_below l a zero n le = take-take n a l (omega (arith, le))
seen_below l zero (suc b) n le = absurd (omega (arith, le))
seen_below [] (suc a) (suc b) n le = refl
seen_below (x ∷ l) (suc a) (suc b) n le = seen_below l a b n (omega (arith, le))

pub same_below : (old new : List ℕ) (a b n : ℕ) → take a new ≡ take a old → b + n ≤ a → take n (drop b new) ≡ take n (drop b old)
same_below old new a b n e le = sym (seen_below new a b n le) ∙ ap (λ l. take n (drop b l)) e ∙ seen_below old a b n le
