-- Reading after writing.
use Rattle.std.proofs.Common.{◌≡◌, ℕ, zero, suc, ◌+◌, ◌-◌, ◌*◌, ◌/◌, ◌%◌, ◌^◌, ◌<◌, ◌≤◌, List, [], ◌∷◌, ◌++◌, length, take, drop, refl, sym, ap, ◌∙◌, arith, length-append, length-take, length-drop, append_assoc}
use Rattle.std.proofs.lemmas.List.{take-append-drop}
use native.Mathlib.Numerals.{unary_clauses}
use Rattle.wasm_tree.specs.Exec.{number_of, bytes_of}
use Rattle.module_laws.specs.Stored.{written, IsStored}
use Rattle.module_laws.specs.Laws.{StoresAreRead}

pub bytes_length : (count n : ℕ) → length (bytes_of count n) ≡ count
bytes_length zero n = refl
bytes_length (suc count) n = ap suc (bytes_length count (n / 256))

pub number_back : (count n : ℕ) → n < 256 ^ count → number_of (bytes_of count n) ≡ n
number_back zero n h = omega (arith, h)
number_back (suc count) n h =
    let less : n < 256 ^ count * 256 = simp unary_clauses at h in
    let rest : number_of (bytes_of count (n / 256)) ≡ n / 256 = number_back count (n / 256) (omega (arith, less)) in
    ap (λ x. n % 256 + 256 * x) rest ∙ omega arith

here_first : (bs back : List ℕ) → take (length bs) (bs ++ back) ≡ bs
here_first [] back = refl
here_first (b ∷ bs) back = ap (λ l. b ∷ l) (here_first bs back)

here : (front bs back : List ℕ) → take (length bs) (drop (length front) ((front ++ bs) ++ back)) ≡ bs
here [] bs back = here_first bs back
here (x ∷ front) bs back = here front bs back

below : (front rest other : List ℕ) (b n : ℕ) → b + n ≤ length front → take n (drop b (front ++ rest)) ≡ take n (drop b (front ++ other))
below front rest other b zero h = refl
below [] rest other b (suc n) h = absurd (omega arith)
below (x ∷ front) rest other zero (suc n) h = ap (λ l. x ∷ l) (below front rest other zero n (omega arith))
below (x ∷ front) rest other (suc b) (suc n) h = below front rest other b (suc n) (omega arith)

above_first : (bs cs back : List ℕ) (b : ℕ) → length bs ≡ length cs → length bs ≤ b → drop b (bs ++ back) ≡ drop b (cs ++ back)
above_first [] [] back b e h = refl
above_first [] (c ∷ cs) back b e h = absurd (omega arith)
above_first (x ∷ bs) [] back b e h = absurd (omega arith)
above_first (x ∷ bs) (c ∷ cs) back zero e h = absurd (omega arith)
above_first (x ∷ bs) (c ∷ cs) back (suc b) e h = above_first bs cs back b (omega arith) (omega arith)

above : (front bs cs back : List ℕ) (b : ℕ) → length bs ≡ length cs → length front + length bs ≤ b → drop b ((front ++ bs) ++ back) ≡ drop b ((front ++ cs) ++ back)
above [] bs cs back b e h = above_first bs cs back b e (omega arith)
above (x ∷ front) bs cs back zero e h = absurd (omega arith)
above (x ∷ front) bs cs back (suc b) e h = above front bs cs back b e (omega arith)

take_nil : (n : ℕ) → take {A = ℕ} n [] ≡ []
take_nil zero = refl
take_nil (suc n) = refl

drop_nil : (n : ℕ) → drop {A = ℕ} n [] ≡ []
drop_nil zero = refl
drop_nil (suc n) = refl

-- the memory in three parts
parted : (m : List ℕ) (a size : ℕ) → (take a m ++ take size (drop a m)) ++ drop (a + size) m ≡ m
parted m zero size = ap (λ n. take size m ++ drop n m) (omega arith) ∙ take-append-drop size m
parted [] (suc a) size = λ i. ([] ++ take_nil size i) ++ drop_nil (suc a + size) i
parted (x ∷ m) (suc a) size = let e : suc a + size ≡ suc (a + size) = omega arith in ap (λ n. (take (suc a) (x ∷ m) ++ take size (drop (suc a) (x ∷ m))) ++ drop n (x ∷ m)) e ∙ ap (λ l. x ∷ l) (parted m a size)

pub stored : (m : List ℕ) (a size v : ℕ) → a + size ≤ length m → IsStored m a size v
stored m a size v h =
    let bs : List ℕ = bytes_of size v in
    let l : length bs ≡ size = bytes_length size v in
    let front : length (take a m) ≡ a = length-take a m ∙ omega (arith, h) in
    let middle : length (take size (drop a m)) ≡ size = length-take size (drop a m) ∙ omega (arith, h, length-drop a m) in
    let back : length (drop (a + size) m) ≡ length m - (a + size) = length-drop (a + size) m in
    record {
      same_length = length-append (take a m ++ bs) (drop (a + size) m) ∙ omega (arith, length-append (take a m) bs, front, l, back, h);
      here = (λ i. take (sym l i) (drop (sym front i) (written m a size v))) ∙ here (take a m) bs (drop (a + size) m);
      below = λ b n le. ap (λ x. take n (drop b x)) (append_assoc (take a m) bs (drop (a + size) m)) ∙ below (take a m) (bs ++ drop (a + size) m) (drop a m) b n (omega (arith, front, le)) ∙ ap (λ x. take n (drop b x)) (take-append-drop a m);
      above = λ b le. above (take a m) bs (take size (drop a m)) (drop (a + size) m) b (l ∙ sym middle) (omega (arith, front, l, le)) ∙ ap (drop b) (parted m a size);
    }

pub stores_read : StoresAreRead
stores_read memory address size value h = (stored memory address size value h, number_back size value)
