-- Reading has one answer.
use Rattle.std.proofs.Common.{◌≡◌, ℕ, zero, suc, ◌<◌, ◌≤◌, List, [], ◌∷◌, ◌++◌, length, take, Result, Ok, Err, inl, inr, refl, sym, ap, subst, ◌∙◌, arith, ℤ}
use Rattle.std.proofs.lemmas.Int.{ints}
use Rattle.mo_num.specs.declared.leb_reader.LebFault.{LebFault}
use Rattle.mo_num.specs.declared.leb_reader.LebFault.TheVariants.{Short, TooWide}
use Rattle.mo_num.specs.Leb.{IsLeb, IsSleb}
use Rattle.mo_num.specs.LebRead.{Begins, Reads, NoneEnds}

-- A last byte, and before it others that are none.
abbrev pub Ends : List ℕ → Type 0
Ends [] = ⊥
Ends (b ∷ []) = b < 128
Ends (b ∷ c ∷ bs) = (128 ≤ b) × Ends (c ∷ bs)

leb_ends : (f : List ℕ) (n : ℕ) → IsLeb f n → Ends f
leb_ends [] n h = absurd h
leb_ends (b ∷ []) n h = h.0
leb_ends (b ∷ c ∷ bs) n h = (h.0, leb_ends (c ∷ bs) h.2 h.4)

sleb_ends : (f : List ℕ) (n : ℤ) → IsSleb f n → Ends f
sleb_ends [] n h = absurd h
sleb_ends (b ∷ []) n (inl h) = omega (arith, h.0)
sleb_ends (b ∷ []) n (inr h) = h.1
sleb_ends (b ∷ c ∷ bs) n h = (h.0, sleb_ends (c ∷ bs) h.2 h.4)

pub leb_one_value : (f : List ℕ) (n m : ℕ) → IsLeb f n → IsLeb f m → n ≡ m
leb_one_value [] n m h k = absurd h
leb_one_value (b ∷ []) n m h k = h.1 ∙ sym k.1
leb_one_value (b ∷ c ∷ bs) n m h k =
    let e : h.2 ≡ k.2 = leb_one_value (c ∷ bs) h.2 k.2 h.4 k.4 in
    omega (arith, e, h.3, k.3)

pub sleb_one_value : (f : List ℕ) (n m : ℤ) → IsSleb f n → IsSleb f m → n ≡ m
sleb_one_value [] n m h k = absurd h
sleb_one_value (b ∷ []) n m (inl h) (inl k) = h.1 ∙ sym k.1
sleb_one_value (b ∷ []) n m (inl h) (inr k) = absurd (omega (arith, h.0, k.0))
sleb_one_value (b ∷ []) n m (inr h) (inl k) = absurd (omega (arith, h.0, k.0))
sleb_one_value (b ∷ []) n m (inr h) (inr k) = omega (arith, ints, h.2, k.2)
sleb_one_value (b ∷ c ∷ bs) n m h k =
    let e : h.2 ≡ k.2 = sleb_one_value (c ∷ bs) h.2 k.2 h.4 k.4 in
    omega (arith, ints, e, h.3, k.3)

-- The number at the front ends at one place.
ends_once : (f g r s : List ℕ) → f ++ r ≡ g ++ s → Ends f → Ends g → f ≡ g
ends_once [] g r s e h k = absurd h
ends_once (b ∷ []) [] r s e h k = absurd k
ends_once (b ∷ []) (c ∷ []) r s e h k = let x : b ≡ c = cc in ap (λ z. z ∷ []) x
ends_once (b ∷ []) (c ∷ d ∷ ds) r s e h k = let x : b ≡ c = cc in absurd (omega (arith, h, k.0, x))
ends_once (b ∷ c ∷ bs) [] r s e h k = absurd k
ends_once (b ∷ c ∷ bs) (d ∷ []) r s e h k = let x : b ≡ d = cc in absurd (omega (arith, h.0, k, x))
ends_once (b ∷ c ∷ bs) (d ∷ x ∷ xs) r s e h k =
    let same : b ≡ d = cc in
    let tail : (c ∷ bs) ++ r ≡ (x ∷ xs) ++ s = cc in
    let rest : c ∷ bs ≡ x ∷ xs = ends_once (c ∷ bs) (x ∷ xs) r s tail h.1 k.1 in
    cc

ends_front : (f r : List ℕ) (k : ℕ) → Ends f → length f ≤ k → NoneEnds (take k (f ++ r)) → ⊥
ends_front [] r k h le none = h
ends_front (b ∷ []) r zero h le none = omega arith
ends_front (b ∷ []) r (suc k) h le none = omega (arith, h, none.0)
ends_front (b ∷ c ∷ bs) r zero h le none = omega arith
ends_front (b ∷ c ∷ bs) r (suc k) h le none = let less : length (c ∷ bs) ≤ k = omega arith in ends_front (c ∷ bs) r k h.1 less none.1

ends_all : (f r : List ℕ) → Ends f → NoneEnds (f ++ r) → ⊥
ends_all [] r h none = h
ends_all (b ∷ []) r h none = omega (arith, h, none.0)
ends_all (b ∷ c ∷ bs) r h none = ends_all (c ∷ bs) r h.1 none.1

-- What every kind of spelling has.
pub record IsCode {V : Type 0} (Spells : List ℕ → V → Type 0) : Type 0 where
  pub ends : (f : List ℕ) (n : V) → Spells f n → Ends f
  pub one_value : (f : List ℕ) (n m : V) → Spells f n → Spells f m → n ≡ m

pub leb_code : IsCode IsLeb
leb_code = record { ends = leb_ends; one_value = leb_one_value }

pub sleb_code : IsCode IsSleb
sleb_code = record { ends = sleb_ends; one_value = sleb_one_value }

begins_once : {V : Type 0} (Spells : List ℕ → V → Type 0) (limit : ℕ) (bytes : List ℕ) (n m : V) (c d : ℕ) → IsCode Spells → Begins Spells limit bytes n c → Begins Spells limit bytes m d → (n ≡ m) × (c ≡ d)
begins_once Spells limit bytes n m c d code h k =
    let whole : h.front ++ h.rest ≡ k.front ++ k.rest = sym h.whole ∙ k.whole in
    let same : h.front ≡ k.front = ends_once h.front k.front h.rest k.rest whole (code.ends _ _ h.spells) (code.ends _ _ k.spells) in
    (code.one_value k.front n m (subst (λ f. Spells f n) same h.spells) k.spells, sym h.counted ∙ ap length same ∙ k.counted)

begins_all : {V : Type 0} (Spells : List ℕ → V → Type 0) (limit : ℕ) (bytes : List ℕ) (n : V) (c : ℕ) → IsCode Spells → Begins Spells limit bytes n c → NoneEnds bytes → ⊥
begins_all Spells limit bytes n c code h none = ends_all h.front h.rest (code.ends _ _ h.spells) (subst (λ l. NoneEnds l) h.whole none)

begins_front : {V : Type 0} (Spells : List ℕ → V → Type 0) (limit : ℕ) (bytes : List ℕ) (n : V) (c : ℕ) → IsCode Spells → Begins Spells limit bytes n c → NoneEnds (take limit bytes) → ⊥
begins_front Spells limit bytes n c code h none = ends_front h.front h.rest limit (code.ends _ _ h.spells) (omega (arith, h.counted, h.allowed)) (subst (λ l. NoneEnds (take limit l)) h.whole none)

short_wide : {V : Type 0} (Spells : List ℕ → V → Type 0) (Fits : V → Type 0) (limit : ℕ) (bytes : List ℕ) → IsCode Spells → Reads Spells Fits limit bytes (Err Short) → Reads Spells Fits limit bytes (Err TooWide) → ⊥
short_wide Spells Fits limit bytes code h (inl k) = omega (arith, h.0, k.0)
short_wide Spells Fits limit bytes code h (inr k) = begins_all Spells limit bytes k.0 k.1 code k.2 h.1

ok_wide : {V : Type 0} (Spells : List ℕ → V → Type 0) (Fits : V → Type 0) (limit : ℕ) (bytes : List ℕ) (r : V × ℕ) → IsCode Spells → Reads Spells Fits limit bytes (Ok r) → Reads Spells Fits limit bytes (Err TooWide) → ⊥
ok_wide Spells Fits limit bytes r code h (inl k) = begins_front Spells limit bytes r.0 r.1 code h.0 k.1
ok_wide Spells Fits limit bytes r code h (inr k) =
    let same : r.0 ≡ k.0 = (begins_once Spells limit bytes r.0 k.0 r.1 k.1 code h.0 k.2).0 in
    k.3 (subst (λ n. Fits n) same h.1)

abbrev read : {V : Type 0} → V → ℕ → Result (V × ℕ) LebFault
read n count = Ok (n, count)

pub reads_once : {V : Type 0} (Spells : List ℕ → V → Type 0) (Fits : V → Type 0) (limit : ℕ) (bytes : List ℕ) (x y : Result (V × ℕ) LebFault) → IsCode Spells → Reads Spells Fits limit bytes x → Reads Spells Fits limit bytes y → x ≡ y
reads_once Spells Fits limit bytes (Ok r) (Ok s) code h k = let e = begins_once Spells limit bytes r.0 s.0 r.1 s.1 code h.0 k.0 in ap (λ n. read n r.1) e.0 ∙ ap (λ c. read s.0 c) e.1
reads_once Spells Fits limit bytes (Ok r) (Err Short) code h k = absurd (begins_all Spells limit bytes r.0 r.1 code h.0 k.1)
reads_once Spells Fits limit bytes (Ok r) (Err TooWide) code h k = absurd (ok_wide Spells Fits limit bytes r code h k)
reads_once Spells Fits limit bytes (Err Short) (Ok r) code h k = absurd (begins_all Spells limit bytes r.0 r.1 code k.0 h.1)
reads_once Spells Fits limit bytes (Err Short) (Err Short) code h k = refl
reads_once Spells Fits limit bytes (Err Short) (Err TooWide) code h k = absurd (short_wide Spells Fits limit bytes code h k)
reads_once Spells Fits limit bytes (Err TooWide) (Ok r) code h k = absurd (ok_wide Spells Fits limit bytes r code k h)
reads_once Spells Fits limit bytes (Err TooWide) (Err Short) code h k = absurd (short_wide Spells Fits limit bytes code k h)
reads_once Spells Fits limit bytes (Err TooWide) (Err TooWide) code h k = refl
