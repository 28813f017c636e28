-- Each literal of a type has its number, and no two numbers have the same.
use Rattle.std.proofs.Common.{◌≡◌, inl, inr, ℕ, zero, suc, ◌+◌, ◌-◌, ◌<◌, ◌≤◌, [], ◌∷◌, length, Bool, true, false, arith, refl, sym, ap, ℤ}
use Rattle.std.specs.Prelude.{cond, nat_eq, nat_lt, ◌+ℤ◌, pos, negsuc, ◌≤ℤ◌}
use Rattle.std.specs.Cmp.{unsigned_Decides}
use Rattle.std.specs.List.{slice_index}
use Rattle.std.specs.Str.{IsUtf8}
use Rattle.std.proofs.lemmas.Bool.{ltb-true, ltb-false, lt-ltb}
use Rattle.std.proofs.lemmas.Int.{ints}
use Rattle.std.proofs.lemmas.Str.{IsUtf8-nil, IsUtf8-from_ascii, is_utf8-from_IsUtf8, IsUtf8-append}
use Rattle.mo_num.specs.declared.kind.Kind.{Kind}
use Rattle.mo_num.specs.declared.kind.Kind.TheVariants as kind
use Rattle.mo_num.specs.Kinds.{least, greatest, modulus, InRange}
use Rattle.mo_types.specs.declared.datum.Datum.{Datum}
use Rattle.mo_types.specs.declared.datum.Datum.TheVariants as part
use Rattle.mo_types.specs.declared.node.Node.{Node}
use Rattle.mo_types.specs.declared.node.Node.TheVariants as node
use Rattle.mo_types.specs.declared.node.TypeId.{TypeId}
use Rattle.mo_types.specs.Values.{copies, IsScalar}
use Rattle.mo_values.proofs.Leaves.{leaf_is}
use Rattle.mo_values.specs.Parts.{is_leaf_of, is_in_range}
use Rattle.typed_tree.proofs.Leaves.{passes}
use Rattle.pattern_coverage.specs.Leaves.{leaf_at, is_literal_number, scalar_at}
use Rattle.pattern_coverage.proofs.Seen.{is_counted}

pub not_same : (b : Bool) → (b ≡ true → ⊥) → b ≡ false
not_same true h = absurd (h refl)
not_same false h = refl

copies_length : (n c : ℕ) → length (copies n c) ≡ n
copies_length zero c = refl
copies_length (suc n) c = let h : length (copies n c) ≡ n = copies_length n c in omega (arith, h)

scalars_apart : (i j : ℕ) → i < j → scalar_at i ≡ scalar_at j → ⊥
scalars_apart i j l e = by (nat_lt i 55296) (nat_lt j 55296) refl refl e
  where
    by : (a b : Bool) → nat_lt i 55296 ≡ a → nat_lt j 55296 ≡ b → cond a i (i + 2048) ≡ cond b j (j + 2048) → ⊥
    by true true p q e = omega (arith, l, e)
    by true false p q e = let h : i < 55296 = ltb-true i 55296 p in omega (arith, l, e, h)
    by false true p q e = let h : j < 55296 = ltb-true j 55296 q in omega (arith, l, e, h, ltb-false i 55296 p)
    by false false p q e = omega (arith, l, e)

sums_apart : (a : ℤ) (i j : ℕ) → i < j → a +ℤ pos i ≡ a +ℤ pos j → ⊥
sums_apart a i j l e = omega (arith, ints, l, e)

flags_apart : (i j : ℕ) → i < j → nat_lt j 2 ≡ true → nat_eq i 0 ≡ nat_eq j 0 → ⊥
flags_apart zero zero l h e = omega (arith, l)
flags_apart zero (suc j) l h e = let k : suc j ≡ 0 = (unsigned_Decides (suc j) 0).0 (sym e) in omega (arith, k)
flags_apart (suc i) j l h e = let k : j < 2 = ltb-true j 2 h in omega (arith, l, k)

-- no two are the same
pub apart : (x : Node TypeId) (i j : ℕ) → i < j → is_literal_number x j ≡ true → leaf_at x i ≡ leaf_at x j → ⊥
apart (node.Number k) i j l h e = sums_apart (least k) i j l (let f : least k +ℤ pos i ≡ least k +ℤ pos j = cc in f)
apart node.Bool i j l h e = flags_apart i j l h (let f : nat_eq i 0 ≡ nat_eq j 0 = cc in f)
apart node.Char i j l h e = scalars_apart i j l (let f : scalar_at i ≡ scalar_at j = cc in f)
apart node.Text i j l h e =
    let f : copies {A = ℕ} i 97 ≡ copies {A = ℕ} j 97 = cc in
    let g : length (copies {A = ℕ} i 97) ≡ length (copies {A = ℕ} j 97) = ap length f in
    omega (arith, l, g, copies_length i 97, copies_length j 97)
apart node.Blob i j l h e =
    let f : copies {A = ℕ} i 0 ≡ copies {A = ℕ} j 0 = cc in
    let g : length (copies {A = ℕ} i 0) ≡ length (copies {A = ℕ} j 0) = ap length f in
    omega (arith, l, g, copies_length i 0, copies_length j 0)
apart node.Null i j l h e = let k : j < 1 = ltb-true j 1 h in omega (arith, l, k)
apart x i j l h e = cc

-- ---- each literal has a number

width : (k : Kind) → greatest k +ℤ pos 1 ≡ least k +ℤ pos (modulus k)
width kind.Nat = refl
width kind.Int = refl
width kind.Nat8 = refl
width kind.Nat16 = refl
width kind.Nat32 = refl
width kind.Nat64 = refl
width kind.Int8 = refl
width kind.Int16 = refl
width kind.Int32 = refl
width kind.Int64 = refl

-- how far a number is above another
above : (a n : ℤ) → a ≤ℤ n → (j : ℕ) × (a +ℤ pos j ≡ n)
above (pos a) (pos n) h = (n - a, omega (arith, ints, h))
above (pos a) (negsuc n) h = absurd (omega (arith, ints, h))
above (negsuc a) (pos n) h = (n + suc a, omega (arith, ints))
above (negsuc a) (negsuc n) h = (a - n, omega (arith, ints, h))

number_numbered : (k : Kind) (n : ℤ) → InRange k n → (j : ℕ) × (nat_lt j (modulus k) ≡ true) × (least k +ℤ pos j ≡ n)
number_numbered k n h =
    let j : (j : ℕ) × (least k +ℤ pos j ≡ n) = above (least k) n h.0 in
    let w : greatest k +ℤ pos 1 ≡ least k +ℤ pos (modulus k) = width k in
    (j.0, lt-ltb j.0 (modulus k) (omega (arith, ints, w, j.1, h.1)), j.1)

scalar_numbered : (c : ℕ) → IsScalar c → (j : ℕ) × (nat_lt j 1112064 ≡ true) × (scalar_at j ≡ c)
scalar_numbered c (inl h) = (c, lt-ltb c 1112064 (omega (arith, h)), ap (λ b. cond b c (c + 2048)) (lt-ltb c 55296 h))
scalar_numbered c (inr h) =
    let j : ℕ = c - 2048 in
    let e : j + 2048 ≡ c = omega (arith, h.0) in
    (j, lt-ltb j 1112064 (omega (arith, h.0, h.1)), by (nat_lt j 55296) refl e)
  where
    by : (b : Bool) → nat_lt (c - 2048) 55296 ≡ b → (c - 2048) + 2048 ≡ c → cond b (c - 2048) ((c - 2048) + 2048) ≡ c
    by true q e = let l : c - 2048 < 55296 = ltb-true (c - 2048) 55296 q in absurd (omega (arith, h.0, l))
    by false q e = e

flag_numbered : (b : Bool) → (j : ℕ) × (nat_lt j 2 ≡ true) × (nat_eq j 0 ≡ b)
flag_numbered true = (0, refl, refl)
flag_numbered false = (1, refl, refl)

-- where there are only so many
pub numbered : (x : Node TypeId) (d : Datum) (i : ℕ) → is_counted x ≡ true → is_literal_number x i ≡ false → is_leaf_of x d ≡ true → (j : ℕ) × (is_literal_number x j ≡ true) × (leaf_at x j ≡ d)
numbered (node.Number k) (part.Number n) i c h e = let j = number_numbered k n (leaf_is {A = TypeId} (node.Number k) (part.Number n) e) in (j.0, j.1, ap (λ m. part.Number m) j.2)
numbered node.Bool (part.Flag b) i c h e = let j = flag_numbered b in (j.0, j.1, ap (λ m. part.Flag m) j.2)
numbered node.Char (part.Char d) i c h e = let j = scalar_numbered d (leaf_is {A = TypeId} node.Char (part.Char d) e) in (j.0, j.1, ap (λ m. part.Char m) j.2)
numbered node.Null part.Null i c h e = (0, refl, refl)
numbered x d i c h e = cc

-- ---- and each number within the range has a literal

number_is : (k : Kind) (i : ℕ) → i < modulus k → is_in_range k (least k +ℤ pos i) ≡ true
number_is k i h = let w : greatest k +ℤ pos 1 ≡ least k +ℤ pos (modulus k) = width k in passes (node.Number k) (part.Number (least k +ℤ pos i)) tt (omega (arith, ints), omega (arith, ints, w, h))

scalar_is : (i : ℕ) → i < 1112064 → IsScalar (scalar_at i)
scalar_is i h = by (nat_lt i 55296) refl
  where
    by : (b : Bool) → nat_lt i 55296 ≡ b → IsScalar (cond b i (i + 2048))
    by true q = inl (ltb-true i 55296 q)
    by false q = inr (omega (arith, ltb-false i 55296 q), omega (arith, h))

one_letter : (i : ℕ) → slice_index (97 ∷ []) i < 128
one_letter zero = omega arith
one_letter (suc i) = nothing i
  where
    nothing : (i : ℕ) → slice_index [] i < 128
    nothing zero = omega arith
    nothing (suc i) = omega arith

letters : (n : ℕ) → IsUtf8 (copies n 97)
letters zero = IsUtf8-nil
letters (suc n) = IsUtf8-append (97 ∷ []) (copies n 97) (IsUtf8-from_ascii (97 ∷ []) one_letter) (letters n)

pub literal_is : (x : Node TypeId) (i : ℕ) → is_literal_number x i ≡ true → is_leaf_of x (leaf_at x i) ≡ true
literal_is (node.Number k) i h = number_is k i (ltb-true i (modulus k) h)
literal_is node.Bool i h = refl
literal_is node.Char i h = passes node.Char (part.Char (scalar_at i)) tt (scalar_is i (ltb-true i 1112064 h))
literal_is node.Text i h = is_utf8-from_IsUtf8 (copies i 97) (letters i)
literal_is node.Blob i h = refl
literal_is node.Null i h = refl
literal_is x i h = cc

-- only where they are counted
pub literal_counted : (x : Node TypeId) (i : ℕ) → is_literal_number x i ≡ true → is_counted x ≡ true
literal_counted (node.Number k) i h = refl
literal_counted node.Bool i h = refl
literal_counted node.Char i h = refl
literal_counted node.Text i h = refl
literal_counted node.Blob i h = refl
literal_counted node.Null i h = refl
literal_counted x i h = h

-- a greater number has a literal only where a lesser one has
pub below_literal : (x : Node TypeId) (i j : ℕ) → i ≤ j → is_literal_number x j ≡ true → is_literal_number x i ≡ true
below_literal (node.Number k) i j l h = let g : j < modulus k = ltb-true j (modulus k) h in lt-ltb i (modulus k) (omega (arith, l, g))
below_literal node.Bool i j l h = let g : j < 2 = ltb-true j 2 h in lt-ltb i 2 (omega (arith, l, g))
below_literal node.Char i j l h = let g : j < 1112064 = ltb-true j 1112064 h in lt-ltb i 1112064 (omega (arith, l, g))
below_literal node.Null i j l h = let g : j < 1 = ltb-true j 1 h in lt-ltb i 1 (omega (arith, l, g))
below_literal x i j l h = h
