-- Pages as parts of a list, and how many of them differ.
use Rattle.std.proofs.Common.{◌≡◌, ℕ, zero, suc, ◌+◌, ◌-◌, ◌*◌, ◌≤◌, Bool, true, false, List, ◌++◌, length, take, drop, replicate, max, min, refl, sym, ap, ◌∙◌, cond, arith, add-zero, add-one, slice_range}
use Rattle.std.specs.Bool.{Decides}
use Rattle.std.specs.Str.{bytes_eq}
use Rattle.std.proofs.Math.Seq.{take-add}
use Rattle.std.proofs.lemmas.List.{length-take, length-drop, take_all}
use borrow.Rule.Slice.PartMut.{put_mid}
use Rattle.std.proofs.lemmas.Slice.{take-put_mid}
use Rattle.std.proofs.lemmas.Slice.Eq.{bytes_eq-Decides}
use Rattle.page_store.specs.Pages.{LinearMemory, page_bytes, page_count, page_at, differing_pages, changed_pages, zero_pages}

-- growing adds zeros behind all bytes
pub grown : (limit len to by : ℕ) (bytes now : List ℕ) (memory : LinearMemory) → len ≡ length bytes → to ≡ len + by * page_bytes → ◌≡◌ {A = LinearMemory} (record { limit = limit; bytes = bytes }) memory
    → now ≡ take to bytes ++ replicate (to - len) 0
    → ◌≡◌ {A = LinearMemory} (record { limit = limit; bytes = now }) (record { limit = memory.limit; bytes = memory.bytes ++ zero_pages by })
unfolding zero_pages
grown limit len to by bytes now memory same more is added =
    let all : take to bytes ≡ bytes = take_all to bytes (omega arith) in
    let zeros : replicate {A = ℕ} (to - len) 0 ≡ replicate (by * page_bytes) 0 = let n : to - len ≡ by * page_bytes = omega arith in ap (λ (k : ℕ). replicate {A = ℕ} k 0) n in
    rw (← is, added, all, zeros) refl

-- page p, as a slice has it
pub page_at-range : (bytes : List ℕ) (p : ℕ) → slice_range bytes (p * page_bytes) ((p + 1) * page_bytes) ≡ page_at bytes p
unfolding page_at
page_at-range bytes p =
    let same : (p + 1) * page_bytes - p * page_bytes ≡ page_bytes = omega arith in
    ap (λ n. take n (drop (p * page_bytes) bytes)) same

-- lists that agree before page p and in it agree up to its end
pub take_page : (xs ys : List ℕ) (p : ℕ) → take (p * page_bytes) xs ≡ take (p * page_bytes) ys → page_at xs p ≡ page_at ys p → take ((p + 1) * page_bytes) xs ≡ take ((p + 1) * page_bytes) ys
unfolding page_at
take_page xs ys p before at =
    let end : (p + 1) * page_bytes ≡ p * page_bytes + page_bytes = omega arith in
    ap (λ n. take n xs) end ∙ take-add (p * page_bytes) page_bytes xs
    ∙ ap (λ zs. zs ++ take page_bytes (drop (p * page_bytes) xs)) before
    ∙ ap (λ zs. take (p * page_bytes) ys ++ zs) at
    ∙ sym (ap (λ n. take n ys) end ∙ take-add (p * page_bytes) page_bytes ys)

-- the length of a page
pub length-page_at : (bytes : List ℕ) (p : ℕ) → length (page_at bytes p) ≡ min page_bytes (length bytes - p * page_bytes)
unfolding page_at
length-page_at bytes p = length-take page_bytes (drop (p * page_bytes) bytes) ∙ ap (λ n. min page_bytes n) (length-drop (p * page_bytes) bytes)

-- the page of ys is written over that of xs
pub take_written : (xs ys : List ℕ) (p k : ℕ) → take (p * page_bytes) xs ≡ take (p * page_bytes) ys → (p + 1) * page_bytes ≤ length xs → length xs ≡ length ys
    → take ((p + 1) * page_bytes) (put_mid (p * page_bytes) k xs (slice_range ys (p * page_bytes) ((p + 1) * page_bytes))) ≡ take ((p + 1) * page_bytes) ys
unfolding page_at
take_written xs ys p k before within same =
    let start = p * page_bytes in
    let end = (p + 1) * page_bytes in
    let here = slice_range ys start end in
    let long : length here ≡ page_bytes = ap length (page_at-range ys p) ∙ length-page_at ys p ∙ omega arith in
    let written : take end (put_mid start k xs here) ≡ take start xs ++ here = take-put_mid start k xs here end (omega arith) (omega arith) in
    let next : end ≡ start + page_bytes = omega arith in
    let rest : take end ys ≡ take start ys ++ here = ap (λ n. take n ys) next ∙ take-add start page_bytes ys ∙ ap (λ zs. take start ys ++ zs) (sym (page_at-range ys p)) in
    written ∙ ap (λ zs. zs ++ here) before ∙ sym rest

-- what a page that is the same adds to the count
counted_same : (r : Bool) (P : Type 0) → Decides r P → P → cond {A = ℕ} r 0 1 ≡ 0
counted_same true P d h = refl
counted_same false P d h = cc (d.1 h)

-- what a page that differs adds to the count
counted_other : (r : Bool) (P : Type 0) → Decides r P → (P → ⊥) → cond {A = ℕ} r 0 1 ≡ 1
counted_other true P d h = absurd (h (d.0 refl))
counted_other false P d h = refl

-- a page adds one at most
one_at_most : (r : Bool) → cond {A = ℕ} r 0 1 ≤ 1
one_at_most true = omega arith
one_at_most false = omega arith

-- no pages differ among none
pub differing_pages-none : (old new : List ℕ) → differing_pages old new 0 ≡ 0
unfolding differing_pages
differing_pages-none old new = refl

-- a page that is the same is not counted
pub differing_pages-same : (old new : List ℕ) (p : ℕ) → page_at old p ≡ page_at new p → differing_pages old new (p + 1) ≡ differing_pages old new p
unfolding differing_pages
differing_pages-same old new p same =
    rw (add-one, counted_same _ _ (bytes_eq-Decides (page_at old p) (page_at new p)) same) (omega arith)

-- a page that differs is counted
pub differing_pages-other : (old new : List ℕ) (p : ℕ) → (page_at old p ≡ page_at new p → ⊥) → differing_pages old new (p + 1) ≡ differing_pages old new p + 1
unfolding differing_pages
differing_pages-other old new p other =
    rw (add-one, counted_other _ _ (bytes_eq-Decides (page_at old p) (page_at new p)) other) refl

-- each page past the end of one list is one that differs
pub differing_pages-past : (old new : List ℕ) (kept live more : ℕ) → kept * page_bytes ≡ length old → live * page_bytes ≡ length new → min kept live + more ≤ max kept live
    → differing_pages old new (min kept live + more) ≡ differing_pages old new (min kept live) + more
differing_pages-past old new kept live zero o n within = ap (differing_pages old new) (add-zero (min kept live)) ∙ omega arith
differing_pages-past old new kept live (suc more) o n within =
    let p = min kept live + more in
    let apart : page_at old p ≡ page_at new p → ⊥ = λ (e : page_at old p ≡ page_at new p). omega (arith, ap length e, length-page_at old p, length-page_at new p) in
    let next : min kept live + suc more ≡ p + 1 = omega arith in
    ap (differing_pages old new) next ∙ differing_pages-other old new p apart ∙ ap (λ k. k + 1) (differing_pages-past old new kept live more o n (omega arith)) ∙ omega arith

-- no more pages differ than there are
pub differing_pages-le : (old new : List ℕ) (p : ℕ) → differing_pages old new p ≤ p
unfolding differing_pages
differing_pages-le old new zero = omega arith
differing_pages-le old new (suc p) = omega (arith, differing_pages-le old new p, one_at_most (bytes_eq (page_at old p) (page_at new p)))

-- the pages that one memory alone has, and those that differ among the others
pub changed_pages-is : (old new : LinearMemory) (kept live page count : ℕ) → kept * page_bytes ≡ length old.bytes → live * page_bytes ≡ length new.bytes → page ≡ min kept live
    → count ≡ (max kept live - min kept live) + differing_pages old.bytes new.bytes page → count ≡ changed_pages old new
changed_pages-is old new kept live page count o n at counted =
    let most : max (page_count old) (page_count new) ≡ min kept live + (max kept live - min kept live) = omega arith in
    counted ∙ ap (λ k. (max kept live - min kept live) + differing_pages old.bytes new.bytes k) at ∙ omega arith
    ∙ sym (ap (differing_pages old.bytes new.bytes) most ∙ differing_pages-past old.bytes new.bytes kept live (max kept live - min kept live) o n (omega arith))
