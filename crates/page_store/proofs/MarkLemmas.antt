-- Marks, and the pages that they leave out.
use Rattle.std.proofs.Common.{◌≡◌, ℕ, suc, ◌+◌, ◌-◌, ◌*◌, ◌/◌, ◌%◌, ◌<◌, ◌≤◌, ◌⊎◌, Bool, true, false, List, [], ◌∷◌, ◌++◌, length, take, drop, replicate, get_or, set, min, slice_range, refl, sym, ap, ◌∙◌, subst, inl, inr, ⊎_elim, arith, append_assoc}
use Rattle.std.proofs.lemmas.Bool.{cases_lt}
use Rattle.std.proofs.lemmas.List.{drop-drop, drop-take, drop_all, length-drop, length-take, length-append, length-replicate, take-append-le, take_all, get_or-set_same, get_or-set_other, take-take}
use Rattle.std.proofs.lemmas.Slice.{take-put_mid_below, drop-put_mid}
use borrow.Rule.Slice.PartMut.{put_mid, post_of}
use Rattle.page_store.specs.Pages.{page_bytes, page_at, zero_pages, overwritten, AreMarked, HasMarked}
use Rattle.page_store.proofs.PageLemmas.{length-page_at, page_at-range, take_page, take_written}

-- before any is marked
pub none_marked : (first : ℕ) (old : List Bool) → HasMarked first first old old
none_marked first old = record { others = λ (page : ℕ) (clear : get_or old page true ≡ false). (clear, ⊎_elim (λ (h : page < first). inl h) (λ (h : first ≤ page). inr h) (cases_lt page first)) }

-- lists that agree from one page on agree from the next on
next_page : (xs ys : List ℕ) (page : ℕ) → drop (page * page_bytes) xs ≡ drop (page * page_bytes) ys → drop ((page + 1) * page_bytes) xs ≡ drop ((page + 1) * page_bytes) ys
next_page xs ys page same =
    let end : (page + 1) * page_bytes ≡ page * page_bytes + page_bytes = omega arith in
    ap (λ n. drop n xs) end ∙ sym (drop-drop page_bytes (page * page_bytes) xs) ∙ ap (λ (l : List ℕ). drop page_bytes l) same ∙ drop-drop page_bytes (page * page_bytes) ys ∙ sym (ap (λ n. drop n ys) end)

-- where the end is not past the first
pub nothing_marked : (first end : ℕ) (old : List Bool) → end ≤ first → HasMarked first end old old
nothing_marked first end old none = record { others = λ (page : ℕ) (clear : get_or old page true ≡ false). (clear, ⊎_elim (λ (h : page < first). inl h) (λ (h : first ≤ page). inr (omega arith)) (cases_lt page first)) }

other_set : (now : List Bool) (at page : ℕ) → at < length now → get_or (set now at true) page true ≡ false → page ≡ at → ⊥
other_set now at page within clear same =
    let here : get_or (set now at true) at true ≡ true = get_or-set_same now at true true within in
    let there : get_or (set now at true) at true ≡ false = subst (λ (n : ℕ). get_or (set now at true) n true ≡ false) same clear in
    cc

-- one page more
pub one_marked : (first at : ℕ) (old now : List Bool) → HasMarked first at old now → at < length now → HasMarked first (at + 1) old (set now at true)
one_marked first at old now before within = record {
  others = λ (page : ℕ) (clear : get_or (set now at true) page true ≡ false).
      let apart : page ≡ at → ⊥ = other_set now at page within clear in
      let was : get_or now page true ≡ false = sym (get_or-set_other now at page true true apart) ∙ clear in
      let h = before.others page was in
      (h.0, ⊎_elim (λ (b : page < first). inl b) (λ (a : at ≤ page). inr (⊎_elim (λ (l : page < at + 1). absurd (apart (omega arith))) (λ (m : at + 1 ≤ page). m) (cases_lt page (at + 1)))) h.1);
}

-- and those behind it
pub more_marked : (first middle end : ℕ) (old now new : List Bool) → HasMarked first middle old now → HasMarked middle end now new → first ≤ middle → middle ≤ end → HasMarked first end old new
more_marked first middle end old now new front rest a b = record {
  others = λ (page : ℕ) (clear : get_or new page true ≡ false).
      let r = rest.others page clear in
      let f = front.others page r.0 in
      (f.0, ⊎_elim (λ (h : page < first). inl h) (λ (h : middle ≤ page). ⊎_elim (λ (g : page < middle). absurd (omega arith)) (λ (g : end ≤ page). inr g) r.1) f.1);
}

-- a page past the end has no bytes
pub page_at-past : (bytes : List ℕ) (page : ℕ) → length bytes ≤ page * page_bytes → page_at bytes page ≡ []
unfolding page_at
page_at-past bytes page past = ap (λ (l : List ℕ). take page_bytes l) (drop_all (page * page_bytes) bytes past)

-- a page of lists that agree up to its end
page_at-front : (xs ys : List ℕ) (page : ℕ) → take (page * page_bytes + page_bytes) xs ≡ take (page * page_bytes + page_bytes) ys → page_at xs page ≡ page_at ys page
unfolding page_at
page_at-front xs ys page same = sym (drop-take (page * page_bytes) page_bytes xs) ∙ ap (λ (l : List ℕ). drop (page * page_bytes) l) same ∙ drop-take (page * page_bytes) page_bytes ys

-- a page of lists that agree from its start on
pub page_at-rest : (xs ys : List ℕ) (page : ℕ) → drop (page * page_bytes) xs ≡ drop (page * page_bytes) ys → page_at xs page ≡ page_at ys page
unfolding page_at
page_at-rest xs ys page same = ap (λ (l : List ℕ). take page_bytes l) same

overwritten-is : (place : ℕ) (these bytes : List ℕ) → overwritten place these bytes ≡ put_mid place (length these) bytes these
overwritten-is place these bytes = append_assoc (take place bytes) these (drop (place + length these) bytes) ∙ ap (λ (l : List ℕ). take place bytes ++ (these ++ l)) (sym (drop-drop (length these) place bytes))

-- the pages that a write does not touch
page_at-overwritten : (place : ℕ) (these bytes : List ℕ) (page : ℕ) → place + length these ≤ length bytes → ((page + 1) * page_bytes ≤ place) ⊎ (place + length these ≤ page * page_bytes) → page_at (overwritten place these bytes) page ≡ page_at bytes page
page_at-overwritten place these bytes page within outside =
    ap (λ (l : List ℕ). page_at l page) (overwritten-is place these bytes)
    ∙ ⊎_elim (λ (h : (page + 1) * page_bytes ≤ place). page_at-front (put_mid place (length these) bytes these) bytes page (take-put_mid_below place (length these) bytes these (page * page_bytes + page_bytes) (omega arith) (omega arith)))
    (λ (h : place + length these ≤ page * page_bytes). page_at-rest (put_mid place (length these) bytes these) bytes page (drop-put_mid place (length these) bytes these (page * page_bytes) h (omega arith) refl))
    outside

-- after a write, where the pages that it touches are marked
pub written_marked : (first end place : ℕ) (these bytes kept : List ℕ) (old new : List Bool) → AreMarked old bytes kept → HasMarked first end old new → place + length these ≤ length bytes
    → first * page_bytes ≤ place → place + length these ≤ end * page_bytes → AreMarked new (overwritten place these bytes) kept
written_marked first end place these bytes kept old new marked more within starts ends = record {
  same = λ (page : ℕ) (clear : get_or new page true ≡ false).
      let h = more.others page clear in
      page_at-overwritten place these bytes page within (⊎_elim (λ (b : page < first). inl (omega arith)) (λ (b : end ≤ page). inr (omega arith)) h.1) ∙ marked.same page h.0;
}

-- after growing
pub grown_marked : (size by : ℕ) (bytes kept : List ℕ) (old new : List Bool) → AreMarked old bytes kept → HasMarked size (size + by) old new → length bytes ≡ size * page_bytes → AreMarked new (bytes ++ zero_pages by) kept
unfolding zero_pages
grown_marked size by bytes kept old new marked more long = record {
  same = λ (page : ℕ) (clear : get_or new page true ≡ false).
      let h = more.others page clear in
      let longer : length (bytes ++ replicate (by * page_bytes) 0) ≡ size * page_bytes + by * page_bytes = omega (arith, length-append bytes (replicate (by * page_bytes) 0), length-replicate {A = ℕ}) in
      ⊎_elim (λ (b : page < size). page_at-front (bytes ++ replicate (by * page_bytes) 0) bytes page (take-append-le (page * page_bytes + page_bytes) bytes (replicate (by * page_bytes) 0) (omega arith)))
      (λ (b : size + by ≤ page). page_at-past (bytes ++ replicate (by * page_bytes) 0) page (omega arith) ∙ sym (page_at-past bytes page (omega arith))) h.1 ∙ marked.same page h.0;
}

-- after all pages were taken away
pub cleared_marked : (size : ℕ) (bytes kept : List ℕ) (old new : List Bool) → AreMarked old bytes kept → HasMarked 0 size old new → length bytes ≡ size * page_bytes → AreMarked new [] kept
cleared_marked size bytes kept old new marked more long = record {
  same = λ (page : ℕ) (clear : get_or new page true ≡ false).
      let h = more.others page clear in
      let past : size ≤ page = ⊎_elim (λ (b : page < 0). absurd (omega arith)) (λ (b : size ≤ page). b) h.1 in
      page_at-past [] page (omega arith) ∙ sym (page_at-past bytes page (omega arith)) ∙ marked.same page h.0;
}

-- after copying one to the other
pub copied_marked : (marks : List Bool) (bytes kept : List ℕ) → bytes ≡ kept → AreMarked marks bytes kept
copied_marked marks bytes kept copied = record { same = λ (page : ℕ) (clear : get_or marks page true ≡ false). ap (λ (l : List ℕ). page_at l page) copied }

-- the other way round
pub turned_marked : (marks : List Bool) (bytes kept : List ℕ) → AreMarked marks bytes kept → AreMarked marks kept bytes
turned_marked marks bytes kept marked = record { same = λ (page : ℕ) (clear : get_or marks page true ≡ false). sym (marked.same page clear) }

page_at-take : (xs : List ℕ) (len page : ℕ) → ((page + 1) * page_bytes ≤ len) → page_at (take len xs) page ≡ page_at xs page
page_at-take xs len page below = page_at-front (take len xs) xs page (take-take (page * page_bytes + page_bytes) len xs (omega arith))

-- the first whole pages of both
pub cut_marked : (marks : List Bool) (xs ys : List ℕ) (len : ℕ) → AreMarked marks xs ys → len % page_bytes ≡ 0 → AreMarked marks (take len xs) (take len ys)
cut_marked marks xs ys len marked whole = record {
  same = λ (page : ℕ) (clear : get_or marks page true ≡ false).
      ⊎_elim (λ (b : page * page_bytes < len). page_at-take xs len page (omega arith) ∙ marked.same page clear ∙ sym (page_at-take ys len page (omega arith)))
      (λ (b : len ≤ page * page_bytes). page_at-past (take len xs) page (omega (arith, length-take len xs)) ∙ sym (page_at-past (take len ys) page (omega (arith, length-take len ys))))
      (cases_lt (page * page_bytes) len);
}

-- what the copying of pages has come to: those before the page are as in the other, and the rest as at first
pub record Copying (page : ℕ) (from first to : List ℕ) : Type 0 where
  pub front : take (page * page_bytes) to ≡ take (page * page_bytes) from
  pub rest : drop (page * page_bytes) to ≡ drop (page * page_bytes) first

-- a page without a mark stays
pub kept_page : (page : ℕ) (from first to : List ℕ) (marks : List Bool) → Copying page from first to → AreMarked marks from first → get_or marks page true ≡ false → Copying (page + 1) from first to
kept_page page from first to marks copying marked clear = record {
  front = take_page to from page copying.front (page_at-rest to first page copying.rest ∙ sym (marked.same page clear));
  rest = next_page to first page copying.rest;
}

-- a page with a mark is written
pub copied_page : (page k : ℕ) (from first to : List ℕ) → Copying page from first to → (page + 1) * page_bytes ≤ length to → length to ≡ length from → k ≡ page_bytes
    → Copying (page + 1) from first (put_mid (page * page_bytes) k to (slice_range from (page * page_bytes) ((page + 1) * page_bytes)))
copied_page page k from first to copying within same whole = record {
  front = take_written to from page k copying.front within same;
  rest =
      (let here = slice_range from (page * page_bytes) ((page + 1) * page_bytes) in
      let long : length here ≡ page_bytes = ap length (page_at-range from page) ∙ length-page_at from page ∙ omega arith in
      drop-put_mid (page * page_bytes) k to here ((page + 1) * page_bytes) (omega arith) (omega arith) (long ∙ sym whole) ∙ next_page to first page copying.rest);
}

-- all marks, as a write to each of them leaves them
pub all_marks : (len : ℕ) (items new : List Bool) → length items ≡ len → length new ≡ length items → take len (new ++ drop (length new) items) ≡ new
all_marks len items new a b = take-append-le len new (drop (length new) items) (omega arith) ∙ take_all len new (omega arith)

-- all bytes, as a write to a part of them leaves them
pub all_bytes : (place k : ℕ) (bytes now these copied : List ℕ) → now ≡ bytes → copied ≡ these → k ≡ length these → take place now ++ (copied ++ post_of place k now) ≡ overwritten place these bytes
all_bytes place k bytes now these copied n c long =
    ap (λ (l : List ℕ). take place l ++ (copied ++ post_of place k l)) n
    ∙ ap (λ (l : List ℕ). take place bytes ++ (l ++ post_of place k bytes)) c
    ∙ ap (λ m. put_mid place m bytes these) long
    ∙ sym (overwritten-is place these bytes)

-- the first items, by how many there are
pub take_own : (n k : ℕ) (xs : List ℕ) → k ≡ length (take n xs) → take n xs ≡ take k xs
take_own n k xs is =
    let long : length (take n xs) ≡ min n (length xs) = length-take n xs in
    ⊎_elim (λ (h : n < length xs). let same : n ≡ k = omega arith in ap (λ m. take m xs) same)
    (λ (h : length xs ≤ n). take_all n xs h ∙ sym (take_all k xs (omega arith)))
    (cases_lt n (length xs))
