-- Level by level, exactly the types whose values have no bytes are marked.
use Rattle.std.proofs.Common.{◌≡◌, ◌≢◌, ℕ, zero, suc, ◌+◌, ◌≤◌, ◌<◌, Bool, true, false, List, [], ◌∷◌, ◌++◌, length, Option, Some, None, ◌⊎◌, inl, inr, refl, sym, ap, ◌∙◌, subst, arith}
use Rattle.std.specs.Prelude.{◌&&◌}
use Rattle.std.specs.List.{list_all}
use Rattle.std.proofs.lemmas.Option.{slice_get_past}
use Rattle.std.proofs.lemmas.Bool.{cases_lt}
use Rattle.mo_types.specs.Sub.{Each}
use Rattle.mo_types.specs.declared.wire.Plain.TheVariants as plain
use Rattle.mo_types.specs.declared.wire.Entry.{Entry}
use Rattle.mo_types.specs.declared.wire.Wire.{Wire}
use Rattle.mo_types.specs.declared.wire.Wire.TheVariants.{Simple, Opt, Vec, Record, Variant, Func, Service}
use Rattle.mo_types.specs.Spelling.{EmptyHead, EmptyBy}
use Rattle.candid_types.specs.Shapes.{or_empty, shape_at}
use Rattle.candid_read.specs.Parts.{is_marked}
use Rattle.candid_read.specs.Empty.{is_empty_head, marks_after, AreEmpty}

-- ---- one more mark

less : (t n : ℕ) → t < suc n → t ≢ n → t < n
less t n h k = by (cases_lt t n)
  where
    by : (t < n) ⊎ (n ≤ t) → t < n
    by (inl a) = a
    by (inr a) = absurd (k (omega (arith, a, h)))

pub pushed : (xs : List Bool) (y : Bool) (t : ℕ) → ((t ≡ length xs) × (is_marked (xs ++ y ∷ []) t ≡ y)) ⊎ ((t ≢ length xs) × (is_marked (xs ++ y ∷ []) t ≡ is_marked xs t))
pushed [] y zero = inl (refl, refl)
pushed [] y (suc t) = inr ((λ e. omega (arith, e)), refl)
pushed (x ∷ xs) y zero = inr ((λ e. omega (arith, e)), refl)
pushed (x ∷ xs) y (suc t) = by (pushed xs y t)
  where
    by : ((t ≡ length xs) × (is_marked (xs ++ y ∷ []) t ≡ y)) ⊎ ((t ≢ length xs) × (is_marked (xs ++ y ∷ []) t ≡ is_marked xs t)) → ((suc t ≡ length (x ∷ xs)) × (is_marked ((x ∷ xs) ++ y ∷ []) (suc t) ≡ y)) ⊎ ((suc t ≢ length (x ∷ xs)) × (is_marked ((x ∷ xs) ++ y ∷ []) (suc t) ≡ is_marked (x ∷ xs) (suc t)))
    by (inl h) = inl (ap suc h.0, h.1)
    by (inr h) = inr ((λ e. h.0 (omega (arith, e))), h.1)

length_pushed : (xs : List Bool) (y : Bool) → length (xs ++ y ∷ []) ≡ suc (length xs)
length_pushed [] y = refl
length_pushed (x ∷ xs) y = ap suc (length_pushed xs y)

module _ (shapes : List (Wire ℕ)) (marks : List Bool) where
  abbrev mark : ℕ → Bool
  mark t = is_empty_head marks (shape_at shapes t)

  count : (n : ℕ) → length (marks_after shapes marks n) ≡ n
  count zero = refl
  count (suc n) = length_pushed (marks_after shapes marks n) (mark n) ∙ ap suc (count n)

  inner : (n t : ℕ) → t < n → is_marked (marks_after shapes marks n) t ≡ mark t
  inner zero t h = absurd (omega (arith, h))
  inner (suc n) t h = by (inner n t) (pushed (marks_after shapes marks n) (mark n) t)
    where
      by : (t < n → is_marked (marks_after shapes marks n) t ≡ mark t) → ((t ≡ length (marks_after shapes marks n)) × (is_marked (marks_after shapes marks n ++ mark n ∷ []) t ≡ mark n)) ⊎ ((t ≢ length (marks_after shapes marks n)) × (is_marked (marks_after shapes marks n ++ mark n ∷ []) t ≡ is_marked (marks_after shapes marks n) t)) → is_marked (marks_after shapes marks (suc n)) t ≡ mark t
      by more (inl k) = k.1 ∙ ap mark (sym (k.0 ∙ count n))
      by more (inr k) =
          let c = count n in
          let apart : t ≢ n = λ e. k.0 (e ∙ sym c) in
          k.1 ∙ more (less t n h apart)

  outer : (n t : ℕ) → n ≤ t → is_marked (marks_after shapes marks n) t ≡ false
  outer n t h = ap or_no (slice_get_past (marks_after shapes marks n) t (omega (arith, count n, h)))
    where
      or_no : Option Bool → Bool
      or_no None = false
      or_no (Some b) = b

  no_shape : (t : ℕ) → length shapes ≤ t → mark t ≡ false
  no_shape t h = ap (λ o. is_empty_head marks (or_empty o)) (slice_get_past shapes t h)

  pub marked_is : (t : ℕ) → is_marked (marks_after shapes marks (length shapes)) t ≡ mark t
  marked_is t = by (cases_lt t (length shapes))
    where
      by : (t < length shapes) ⊎ (length shapes ≤ t) → is_marked (marks_after shapes marks (length shapes)) t ≡ mark t
      by (inl h) = inner (length shapes) t h
      by (inr h) = outer (length shapes) t h ∙ sym (no_shape t h)

pub marks_more : (shapes : List (Wire ℕ)) (marks : List Bool) (n : ℕ) → marks_after shapes marks (n + 1) ≡ marks_after shapes marks n ++ is_empty_head marks (shape_at shapes n) ∷ []
marks_more shapes marks n = let e : n + 1 ≡ suc n = omega arith in ap (marks_after shapes marks) e

-- ---- levels

both_true : (a b : Bool) → (a && b) ≡ true → (a ≡ true) × (b ≡ true)
both_true true true e = (refl, refl)
both_true true false e = cc
both_true false b e = cc

true_both : (a b : Bool) → a ≡ true → b ≡ true → (a && b) ≡ true
true_both true b e f = f
true_both false b e f = cc

module _ (marks : List Bool) (E : ℕ → Type 0) where
  module _ (sound : (t : ℕ) → is_marked marks t ≡ true → E t) where
    each_sound : (es : List (Entry ℕ)) → list_all (λ e. is_marked marks e.part) es ≡ true → Each (λ e. E e.part) es
    each_sound [] h = tt
    each_sound (e ∷ es) h =
        let b = both_true (is_marked marks e.part) (list_all (λ e. is_marked marks e.part) es) h in
        (sound e.part b.0, each_sound es b.1)

    head_sound : (w : Wire ℕ) → is_empty_head marks w ≡ true → EmptyHead E w
    head_sound (Simple plain.Null) h = tt
    head_sound (Simple plain.Reserved) h = tt
    head_sound (Simple p) h = cc
    head_sound (Opt t) h = cc
    head_sound (Vec t) h = cc
    head_sound (Record es) h = each_sound es h
    head_sound (Variant es) h = cc
    head_sound (Func ps rs ns) h = cc
    head_sound (Service ms) h = cc

  module _ (complete : (t : ℕ) → E t → is_marked marks t ≡ true) where
    each_complete : (es : List (Entry ℕ)) → Each (λ e. E e.part) es → list_all (λ e. is_marked marks e.part) es ≡ true
    each_complete [] h = refl
    each_complete (e ∷ es) h = true_both (is_marked marks e.part) (list_all (λ e. is_marked marks e.part) es) (complete e.part h.0) (each_complete es h.1)

    head_complete : (w : Wire ℕ) → EmptyHead E w → is_empty_head marks w ≡ true
    head_complete (Simple plain.Null) h = refl
    head_complete (Simple plain.Reserved) h = refl
    head_complete (Simple p) h = absurd h
    head_complete (Opt t) h = absurd h
    head_complete (Vec t) h = absurd h
    head_complete (Record es) h = each_complete es h
    head_complete (Variant es) h = absurd h
    head_complete (Func ps rs ns) h = absurd h
    head_complete (Service ms) h = absurd h

-- The marks are those of so many levels.
pub record Levels (shapes : List (Wire ℕ)) (marks : List Bool) (n : ℕ) : Type 0 where
  pub sound : (t : ℕ) → is_marked marks t ≡ true → EmptyBy (shape_at shapes) n t
  pub complete : (t : ℕ) → EmptyBy (shape_at shapes) n t → is_marked marks t ≡ true

no_mark : (t : ℕ) → is_marked [] t ≡ false
no_mark t = refl

true_false : (b : Bool) → b ≡ false → b ≡ true → ⊥
true_false b e f = cc

pub no_level : (shapes : List (Wire ℕ)) (marks : List Bool) → marks ≡ [] → Levels shapes marks 0
unfolding EmptyBy
no_level shapes marks e = record {
  sound = λ t h. absurd (true_false (is_marked marks t) (ap (λ m. is_marked m t) e ∙ no_mark t) h);
  complete = λ t h. absurd h;
}

next_level : (shapes : List (Wire ℕ)) (marks : List Bool) (n : ℕ) → Levels shapes marks n → Levels shapes (marks_after shapes marks (length shapes)) (suc n)
unfolding EmptyBy
next_level shapes marks n l = record {
  sound = λ t h. head_sound marks (EmptyBy (shape_at shapes) n) l.sound (shape_at shapes t) (sym (marked_is shapes marks t) ∙ h);
  complete = λ t h. marked_is shapes marks t ∙ head_complete marks (EmptyBy (shape_at shapes) n) l.complete (shape_at shapes t) h;
}

pub one_level : (shapes : List (Wire ℕ)) (marks more : List Bool) (n : ℕ) → Levels shapes marks n → more ≡ marks_after shapes marks (length shapes) → Levels shapes more (n + 1)
one_level shapes marks more n l e =
    let k : suc n ≡ n + 1 = omega arith in
    subst (Levels shapes more) k (subst (λ m. Levels shapes m (suc n)) (sym e) (next_level shapes marks n l))

-- where a level marks nothing more, all are marked
pub all_levels : (shapes : List (Wire ℕ)) (marks more : List Bool) (n : ℕ) → Levels shapes marks n → more ≡ marks_after shapes marks (length shapes) → more ≡ marks → AreEmpty shapes marks
unfolding EmptyBy
all_levels shapes marks more n l e same = record { sound = λ t h. (n, l.sound t h); complete = λ t k h. climb k t h }
  where
    climb : (k t : ℕ) → EmptyBy (shape_at shapes) k t → is_marked marks t ≡ true
    climb zero t h = absurd h
    climb (suc k) t h =
        ap (λ m. is_marked m t) (sym same ∙ e) ∙ marked_is shapes marks t ∙ head_complete marks (EmptyBy (shape_at shapes) k) (λ s h. climb k s h) (shape_at shapes t) h
