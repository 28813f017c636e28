-- The search for what a record contains through records alone.
use Rattle.std.proofs.Common.{◌≡◌, ℕ, zero, suc, ◌+◌, ◌<◌, ◌≤◌, ◌≢◌, List, [], ◌∷◌, ◌++◌, length, Bool, true, false, cond, Option, Some, None, ◌⊎◌, inl, inr, refl, sym, ap, ◌∙◌, subst, arith}
use Rattle.std.specs.Prelude.{slice_get, ◌||◌, nat_eq}
use Rattle.std.specs.List.{list_any}
use Rattle.std.proofs.lemmas.Option.{slice_get_past}
use Rattle.std.proofs.lemmas.Bool.{cases_lt, eqb-true, eq-eqb}
use Rattle.indexmap.specs.IndexSet.{insert_key, insert_all}
use Rattle.mo_types.specs.declared.wire.Wire.{Wire}
use Rattle.candid_types.specs.Shapes.{or_empty}
use Rattle.candid_read.specs.Parts.{is_marked}
use Rattle.candid_read.specs.Endless.{In, fields_by, fields_of, Encloses, Field, Deeper, AreEndless}
use Rattle.candid_read.proofs.Levels.{pushed}

-- ---- adding what is not there yet

in_front : (seen more : List ℕ) (k t : ℕ) → slice_get seen k ≡ Some t → slice_get (seen ++ more) k ≡ Some t
in_front [] more k t e = cc
in_front (u ∷ seen) more zero t e = e
in_front (u ∷ seen) more (suc k) t e = in_front seen more k t e

in_last : (seen : List ℕ) (t : ℕ) → slice_get (seen ++ t ∷ []) (length seen) ≡ Some t
in_last [] t = refl
in_last (u ∷ seen) t = in_last seen t

known_in : (seen : List ℕ) (t : ℕ) → list_any (nat_eq t) seen ≡ true → In seen t
known_in [] t e = cc
known_in (u ∷ seen) t e = by (nat_eq t u) refl (known_in seen t)
  where
    by : (b : Bool) → nat_eq t u ≡ b → (list_any (nat_eq t) seen ≡ true → In seen t) → In (u ∷ seen) t
    by true h f = (0, ap (λ (x : ℕ). Some x) (sym (eqb-true t u h)))
    by false h f = let i = f (subst (λ b. b || list_any (nat_eq t) seen ≡ true) h e) in (suc i.0, i.1)

any_left : (a b : Bool) → a ≡ true → (a || b) ≡ true
any_left true b e = refl
any_left false b e = cc

any_right : (a b : Bool) → b ≡ true → (a || b) ≡ true
any_right true b e = refl
any_right false b e = e

pub in_known : (seen : List ℕ) (t : ℕ) → In seen t → list_any (nat_eq t) seen ≡ true
in_known [] t i = let e = i.1 in cc
in_known (u ∷ seen) t (zero, e) = let same : t ≡ u = cc in any_left (nat_eq t u) (list_any (nat_eq t) seen) (eq-eqb t u same)
in_known (u ∷ seen) t (suc k, e) = any_right (nat_eq t u) (list_any (nat_eq t) seen) (in_known seen t (k, e))

-- what adding does: what was there stays in its place, what was added is there, and no more
record Added (seen more new : List ℕ) : Type 0 where
  pub kept : (k t : ℕ) → slice_get seen k ≡ Some t → slice_get new k ≡ Some t
  pub there : (t : ℕ) → In more t → In new t
  pub no_more : (t : ℕ) → In new t → In seen t ⊎ In more t

with_kept : (seen : List ℕ) (u : ℕ) (b : Bool) → (k t : ℕ) → slice_get seen k ≡ Some t → slice_get (cond b seen (seen ++ u ∷ [])) k ≡ Some t
with_kept seen u true k t e = e
with_kept seen u false k t e = in_front seen (u ∷ []) k t e

with_there : (seen : List ℕ) (u : ℕ) (b : Bool) → list_any (nat_eq u) seen ≡ b → In (cond b seen (seen ++ u ∷ [])) u
with_there seen u true e = known_in seen u e
with_there seen u false e = (length seen, in_last seen u)

at_end : (seen : List ℕ) (u k t : ℕ) → slice_get (seen ++ u ∷ []) k ≡ Some t → In seen t ⊎ (u ≡ t)
at_end [] u zero t e = inr cc
at_end [] u (suc k) t e = cc
at_end (o ∷ seen) u zero t e = inl (0, e)
at_end (o ∷ seen) u (suc k) t e = elim (at_end seen u k t e) [ inl i ↦ inl (suc i.0, i.1) | inr s ↦ inr s ]

with_no_more : (seen : List ℕ) (u : ℕ) (b : Bool) (k t : ℕ) → slice_get (cond b seen (seen ++ u ∷ [])) k ≡ Some t → In seen t ⊎ (u ≡ t)
with_no_more seen u true k t e = inl (k, e)
with_no_more seen u false k t e = at_end seen u k t e

in_head : (u t : ℕ) (more : List ℕ) → In (u ∷ more) t → (u ≡ t) ⊎ In more t
in_head u t more (zero, e) = inl cc
in_head u t more (suc k, e) = inr (k, e)

adds_all : (seen more : List ℕ) → Added seen more (insert_all nat_eq seen more)
adds_all seen [] = record { kept = λ k t e. e; there = λ t i. let e = i.1 in cc; no_more = λ t i. inl i }
adds_all seen (u ∷ more) =
    let a = adds_all (insert_key nat_eq seen u) more in
    let here = with_there seen u (list_any (nat_eq u) seen) refl in
    record {
      kept = λ k t e. a.kept k t (with_kept seen u (list_any (nat_eq u) seen) k t e);
      there = λ t i. elim (in_head u t more i) [ inl e ↦ (here.0, subst (λ (x : ℕ). slice_get (insert_all nat_eq seen (u ∷ more)) here.0 ≡ Some x) e (a.kept here.0 u here.1)) | inr j ↦ a.there t j ];
      no_more = λ t i. elim (a.no_more t i) [
        | inl j ↦ elim (with_no_more seen u (list_any (nat_eq u) seen) j.0 t j.1) [ inl l ↦ inl l | inr s ↦ inr (0, ap (λ (x : ℕ). Some x) s) ]
        | inr j ↦ inr (suc j.0, j.1)
      ];
    }

-- ---- the search

less : (k n : ℕ) → k < n + 1 → (k < n) ⊎ (k ≡ n)
less k n h = elim (cases_lt k n) [ inl l ↦ inl l | inr g ↦ inr (omega arith) ]

past : (seen : List ℕ) (k : ℕ) → slice_get seen k ≡ None → length seen ≤ k
past [] k e = omega arith
past (u ∷ seen) zero e = cc
past (u ∷ seen) (suc k) e = let i = past seen k e in omega arith

within : (seen : List ℕ) (k t : ℕ) → slice_get seen k ≡ Some t → k < length seen
within [] k t e = cc
within (u ∷ seen) zero t e = omega arith
within (u ∷ seen) (suc k) t e = let i = within seen k t e in omega arith

old_at : (xs : List ℕ) (k : ℕ) → k < length xs → (t : ℕ) × (slice_get xs k ≡ Some t)
old_at [] k lt = absurd (omega arith)
old_at (x ∷ xs) zero lt = (x, refl)
old_at (x ∷ xs) (suc k) lt = old_at xs k (omega arith)

module _ (shapes : List (Wire ℕ)) where
  -- what is inside a record, and then a field of it
  pub one_deeper : (t u v : ℕ) → Encloses shapes t u → In (fields_of shapes u) v → Encloses shapes t v
  one_deeper t u v (Field i) j = Deeper i (Field j)
  one_deeper t u v (Deeper {u = s} i p) j = Deeper i (one_deeper s u v p j)

  abbrev Holds : List ℕ → ℕ → Type 0
  Holds seen t = (u : ℕ) → In (fields_of shapes t) u → In seen u

  -- the search so far
  pub record Search (of : ℕ) (seen : List ℕ) (next : ℕ) : Type 0 where
    pub rooted : Holds seen of
    pub answered : (k t : ℕ) → k < next → slice_get seen k ≡ Some t → Holds seen t
    pub inner : (t : ℕ) → In seen t → Encloses shapes of t

  pub begins : (of : ℕ) (empty seen : List ℕ) → empty ≡ [] → seen ≡ insert_all nat_eq empty (fields_of shapes of) → Search of seen 0
  begins of empty seen none is =
      let a : Added [] (fields_of shapes of) seen = subst (Added [] (fields_of shapes of)) (sym (is ∙ ap (λ l. insert_all nat_eq l (fields_of shapes of)) none)) (adds_all [] (fields_of shapes of)) in
      record {
        rooted = a.there;
        answered = λ k t lt e. absurd (omega arith);
        inner = λ t i. elim (a.no_more t i) [ inl j ↦ absurd (nowhere j.0 t j.1) | inr j ↦ Field j ];
      }
    where
      nowhere : (k t : ℕ) → slice_get {X = ℕ} [] k ≡ Some t → ⊥
      nowhere k t e = cc

  pub goes_on : (of : ℕ) (seen new : List ℕ) (next t : ℕ) (o : Option ℕ) → Search of seen next → o ≡ slice_get seen next → o ≡ Some t → new ≡ insert_all nat_eq seen (fields_of shapes t) → Search of new (next + 1)
  goes_on of seen new next t o s at_ some is = record { rooted = λ u i. keep u (s.rooted u i); answered = answer; inner = imply }
    where
      at : slice_get seen next ≡ Some t
      at = sym at_ ∙ some

      add : Added seen (fields_of shapes t) new
      add = subst (Added seen (fields_of shapes t)) (sym is) (adds_all seen (fields_of shapes t))

      keep : (u : ℕ) → In seen u → In new u
      keep u i = (i.0, add.kept i.0 u i.1)

      old_one : (k u v : ℕ) → slice_get seen k ≡ Some u → slice_get new k ≡ Some v → u ≡ v
      old_one k u v a b = let c = add.kept k u a in let d = b in cc

      answer : (k u : ℕ) → k < next + 1 → slice_get new k ≡ Some u → Holds new u
      answer k u lt e = elim (less k next lt) [
        | inl l ↦
            let o = old_at seen k (let w = within seen next t at in omega arith) in
            let same = old_one k o.0 u o.1 e in
            subst (Holds new) same (λ v i. keep v (s.answered k o.0 l o.1 v i))
        | inr r ↦
            let there : slice_get seen k ≡ Some t = ap (slice_get seen) r ∙ at in
            let same = old_one k t u there e in
            subst (Holds new) same add.there
      ]

      imply : (u : ℕ) → In new u → Encloses shapes of u
      imply u i = elim (add.no_more u i) [
        | inl j ↦ s.inner u j
        | inr j ↦ one_deeper of t u (s.inner t (next, at)) j
      ]

  pub closed : (of : ℕ) (seen : List ℕ) (next : ℕ) (o : Option ℕ) → Search of seen next → o ≡ slice_get seen next → o ≡ None → (t : ℕ) → Encloses shapes of t → In seen t
  closed of seen next o s at none t p = by of t s.rooted p
    where
      le : length seen ≤ next
      le = past seen next (sym at ∙ none)

      by : (u v : ℕ) → Holds seen u → Encloses shapes u v → In seen v
      by u v h (Field i) = h v i
      by u v h (Deeper {u = w} i p) = let j = h w i in by w v (s.answered j.0 w (let l = within seen j.0 w j.1 in omega (arith, le, l)) j.1) p

  pub says_yes : (of : ℕ) (seen : List ℕ) (next : ℕ) → Search of seen next → list_any (nat_eq of) seen ≡ true → Encloses shapes of of
  says_yes of seen next s e = s.inner of (known_in seen of e)

  pub says_no : (of : ℕ) (seen : List ℕ) (next : ℕ) (o : Option ℕ) → Search of seen next → o ≡ slice_get seen next → o ≡ None → list_any (nat_eq of) seen ≡ false → Encloses shapes of of → ⊥
  says_no of seen next o s at none e p = let f = in_known seen of (closed of seen next o s at none of p) in cc

  -- ---- the marks

  -- the marks of so many types
  pub record Upto (marks : List Bool) (n : ℕ) : Type 0 where
    pub count : length marks ≡ n
    pub sound : (t : ℕ) → is_marked marks t ≡ true → Encloses shapes t t
    pub complete : (t : ℕ) → t < n → Encloses shapes t t → is_marked marks t ≡ true

  pub no_marks : (marks : List Bool) → marks ≡ [] → Upto marks 0
  no_marks marks e = record { count = ap length e; sound = λ t h. absurd (none t (ap (λ m. is_marked m t) (sym e) ∙ h)); complete = λ t lt h. absurd (omega (arith, lt)) }
    where
      none : (t : ℕ) → is_marked [] t ≡ true → ⊥
      none t e = cc

  true_false : (b : Bool) → b ≡ false → b ≡ true → ⊥
  true_false b e f = cc

  pub one_mark : (marks more : List Bool) (n : ℕ) (b : Bool) → Upto marks n → (b ≡ true → Encloses shapes n n) → (b ≡ false → Encloses shapes n n → ⊥) → more ≡ marks ++ b ∷ [] → Upto more (n + 1)
  one_mark marks more n b u so not_so e = subst (λ m. Upto m (n + 1)) (sym e) (record {
    count = longer marks b ∙ ap (λ k. k + 1) u.count;
    sound = λ t h. elim (pushed marks b t) [
      | inl k ↦ let same : n ≡ t = sym u.count ∙ sym k.0 in subst (λ x. Encloses shapes x x) same (so (sym k.1 ∙ h))
      | inr k ↦ u.sound t (sym k.1 ∙ h)
    ];
    complete = λ t lt h. elim (pushed marks b t) [
      | inl k ↦ let same : t ≡ n = k.0 ∙ u.count in k.1 ∙ must b (λ f. not_so f (subst (λ x. Encloses shapes x x) same h))
      | inr k ↦ let c = u.count in let apart : t ≢ n = λ z. k.0 (z ∙ sym c) in k.1 ∙ u.complete t (below_it t n lt apart) h
    ];
  })
    where
      longer : (xs : List Bool) (y : Bool) → length (xs ++ y ∷ []) ≡ length xs + 1
      longer [] y = refl
      longer (x ∷ xs) y = let i = longer xs y in omega (arith, i)

      must : (b : Bool) → (b ≡ false → ⊥) → b ≡ true
      must true f = refl
      must false f = absurd (f refl)

      below_it : (t n : ℕ) → t < n + 1 → t ≢ n → t < n
      below_it t n lt k = elim (less t n lt) [ inl l ↦ l | inr s ↦ absurd (k s) ]

  nowhere_past : (t u : ℕ) → length shapes ≤ t → In (fields_of shapes t) u → ⊥
  nowhere_past t u le i =
      let e : fields_of shapes t ≡ [] = ap (λ o. fields_by (or_empty o)) (slice_get_past shapes t le) in
      let j : In [] u = subst (λ l. In l u) e i in
      let k = j.1 in
      cc

  no_fields : (t u : ℕ) → length shapes ≤ t → Encloses shapes t u → ⊥
  no_fields t u le (Field i) = nowhere_past t u le i
  no_fields t u le (Deeper {u = v} i p) = nowhere_past t v le i

  pub all_marks : (marks : List Bool) (n : ℕ) → Upto marks n → length shapes ≤ n → AreEndless shapes marks
  all_marks marks n u le = record { sound = u.sound; complete = λ t h. elim (cases_lt t n) [ inl l ↦ u.complete t l h | inr g ↦ absurd (no_fields t t (omega (arith, g, le)) h) ] }
