-- The terms of a table stay while it grows, and are those of their forms.
use Rattle.std.proofs.Common.{◌≡◌, inl, inr, ℕ, zero, suc, ◌+◌, ◌<◌, List, [], ◌∷◌, ◌++◌, length, map, slice_get, Some, refl, sym, ap, ◌∙◌, subst, arith, length-append, append_assoc}
use Rattle.mo_types.specs.declared.node.Field.{Field}
use Rattle.mo_types.specs.Sub.{Each}
use Rattle.type_terms.specs.declared.form.Form.{Form}
use Rattle.type_terms.specs.declared.form.Form.TheVariants as form
use Rattle.type_terms.specs.declared.form.TermId.{TermId}
use Rattle.type_terms.specs.Layouts.{layout, parts}
use Rattle.type_terms.specs.Tables.{Founded, Interns}
use Rattle.typing_rules.specs.Terms.{Term, Terms, Fields, unlisted}
use Rattle.typing_rules.specs.Terms as t
use Rattle.type_definitions.specs.Meanings.{parts_at, fields_at, term_of, or_bottom, listed_at, terms_from, terms, term}
use Rattle.type_definitions.specs.Tables.{Grows, Within, Later, Makes, IsTermOf}

-- ---- lists that grow

module _ {A : Type 0} where
  pub get_left : (xs ys : List A) (i : ℕ) → i < length xs → slice_get (xs ++ ys) i ≡ slice_get xs i
  get_left [] ys i h = absurd (omega arith)
  get_left (x ∷ xs) ys zero h = refl
  get_left (x ∷ xs) ys (suc i) h = get_left xs ys i (omega arith)

  pub get_some : (xs ys : List A) (i : ℕ) (x : A) → slice_get xs i ≡ Some x → slice_get (xs ++ ys) i ≡ Some x
  get_some [] ys i x h = cc
  get_some (y ∷ xs) ys zero x h = h
  get_some (y ∷ xs) ys (suc i) x h = get_some xs ys i x h

  get_last : (xs : List A) (x : A) → slice_get (xs ++ x ∷ []) (length xs) ≡ Some x
  get_last [] x = refl
  get_last (y ∷ xs) x = get_last xs x

  pub in_range : (xs : List A) (i : ℕ) (x : A) → slice_get xs i ≡ Some x → i < length xs
  in_range [] i x h = cc
  in_range (y ∷ xs) zero x h = omega arith
  in_range (y ∷ xs) (suc i) x h = let l : i < length xs = in_range xs i x h in omega arith

-- ---- forms whose parts have the same terms

module _ (f g : TermId → Term) where
  Alike : List TermId → Type 0
  Alike ids = Each (λ p. f p ≡ g p) ids

  parts_alike : (ids rest : List TermId) → Each (λ p. f p ≡ g p) (ids ++ rest) → unlisted (parts_at f ids) ≡ unlisted (parts_at g ids)
  parts_alike [] rest h = refl
  parts_alike (p ∷ ids) rest h = ap (λ u. t.Cons u (unlisted (parts_at f ids))) h.0 ∙ ap (λ us. t.Cons (g p) us) (parts_alike ids rest h.1)

  after : (ids rest : List TermId) → Each (λ p. f p ≡ g p) (ids ++ rest) → Each (λ p. f p ≡ g p) rest
  after [] rest h = h
  after (p ∷ ids) rest h = after ids rest h.1

  fields_alike : (fs : List (Field TermId)) → Each (λ p. f p ≡ g p) (map (λ m. m.part) fs) → fields_at f fs ≡ fields_at g fs
  fields_alike [] h = refl
  fields_alike (m ∷ fs) h =
      ap (λ u. t.WithField m.label m.mutable u (fields_at f fs)) h.0 ∙ ap (λ us. t.WithField m.label m.mutable (g m.part) us) (fields_alike fs h.1)

  pub forms_alike : (x : Form) → Each (λ p. f p ≡ g p) (parts x) → term_of f x ≡ term_of g x
  unfolding layout
  forms_alike (form.Number k) h = refl
  forms_alike form.Boolean h = refl
  forms_alike form.Character h = refl
  forms_alike form.Text h = refl
  forms_alike form.Blob h = refl
  forms_alike form.Principal h = refl
  forms_alike form.Error h = refl
  forms_alike form.Null h = refl
  forms_alike form.Any h = refl
  forms_alike form.Bottom h = refl
  forms_alike (form.Optional a) h = ap t.Optional h.0
  forms_alike (form.Array a) h = ap t.Array h.0
  forms_alike (form.MutableArray a) h = ap t.MutableArray h.0
  forms_alike (form.Tuple ts) h = ap t.Tuple (parts_alike ts [] h)
  forms_alike (form.Object fs) h = ap t.Object (fields_alike fs h)
  forms_alike (form.Actor fs) h = ap t.Actor (fields_alike fs h)
  forms_alike (form.Variant fs) h = ap t.Variant (fields_alike fs h)
  forms_alike (form.Function ps r) h = ap (λ us. t.Function us (f r)) (parts_alike ps _ h) ∙ ap (λ u. t.Function (unlisted (parts_at g ps)) u) (after ps _ h).0
  forms_alike (form.Shared s ps r) h = ap (λ us. t.Shared s us (f r)) (parts_alike ps _ h) ∙ ap (λ u. t.Shared s (unlisted (parts_at g ps)) u) (after ps _ h).0
  forms_alike (form.Async a) h = ap t.Async h.0
  forms_alike (form.Parameter n) h = refl
  forms_alike (form.Use n ts) h = ap (t.Use n) (parts_alike ts [] h)

-- ---- tables

terms_keep : (fs : List Form) (us : List Term) (i : ℕ) → i < length us → slice_get (terms_from us fs) i ≡ slice_get us i
terms_keep [] us i h = refl
terms_keep (f ∷ fs) us i h =
    let e : length (us ++ term_of (listed_at us) f ∷ []) ≡ length us + 1 = length-append us (term_of (listed_at us) f ∷ []) in
    terms_keep fs (us ++ term_of (listed_at us) f ∷ []) i (omega arith) ∙ get_left us (term_of (listed_at us) f ∷ []) i h

terms_length : (fs : List Form) (us : List Term) → length (terms_from us fs) ≡ length us + length fs
terms_length [] us = let e : length us + 0 ≡ length us = omega arith in sym e
terms_length (f ∷ fs) us =
    let e : length (us ++ term_of (listed_at us) f ∷ []) ≡ length us + 1 = length-append us (term_of (listed_at us) f ∷ []) in
    let r : length (terms_from (us ++ term_of (listed_at us) f ∷ []) fs) ≡ length (us ++ term_of (listed_at us) f ∷ []) + length fs = terms_length fs (us ++ term_of (listed_at us) f ∷ []) in
    omega arith

terms_append : (fs gs : List Form) (us : List Term) → terms_from us (fs ++ gs) ≡ terms_from (terms_from us fs) gs
terms_append [] gs us = refl
terms_append (f ∷ fs) gs us = terms_append fs gs (us ++ term_of (listed_at us) f ∷ [])

pub as_many : (forms : List Form) → length (terms forms) ≡ length forms
unfolding terms
as_many forms = let e : length (terms_from [] forms) ≡ 0 + length forms = terms_length forms [] in omega arith

-- a term stays while the table grows
pub term_stays : (forms later : List Form) (id : TermId) → Grows forms later → Within forms id → term later id ≡ term forms id
unfolding terms
term_stays forms later id (more, e) h =
    let l : length (terms_from [] forms) ≡ 0 + length forms = terms_length forms [] in
    ap (λ (fs : List Form). or_bottom (slice_get (terms_from [] fs) id.index)) e
    ∙ (ap (λ (us : List Term). or_bottom (slice_get us id.index)) (terms_append forms more [])
    ∙ ap or_bottom (terms_keep more (terms_from [] forms) id.index (omega arith)))

-- the terms before a form, of which its own is made
record Before (us all : List Term) (n : ℕ) (f : Form) : Type 0 where
  made : List Term
  size : length made ≡ n
  same : (j : ℕ) → j < length made → slice_get all j ≡ slice_get made j
  own : slice_get all n ≡ Some (term_of (listed_at made) f)

before : (fs : List Form) (us : List Term) (i : ℕ) (f : Form) → slice_get fs i ≡ Some f → Before us (terms_from us fs) (length us + i) f
before [] us i f h = cc
before (x ∷ fs) us zero f h =
    let g : Some x ≡ Some f = h in
    let k : x ≡ f = cc in
    let e : length (us ++ term_of (listed_at us) x ∷ []) ≡ length us + 1 = length-append us (term_of (listed_at us) x ∷ []) in
    let z : length us ≡ length us + 0 = omega arith in
    record {
      made = us;
      size = z;
      same = λ j l. terms_keep fs (us ++ term_of (listed_at us) x ∷ []) j (omega arith) ∙ get_left us (term_of (listed_at us) x ∷ []) j l;
      own = ap (slice_get (terms_from (us ++ term_of (listed_at us) x ∷ []) fs)) (sym z)
          ∙ (terms_keep fs (us ++ term_of (listed_at us) x ∷ []) (length us) (omega arith)
          ∙ (get_last us (term_of (listed_at us) x) ∙ ap (λ (y : Form). Some (term_of (listed_at us) y)) k));
    }
before (x ∷ fs) us (suc i) f h =
    let e : length (us ++ term_of (listed_at us) x ∷ []) ≡ length us + 1 = length-append us (term_of (listed_at us) x ∷ []) in
    let b = before fs (us ++ term_of (listed_at us) x ∷ []) i f h in
    let n : length (us ++ term_of (listed_at us) x ∷ []) + i ≡ length us + suc i = omega arith in
    record {
      made = b.made;
      size = b.size ∙ n;
      same = b.same;
      own = ap (slice_get (terms_from us (x ∷ fs))) (sym n) ∙ b.own;
    }

pub each_map : {A : Type 0} (P Q : A → Type 0) → ((x : A) → P x → Q x) → (xs : List A) → Each P xs → Each Q xs
each_map P Q k [] h = tt
each_map P Q k (x ∷ xs) h = (k x h.0, each_map P Q k xs h.1)

-- the term of a number is that of its form
pub term_is : (forms : List Form) (id : TermId) (f : Form) → Founded forms → slice_get forms id.index ≡ Some f → term forms id ≡ term_of (term forms) f
unfolding terms
term_is forms id f founded h =
    let b = before forms [] id.index f h in
    let z : 0 + id.index ≡ id.index = omega arith in
    let own : slice_get (terms_from [] forms) id.index ≡ Some (term_of (listed_at b.made) f) = ap (slice_get (terms_from [] forms)) (sym z) ∙ b.own in
    let size : length b.made ≡ id.index = b.size ∙ z in
    let alike : Each (λ p. listed_at b.made p ≡ listed_at (terms_from [] forms) p) (parts f) =
    each_map (λ p. p.index < id.index) (λ p. listed_at b.made p ≡ listed_at (terms_from [] forms) p)
    (λ p l. sym (ap or_bottom (b.same p.index (omega arith)))) (parts f) (founded id.index f h) in
    ap or_bottom own ∙ forms_alike (listed_at b.made) (listed_at (terms_from [] forms)) f alike

-- ---- what grew, grew from all before

pub grows_on : (a b c : List Form) → Grows a b → Grows b c → Grows a c
grows_on a b c (m, e) (n, g) = (m ++ n, g ∙ (ap (λ (l : List Form). l ++ n) e ∙ append_assoc a m n))

pub grows_not : (a : List Form) → Grows a a
grows_not a = ([], sym (append-nil a)) where
  append-nil : (xs : List Form) → xs ++ [] ≡ xs
  append-nil [] = refl
  append-nil (x ∷ xs) = ap (λ l. x ∷ l) (append-nil xs)

pub within_on : (a b : List Form) (id : TermId) → Grows a b → Within a id → Within b id
within_on a b id (m, e) h =
    let l : length b ≡ length a + length m = ap length e ∙ length-append a m in
    omega arith

pub later_on : (a b c : List Form) → Grows a b → Later b c → Later a c
later_on a b c g l = record { grows = grows_on a b c g l.grows; founded = l.founded; distinct = l.distinct }

pub there_later : (a b : List Form) (id : TermId) (f : Form) → Grows a b → slice_get a id.index ≡ Some f → slice_get b id.index ≡ Some f
there_later a b id f (m, e) h = ap (λ (l : List Form). slice_get l id.index) e ∙ get_some a m id.index f h

-- the term of a form that stands in the table
pub term_later : (a later : List Form) (id : TermId) (f : Form) → Later a later → slice_get a id.index ≡ Some f → term later id ≡ term_of (term later) f
term_later a later id f l h = term_is later id f l.founded (there_later a later id f l.grows h)

-- ---- forms that are put into a table

pub interned_grows : (a b : List Form) (f : Form) (id : TermId) → Interns a f id b → Grows a b
interned_grows a b f id (inl (h, e)) = subst (λ (c : List Form). Grows a c) (sym e) (grows_not a)
interned_grows a b f id (inr (n, i, e)) = (f ∷ [], e)

pub interned_there : (a b : List Form) (f : Form) (id : TermId) → Interns a f id b → slice_get b id.index ≡ Some f
interned_there a b f id (inl (h, e)) = subst (λ (c : List Form). slice_get c id.index ≡ Some f) (sym e) h
interned_there a b f id (inr (n, i, e)) = ap (λ (c : List Form). slice_get c id.index) e ∙ (ap (slice_get (a ++ f ∷ [])) i ∙ get_last a f)

pub interned_is : (a b : List Form) (f : Form) (id : TermId) → Interns a f id b → Makes a (IsTermOf f id) id b
interned_is a b f id h =
    let there = interned_there a b f id h in
    record {
      grows = interned_grows a b f id h;
      within = in_range b id.index f there;
      is = λ later l. term_later b later id f l there;
    }

pub each_get : {A : Type 0} (P : A → Type 0) (xs : List A) (i : ℕ) (x : A) → Each P xs → slice_get xs i ≡ Some x → P x
each_get P [] i x h e = cc
each_get P (y ∷ xs) zero x h e = let g : Some y ≡ Some x = e in let k : y ≡ x = cc in subst P k h.0
each_get P (y ∷ xs) (suc i) x h e = each_get P xs i x h.1 e

pub each_within : (a b : List Form) (ids : List TermId) → Grows a b → Each (Within a) ids → Each (Within b) ids
each_within a b ids g h = each_map (Within a) (Within b) (λ id. within_on a b id g) ids h

pub below_within : (a : List Form) (id : TermId) (ids : List TermId) → Within a id → Each (λ p. p.index < id.index) ids → Each (Within a) ids
below_within a id ids w h = each_map (λ p. p.index < id.index) (Within a) (λ p l. omega arith) ids h
