-- Different numbers of a table have different terms.
use Rattle.std.proofs.Common.{◌≡◌, ◌⊎◌, inl, inr, ℕ, zero, suc, ◌+◌, ◌<◌, ◌≤◌, Bool, true, false, ◌&&◌, List, [], ◌∷◌, ◌++◌, length, map, Some, slice_get, cond, nat_eq, bytes_eq, refl, sym, ap, ◌∙◌, arith}
use Rattle.std.specs.Cmp.{unsigned_Decides}
use Rattle.std.proofs.lemmas.Slice.Eq.{bytes_eq-Decides}
use Rattle.mo_types.specs.declared.node.Field.{Field}
use Rattle.mo_types.specs.Layout.{kind_number, sort_number}
use Rattle.mo_types.specs.Sub.{Each}
use Rattle.mo_subtype.specs.Renamed.{on_field}
use Rattle.type_terms.specs.declared.form.Form.{Form}
use Rattle.type_terms.specs.declared.form.Form.TheVariants as form
use Rattle.type_terms.specs.declared.form.TermId.{TermId}
use Rattle.type_terms.specs.Layouts.{layout, parts}
use Rattle.type_terms.specs.Tables.{Founded, Distinct}
use Rattle.typing_rules.specs.Terms.{Term, Terms, Fields, unlisted, listed, listed_fields}
use Rattle.typing_rules.specs.Terms as t
use Rattle.typing_rules.specs.SameTerms.{same, each_same, fields_same, same_flag}
use Rattle.typing_rules.proofs.SameTerms.{same_is}
use Rattle.type_definitions.specs.Meanings.{term, term_of, parts_at, fields_at}
use Rattle.type_definitions.proofs.Meanings.{term_is}

number_itself : (n : ℕ) → nat_eq n n ≡ true
number_itself n = (unsigned_Decides n n).1 refl

both_are : (b c : Bool) → b ≡ true → c ≡ true → b && c ≡ true
both_are true c e f = f
both_are false c e f = cc

flag_itself : (b : Bool) → same_flag b b ≡ true
flag_itself true = refl
flag_itself false = refl

mutual
  same_itself : (a : Term) → same a a ≡ true
  same_itself (t.Number k) = number_itself (kind_number k)
  same_itself t.Boolean = refl
  same_itself t.Character = refl
  same_itself t.Text = refl
  same_itself t.Blob = refl
  same_itself t.Principal = refl
  same_itself t.Error = refl
  same_itself t.Null = refl
  same_itself t.Any = refl
  same_itself t.Bottom = refl
  same_itself (t.Optional a) = same_itself a
  same_itself (t.Array a) = same_itself a
  same_itself (t.MutableArray a) = same_itself a
  same_itself (t.Tuple us) = each_itself us
  same_itself (t.Object fs) = fields_itself fs
  same_itself (t.Actor fs) = fields_itself fs
  same_itself (t.Variant fs) = fields_itself fs
  same_itself (t.Function us r) = both_are (each_same us us) (same r r) (each_itself us) (same_itself r)
  same_itself (t.Shared o us r) =
      both_are (nat_eq (sort_number o) (sort_number o)) (each_same us us && same r r) (number_itself (sort_number o)) (both_are (each_same us us) (same r r) (each_itself us) (same_itself r))
  same_itself (t.Async a) = same_itself a
  same_itself (t.Parameter n) = number_itself n
  same_itself (t.Use n us) = both_are (nat_eq n n) (each_same us us) (number_itself n) (each_itself us)

  each_itself : (us : Terms) → each_same us us ≡ true
  each_itself t.Nil = refl
  each_itself (t.Cons u us) = both_are (same u u) (each_same us us) (same_itself u) (each_itself us)

  fields_itself : (fs : Fields) → fields_same fs fs ≡ true
  fields_itself t.NoFields = refl
  fields_itself (t.WithField l m u fs) =
      both_are (bytes_eq l l) (same_flag m m && (same u u && fields_same fs fs)) ((bytes_eq-Decides l l).1 refl)
      (both_are (same_flag m m) (same u u && fields_same fs fs) (flag_itself m) (both_are (same u u) (fields_same fs fs) (same_itself u) (fields_itself fs)))

-- ---- the number of a term

-- the least number below n whose term this is
abbrev least : (ℕ → Term) → ℕ → ℕ → Term → ℕ
least at zero from u = from
least at (suc n) from u = cond (same (at from) u) from (least at n (suc from) u)

ahead : (from i : ℕ) → from ≤ i → (from ≡ i) ⊎ (suc from ≤ i)
ahead from i l = by (nat_eq from i) refl where
  later : (from ≡ i → ⊥) → suc from ≤ i
  later k = omega arith

  by : (b : Bool) → nat_eq from i ≡ b → (from ≡ i) ⊎ (suc from ≤ i)
  by true f = inl ((unsigned_Decides from i).0 f)
  by false f = inr (later (λ g. let k : nat_eq from i ≡ true = (unsigned_Decides from i).1 g in let z : true ≡ false = sym k ∙ f in cc))

least_is : (at : ℕ → Term) (n from i : ℕ) → from ≤ i → i < from + n → ((j : ℕ) → from ≤ j → j < from + n → at j ≡ at i → j ≡ i) → least at n from (at i) ≡ i
least_is at zero from i l h e = absurd (omega arith)
least_is at (suc n) from i l h e =
    by (same (at from) (at i)) refl (ahead from i l) (λ k. least_is at n (suc from) i k (omega arith) (λ j x y. e j (omega arith) (omega arith)))
  where
    by : (b : Bool) → same (at from) (at i) ≡ b → (from ≡ i) ⊎ (suc from ≤ i) → (suc from ≤ i → least at n (suc from) (at i) ≡ i) → cond (same (at from) (at i)) from (least at n (suc from) (at i)) ≡ i
    by true g k ih = ap (λ b. cond b from (least at n (suc from) (at i))) g ∙ e from (let r : from ≤ from = omega arith in r) (omega arith) (same_is (at from) (at i) g)
    by false g (inl k) ih = let z : same (at from) (at i) ≡ true = ap (λ j. same (at j) (at i)) k ∙ same_itself (at i) in let y : true ≡ false = sym z ∙ g in cc
    by false g (inr k) ih = ap (λ b. cond b from (least at n (suc from) (at i))) g ∙ ih k

-- ---- the form of a term, where these are the numbers of its parts

module _ (f : Term → TermId) where
  abbrev back : Term → Form
  back (t.Number k) = form.Number k
  back t.Boolean = form.Boolean
  back t.Character = form.Character
  back t.Text = form.Text
  back t.Blob = form.Blob
  back t.Principal = form.Principal
  back t.Error = form.Error
  back t.Null = form.Null
  back t.Any = form.Any
  back t.Bottom = form.Bottom
  back (t.Optional a) = form.Optional (f a)
  back (t.Array a) = form.Array (f a)
  back (t.MutableArray a) = form.MutableArray (f a)
  back (t.Tuple us) = form.Tuple (map f (listed us))
  back (t.Object fs) = form.Object (map (on_field f) (listed_fields fs))
  back (t.Actor fs) = form.Actor (map (on_field f) (listed_fields fs))
  back (t.Variant fs) = form.Variant (map (on_field f) (listed_fields fs))
  back (t.Function us r) = form.Function (map f (listed us)) (f r)
  back (t.Shared s us r) = form.Shared s (map f (listed us)) (f r)
  back (t.Async a) = form.Async (f a)
  back (t.Parameter n) = form.Parameter n
  back (t.Use n us) = form.Use n (map f (listed us))

  module _ (at : TermId → Term) where
    abbrev Back : TermId → Type 0
    Back p = f (at p) ≡ p

    parts_back : (ids rest : List TermId) → Each Back (ids ++ rest) → map f (listed (unlisted (parts_at at ids))) ≡ ids
    parts_back [] rest h = refl
    parts_back (p ∷ ids) rest h = ap (λ q. q ∷ map f (listed (unlisted (parts_at at ids)))) h.0 ∙ ap (λ qs. p ∷ qs) (parts_back ids rest h.1)

    behind : (ids rest : List TermId) → Each Back (ids ++ rest) → Each Back rest
    behind [] rest h = h
    behind (p ∷ ids) rest h = behind ids rest h.1

    abbrev field_of : List ℕ → Bool → TermId → Field TermId
    field_of l m p = record { label = l; mutable = m; part = p }

    fields_back : (fs : List (Field TermId)) → Each Back (map (λ x. x.part) fs) → map (on_field f) (listed_fields (fields_at at fs)) ≡ fs
    fields_back [] h = refl
    fields_back (x ∷ fs) h = ap (λ q. field_of x.label x.mutable q ∷ map (on_field f) (listed_fields (fields_at at fs))) h.0 ∙ ap (λ qs. x ∷ qs) (fields_back fs h.1)

    back_is : (x : Form) → Each Back (parts x) → back (term_of at x) ≡ x
    unfolding layout
    back_is (form.Number k) h = refl
    back_is form.Boolean h = refl
    back_is form.Character h = refl
    back_is form.Text h = refl
    back_is form.Blob h = refl
    back_is form.Principal h = refl
    back_is form.Error h = refl
    back_is form.Null h = refl
    back_is form.Any h = refl
    back_is form.Bottom h = refl
    back_is (form.Optional a) h = ap form.Optional h.0
    back_is (form.Array a) h = ap form.Array h.0
    back_is (form.MutableArray a) h = ap form.MutableArray h.0
    back_is (form.Tuple ts) h = ap (λ xs. form.Tuple xs) (parts_back ts _ h)
    back_is (form.Object fs) h = ap (λ xs. form.Object xs) (fields_back fs h)
    back_is (form.Actor fs) h = ap (λ xs. form.Actor xs) (fields_back fs h)
    back_is (form.Variant fs) h = ap (λ xs. form.Variant xs) (fields_back fs h)
    back_is (form.Function ps r) h = ap (λ xs. form.Function xs (f (at r))) (parts_back ps _ h) ∙ ap (form.Function ps) (behind ps _ h).0
    back_is (form.Shared s ps r) h = ap (λ xs. form.Shared s xs (f (at r))) (parts_back ps _ h) ∙ ap (form.Shared s ps) (behind ps _ h).0
    back_is (form.Async a) h = ap form.Async h.0
    back_is (form.Parameter n) h = refl
    back_is (form.Use n ts) h = ap (λ xs. form.Use n xs) (parts_back ts _ h)

-- ---- the law

abbrev numbered : ℕ → TermId
numbered n = record { index = n }

module _ (forms : List Form) (founded : Founded forms) (distinct : Distinct forms) where
  abbrev at_number : ℕ → Term
  at_number n = term forms (numbered n)

  abbrev Apart : ℕ → Type 0
  Apart n = (i j : ℕ) (x y : Form) → i < n → j < n → slice_get forms i ≡ Some x → slice_get forms j ≡ Some y → at_number i ≡ at_number j → i ≡ j

  some_form : {A : Type 0} (xs : List A) (i : ℕ) → i < length xs → (x : A) × (slice_get xs i ≡ Some x)
  some_form [] i h = absurd (omega arith)
  some_form (x ∷ xs) zero h = (x, refl)
  some_form (x ∷ xs) (suc i) h = some_form xs i (omega arith)

  bounded : {A : Type 0} (xs : List A) (i : ℕ) (x : A) → slice_get xs i ≡ Some x → i < length xs
  bounded [] i x h = cc
  bounded (y ∷ xs) zero x h = omega arith
  bounded (y ∷ xs) (suc i) x h = let l : i < length xs = bounded xs i x h in omega arith

  each_to : (P Q : TermId → Type 0) (k : (p : TermId) → P p → Q p) (ids : List TermId) → Each P ids → Each Q ids
  each_to P Q k [] h = tt
  each_to P Q k (x ∷ ids) h = (k x h.0, each_to P Q k ids h.1)

  -- where terms below n are apart, and there are so many, a number below n is found by its term
  found : (n : ℕ) → n ≤ length forms → Apart n → (i : ℕ) → i < n → least at_number n 0 (at_number i) ≡ i
  found n l a i h = least_is at_number n 0 i (omega arith) (omega arith)
      (λ j x y e. a j i (some_form forms j (omega arith)).0 (some_form forms i (omega arith)).0 (omega arith) h (some_form forms j (omega arith)).1 (some_form forms i (omega arith)).1 e)

  form_back : (n : ℕ) → n ≤ length forms → Apart n → (i : ℕ) (x : Form) → i ≤ n → slice_get forms i ≡ Some x → back (λ u. numbered (least at_number n 0 u)) (at_number i) ≡ x
  form_back n l a i x h e =
      ap (back (λ u. numbered (least at_number n 0 u))) (term_is forms (numbered i) x founded e)
      ∙ back_is (λ u. numbered (least at_number n 0 u)) (term forms) x
      (each_to (λ p. p.index < i) (λ p. numbered (least at_number n 0 (term forms p)) ≡ p) (λ p b. ap numbered (found n l a p.index (omega arith))) (parts x) (founded i x e))

  apart : (n : ℕ) → n ≤ length forms → Apart n
  apart zero l i j x y a b e g h = absurd (omega arith)
  apart (suc n) l i j x y a b e g h =
      let ih : Apart n = apart n (omega arith) in
      let p : back (λ u. numbered (least at_number n 0 u)) (at_number i) ≡ x = form_back n (omega arith) ih i x (omega arith) e in
      let q : back (λ u. numbered (least at_number n 0 u)) (at_number j) ≡ y = form_back n (omega arith) ih j y (omega arith) g in
      let k : x ≡ y = sym p ∙ (ap (back (λ u. numbered (least at_number n 0 u))) h ∙ q) in
      distinct i j x e (g ∙ ap (λ (z : Form). Some z) (sym k))

  pub terms_apart : (a b : TermId) → a.index < length forms → b.index < length forms → term forms a ≡ term forms b → a.index ≡ b.index
  terms_apart a b v w e = apart (length forms) (let r : length forms ≤ length forms = omega arith in r) a.index b.index (some_form forms a.index v).0 (some_form forms b.index w).0 v w (some_form forms a.index v).1 (some_form forms b.index w).1 e
