-- A form whose parts are those of another with types put in is the other with types put in.
use Rattle.std.proofs.Common.{◌≡◌, ℕ, List, [], ◌∷◌, ◌++◌, length, map, take, drop, refl, ap, ◌∙◌, arith}
use Rattle.mo_types.specs.declared.node.Field.{Field}
use Rattle.type_terms.specs.declared.form.Form.{Form}
use Rattle.type_terms.specs.declared.form.Form.TheVariants as form
use Rattle.type_terms.specs.declared.form.TermId.{TermId}
use Rattle.type_terms.specs.Layouts.{layout, parts}
use Rattle.type_terms.specs.Parted.{first_or, fields_with, with_parts}
use Rattle.typing_rules.specs.Terms.{Term, Terms, Fields, put_in, each_put_in, fields_put_in, unlisted}
use Rattle.typing_rules.specs.Terms as t
use Rattle.type_definitions.specs.Meanings.{fields_at, term_of}

nil_right : {A : Type 0} (xs : List A) → xs ++ [] ≡ xs
nil_right [] = refl
nil_right (x ∷ xs) = ap (λ l. x ∷ l) (nil_right xs)

-- ---- what the parts are

fields_parts : (fs : List (Field TermId)) (qs : List TermId) → length qs ≡ length (map (λ f. f.part) fs) → map (λ f. f.part) (fields_with fs qs) ≡ qs
fields_parts [] [] h = refl
fields_parts [] (q ∷ qs) h = absurd (omega arith)
fields_parts (f ∷ fs) [] h = absurd (omega arith)
fields_parts (f ∷ fs) (q ∷ qs) h = ap (λ l. q ∷ l) (fields_parts fs qs (omega arith))

one_part : (a : TermId) (qs : List TermId) → length qs ≡ 1 → first_or a qs ∷ [] ≡ qs
one_part a [] h = absurd (omega arith)
one_part a (q ∷ []) h = refl
one_part a (q ∷ r ∷ qs) h = absurd (omega arith)

then_part : (ps : List TermId) (a : TermId) (qs : List TermId) → length qs ≡ length (ps ++ a ∷ []) → take (length ps) qs ++ first_or a (drop (length ps) qs) ∷ [] ≡ qs
then_part [] a qs h = one_part a qs h
then_part (p ∷ ps) a [] h = absurd (omega arith)
then_part (p ∷ ps) a (q ∷ qs) h = ap (λ l. q ∷ l) (then_part ps a qs (omega arith))

no_part : (qs : List TermId) → length qs ≡ 0 → [] ≡ qs
no_part [] h = refl
no_part (q ∷ qs) h = absurd (omega arith)

pub parts_with : (f : Form) (qs : List TermId) → length qs ≡ length (parts f) → parts (with_parts f qs) ≡ qs
unfolding layout
parts_with (form.Optional a) qs h = one_part a qs h
parts_with (form.Array a) qs h = one_part a qs h
parts_with (form.MutableArray a) qs h = one_part a qs h
parts_with (form.Tuple ts) qs h = nil_right qs
parts_with (form.Object fs) qs h = fields_parts fs qs h
parts_with (form.Actor fs) qs h = fields_parts fs qs h
parts_with (form.Variant fs) qs h = fields_parts fs qs h
parts_with (form.Function ps r) qs h = then_part ps r qs h
parts_with (form.Shared s ps r) qs h = then_part ps r qs h
parts_with (form.Async a) qs h = one_part a qs h
parts_with (form.Use n ts) qs h = nil_right qs
parts_with (form.Number k) qs h = no_part qs h
parts_with form.Boolean qs h = no_part qs h
parts_with form.Character qs h = no_part qs h
parts_with form.Text qs h = no_part qs h
parts_with form.Blob qs h = no_part qs h
parts_with form.Principal qs h = no_part qs h
parts_with form.Error qs h = no_part qs h
parts_with form.Null qs h = no_part qs h
parts_with form.Any qs h = no_part qs h
parts_with form.Bottom qs h = no_part qs h
parts_with (form.Parameter n) qs h = no_part qs h

-- ---- what it stands for

module _ (at : TermId → Term) (s : ℕ → Term) where
  abbrev put : TermId → Term
  put p = put_in s (at p)

  listed : (ps : List TermId) → unlisted (map put ps) ≡ each_put_in s (unlisted (map at ps))
  listed [] = refl
  listed (p ∷ ps) = ap (t.Cons (put p)) (listed ps)

  one : (a : TermId) (qs : List TermId) → map at qs ≡ put a ∷ [] → at (first_or a qs) ≡ put a
  one a [] h = cc
  one a (q ∷ qs) h = let e : at q ≡ put a = cc in e

  each : (ps qs : List TermId) → map at qs ≡ map put (ps ++ []) → unlisted (map at qs) ≡ each_put_in s (unlisted (map at ps))
  each ps qs h = ap unlisted (h ∙ ap (map put) (nil_right ps)) ∙ listed ps

  fields : (fs : List (Field TermId)) (qs : List TermId) → map at qs ≡ map put (map (λ f. f.part) fs) → fields_at at (fields_with fs qs) ≡ fields_put_in s (fields_at at fs)
  fields [] qs h = refl
  fields (f ∷ fs) [] h = cc
  fields (f ∷ fs) (q ∷ qs) h =
      let e : at q ≡ put f.part = cc in
      let g : map at qs ≡ map put (map (λ f. f.part) fs) = cc in
      ap (λ u. t.WithField f.label f.mutable u (fields_at at (fields_with fs qs))) e ∙ ap (t.WithField f.label f.mutable (put f.part)) (fields fs qs g)

  first_parts : (ps : List TermId) (a : TermId) (qs : List TermId) → map at qs ≡ map put (ps ++ a ∷ []) → unlisted (map at (take (length ps) qs)) ≡ each_put_in s (unlisted (map at ps))
  first_parts [] a qs h = refl
  first_parts (p ∷ ps) a [] h = cc
  first_parts (p ∷ ps) a (q ∷ qs) h =
      let e : at q ≡ put p = cc in
      let g : map at qs ≡ map put (ps ++ a ∷ []) = cc in
      ap (λ u. t.Cons u (unlisted (map at (take (length ps) qs)))) e ∙ ap (t.Cons (put p)) (first_parts ps a qs g)

  last_part : (ps : List TermId) (a : TermId) (qs : List TermId) → map at qs ≡ map put (ps ++ a ∷ []) → at (first_or a (drop (length ps) qs)) ≡ put a
  last_part [] a qs h = one a qs h
  last_part (p ∷ ps) a [] h = cc
  last_part (p ∷ ps) a (q ∷ qs) h = last_part ps a qs (let g : map at qs ≡ map put (ps ++ a ∷ []) = cc in g)

  pub rebuilt : (f : Form) (qs : List TermId) → ((n : ℕ) → f ≡ form.Parameter n → ⊥) → map at qs ≡ map put (parts f) → term_of at (with_parts f qs) ≡ put_in s (term_of at f)
  unfolding layout
  rebuilt (form.Optional a) qs n h = ap t.Optional (one a qs h)
  rebuilt (form.Array a) qs n h = ap t.Array (one a qs h)
  rebuilt (form.MutableArray a) qs n h = ap t.MutableArray (one a qs h)
  rebuilt (form.Tuple ts) qs n h = ap t.Tuple (each ts qs h)
  rebuilt (form.Object fs) qs n h = ap t.Object (fields fs qs h)
  rebuilt (form.Actor fs) qs n h = ap t.Actor (fields fs qs h)
  rebuilt (form.Variant fs) qs n h = ap t.Variant (fields fs qs h)
  rebuilt (form.Function ps r) qs n h = ap (λ us. t.Function us (at (first_or r (drop (length ps) qs)))) (first_parts ps r qs h) ∙ ap (t.Function (each_put_in s (unlisted (map at ps)))) (last_part ps r qs h)
  rebuilt (form.Shared o ps r) qs n h = ap (λ us. t.Shared o us (at (first_or r (drop (length ps) qs)))) (first_parts ps r qs h) ∙ ap (t.Shared o (each_put_in s (unlisted (map at ps)))) (last_part ps r qs h)
  rebuilt (form.Async a) qs n h = ap t.Async (one a qs h)
  rebuilt (form.Use m ts) qs n h = ap (t.Use m) (each ts qs h)
  rebuilt (form.Number k) qs n h = refl
  rebuilt form.Boolean qs n h = refl
  rebuilt form.Character qs n h = refl
  rebuilt form.Text qs n h = refl
  rebuilt form.Blob qs n h = refl
  rebuilt form.Principal qs n h = refl
  rebuilt form.Error qs n h = refl
  rebuilt form.Null qs n h = refl
  rebuilt form.Any qs n h = refl
  rebuilt form.Bottom qs n h = refl
  rebuilt (form.Parameter m) qs n h = absurd (n m refl)
