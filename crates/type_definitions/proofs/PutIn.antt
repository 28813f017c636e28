-- Arguments put into types of a table.
use Rattle.std.proofs.Common.{◌≡◌, ℕ, ◌+◌, ◌<◌, Bool, true, false, List, [], ◌∷◌, ◌++◌, length, map, take, Option, Some, None, slice_get, refl, sym, ap, ◌∙◌, subst, arith, length-append}
use Rattle.std.specs.Prelude.{Result, Ok, Err, IfOk}
use Rattle.mo_types.specs.Sub.{Each}
use Rattle.type_terms.specs.declared.form.Form.{Form}
use Rattle.type_terms.specs.declared.form.Form.TheVariants as form
use Rattle.type_terms.specs.declared.form.TermId.{TermId}
use Rattle.type_terms.specs.Layouts.{layout, parts}
use Rattle.type_terms.specs.Parted.{with_parts}
use Rattle.type_terms.specs.Tables.{PartsBelow, Interns}
use Rattle.typing_rules.specs.Terms.{put_in}
use Rattle.type_definitions.specs.Meanings.{term}
use Rattle.type_definitions.specs.Tables.{Within, Makes, MakesParts, IsTermOf}
use Rattle.type_definitions.specs.Places.{first_place}
use Rattle.type_definitions.specs.Putting.{at_place, argument_at, or_other, placed, IsPut, ArePut}
use Rattle.type_definitions.proofs.Meanings.{grows_not, grows_on, later_on, term_later, interned_is, each_get, each_within, below_within}
use Rattle.type_definitions.proofs.Rebuilt.{parts_with, rebuilt}

pub if_ok : {A E : Type 0} (r : Result A E) (P Q : A → Type 0) → IfOk r P → ((a : A) → P a → Q a) → IfOk r Q
if_ok (Ok a) P Q h k = k a h
if_ok (Err e) P Q h k = tt

pub bottom_below : (n : ℕ) → PartsBelow n form.Bottom
unfolding layout
bottom_below n = tt

-- a form with other parts is one of the table's
pub back_below : (a : List Form) (f g : Form) (qs : List TermId) → g ≡ with_parts f qs → length qs ≡ length (parts f) → Each (Within a) qs → PartsBelow (length a) g
back_below a f g qs e n w = subst (λ (h : Form). PartsBelow (length a) h) (sym e) (subst (λ ids. Each (λ p. p.index < length a) ids) (sym (parts_with f qs n)) w)

module _ (ps : List ℕ) (ids : List TermId) (stay : Bool) where
  place_within : (a : List Form) (o : Option ℕ) (id : TermId) → Each (Within a) ids → at_place ids o ≡ Some id → Within a id
  place_within a None id w h = cc
  place_within a (Some i) id w h = each_get (Within a) ids i id w h

  -- the argument of a parameter
  pub found : (a : List Form) (at : ℕ) (id r : TermId) → slice_get a id.index ≡ Some (form.Parameter at) → Each (Within a) ids → argument_at ps ids at ≡ Some r
      → Makes a (IsPut ps ids stay id r) r a
  found a at id r there w e = record {
    grows = grows_not a;
    within = place_within a (first_place ps at) r w e;
    is = λ later l. sym (ap (put_in (placed (term later) ps ids stay)) (term_later a later id (form.Parameter at) l there) ∙ ap (λ o. or_other (term later) o stay at) e);
  }

  -- one that has none
  pub stays : (a : List Form) (at : ℕ) (id : TermId) → Within a id → slice_get a id.index ≡ Some (form.Parameter at) → argument_at ps ids at ≡ None → stay ≡ true
      → Makes a (IsPut ps ids stay id id) id a
  stays a at id w there e s = record {
    grows = grows_not a;
    within = w;
    is = λ later l.
        let h = term_later a later id (form.Parameter at) l there in
        h ∙ sym (ap (put_in (placed (term later) ps ids stay)) h ∙ (ap (λ o. or_other (term later) o stay at) e ∙ ap (λ b. or_other (term later) None b at) s));
  }

  pub goes : (a b : List Form) (at : ℕ) (id r : TermId) → slice_get a id.index ≡ Some (form.Parameter at) → argument_at ps ids at ≡ None → stay ≡ false
      → Interns a form.Bottom r b → Makes a (IsPut ps ids stay id r) r b
  goes a b at id r there e s i =
      let m = interned_is a b form.Bottom r i in
      record {
        grows = m.grows;
        within = m.within;
        is = λ later l.
            let h = term_later a later id (form.Parameter at) (later_on a b later m.grows l) there in
            m.is later l ∙ sym (ap (put_in (placed (term later) ps ids stay)) h ∙ (ap (λ o. or_other (term later) o stay at) e ∙ ap (λ b. or_other (term later) None b at) s));
      }

  -- one after another
  pub no_parts : (a : List Form) → MakesParts a [] (ArePut ps ids stay [] []) [] a
  no_parts a = record { grows = grows_not a; many = refl; within = tt; is = λ later l. refl }

  map_append : {A B : Type 0} (f : A → B) (xs ys : List A) → map f (xs ++ ys) ≡ map f xs ++ map f ys
  map_append f [] ys = refl
  map_append f (x ∷ xs) ys = ap (λ l. f x ∷ l) (map_append f xs ys)

  each_append : {A : Type 0} (P : A → Type 0) (xs : List A) (x : A) → Each P xs → P x → Each P (xs ++ x ∷ [])
  each_append P [] x h k = (k, tt)
  each_append P (y ∷ xs) x h k = (h.0, each_append P xs x h.1 k)

  pub more_parts : (a b c : List Form) (xs qs : List TermId) (x q : TermId) → MakesParts a xs (ArePut ps ids stay xs qs) qs b → Makes b (IsPut ps ids stay x q) q c
      → MakesParts a (xs ++ x ∷ []) (ArePut ps ids stay (xs ++ x ∷ []) (qs ++ q ∷ [])) (qs ++ q ∷ []) c
  more_parts a b c xs qs x q m n =
      let k : length qs ≡ length xs = m.many in
      let i : length (qs ++ q ∷ []) ≡ length qs + 1 = length-append qs (q ∷ []) in
      let j : length (xs ++ x ∷ []) ≡ length xs + 1 = length-append xs (x ∷ []) in
      record {
        grows = grows_on a b c m.grows n.grows;
        many = omega arith;
        within = each_append (Within c) qs q (each_within b c qs n.grows m.within) n.within;
        is = λ later l.
            let s = placed (term later) ps ids stay in
            map_append (term later) qs (q ∷ [])
            ∙ (ap (λ us. us ++ term later q ∷ []) (m.is later (later_on b c later n.grows l))
            ∙ (ap (λ u. map (λ p. put_in s (term later p)) xs ++ u ∷ []) (n.is later l)
            ∙ sym (map_append (λ p. put_in s (term later p)) xs (x ∷ []))));
      }

  -- a form whose parts are put
  pub put_form : (a b c : List Form) (id r : TermId) (f : Form) (qs : List TermId) → slice_get a id.index ≡ Some f → ((n : ℕ) → f ≡ form.Parameter n → ⊥)
      → MakesParts a (parts f) (ArePut ps ids stay (parts f) qs) qs b → Makes b (IsTermOf (with_parts f qs) r) r c → Makes a (IsPut ps ids stay id r) r c
  put_form a b c id r f qs there n m k = record {
    grows = grows_on a b c m.grows k.grows;
    within = k.within;
    is = λ later l.
        k.is later l
        ∙ (rebuilt (term later) (placed (term later) ps ids stay) f qs n (m.is later (later_on b c later k.grows l))
        ∙ sym (ap (put_in (placed (term later) ps ids stay)) (term_later a later id f (later_on a c later (grows_on a b c m.grows k.grows) l) there)));
  }

-- the parts of a form of the table are in it
pub parts_within : (a : List Form) (id : TermId) (f g : Form) (qs : List TermId) → Within a id → PartsBelow id.index f → g ≡ f → qs ≡ parts g → Each (Within a) qs
parts_within a id f g qs w b e k =
    subst (λ ids. Each (Within a) ids) (sym (k ∙ ap parts e)) (below_within a id (parts f) w b)

module _ (ps : List ℕ) (ids : List TermId) (stay : Bool) where
  -- a form whose parts, as they were listed, are put
  pub put_listed : (a b c : List Form) (id r : TermId) (f g : Form) (xs qs ys : List TermId) → slice_get a id.index ≡ Some f → g ≡ f → ((n : ℕ) → g ≡ form.Parameter n → ⊥) → xs ≡ parts g → ys ≡ qs
      → MakesParts a xs (ArePut ps ids stay xs qs) qs b → Makes b (IsTermOf (with_parts g ys) r) r c → Makes a (IsPut ps ids stay id r) r c
  put_listed a b c id r f g xs qs ys there e n k z m h =
      put_form ps ids stay a b c id r g qs (there ∙ ap (λ (x : Form). Some x) (sym e)) n
      (subst (λ zs. MakesParts a zs (ArePut ps ids stay zs qs) qs b) k m)
      (subst (λ zs. Makes b (IsTermOf (with_parts g zs) r) r c) z h)

  pub more_listed : (a b c : List Form) (xs qs : List TermId) (x q : TermId) (i : ℕ) → take (i + 1) xs ≡ take i xs ++ x ∷ [] → (rs : List TermId) → rs ≡ qs ++ q ∷ []
      → MakesParts a (take i xs) (ArePut ps ids stay (take i xs) qs) qs b → Makes b (IsPut ps ids stay x q) q c
      → MakesParts a (take (i + 1) xs) (ArePut ps ids stay (take (i + 1) xs) rs) rs c
  more_listed a b c xs qs x q i e rs r m n =
      subst (λ zs. MakesParts a zs (ArePut ps ids stay zs rs) rs c) (sym e)
      (subst (λ us. MakesParts a (take i xs ++ x ∷ []) (ArePut ps ids stay (take i xs ++ x ∷ []) us) us c) (sym r) (more_parts ps ids stay a b c (take i xs) qs x q m n))
