-- The uses of names within a type are those of the types within it.
use Rattle.std.proofs.Common.{◌≡◌, ◌⊎◌, inl, inr, ℕ, zero, suc, ◌<◌, List, [], ◌∷◌, ◌++◌, length, map, Some, slice_get, refl, sym, ap, ◌∙◌, subst, arith}
use Rattle.mo_types.specs.declared.node.Field.{Field}
use Rattle.mo_types.specs.Sub.{Each}
use Rattle.subtype_laws.specs.Reached.{Among}
use Rattle.subtype_laws.proofs.Reflexive.{among_left, among_right}
use Rattle.type_terms.specs.declared.form.Form.{Form}
use Rattle.type_terms.specs.declared.form.Form.TheVariants as form
use Rattle.type_terms.specs.declared.form.TermId.{TermId}
use Rattle.type_terms.specs.Layouts.{layout, parts}
use Rattle.type_terms.specs.Tables.{Founded}
use Rattle.typing_rules.specs.Terms.{Term, unlisted, listed}
use Rattle.typing_rules.specs.Groups.{uses_in, uses_in_each, uses_in_fields}
use Rattle.type_definitions.specs.Meanings.{term, term_of, parts_at, fields_at}
use Rattle.type_definitions.specs.Tables.{Later}
use Rattle.type_definitions.proofs.Meanings.{term_is, there_later}
use Rattle.definition_rules.specs.Uses.{Within, Itself, Part}

abbrev Use : Type 0
Use = ℕ × List Term

either : (u : Use) (xs ys : List Use) → Among u (xs ++ ys) → Among u xs ⊎ Among u ys
either u [] ys h = inr h
either u (x ∷ xs) ys (inl e) = inl (inl e)
either u (x ∷ xs) ys (inr h) = by (either u xs ys h) where
  by : Among u xs ⊎ Among u ys → Among u (x ∷ xs) ⊎ Among u ys
  by (inl k) = inl (inr k)
  by (inr k) = inr k

pub either_among : {A : Type 0} (a : A) (xs ys : List A) → Among a (xs ++ ys) → Among a xs ⊎ Among a ys
either_among a [] ys h = inr h
either_among a (x ∷ xs) ys (inl e) = inl (inl e)
either_among a (x ∷ xs) ys (inr h) = by (either_among a xs ys h) where
  by : Among a xs ⊎ Among a ys → Among a (x ∷ xs) ⊎ Among a ys
  by (inl k) = inl (inr k)
  by (inr k) = inr k

module _ (at : TermId → Term) (u : (ℕ × List Term)) where
  -- a part that has the use
  abbrev In : List TermId → Type 0
  In ids = (p : TermId) × Among p ids × Among u (uses_in (at p))

  in_left : (xs ys : List TermId) → In xs → In (xs ++ ys)
  in_left xs ys (p, a, h) = (p, among_left p xs ys a, h)

  in_right : (xs ys : List TermId) → In ys → In (xs ++ ys)
  in_right xs ys (p, a, h) = (p, among_right p xs ys a, h)

  each_split : (ids : List TermId) → Among u (uses_in_each (unlisted (parts_at at ids))) → In ids
  each_split [] h = absurd h
  each_split (p ∷ ids) h = by (either u (uses_in (at p)) (uses_in_each (unlisted (parts_at at ids))) h) (each_split ids) where
    by : Among u (uses_in (at p)) ⊎ Among u (uses_in_each (unlisted (parts_at at ids))) → (Among u (uses_in_each (unlisted (parts_at at ids))) → In ids) → In (p ∷ ids)
    by (inl k) f = (p, inl refl, k)
    by (inr k) f = let (q, a, g) = f k in (q, inr a, g)

  each_join : (ids : List TermId) (p : TermId) → Among p ids → Among u (uses_in (at p)) → Among u (uses_in_each (unlisted (parts_at at ids)))
  each_join [] p a h = absurd a
  each_join (q ∷ ids) p (inl e) h = among_left u (uses_in (at q)) (uses_in_each (unlisted (parts_at at ids))) (subst (λ (x : TermId). Among u (uses_in (at x))) (sym e) h)
  each_join (q ∷ ids) p (inr a) h = among_right u (uses_in (at q)) (uses_in_each (unlisted (parts_at at ids))) (each_join ids p a h)

  fields_split : (fs : List (Field TermId)) → Among u (uses_in_fields (fields_at at fs)) → In (map (λ m. m.part) fs)
  fields_split [] h = absurd h
  fields_split (f ∷ fs) h = by (either u (uses_in (at f.part)) (uses_in_fields (fields_at at fs)) h) (fields_split fs) where
    by : Among u (uses_in (at f.part)) ⊎ Among u (uses_in_fields (fields_at at fs)) → (Among u (uses_in_fields (fields_at at fs)) → In (map (λ m. m.part) fs)) → In (f.part ∷ map (λ m. m.part) fs)
    by (inl k) g = (f.part, inl refl, k)
    by (inr k) g = let (q, a, r) = g k in (q, inr a, r)

  fields_join : (fs : List (Field TermId)) (p : TermId) → Among p (map (λ m. m.part) fs) → Among u (uses_in (at p)) → Among u (uses_in_fields (fields_at at fs))
  fields_join [] p a h = absurd a
  fields_join (f ∷ fs) p (inl e) h = among_left u (uses_in (at f.part)) (uses_in_fields (fields_at at fs)) (subst (λ (x : TermId). Among u (uses_in (at x))) (sym e) h)
  fields_join (f ∷ fs) p (inr a) h = among_right u (uses_in (at f.part)) (uses_in_fields (fields_at at fs)) (fields_join fs p a h)

  -- the form is the use itself
  abbrev pub IsOwn : Form → Type 0
  IsOwn f = (n : ℕ) × (ids : List TermId) × (f ≡ form.Use n ids) × ((n, map at ids) ≡ u)

  listed_back : (us : List Term) → listed (unlisted us) ≡ us
  listed_back [] = refl
  listed_back (v ∷ us) = ap (λ l. v ∷ l) (listed_back us)

  two : (ps : List TermId) (r : TermId) → Among u (uses_in_each (unlisted (parts_at at ps)) ++ uses_in (at r)) → In (ps ++ r ∷ [])
  two ps r h = by (either u (uses_in_each (unlisted (parts_at at ps))) (uses_in (at r)) h) where
    by : Among u (uses_in_each (unlisted (parts_at at ps))) ⊎ Among u (uses_in (at r)) → In (ps ++ r ∷ [])
    by (inl k) = in_left ps (r ∷ []) (each_split ps k)
    by (inr k) = in_right ps (r ∷ []) (r, inl refl, k)

  two_join : (ps : List TermId) (r p : TermId) → Among p (ps ++ r ∷ []) → Among u (uses_in (at p)) → Among u (uses_in_each (unlisted (parts_at at ps)) ++ uses_in (at r))
  two_join ps r p a h = by (either_among p ps (r ∷ []) a) where
    by : Among p ps ⊎ Among p (r ∷ []) → Among u (uses_in_each (unlisted (parts_at at ps)) ++ uses_in (at r))
    by (inl k) = among_left u (uses_in_each (unlisted (parts_at at ps))) (uses_in (at r)) (each_join ps p k h)
    by (inr (inl e)) = among_right u (uses_in_each (unlisted (parts_at at ps))) (uses_in (at r)) (subst (λ (x : TermId). Among u (uses_in (at x))) (sym e) h)
    by (inr (inr e)) = absurd e

  plain : (ids : List TermId) → In ids → In (ids ++ [])
  plain ids h = in_left ids [] h

  unplain : (ids : List TermId) (p : TermId) → Among p (ids ++ []) → Among p ids
  unplain ids p a = by (either_among p ids [] a) where
    by : Among p ids ⊎ Among p [] → Among p ids
    by (inl k) = k
    by (inr k) = absurd k

  -- a use in a type of this form is the form, or stands in a part
  pub split : (f : Form) → Among u (uses_in (term_of at f)) → IsOwn f ⊎ In (parts f)
  unfolding layout
  split (form.Number k) h = absurd h
  split form.Boolean h = absurd h
  split form.Character h = absurd h
  split form.Text h = absurd h
  split form.Blob h = absurd h
  split form.Principal h = absurd h
  split form.Error h = absurd h
  split form.Null h = absurd h
  split form.Any h = absurd h
  split form.Bottom h = absurd h
  split (form.Optional a) h = inr (a, inl refl, h)
  split (form.Array a) h = inr (a, inl refl, h)
  split (form.MutableArray a) h = inr (a, inl refl, h)
  split (form.Tuple ts) h = inr (plain ts (each_split ts h))
  split (form.Object fs) h = inr (fields_split fs h)
  split (form.Actor fs) h = inr (fields_split fs h)
  split (form.Variant fs) h = inr (fields_split fs h)
  split (form.Function ps r) h = inr (two ps r h)
  split (form.Shared s ps r) h = inr (two ps r h)
  split (form.Async a) h = inr (a, inl refl, h)
  split (form.Parameter n) h = absurd h
  split (form.Use n ts) (inl e) = inl (n, ts, refl, ap (λ l. (n, l)) (sym (listed_back (map at ts))) ∙ e)
  split (form.Use n ts) (inr h) = inr (plain ts (each_split ts h))

  pub join : (f : Form) (p : TermId) → Among p (parts f) → Among u (uses_in (at p)) → Among u (uses_in (term_of at f))
  unfolding layout
  join (form.Number k) p a h = absurd a
  join form.Boolean p a h = absurd a
  join form.Character p a h = absurd a
  join form.Text p a h = absurd a
  join form.Blob p a h = absurd a
  join form.Principal p a h = absurd a
  join form.Error p a h = absurd a
  join form.Null p a h = absurd a
  join form.Any p a h = absurd a
  join form.Bottom p a h = absurd a
  join (form.Optional b) p (inl e) h = subst (λ (x : TermId). Among u (uses_in (at x))) (sym e) h
  join (form.Optional b) p (inr e) h = absurd e
  join (form.Array b) p (inl e) h = subst (λ (x : TermId). Among u (uses_in (at x))) (sym e) h
  join (form.Array b) p (inr e) h = absurd e
  join (form.MutableArray b) p (inl e) h = subst (λ (x : TermId). Among u (uses_in (at x))) (sym e) h
  join (form.MutableArray b) p (inr e) h = absurd e
  join (form.Tuple ts) p a h = each_join ts p (unplain ts p a) h
  join (form.Object fs) p a h = fields_join fs p a h
  join (form.Actor fs) p a h = fields_join fs p a h
  join (form.Variant fs) p a h = fields_join fs p a h
  join (form.Function ps r) p a h = two_join ps r p a h
  join (form.Shared s ps r) p a h = two_join ps r p a h
  join (form.Async b) p (inl e) h = subst (λ (x : TermId). Among u (uses_in (at x))) (sym e) h
  join (form.Async b) p (inr e) h = absurd e
  join (form.Parameter n) p a h = absurd a
  join (form.Use n ts) p a h = inr (each_join ts p (unplain ts p a) h)

-- ---- in a table

pub each_less : (n : ℕ) (p : TermId) (ids : List TermId) → Each (λ q. q.index < n) ids → Among p ids → p.index < n
each_less n p [] h a = absurd a
each_less n p (q ∷ ids) h (inl e) = subst (λ (x : TermId). x.index < n) e h.0
each_less n p (q ∷ ids) h (inr a) = each_less n p ids h.1 a

module _ (forms later : List Form) (l : Later forms later) (founded : Founded forms) (u : (ℕ × List Term)) where
  -- the type stands in the table as the use
  pub record Stands (b : TermId) : Type 0 where
    pub name : ℕ
    pub ids : List TermId
    pub there : slice_get forms b.index ≡ Some (form.Use name ids)
    pub is : (name, map (term later) ids) ≡ u

  trans : (id p b : TermId) → Within forms id p → Within forms p b → Within forms id b
  trans id p b w Itself = w
  trans id p b w (Part a c f v e k) = Part b c f (trans id p c w v) e k

  term_there : (id : TermId) (f : Form) → slice_get forms id.index ≡ Some f → term later id ≡ term_of (term later) f
  term_there id f h = term_is later id f l.founded (there_later forms later id f l.grows h)

  abbrev Found : TermId → Type 0
  Found id = (b : TermId) × Within forms id b × Stands b

  get_there : (xs : List Form) (i : ℕ) → i < length xs → (x : Form) × (slice_get xs i ≡ Some x)
  get_there [] i h = absurd (omega arith)
  get_there (x ∷ xs) zero h = (x, refl)
  get_there (x ∷ xs) (suc i) h = get_there xs i (omega arith)

  find : (n : ℕ) (id : TermId) → id.index < n → id.index < length forms → Among u (uses_in (term later id)) → Found id
  find zero id b w h = absurd (omega arith)
  find (suc n) id b w h =
      let (f, e) = get_there forms id.index w in
      by f e (split (term later) u f (subst (λ (x : Term). Among u (uses_in x)) (term_there id f e) h)) (λ p less h2. find n p (omega arith) (omega arith) h2)
    where
      by : (f : Form) → slice_get forms id.index ≡ Some f → IsOwn (term later) u f ⊎ ((p : TermId) × Among p (parts f) × Among u (uses_in (term later p)))
          → ((p : TermId) → p.index < id.index → Among u (uses_in (term later p)) → Found p) → Found id
      by f e (inl (m, ids, k, g)) go = (id, Itself, record { name = m; ids = ids; there = e ∙ ap (λ (x : Form). Some x) k; is = g })
      by f e (inr (p, a, h2)) go =
          let (c, w2, s) = go p (each_less id.index p (parts f) (founded id.index f e) a) h2 in
          (c, trans id p c (Part p id f Itself e a) w2, s)

  -- each use in a type is one of the types within it
  pub found : (id : TermId) → id.index < length forms → Among u (uses_in (term later id)) → Found id
  found id w h = find (suc id.index) id (omega arith) w h

  up : (id b : TermId) → Within forms id b → Among u (uses_in (term later b)) → Among u (uses_in (term later id))
  up id b Itself h = h
  up id b (Part a c f w e k) h = up id c w (subst (λ (x : Term). Among u (uses_in x)) (sym (term_there c f e)) (join (term later) u f b k h))

  -- and each type within it that is a use is one in it
  pub used : (id b : TermId) → Within forms id b → Stands b → Among u (uses_in (term later id))
  used id b w s = up id b w (subst (λ (x : Term). Among u (uses_in x)) (sym (term_there b (form.Use s.name s.ids) s.there)) (inl (ap (λ l. (s.name, l)) (listed_back (term later) u (map (term later) s.ids)) ∙ s.is)))
