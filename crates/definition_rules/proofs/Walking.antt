-- The types within a type, walked one after another.
use Rattle.std.proofs.Common.{◌≡◌, ◌⊎◌, inl, inr, ℕ, zero, suc, ◌+◌, ◌<◌, ◌≤◌, List, [], ◌∷◌, ◌++◌, length, map, Option, Some, None, slice_get, refl, sym, ap, ◌∙◌, subst, arith, append_assoc}
use Rattle.mo_types.specs.Sub.{Each}
use Rattle.subtype_laws.specs.Reached.{Among}
use Rattle.subtype_laws.proofs.Reflexive.{among_left, among_right}
use Rattle.type_terms.specs.declared.form.Form.{Form}
use Rattle.type_terms.specs.declared.form.Form.TheVariants as form
use Rattle.type_terms.specs.declared.form.TermId.{TermId}
use Rattle.type_terms.specs.Layouts.{parts}
use Rattle.type_terms.specs.Tables.{Founded}
use Rattle.typing_rules.specs.Terms.{Term}
use Rattle.typing_rules.specs.Groups.{uses_in}
use Rattle.type_definitions.specs.Meanings.{term}
use Rattle.definition_rules.specs.Uses.{Within, Itself, Part, AreWithin, Adds, AddsParts, name_in, name_of, AddsUsed}
use Rattle.definition_rules.proofs.Using.{found, used, either_among, each_less}

module _ {A : Type 0} where
  pub get_left : (xs ys : List A) (i : ℕ) (x : A) → slice_get xs i ≡ Some x → slice_get (xs ++ ys) i ≡ Some x
  get_left [] ys i x h = cc
  get_left (y ∷ xs) ys zero x h = h
  get_left (y ∷ xs) ys (suc i) x h = get_left xs ys i x h

  pub among_get : (xs : List A) (x : A) → Among x xs → (i : ℕ) × (slice_get xs i ≡ Some x)
  among_get [] x h = absurd h
  among_get (y ∷ xs) x (inl e) = (zero, ap (λ (z : A). Some z) e)
  among_get (y ∷ xs) x (inr h) = let (i, e) = among_get xs x h in (suc i, e)

  pub get_among : (xs : List A) (i : ℕ) (x : A) → slice_get xs i ≡ Some x → Among x xs
  get_among [] i x h = cc
  get_among (y ∷ xs) zero x h = let e : y ≡ x = cc in inl e
  get_among (y ∷ xs) (suc i) x h = inr (get_among xs i x h)

  pub in_range : (xs : List A) (i : ℕ) (x : A) → slice_get xs i ≡ Some x → i < length xs
  in_range [] i x h = cc
  in_range (y ∷ xs) zero x h = omega arith
  in_range (y ∷ xs) (suc i) x h = let l : i < length xs = in_range xs i x h in omega arith

  pub past : (xs : List A) (i : ℕ) → slice_get xs i ≡ None → length xs ≤ i
  past [] i h = omega arith
  past (x ∷ xs) zero h = cc
  past (x ∷ xs) (suc i) h = let l : length xs ≤ i = past xs i h in omega arith

lt_or : (i j : ℕ) → (i < j) ⊎ (i ≡ j) ⊎ (j < i)
lt_or zero zero = inr (inl refl)
lt_or zero (suc j) = inl (omega arith)
lt_or (suc i) zero = inr (inr (omega arith))
lt_or (suc i) (suc j) = by (lt_or i j) where
  by : (i < j) ⊎ (i ≡ j) ⊎ (j < i) → (suc i < suc j) ⊎ (suc i ≡ suc j) ⊎ (suc j < suc i)
  by (inl h) = inl (omega arith)
  by (inr (inl h)) = inr (inl (ap suc h))
  by (inr (inr h)) = inr (inr (omega arith))

some_same : {A : Type 0} (x y : A) → Some x ≡ Some y → x ≡ y
some_same x y h = cc

-- those before this place have their parts there
pub record Walked (forms : List Form) (id : TermId) (place : ℕ) (keys : List TermId) : Type 0 where
  pub own : Among id keys
  pub sound : (a : TermId) → Among a keys → Within forms id a
  pub inside : (a : TermId) → Among a keys → a.index < length forms
  pub closed : (i : ℕ) (b : TermId) (f : Form) → i < place → slice_get keys i ≡ Some b → slice_get forms b.index ≡ Some f → (a : TermId) → Among a (parts f) → Among a keys

module _ (forms : List Form) (id : TermId) where
  pub starts : (keys : List TermId) → id.index < length forms → Adds [] (id ∷ []) keys → Walked forms id 0 keys
  starts keys w s = record {
    own = s.all id (inl refl);
    sound = λ a h. one a (Within forms id) Itself (s.from a (subst (Among a) s.grows h));
    inside = λ a h. one a (λ (b : TermId). b.index < length forms) w (s.from a (subst (Among a) s.grows h));
    closed = λ i b f l. absurd (omega arith);
  }
    where
      one : (a : TermId) (P : TermId → Type 0) → P id → Among a (id ∷ []) → P a
      one a P p (inl e) = subst P e p
      one a P p (inr e) = absurd e

  first_of : (more : List TermId) → Among id more → ((a : TermId) → Among a more → Among a (id ∷ [])) → slice_get more 0 ≡ Some id
  first_of [] h f = absurd h
  first_of (a ∷ more) h f = one (f a (inl refl)) where
    one : Among a (id ∷ []) → slice_get (a ∷ more) 0 ≡ Some id
    one (inl e) = ap (λ (z : TermId). Some z) (sym e)
    one (inr e) = absurd e

  pub first : (keys : List TermId) → Adds [] (id ∷ []) keys → slice_get keys 0 ≡ Some id
  first keys s = ap (λ (ks : List TermId). slice_get ks 0) s.grows ∙ first_of s.more (subst (Among id) s.grows (s.all id (inl refl))) s.from

  pub all_inside : (keys : List TermId) → ((a : TermId) → Among a keys → a.index < length forms) → Each (λ a. a.index < length forms) keys
  all_inside [] h = tt
  all_inside (a ∷ keys) h = (h a (inl refl), all_inside keys (λ b k. h b (inr k)))

  pub walks_on : (place : ℕ) (b : TermId) (old new : List TermId) → Founded forms → Walked forms id place old → slice_get old place ≡ Some b → AddsParts forms b old new → Walked forms id (place + 1) new
  walks_on place b old new founded w there adds = by (form_there b (w.inside b (get_among old place b there))) where
    form_there : (b : TermId) → b.index < length forms → (f : Form) × (slice_get forms b.index ≡ Some f)
    form_there b h = get_there forms b.index h where
      get_there : (xs : List Form) (i : ℕ) → i < length xs → (x : Form) × (slice_get xs i ≡ Some x)
      get_there [] i h = absurd (omega arith)
      get_there (x ∷ xs) zero h = (x, refl)
      get_there (x ∷ xs) (suc i) h = get_there xs i (omega arith)

    by : (f : Form) × (slice_get forms b.index ≡ Some f) → Walked forms id (place + 1) new
    by (f, e) = record {
      own = old_there id w.own;
      sound = λ a h. sound a (either_among a old s.more (subst (Among a) s.grows h));
      inside = λ a h. inside a (either_among a old s.more (subst (Among a) s.grows h));
      closed = λ i c g l k m. closed i c g k m (lt_or i place) l;
    }
      where
        s : Adds old (parts f) new
        s = adds f e

        old_there : (a : TermId) → Among a old → Among a new
        old_there a h = subst (Among a) (sym s.grows) (among_left a old s.more h)

        sound : (a : TermId) → Among a old ⊎ Among a s.more → Within forms id a
        sound a (inl h) = w.sound a h
        sound a (inr h) = Part a b f (w.sound b (get_among old place b there)) e (s.from a h)

        inside : (a : TermId) → Among a old ⊎ Among a s.more → a.index < length forms
        inside a (inl h) = w.inside a h
        inside a (inr h) =
            let l : b.index < length forms = w.inside b (get_among old place b there) in
            let k : a.index < b.index = each_less b.index a (parts f) (founded b.index f e) (s.from a h) in
            omega arith

        closed : (i : ℕ) (c : TermId) (g : Form) → slice_get new i ≡ Some c → slice_get forms c.index ≡ Some g → (i < place) ⊎ (i ≡ place) ⊎ (place < i) → i < place + 1 → (a : TermId) → Among a (parts g) → Among a new
        closed i c g k m (inl l) z a h = old_there a (w.closed i c g l (old_at i c l k) m a h) where
          old_at : (i : ℕ) (c : TermId) → i < place → slice_get new i ≡ Some c → slice_get old i ≡ Some c
          old_at i c l k =
              let r : place < length old = in_range old place b there in
              let d = there_at old i (omega arith) in
              d.1 ∙ ap (λ (x : TermId). Some x) (some_same d.0 c (sym (get_left old s.more i d.0 d.1) ∙ (ap (λ ks. slice_get ks i) (sym s.grows) ∙ k)))
            where
              there_at : (xs : List TermId) (i : ℕ) → i < length xs → (x : TermId) × (slice_get xs i ≡ Some x)
              there_at [] i h = absurd (omega arith)
              there_at (x ∷ xs) zero h = (x, refl)
              there_at (x ∷ xs) (suc i) h = there_at xs i (omega arith)
        closed i c g k m (inr (inl l)) z a h =
            let q : slice_get new i ≡ Some b = ap (slice_get new) l ∙ (ap (λ ks. slice_get ks place) s.grows ∙ get_left old s.more place b there) in
            let r : c ≡ b = some_same c b (sym k ∙ q) in
            let t : f ≡ g = some_same f g (sym e ∙ (ap (λ (x : TermId). slice_get forms x.index) (sym r) ∙ m)) in
            s.all a (subst (λ (x : Form). Among a (parts x)) (sym t) h)
        closed i c g k m (inr (inr l)) z a h = absurd (omega arith)

  pub walked : (place : ℕ) (keys : List TermId) → Walked forms id place keys → slice_get keys place ≡ None → AreWithin forms id keys
  walked place keys w e = record { sound = w.sound; all = all } where
    all : (a : TermId) → Within forms id a → Among a keys
    all a Itself = w.own
    all a (Part a2 b f v k h) =
        let q = among_get keys b (all b v) in
        let r : q.0 < length keys = in_range keys q.0 b q.1 in
        let l : length keys ≤ place = past keys place e in
        w.closed q.0 b f (omega arith) q.1 k a h

-- ---- names

-- these are the old ones, and those of the types
pub record Named (forms : List Form) (old : List ℕ) (ids : List TermId) (new : List ℕ) : Type 0 where
  pub more : List ℕ
  pub grows : new ≡ old ++ more
  pub from : (m : ℕ) → Among m more → (a : TermId) × Among a ids × Among m (name_of forms a)
  pub all : (a : TermId) → Among a ids → (m : ℕ) → Among m (name_of forms a) → Among m new

module _ (forms : List Form) (old : List ℕ) where
  append_nil : (xs : List ℕ) → xs ≡ xs ++ []
  append_nil [] = refl
  append_nil (x ∷ xs) = ap (λ l. x ∷ l) (append_nil xs)

  pub none_named : Named forms old [] old
  none_named = record { more = []; grows = append_nil old; from = λ m h. absurd h; all = λ a h. absurd h }

  pub one_named : (ids : List TermId) (mid new : List ℕ) (a : TermId) → Named forms old ids mid → Adds mid (name_of forms a) new → Named forms old (ids ++ a ∷ []) new
  one_named ids mid new a n s = record {
    more = n.more ++ s.more;
    grows = s.grows ∙ (ap (λ l. l ++ s.more) n.grows ∙ append_assoc old n.more s.more);
    from = λ m h. from m (either_among m n.more s.more h);
    all = λ b h m k. all b m k (either_among b ids (a ∷ []) h);
  }
    where
      from : (m : ℕ) → Among m n.more ⊎ Among m s.more → (b : TermId) × Among b (ids ++ a ∷ []) × Among m (name_of forms b)
      from m (inl h) = let (b, k, g) = n.from m h in (b, among_left b ids (a ∷ []) k, g)
      from m (inr h) = (a, among_right a ids (a ∷ []) (inl refl), s.from m h)

      all : (b : TermId) (m : ℕ) → Among m (name_of forms b) → Among b ids ⊎ Among b (a ∷ []) → Among m new
      all b m k (inl h) = subst (Among m) (sym s.grows) (among_left m mid s.more (n.all b h m k))
      all b m k (inr (inl e)) = s.all m (subst (λ (c : TermId). Among m (name_of forms c)) (sym e) k)
      all b m k (inr (inr e)) = absurd e

  -- a type of the table that is a use, by its name
  use_there : (o : Option Form) (m : ℕ) → Among m (name_in o) → (ids : List TermId) × (o ≡ Some (form.Use m ids))
  use_there None m h = absurd h
  use_there (Some (form.Use n ids)) m (inl e) = (ids, ap (λ k. Some (form.Use k ids)) e)
  use_there (Some (form.Use n ids)) m (inr e) = absurd e
  use_there (Some (form.Number k)) m h = absurd h
  use_there (Some f) m h = absurd h

  among_names : (us : List (ℕ × List Term)) (u : (ℕ × List Term)) → Among u us → Among u.0 (map (λ (x : ℕ × List Term). x.0) us)
  among_names [] u h = absurd h
  among_names (v ∷ us) u (inl e) = inl (ap (λ (x : ℕ × List Term). x.0) e)
  among_names (v ∷ us) u (inr h) = inr (among_names us u h)

  names_among : (us : List (ℕ × List Term)) (m : ℕ) → Among m (map (λ (x : ℕ × List Term). x.0) us) → (vs : List Term) × Among (m, vs) us
  names_among [] m h = absurd h
  names_among (v ∷ us) m (inl e) = (v.1, inl (ap (λ k. (k, v.1)) e))
  names_among (v ∷ us) m (inr h) = let (vs, k) = names_among us m h in (vs, inr k)

  pub used_named : (id : TermId) (ids : List TermId) (new : List ℕ) → id.index < length forms → Founded forms → AreWithin forms id ids → Named forms old ids new → AddsUsed forms id old new
  used_named id ids new w founded within n = record {
    more = n.more;
    grows = n.grows;
    from = λ later l m h.
        let (a, k, g) = n.from m h in
        let (us, e) = use_there (slice_get forms a.index) m g in
        among_names (uses_in (term later id)) (m, map (term later) us)
        (used forms later l founded (m, map (term later) us) id a (within.sound a k) (record { name = m; ids = us; there = e; is = refl }));
    all = λ later l m h.
        let (vs, k) = names_among (uses_in (term later id)) m h in
        let (b, v, s) = found forms later l founded (m, vs) id w k in
        let e : s.name ≡ m = ap (λ (x : ℕ × List Term). x.0) s.is in
        n.all b (within.all b v) m (subst (Among m) (sym (ap name_in s.there)) (inl e));
  }
