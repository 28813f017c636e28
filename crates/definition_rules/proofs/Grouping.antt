-- The names that definitions lead to.
use Rattle.std.proofs.Common.{◌≡◌, ◌⊎◌, inl, inr, ℕ, zero, suc, ◌+◌, ◌<◌, ◌≤◌, Bool, true, false, ◌||◌, List, [], ◌∷◌, ◌++◌, length, map, Some, None, slice_get, nat_eq, refl, sym, ap, ◌∙◌, subst, arith, append_assoc}
use Rattle.std.specs.Cmp.{unsigned_Decides}
use Rattle.std.specs.List.{list_any}
use Rattle.std.specs.Prelude.{Result, Ok, Err, OnOk}
use Rattle.subtype_laws.specs.Reached.{Among}
use Rattle.subtype_laws.proofs.Reflexive.{among_left}
use Rattle.type_terms.specs.declared.form.Form.{Form}
use Rattle.type_terms.specs.declared.form.TermId.{TermId}
use Rattle.typing_rules.specs.Terms.{Term}
use Rattle.typing_rules.specs.Definitions as rule
use Rattle.typing_rules.specs.Definitions.{definition_at}
use Rattle.typing_rules.specs.Groups.{uses_in, is_among, joined, uses_of, used_by, leads_to}
use Rattle.type_definitions.specs.declared.definitions.Definition.{Definition}
use Rattle.type_definitions.specs.Meanings.{term}
use Rattle.type_definitions.specs.Tables.{Later}
use Rattle.type_definitions.specs.Definitions.{Listed, definition_of, as_rules, types_in}
use Rattle.type_definitions.proofs.Unfolded.{some_rule, no_rule}
use Rattle.definition_rules.specs.Uses.{names_in, AddsUsed, UsesName, AddsUsesAt, AddsUsesOf, AddsFrom, LeadsTo}
use Rattle.definition_rules.proofs.Using.{either_among}
use Rattle.definition_rules.proofs.Walking.{get_left, among_get, get_among, in_range}

-- ---- membership as a truth value

pub is_there : (n : ℕ) (ns : List ℕ) → is_among n ns ≡ true → Among n ns
is_there n [] h = cc
is_there n (m ∷ ns) h = by (nat_eq n m) refl h (is_there n ns) where
  by : (b : Bool) → nat_eq n m ≡ b → (b || is_among n ns) ≡ true → (is_among n ns ≡ true → Among n ns) → Among n (m ∷ ns)
  by true e k f = inl (sym ((unsigned_Decides n m).0 e))
  by false e k f = inr (f k)

pub there_is : (n : ℕ) (ns : List ℕ) → Among n ns → is_among n ns ≡ true
there_is n [] h = absurd h
there_is n (m ∷ ns) (inl e) = ap (λ b. b || is_among n ns) ((unsigned_Decides n m).1 (sym e))
there_is n (m ∷ ns) (inr h) = or_true (nat_eq n m) (there_is n ns h) where
  or_true : (b : Bool) → is_among n ns ≡ true → (b || is_among n ns) ≡ true
  or_true true e = refl
  or_true false e = e

-- ---- names joined

abbrev firsts : List (ℕ × List Term) → List ℕ
firsts us = map (λ (x : ℕ × List Term). x.0) us

pub joined_from : (names : List ℕ) (us : List (ℕ × List Term)) (m : ℕ) → Among m (joined names us) → Among m names ⊎ Among m (firsts us)
joined_from names [] m h = inl h
joined_from names (u ∷ us) m h = by (is_among u.0 names) refl (λ ns k. joined_from ns us m k) where
  was : Among m names ⊎ Among m (firsts us) → Among m names ⊎ Among m (firsts (u ∷ us))
  was (inl k) = inl k
  was (inr k) = inr (inr k)

  added : Among m (u.0 ∷ names) ⊎ Among m (firsts us) → Among m names ⊎ Among m (firsts (u ∷ us))
  added (inl (inl e)) = inr (inl e)
  added (inl (inr k)) = inl k
  added (inr k) = inr (inr k)

  by : (b : Bool) → is_among u.0 names ≡ b → ((ns : List ℕ) → Among m (joined ns us) → Among m ns ⊎ Among m (firsts us)) → Among m names ⊎ Among m (firsts (u ∷ us))
  by true e f = was (f names (rw e at h))
  by false e f = added (f (u.0 ∷ names) (rw e at h))

pub joined_to : (names : List ℕ) (us : List (ℕ × List Term)) (m : ℕ) → Among m names ⊎ Among m (firsts us) → Among m (joined names us)
joined_to names [] m (inl h) = h
joined_to names [] m (inr h) = absurd h
joined_to names (u ∷ us) m h = by (is_among u.0 names) refl (λ ns k. joined_to ns us m k) where
  was : is_among u.0 names ≡ true → Among m names ⊎ Among m (firsts (u ∷ us)) → Among m names ⊎ Among m (firsts us)
  was e (inl k) = inl k
  was e (inr (inl k)) = inl (subst (λ n. Among n names) k (is_there u.0 names e))
  was e (inr (inr k)) = inr k

  added : Among m names ⊎ Among m (firsts (u ∷ us)) → Among m (u.0 ∷ names) ⊎ Among m (firsts us)
  added (inl k) = inl (inr k)
  added (inr (inl k)) = inl (inl k)
  added (inr (inr k)) = inr k

  by : (b : Bool) → is_among u.0 names ≡ b → ((ns : List ℕ) → Among m ns ⊎ Among m (firsts us) → Among m (joined ns us)) → Among m (joined names (u ∷ us))
  by true e f = rw e (f names (was e h))
  by false e f = rw e (f (u.0 ∷ names) (added h))

-- ---- what names lead to

module _ (types : List rule.Definition) where
  -- the definition of this name uses that name
  abbrev pub Uses : ℕ → ℕ → Type 0
  Uses n m = Among m (firsts (uses_of types (definition_at types n)))

  abbrev pub UsedBy : List ℕ → ℕ → Type 0
  UsedBy ns m = (n : ℕ) × Among n ns × Uses n m

  pub used_from : (names ns : List ℕ) (m : ℕ) → Among m (used_by types names ns) → Among m names ⊎ UsedBy ns m
  used_from names [] m h = inl h
  used_from names (n ∷ ns) m h = by (used_from (joined names (uses_of types (definition_at types n))) ns m h) where
    first : Among m names ⊎ Among m (firsts (uses_of types (definition_at types n))) → Among m names ⊎ UsedBy (n ∷ ns) m
    first (inl k) = inl k
    first (inr k) = inr (n, inl refl, k)

    by : Among m (joined names (uses_of types (definition_at types n))) ⊎ UsedBy ns m → Among m names ⊎ UsedBy (n ∷ ns) m
    by (inl k) = first (joined_from names (uses_of types (definition_at types n)) m k)
    by (inr (p, a, k)) = inr (p, inr a, k)

  pub used_to : (names ns : List ℕ) (m : ℕ) → Among m names ⊎ UsedBy ns m → Among m (used_by types names ns)
  used_to names [] m (inl h) = h
  used_to names [] m (inr (n, a, h)) = absurd a
  used_to names (n ∷ ns) m h = used_to (joined names (uses_of types (definition_at types n))) ns m (next h) where
    next : Among m names ⊎ UsedBy (n ∷ ns) m → Among m (joined names (uses_of types (definition_at types n))) ⊎ UsedBy ns m
    next (inl k) = inl (joined_to names (uses_of types (definition_at types n)) m (inl k))
    next (inr (p, inl e, k)) = inl (joined_to names (uses_of types (definition_at types n)) m (inr (subst (λ q. Uses q m) (sym e) k)))
    next (inr (p, inr a, k)) = inr (p, a, k)

  pub leads_last : (t : ℕ) (names : List ℕ) → leads_to types (suc t) names ≡ used_by types (leads_to types t names) (leads_to types t names)
  leads_last zero names = refl
  leads_last (suc t) names = leads_last t (used_by types names names)

-- ---- in a table

module _ (l : Listed) (forms : List Form) where
  -- the names of a definition that is there
  pub uses_added : (n : ℕ) (d : Definition) (old new : List ℕ) → definition_of l n ≡ Some d → AddsUsed forms d.right old new → AddsUsesOf l forms n old new
  uses_added n d old new there s = record {
    more = s.more;
    grows = s.grows;
    from = λ later h m k. subst (λ ns. Among m ns) (sym (same later)) (s.from later h m k);
    all = λ later h m k. s.all later h m (subst (λ ns. Among m ns) (same later) k);
  }
    where
      same : (later : List Form) → firsts (uses_of (types_in later l) (definition_at (types_in later l) n)) ≡ names_in (term later d.right)
      same later =
          let q = some_rule l later n d there in
          ap (λ o. firsts (uses_of (types_in later l) o)) q.1 ∙ ap (λ (u : Term). names_in u) q.3

  append_nil : (xs : List ℕ) → xs ≡ xs ++ []
  append_nil [] = refl
  append_nil (x ∷ xs) = ap (λ ys. x ∷ ys) (append_nil xs)

  pub no_uses_added : (n : ℕ) (old : List ℕ) → definition_of l n ≡ None → AddsUsesOf l forms n old old
  no_uses_added n old none = record {
    more = [];
    grows = append_nil old;
    from = λ later h m k. absurd k;
    all = λ later h m k. absurd (subst (λ ns. Among m ns) (ap (λ o. firsts (uses_of (types_in later l) o)) (no_rule l later n none)) k);
  }

  -- ---- a round

  pub none_from : (place : ℕ) (old : List ℕ) → AddsFrom l forms place place old old
  none_from place old = record {
    more = [];
    grows = append_nil old;
    from = λ later h m k. absurd k;
    all = λ later h i n m a b e k. absurd (omega (arith, a, b));
  }

  equal_or : (i j : ℕ) → i < j + 1 → (i < j) ⊎ (i ≡ j)
  equal_or zero zero h = inr refl
  equal_or zero (suc j) h = inl (omega arith)
  equal_or (suc i) zero h = absurd (omega arith)
  equal_or (suc i) (suc j) h = by (equal_or i j (omega arith)) where
    by : (i < j) ⊎ (i ≡ j) → (suc i < suc j) ⊎ (suc i ≡ suc j)
    by (inl k) = inl (omega arith)
    by (inr k) = inr (ap suc k)

  some_same : {A : Type 0} (x y : A) → Some x ≡ Some y → x ≡ y
  some_same x y h = cc

  pub one_from : (place until : ℕ) (old mid new : List ℕ) (n : ℕ) → AddsFrom l forms place until old mid → slice_get old until ≡ Some n → AddsUsesOf l forms n mid new → AddsFrom l forms place (until + 1) old new
  one_from place until old mid new n a there s = record {
    more = a.more ++ s.more;
    grows = s.grows ∙ (ap (λ ys. ys ++ s.more) a.grows ∙ append_assoc old a.more s.more);
    from = λ later h m k. from later h m (either_among m a.more s.more k);
    all = λ later h i p m b c e k. all later h i p m b e k (equal_or i until c);
  }
    where
      from : (later : List Form) → Later forms later → (m : ℕ) → Among m a.more ⊎ Among m s.more → (p : ℕ) × Among p old × UsesName l forms later p m
      from later h m (inl k) = a.from later h m k
      from later h m (inr k) = (n, get_among old until n there, s.from later h m k)

      all : (later : List Form) → Later forms later → (i p m : ℕ) → place ≤ i → slice_get old i ≡ Some p → UsesName l forms later p m → (i < until) ⊎ (i ≡ until) → Among m new
      all later h i p m b e k (inl c) = subst (Among m) (sym s.grows) (among_left m mid s.more (a.all later h i p m b c e k))
      all later h i p m b e k (inr c) =
          let q : p ≡ n = some_same p n (sym e ∙ (ap (slice_get old) c ∙ there)) in
          s.all later h m (subst (λ r. UsesName l forms later r m) q k)

  pub at_some : (i n : ℕ) (old new : List ℕ) → slice_get old i ≡ Some n → AddsUsesOf l forms n old new → AddsUsesAt l forms i old new
  at_some i n old new e s m f = subst (λ k. AddsUsesOf l forms k old new) (some_same n m (sym e ∙ f)) s

  pub at_none : (i : ℕ) (old new : List ℕ) → slice_get old i ≡ None → AddsUsesAt l forms i old new
  at_none i old new e m f = let g : None ≡ Some m = sym e ∙ f in cc

  there_at : (xs : List ℕ) (i : ℕ) → i < length xs → (x : ℕ) × (slice_get xs i ≡ Some x)
  there_at [] i h = absurd (omega arith)
  there_at (x ∷ xs) zero h = (x, refl)
  there_at (x ∷ xs) (suc i) h = there_at xs i (omega arith)

  pub one_at : (place i : ℕ) (old mid new : List ℕ) → i < length old → AddsFrom l forms place i old mid → AddsUsesAt l forms i mid new → AddsFrom l forms place (i + 1) old new
  one_at place i old mid new b a s =
      let (n, e) = there_at old i b in
      one_from place i old mid new n a e (s n (ap (λ ys. slice_get ys i) a.grows ∙ get_left old a.more i n e))

  -- the name at a place that was there stays
  pub stays_at : (place until i : ℕ) (old mid : List ℕ) (n : ℕ) → AddsFrom l forms place until old mid → i < length old → slice_get mid i ≡ Some n → slice_get old i ≡ Some n
  stays_at place until i old mid n a b e = by (get_there old i b) where
    get_there : (xs : List ℕ) (i : ℕ) → i < length xs → (x : ℕ) × (slice_get xs i ≡ Some x)
    get_there [] i h = absurd (omega arith)
    get_there (x ∷ xs) zero h = (x, refl)
    get_there (x ∷ xs) (suc i) h = get_there xs i (omega arith)

    by : (x : ℕ) × (slice_get old i ≡ Some x) → slice_get old i ≡ Some n
    by (x, g) = g ∙ ap (λ (z : ℕ). Some z) (some_same x n (sym (get_left old a.more i x g) ∙ (ap (λ ys. slice_get ys i) (sym a.grows) ∙ e)))

  -- ---- rounds

  -- The names are those that are led to within so many definitions, and those before the place have theirs among them.
  pub record Led (right : TermId) (t place : ℕ) (names : List ℕ) : Type 0 where
    pub from : (later : List Form) → Later forms later → (m : ℕ) → Among m names → Among m (leads_to (types_in later l) t (joined [] (uses_in (term later right))))
    pub to : (later : List Form) → Later forms later → (m : ℕ) → Among m (leads_to (types_in later l) t (joined [] (uses_in (term later right)))) → Among m names
    pub done : (later : List Form) → Later forms later → (i n m : ℕ) → i < place → slice_get names i ≡ Some n → UsesName l forms later n m → Among m names

  pub led_first : (right : TermId) (names : List ℕ) → AddsUsed forms right [] names → Led right 0 0 names
  led_first right names s = record {
    from = λ later h m k. joined_to [] (uses_in (term later right)) m (inr (s.from later h m (subst (Among m) s.grows k)));
    to = λ later h m k. back later h m (joined_from [] (uses_in (term later right)) m k);
    done = λ later h i n m b. absurd (omega (arith, b));
  }
    where
      back : (later : List Form) → Later forms later → (m : ℕ) → Among m [] ⊎ Among m (firsts (uses_in (term later right))) → Among m names
      back later h m (inl k) = absurd k
      back later h m (inr k) = s.all later h m k

  lt_or : (i j : ℕ) → (i < j) ⊎ (j ≤ i)
  lt_or zero zero = inr (omega arith)
  lt_or zero (suc j) = inl (omega arith)
  lt_or (suc i) zero = inr (omega arith)
  lt_or (suc i) (suc j) = by (lt_or i j) where
    by : (i < j) ⊎ (j ≤ i) → (suc i < suc j) ⊎ (suc j ≤ suc i)
    by (inl h) = inl (omega arith)
    by (inr h) = inr (omega arith)

  pub led_on : (right : TermId) (t place many : ℕ) (names new : List ℕ) → many ≡ length names → Led right t place names → AddsFrom l forms place (length names) names new → Led right (t + 1) many new
  led_on right t place many names new e w a = record {
    from = λ later h m k. subst (λ j. Among m (leads_to (types_in later l) j (start later))) one (rw (leads_last (types_in later l) t (start later)) (from later h m (either_among m names a.more (subst (Among m) a.grows k))));
    to = λ later h m k. to later h m (used_from (types_in later l) (led later) (led later) m (rw (leads_last (types_in later l) t (start later)) at (subst (λ j. Among m (leads_to (types_in later l) j (start later))) (sym one) k)));
    done = λ later h i n m b g k. used later h i n m (old_at i n (omega (arith, b, e)) g) k (lt_or i place);
  }
    where
      one : suc t ≡ t + 1
      one = omega arith

      start : List Form → List ℕ
      start later = joined [] (uses_in (term later right))

      led : List Form → List ℕ
      led later = leads_to (types_in later l) t (start later)

      old_at : (i n : ℕ) → i < length names → slice_get new i ≡ Some n → slice_get names i ≡ Some n
      old_at i n b g = stays_at place (length names) i names new n a b g

      used : (later : List Form) → Later forms later → (i n m : ℕ) → slice_get names i ≡ Some n → UsesName l forms later n m → (i < place) ⊎ (place ≤ i) → Among m new
      used later h i n m g k (inl b) = subst (Among m) (sym a.grows) (among_left m names a.more (w.done later h i n m b g k))
      used later h i n m g k (inr b) = a.all later h i n m b (in_range names i n g) g k

      from : (later : List Form) → Later forms later → (m : ℕ) → Among m names ⊎ Among m a.more → Among m (used_by (types_in later l) (led later) (led later))
      from later h m (inl k) = used_to (types_in later l) (led later) (led later) m (inl (w.from later h m k))
      from later h m (inr k) =
          let (n, b, g) = a.from later h m k in
          used_to (types_in later l) (led later) (led later) m (inr (n, w.from later h n b, g))

      to : (later : List Form) → Later forms later → (m : ℕ) → Among m (led later) ⊎ UsedBy (types_in later l) (led later) m → Among m new
      to later h m (inl k) = subst (Among m) (sym a.grows) (among_left m names a.more (w.to later h m k))
      to later h m (inr (n, b, g)) =
          let (i, f) = among_get names n (w.to later h n b) in
          used later h i n m f g (lt_or i place)

  -- ---- at the end

  any_is : (n : ℕ) (ns : List ℕ) → list_any (nat_eq n) ns ≡ is_among n ns
  any_is n [] = refl
  any_is n (m ∷ ns) = ap (λ b. nat_eq n m || b) (any_is n ns)

  by_both : (b c : Bool) → (b ≡ true → c ≡ true) → (c ≡ true → b ≡ true) → b ≡ c
  by_both true c f g = sym (f refl)
  by_both false true f g = g refl
  by_both false false f g = refl

  rules_many : (at : TermId → Term) (ns : List ℕ) (xs : List Definition) → length ns ≡ length xs → length (as_rules at ns xs) ≡ length xs
  rules_many at [] [] h = refl
  rules_many at [] (x ∷ xs) h = absurd (omega arith)
  rules_many at (n ∷ ns) [] h = absurd (omega arith)
  rules_many at (n ∷ ns) (x ∷ xs) h = ap suc (rules_many at ns xs (omega arith))

  pub led_to : (right : TermId) (t place : ℕ) (names : List ℕ) (name : ℕ) → length l.names ≡ length l.types → t ≡ length l.types → Led right t place names → (is : Bool) → is ≡ list_any (nat_eq name) names → LeadsTo l forms right name is
  led_to right t place names name many e w is k later h =
      k ∙ (any_is name names ∙ by_both (is_among name names) (is_among name (leads_to (types_in later l) (length (types_in later l)) (joined [] (uses_in (term later right)))))
      (λ g. there_is name (leads_to (types_in later l) (length (types_in later l)) (joined [] (uses_in (term later right)))) (subst (λ j. Among name (leads_to (types_in later l) j (joined [] (uses_in (term later right))))) as_long (w.from later h name (is_there name names g))))
      (λ g. there_is name names (w.to later h name (subst (λ j. Among name (leads_to (types_in later l) j (joined [] (uses_in (term later right))))) (sym as_long) (is_there name (leads_to (types_in later l) (length (types_in later l)) (joined [] (uses_in (term later right)))) g)))))
    where
      as_long : t ≡ length (types_in later l)
      as_long = e ∙ sym (rules_many (term later) l.names l.types many)

pub on_ok : {A E : Type 0} (r : Result A E) (P Q : Type 0) → OnOk r P → (P → Q) → OnOk r Q
on_ok (Ok a) P Q h k = k h
on_ok (Err e) P Q h k = tt
