-- Parameters one after another.
use Rattle.std.proofs.Common.{◌≡◌, ◌+◌, ℕ, zero, suc, length-append, List, [], ◌∷◌, ◌++◌, Ok, Err, Option, refl, sym, ap, ◌∙◌, subst, map, option_map, length, append_assoc, append-nil}
use Rattle.std.proofs.lemmas.List.{map-append}
use Rattle.std.specs.Prelude.{IfSome, slice_get}
use Rattle.mo_types.specs.Sub.{Each}
use Rattle.type_terms.specs.declared.form.Form.{Form}
use Rattle.type_terms.specs.declared.form.TermId.{TermId}
use Rattle.typing_rules.specs.declared.condition.Condition.TheVariants as condition
use Rattle.typing_rules.specs.AbstractSyntax.{Pattern, Patterns}
use Rattle.typing_rules.specs.AbstractSyntax as p
use Rattle.typing_rules.specs.Contexts.{Scope}
use Rattle.typing_rules.specs.Definitions.{Definitions}
use Rattle.typing_rules.specs.Judgements.{Judgement, Gives, Case, Given, Part}
use Rattle.typing_rules.specs.Patterns.{Stands}
use Rattle.typing_rules.specs.Signatures.{Parameters, Taken, first, others}
use Rattle.typing_rules.specs.Terms.{Term}
use Rattle.typing_rules.specs.Types.{Reads}
use Rattle.typing_rules.specs.TypedTrees.{Note, annotation, pattern_place}
use Rattle.typing_rules.specs.TypeScopes.{TypeScope}
use Rattle.type_definitions.specs.Definitions.{Listed, rules_in}
use Rattle.type_definitions.specs.Meanings.{term}
use Rattle.met_types.specs.States.{State, Goes, IsReached}
use Rattle.definition_rules.proofs.Promoting.{same_itself}
use Rattle.shareable_types.specs.declared.sharing.Sharing.{Sharing}
use Rattle.abstract_types.specs.declared.patterns.Pattern as value
use Rattle.abstract_types.specs.PatternView.{listed}
use Rattle.type_judgements.specs.declared.refusal.Refusal.{Refusal}
use Rattle.type_judgements.specs.declared.refusal.Refusal.TheVariants as refusal
use Rattle.value_scopes.specs.declared.note.Note as value_note
use Rattle.value_scopes.specs.Values.{scope_in}
use Rattle.proper_types.specs.Passing.{Ready, Passed, Judges}
use Rattle.proper_types.specs.Rules.{as_term}
use Rattle.proper_types.proofs.Judging.{first_judges, given, then_judges}
use Rattle.proper_types.proofs.Readings.{reached_on}
use Rattle.proper_types.proofs.Turns.{part_assoc}
use Rattle.typed_patterns.specs.Binding.{Binds, Names, Pushes, bind, patterns_in, stands}
use Rattle.typed_patterns.specs.Making.{pattern_in}
use Rattle.typed_patterns.proofs.Joining.{Joins, binds_none, both_bind, first_pushes, made_of, not_made, pushes_as, then_pushes}
use Rattle.typed_patterns.proofs.Several.{both, both_listed}
use Rattle.signatures.specs.Rules.{kind_of}
use Rattle.signatures.specs.Taking.{names_and_rest, parameter, parameters}
use Rattle.typed_patterns.proofs.Standing.{behind_alike}
use Rattle.signatures.proofs.Gathering.{part_gives}

-- ---- one parameter

module _ (s : TypeScope) (q : Pattern ℕ) (w : Option TermId) where
  abbrev with_kind : Listed → List Form → Term → Judgement (Scope × (Term × Pattern Note))
  with_kind l later u = Part (Stands (rules_in later l) s q u) (λ b. Gives (b.0, (u, b.1)))

  pub unkind_refused : {M N : Type 0} (old new : State) (a c : Sharing) (before after : Names) (see : M → List Form → Term) (show : N → List Form → Term × Pattern Note) (e : Refusal) → Judges (kind_of s q w) old new a see (Err e)
      → Pushes (parameter s q w) old new c before after show (Err e)
  unkind_refused old new a c before after see show e h = first_pushes (kind_of s q w) with_kind old new a c before after see show e h

  module _ (id : TermId) (old mid new : State) (a c : Sharing) (before after : Names) (h : Passed (kind_of s q w old.listed) old mid a (as_term id)) where
    pub stands_not : {M N : Type 0} (see : M → List Form → Pattern Note) (show : N → List Form → Term × Pattern Note) (e : Refusal) → Pushes (stands s q id) mid new c before after see (Err e) → Pushes (parameter s q w) old new c before after show (Err e)
    stands_not see show e g = then_pushes (kind_of s q w) with_kind old mid new a c before after (as_term id) show (Err e) h
        (not_made (stands s q id) (λ later x. (term later id, x)) mid new c before after see show e g)

    pub stands_on : (x : List Form → Pattern Note) → Binds (stands s q id) mid new c before after x → Binds (parameter s q w) old new c before after (λ later. (term later id, x later))
    stands_on x g = then_pushes (kind_of s q w) with_kind old mid new a c before after (as_term id) (λ (u : Unit {0}) later. (term later id, x later)) (Ok tt) h
        (made_of (stands s q id) (λ later y. (term later id, y)) mid new c before after x (λ later. (term later id, x later)) (λ later. refl) g)

-- ---- several

-- what is wanted of those behind these
abbrev past : List (Pattern ℕ) → List Term → List Term
past [] us = us
past (x ∷ xs) us = past xs (others us)

none_past : (xs : List (Pattern ℕ)) → past xs [] ≡ []
none_past [] = refl
none_past (x ∷ xs) = none_past xs

first_past : (f : TermId → Term) (xs : List (Pattern ℕ)) (ids : List TermId) → first (past xs (map f ids)) ≡ option_map f (slice_get ids (length xs))
first_past f [] [] = refl
first_past f [] (id ∷ ids) = refl
first_past f (x ∷ xs) [] = ap first (none_past xs)
first_past f (x ∷ xs) (id ∷ ids) = first_past f xs ids

abbrev joined : Taken → Taken → Taken
joined k m = record { scope = m.scope ++ k.scope; types = k.types ++ m.types; patterns = both k.patterns m.patterns }

-- one more in front of these
abbrev with_one : Term → Scope × Pattern Note → Taken → Taken
with_one u b n = record { scope = n.scope ++ b.0; types = u ∷ n.types; patterns = p.Cons b.1 n.patterns }

module _ (defs : Definitions) (s : TypeScope) where
  abbrev kind : Pattern ℕ → Option Term → Judgement Term
  kind q w = Case (annotation q) (λ a. Reads defs s a) (λ u. Given condition.NeedsType (pattern_place q) w (λ u. Gives u))

  abbrev all_of : List (Pattern ℕ) → List Term → Judgement Taken
  all_of xs us = Parameters defs s (listed xs) us

  one_then : {A : Type 0} (k : Taken → Judgement A) (y : Pattern ℕ) (ys : List (Pattern ℕ)) (us : List Term)
      → Part (all_of (y ∷ ys) us) k ≡ Part (kind y (first us)) (λ u. Part (Stands defs s y u) (λ b. Part (all_of ys (others us)) (λ n. k (with_one u b n))))
  one_then k y ys us =
      part_assoc (kind y (first us)) (λ u. Part (Stands defs s y u) (λ b. Part (all_of ys (others us)) (λ n. Gives (with_one u b n)))) k
      ∙ behind_alike (kind y (first us)) (λ u. Part (Part (Stands defs s y u) (λ b. Part (all_of ys (others us)) (λ n. Gives (with_one u b n)))) k) (λ u. Part (Stands defs s y u) (λ b. Part (all_of ys (others us)) (λ n. k (with_one u b n))))
      (λ u.
      part_assoc (Stands defs s y u) (λ b. Part (all_of ys (others us)) (λ n. Gives (with_one u b n))) k
      ∙ behind_alike (Stands defs s y u) (λ b. Part (Part (all_of ys (others us)) (λ n. Gives (with_one u b n))) k) (λ b. Part (all_of ys (others us)) (λ n. k (with_one u b n)))
      (λ b. part_assoc (all_of ys (others us)) (λ n. Gives (with_one u b n)) k))

  -- those of ys behind these
  abbrev more_of : List (Pattern ℕ) → List Term → Taken → Judgement Taken
  more_of ys us k = Part (all_of ys us) (λ m. Gives (joined k m))

  in_two : (xs ys : List (Pattern ℕ)) (us : List Term) → Part (all_of xs us) (more_of ys (past xs us)) ≡ all_of (xs ++ ys) us
  in_two [] ys us =
      behind_alike (all_of ys us) (λ m. Gives (joined (record { scope = []; types = []; patterns = p.Nil }) m)) (λ m. Gives m)
      (λ m. ap (λ (n : Scope). Gives (record { scope = n; types = m.types; patterns = m.patterns })) (append-nil m.scope))
      ∙ part_gives (all_of ys us)
  in_two (x ∷ xs) ys us =
      one_then (more_of ys (past xs (others us))) x xs us
      ∙ behind_alike (kind x (first us)) (λ u. Part (Stands defs s x u) (λ b. Part (all_of xs (others us)) (λ n. more_of ys (past xs (others us)) (with_one u b n))))
      (λ u. Part (Stands defs s x u) (λ b. Part (all_of (xs ++ ys) (others us)) (λ n. Gives (with_one u b n))))
      (λ u.
      behind_alike (Stands defs s x u) (λ b. Part (all_of xs (others us)) (λ n. more_of ys (past xs (others us)) (with_one u b n))) (λ b. Part (all_of (xs ++ ys) (others us)) (λ n. Gives (with_one u b n)))
      (λ b.
      behind_alike (all_of xs (others us)) (λ n. more_of ys (past xs (others us)) (with_one u b n)) (λ n. Part (more_of ys (past xs (others us)) n) (λ m. Gives (with_one u b m)))
      (λ n.
      behind_alike (all_of ys (past xs (others us))) (λ m. Gives (joined (with_one u b n) m)) (λ m. Gives (with_one u b (joined n m)))
      (λ m. ap (λ (z : Scope). Gives (record { scope = z; types = u ∷ (n.types ++ m.types); patterns = p.Cons b.1 (both n.patterns m.patterns) })) (sym (append_assoc m.scope n.scope b.0)))
      ∙ sym (part_assoc (all_of ys (past xs (others us))) (λ m. Gives (joined n m)) (λ m. Gives (with_one u b m))))
      ∙ (sym (part_assoc (all_of xs (others us)) (more_of ys (past xs (others us))) (λ m. Gives (with_one u b m)))
      ∙ ap (λ (j : Judgement Taken). Part j (λ m. Gives (with_one u b m))) (in_two xs ys (others us)))))

  -- one and those of ys, behind these
  abbrev rest_of : List (Pattern ℕ) → List Term → Scope → List Term × Patterns Note → Scope × (Term × Pattern Note) → Judgement (Scope × (List Term × Patterns Note))
  rest_of ys us n b c = Part (all_of ys us) (λ m. Gives (m.scope ++ (c.0 ++ n), (b.0 ++ c.1.0 ∷ m.types, both b.1 (p.Cons c.1.1 m.patterns))))

  one_behind : (xs ys : List (Pattern ℕ)) (y : Pattern ℕ) (us : List Term) (w : Option Term) → first (past xs us) ≡ w
      → Part (Part (all_of xs us) (λ k. Gives (names_and_rest k))) (λ b. Part (Part (kind y w) (λ u. Part (Stands defs s y u) (λ d. Gives (d.0, (u, d.1))))) (rest_of ys (others (past xs us)) b.0 b.1))
      ≡ Part (all_of (xs ++ y ∷ ys) us) (λ k. Gives (names_and_rest k))
  one_behind xs ys y us w e =
      part_assoc (all_of xs us) (λ k. Gives (names_and_rest k)) (λ b. Part (Part (kind y w) (λ u. Part (Stands defs s y u) (λ d. Gives (d.0, (u, d.1))))) (rest_of ys (others (past xs us)) b.0 b.1))
      ∙ (behind_alike (all_of xs us) (λ k. Part (Part (kind y w) (λ u. Part (Stands defs s y u) (λ d. Gives (d.0, (u, d.1))))) (rest_of ys (others (past xs us)) k.scope (k.types, k.patterns)))
      (λ k. Part (more_of (y ∷ ys) (past xs us) k) (λ m. Gives (names_and_rest m)))
      (λ k.
      part_assoc (kind y w) (λ u. Part (Stands defs s y u) (λ d. Gives (d.0, (u, d.1)))) (rest_of ys (others (past xs us)) k.scope (k.types, k.patterns))
      ∙ (ap (λ (v : Option Term). Part (kind y v) (λ u. Part (Part (Stands defs s y u) (λ d. Gives (d.0, (u, d.1)))) (rest_of ys (others (past xs us)) k.scope (k.types, k.patterns)))) (sym e)
      ∙ (behind_alike (kind y (first (past xs us))) (λ u. Part (Part (Stands defs s y u) (λ d. Gives (d.0, (u, d.1)))) (rest_of ys (others (past xs us)) k.scope (k.types, k.patterns)))
      (λ u. Part (Stands defs s y u) (λ d. Part (all_of ys (others (past xs us))) (λ m. Gives (names_and_rest (joined k (with_one u d m))))))
      (λ u.
      part_assoc (Stands defs s y u) (λ d. Gives (d.0, (u, d.1))) (rest_of ys (others (past xs us)) k.scope (k.types, k.patterns))
      ∙ behind_alike (Stands defs s y u) (λ d. rest_of ys (others (past xs us)) k.scope (k.types, k.patterns) (d.0, (u, d.1))) (λ d. Part (all_of ys (others (past xs us))) (λ m. Gives (names_and_rest (joined k (with_one u d m)))))
      (λ d.
      behind_alike (all_of ys (others (past xs us))) (λ m. Gives (m.scope ++ (d.0 ++ k.scope), (k.types ++ u ∷ m.types, both k.patterns (p.Cons d.1 m.patterns)))) (λ m. Gives (names_and_rest (joined k (with_one u d m))))
      (λ m. ap (λ (z : Scope). Gives (z, (k.types ++ u ∷ m.types, both k.patterns (p.Cons d.1 m.patterns)))) (sym (append_assoc m.scope d.0 k.scope)))))
      ∙ (sym (one_then (λ m. Gives (names_and_rest (joined k m))) y ys (past xs us)) ∙ sym (part_assoc (all_of (y ∷ ys) (past xs us)) (λ m. Gives (joined k m)) (λ m. Gives (names_and_rest m)))))))
      ∙ (sym (part_assoc (all_of xs us) (more_of (y ∷ ys) (past xs us)) (λ m. Gives (names_and_rest m))) ∙ ap (λ (j : Judgement Taken). Part j (λ m. Gives (names_and_rest m))) (in_two xs (y ∷ ys) us)))

module _ (s : TypeScope) (us : List TermId) where
  pub none_taken : (st : State) (c : Sharing) (names : Names) → Ready st c → Binds (parameters s [] us) st st c names names (λ later. ([], p.Nil))
  none_taken st c names ready = binds_none (parameters s [] us) st st c names (λ later. ([], p.Nil)) (given (parameters s [] us st.listed) st st c (bind [] (λ later. ([], p.Nil))) (same_itself st ready.kept) ready (λ later l. refl))

  module _ (xs ys zs : List (Pattern ℕ)) (y : Pattern ℕ) (w : Option TermId) (e : zs ≡ xs ++ y ∷ ys) (f : w ≡ slice_get us (length xs)) where
    abbrev behind : Listed → List Form → Scope × (List Term × Patterns Note) → Judgement (Scope × (List Term × Patterns Note))
    behind l later b = Part (parameter s y w l later) (rest_of (rules_in later l) s ys (others (past xs (map (term later) us))) b.0 b.1)

    whole_is : (l : Listed) (later : List Form) → Part (parameters s xs us l later) (behind l later) ≡ parameters s zs us l later
    whole_is l later =
        one_behind (rules_in later l) s xs ys y (map (term later) us) (option_map (term later) w) (first_past (term later) xs us ∙ ap (option_map (term later)) (sym f))
        ∙ ap (λ (qs : List (Pattern ℕ)). parameters s qs us l later) (sym e)

    pub one_not_taken : {M N : Type 0} (old mid new : State) (a c : Sharing) (before between after : Names) (x : List Form → List Term × Patterns Note) (see : M → List Form → Term × Pattern Note) (show : N → List Form → List Term × Patterns Note) (r : Refusal)
        → Binds (parameters s xs us) old mid a before between x → Pushes (parameter s y w) mid new c between after see (Err r) → Pushes (parameters s zs us) old new c before after show (Err r)
    one_not_taken {M} {N} old mid new a c before between after x see show r g h = pushes_as (λ l later. Part (parameters s xs us l later) (behind l later)) (parameters s zs us) old new c before after show whole_is (Err r) (by r h) where
      by : (r : Refusal) → Pushes (parameter s y w) mid new c between after see (Err r) → Pushes (λ l later. Part (parameters s xs us l later) (behind l later)) old new c before after show (Err r)
      by (refusal.False place k) h =
          then_judges (parameters s xs us) behind old mid new a c (bind g.more x) (λ (u : N) later. bind [] (show u) later) (Err (refusal.False place k)) g.passed
          (first_judges (parameter s y w) (λ l later d. rest_of (rules_in later l) s ys (others (past xs (map (term later) us))) (scope_in later g.more) (x later) d) mid new c c (λ (u : M) later. bind [] (see u) later) (λ (u : N) later. bind [] (show u) later)
          (refusal.False place k) h)
      by refusal.Memory h = tt

  -- one more
  module _ (xs zs : List (Pattern ℕ)) (y : Pattern ℕ) (w : Option TermId) (e : zs ≡ xs ++ y ∷ []) (f : w ≡ slice_get us (length xs)) where
    abbrev with_last : List Term × Patterns Note → Term × Pattern Note → List Term × Patterns Note
    with_last b c = (b.0 ++ c.0 ∷ [], both b.1 (p.Cons c.1 p.Nil))

    last_is : (l : Listed) (later : List Form) → Joins (parameters s xs us) (parameter s y w) with_last l later ≡ parameters s zs us l later
    last_is l later = whole_is xs [] zs y w e f l later

    pub one_taken : (old mid new : State) (a c : Sharing) (before between after : Names) (ks ls : List TermId) (ps qs : List (value.Pattern value_note.Note)) (k : TermId) (q : value.Pattern value_note.Note) → ls ≡ ks ++ k ∷ [] → qs ≡ ps ++ q ∷ []
        → Binds (parameters s xs us) old mid a before between (λ later. (map (term later) ks, patterns_in ps later)) → Binds (parameter s y w) mid new c between after (λ later. (term later k, pattern_in q later))
        → Binds (parameters s zs us) old new c before after (λ later. (map (term later) ls, patterns_in qs later))
    one_taken old mid new a c before between after ks ls ps qs k q m n g h =
        pushes_as (Joins (parameters s xs us) (parameter s y w) with_last) (parameters s zs us) old new c before after (λ (u : Unit {0}) later. (map (term later) ls, patterns_in qs later)) last_is (Ok tt)
        (both_bind (parameters s xs us) (parameter s y w) with_last old mid new a c before between after (λ later. (map (term later) ks, patterns_in ps later)) (λ later. (term later k, pattern_in q later)) (λ later. (map (term later) ls, patterns_in qs later))
        (λ later.
        ap (λ (ts : List Term). (ts, both (patterns_in ps later) (p.Cons (pattern_in q later) p.Nil))) (sym (ap (map (term later)) m ∙ map-append (term later) ks (k ∷ [])))
        ∙ ap (λ (v : Patterns Note). (map (term later) ls, v))
        (both_listed (map (λ q. pattern_in q later) ps) (pattern_in q later ∷ [])
        ∙ ap listed (sym (ap (map (λ q. pattern_in q later)) n ∙ map-append (λ q. pattern_in q later) ps (q ∷ [])))))
        g h)

pub none_made : (s : TypeScope) (us : List TermId) (st : State) (c : Sharing) (names : Names) → Ready st c → (ks : List TermId) (ps : List (value.Pattern value_note.Note)) → ks ≡ [] → ps ≡ []
    → Binds (parameters s [] us) st st c names names (λ later. (map (term later) ks, patterns_in ps later))
none_made s us st c names ready ks ps e f =
    subst (λ (qs : List (value.Pattern value_note.Note)). Binds (parameters s [] us) st st c names names (λ later. (map (term later) ks, patterns_in qs later))) (sym f)
    (subst (λ (is : List TermId). Binds (parameters s [] us) st st c names names (λ later. (map (term later) is, p.Nil))) (sym e) (none_taken s us st c names ready))

pub one_longer : {A B : Type 0} (xs ys : List A) (us vs : List B) (x : A) (u : B) → ys ≡ xs ++ x ∷ [] → vs ≡ us ++ u ∷ [] → length xs ≡ length us → length ys ≡ length vs
one_longer xs ys us vs x u e f h = ap length e ∙ (length-append xs (x ∷ []) ∙ (ap (λ (n : ℕ). n + 1) h ∙ sym (ap length f ∙ length-append us (u ∷ []))))

-- the type that is wanted was met
pub wanted_reached : (old new : State) (ids : List TermId) (o : Option TermId) (i : ℕ) → o ≡ slice_get ids i → Goes old new → Each (IsReached old) ids → IfSome o (IsReached new)
wanted_reached old new ids o i e g h = subst (λ (w : Option TermId). IfSome w (IsReached new)) (sym e) (at ids i h) where
  at : (ids : List TermId) (i : ℕ) → Each (IsReached old) ids → IfSome (slice_get ids i) (IsReached new)
  at [] i h = tt
  at (id ∷ ids) zero h = reached_on old new id g h.0
  at (id ∷ ids) (suc i) h = at ids i h.1
