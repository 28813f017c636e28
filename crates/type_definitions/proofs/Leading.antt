-- What a type leads to, by one step after another.
use Rattle.std.proofs.lemmas.List.{take_more}
use Rattle.std.proofs.Common.{◌≡◌, ℕ, zero, suc, ◌+◌, get_or, ◌-◌, ◌<◌, ◌≤◌, Bool, true, false, List, [], ◌∷◌, ◌++◌, length, map, take, drop, Option, Some, None, slice_get, cond, nat_eq, refl, sym, ap, ◌∙◌, subst, arith, length-append, append_assoc}
use Rattle.mo_types.specs.Heads.{map_option}
use Rattle.mo_types.specs.Sub.{Each}
use Rattle.type_terms.specs.declared.form.Form.{Form}
use Rattle.type_terms.specs.declared.form.Form.TheVariants as form
use Rattle.type_terms.specs.declared.form.TermId.{TermId}
use Rattle.type_terms.specs.Layouts.{layout}
use Rattle.type_terms.specs.Tables.{PartsBelow}
use Rattle.typing_rules.specs.Terms.{Term, Terms, put_in, argument_of, unlisted}
use Rattle.typing_rules.specs.Terms as t
use Rattle.typing_rules.specs.Definitions as rule
use Rattle.typing_rules.specs.Definitions.{definition_at, at_reached, found_of, parameters_of, followed, each_followed, followed_right, reaches, reached}
use Rattle.type_definitions.specs.declared.definitions.Definition.{Definition}
use Rattle.type_definitions.specs.declared.chains.Outcome.{Outcome}
use Rattle.type_definitions.specs.declared.chains.Outcome.TheVariants as outcome
use Rattle.type_definitions.specs.Meanings.{term, term_of}
use Rattle.type_definitions.specs.Tables.{Later}
use Rattle.type_definitions.specs.Places.{place_from, first_place}
use Rattle.type_definitions.specs.Putting as putting
use Rattle.type_definitions.specs.Putting.{or_other, placed}
use Rattle.type_definitions.specs.Definitions.{Listed, at_place, definition_of, as_rule, as_rules, types_at, types_in}
use Rattle.type_definitions.specs.Outcomes.{outcome_of, or_endless, outcome_at, argument_in, Agree, Follows, Leads, FollowEach, IsRound, AreOutcomes}
use Rattle.type_definitions.proofs.Meanings.{term_later, each_get}
use Rattle.type_definitions.proofs.Following.{use_of_none, use_of_parameter}

-- ---- places

module _ {A : Type 0} where
  -- what stands behind the first place of a number
  abbrev pub pick : List ℕ → List A → ℕ → Option A
  pick [] xs q = None
  pick (k ∷ ks) [] q = None
  pick (k ∷ ks) (x ∷ xs) q = cond (nat_eq k q) (Some x) (pick ks xs q)

  at_length : (pre : List A) (x : A) (xs : List A) → slice_get (pre ++ x ∷ xs) (length pre) ≡ Some x
  at_length [] x xs = refl
  at_length (y ∷ pre) x xs = at_length pre x xs

  past : (pre : List A) (n : ℕ) → length pre ≤ n → slice_get pre n ≡ None
  past [] n h = refl
  past (x ∷ pre) zero h = absurd (omega arith)
  past (x ∷ pre) (suc n) h = past pre n (omega arith)

  past_all : (pre : List A) (ks : List ℕ) (n q : ℕ) → length pre ≤ n → at_place pre (place_from n ks q) ≡ None
  past_all pre [] n q h = refl
  past_all pre (k ∷ ks) n q h = by (nat_eq k q) (past_all pre ks (suc n) q (omega arith)) where
    by : (c : Bool) → at_place pre (place_from (suc n) ks q) ≡ None → at_place pre (cond c (Some n) (place_from (suc n) ks q)) ≡ None
    by true e = past pre n h
    by false e = e

  pick_from : (pre xs : List A) (ks : List ℕ) (n q : ℕ) → n ≡ length pre → at_place (pre ++ xs) (place_from n ks q) ≡ pick ks xs q
  pick_from pre xs [] n q e = refl
  pick_from pre [] (k ∷ ks) n q e = past_all (pre ++ []) (k ∷ ks) n q (let l : length (pre ++ []) ≡ length pre + 0 = length-append pre [] in omega arith)
  pick_from pre (x ∷ xs) (k ∷ ks) n q e =
      let l : length (pre ++ x ∷ []) ≡ length pre + 1 = length-append pre (x ∷ []) in
      by (nat_eq k q)
      (ap (λ zs. at_place zs (place_from (suc n) ks q)) (sym (append_assoc pre (x ∷ []) xs)) ∙ pick_from (pre ++ x ∷ []) xs ks (suc n) q (omega arith))
    where
      by : (c : Bool) → at_place (pre ++ x ∷ xs) (place_from (suc n) ks q) ≡ pick ks xs q → at_place (pre ++ x ∷ xs) (cond c (Some n) (place_from (suc n) ks q)) ≡ cond c (Some x) (pick ks xs q)
      by true h = ap (slice_get (pre ++ x ∷ xs)) e ∙ at_length pre x xs
      by false h = h

  pub pick_is : (xs : List A) (ks : List ℕ) (q : ℕ) → at_place xs (first_place ks q) ≡ pick ks xs q
  pick_is xs ks q = pick_from [] xs ks 0 q refl

same_place : (ids : List TermId) (o : Option ℕ) → putting.at_place ids o ≡ at_place ids o
same_place ids None = refl
same_place ids (Some i) = refl

-- ---- arguments

module _ (at : TermId → Term) where
  pub argument_is : (ps : List ℕ) (ids : List TermId) (p : ℕ) → argument_of ps (unlisted (map at ids)) p ≡ or_other at (putting.argument_at ps ids p) false p
  argument_is ps ids p = picked ps ids ∙ ap (λ o. or_other at o false p) (sym (same_place ids (first_place ps p) ∙ pick_is ids ps p)) where
    picked : (ps : List ℕ) (ids : List TermId) → argument_of ps (unlisted (map at ids)) p ≡ or_other at (pick ps ids p) false p
    picked [] ids = refl
    picked (k ∷ ps) [] = refl
    picked (k ∷ ps) (id ∷ ids) = by (nat_eq k p) (picked ps ids) where
      by : (c : Bool) → argument_of ps (unlisted (map at ids)) p ≡ or_other at (pick ps ids p) false p
          → cond c (at id) (argument_of ps (unlisted (map at ids)) p) ≡ or_other at (cond c (Some id) (pick ps ids p)) false p
      by true e = refl
      by false e = e

  -- ---- definitions

  abbrev pub Seen : Type 0
  Seen = List ℕ × Term

  abbrev pub seen_rule : rule.Definition → Seen
  seen_rule d = (d.outer ++ d.own, d.right)

  abbrev pub seen_own : Definition → Seen
  seen_own x = (x.parameters, at x.right)

  take_drop : (n : ℕ) (xs : List ℕ) → take n xs ++ drop n xs ≡ xs
  take_drop zero xs = refl
  take_drop (suc n) [] = refl
  take_drop (suc n) (x ∷ xs) = ap (λ l. x ∷ l) (take_drop n xs)

  rules_picked : (ns : List ℕ) (xs : List Definition) (q : ℕ) → map_option seen_rule (definition_at (as_rules at ns xs) q) ≡ map_option seen_own (pick ns xs q)
  rules_picked [] xs q = refl
  rules_picked (n ∷ ns) [] q = refl
  rules_picked (n ∷ ns) (x ∷ xs) q = by (nat_eq n q) (rules_picked ns xs q) where
    by : (c : Bool) → map_option seen_rule (definition_at (as_rules at ns xs) q) ≡ map_option seen_own (pick ns xs q)
        → map_option seen_rule (cond c (Some (as_rule at n x)) (definition_at (as_rules at ns xs) q)) ≡ map_option seen_own (cond c (Some x) (pick ns xs q))
    by true e = ap (λ ps. Some (ps, at x.right)) (take_drop x.outer x.parameters)
    by false e = e

  pub rule_is : (l : Listed) (q : ℕ) → map_option seen_rule (definition_at (types_at at l) q) ≡ map_option seen_own (definition_of l q)
  rule_is l q = rules_picked l.names l.types q ∙ ap (map_option seen_own) (sym (pick_is l.types l.names q))

  -- the parameters of a definition
  abbrev pub own_parameters : Option Definition → List ℕ
  own_parameters None = []
  own_parameters (Some x) = x.parameters

  seen_parameters : Option Seen → List ℕ
  seen_parameters None = []
  seen_parameters (Some s) = s.0

  pub parameters_are : (l : Listed) (q : ℕ) → parameters_of (definition_at (types_at at l) q) ≡ own_parameters (definition_of l q)
  unfolding seen_parameters
  parameters_are l q = left (definition_at (types_at at l) q) ∙ (ap seen_parameters (rule_is l q) ∙ right (definition_of l q)) where
    left : (o : Option rule.Definition) → parameters_of o ≡ seen_parameters (map_option seen_rule o)
    left None = refl
    left (Some d) = refl

    right : (o : Option Definition) → seen_parameters (map_option seen_own o) ≡ own_parameters o
    right None = refl
    right (Some x) = refl

  -- the argument of a parameter of a definition
  pub argument_found : (o : Option Definition) (ids : List TermId) (p : ℕ) → argument_of (own_parameters o) (unlisted (map at ids)) p ≡ or_other at (argument_in o ids p) false p
  argument_found None ids p = refl
  argument_found (Some x) ids p = argument_is x.parameters ids p

-- ---- outcomes

pub endless_is : (o : Option Term) → outcome_of o ≡ outcome.Endless → o ≡ None
endless_is None h = refl
endless_is (Some (t.Parameter p)) h = cc
endless_is (Some (t.Number n)) h = cc
endless_is (Some u) h = cc

pub parameter_is : (o : Option Term) (p : ℕ) → outcome_of o ≡ outcome.Parameter p → o ≡ Some (t.Parameter p)
parameter_is None p h = cc
parameter_is (Some (t.Parameter q)) p h = let e : q ≡ p = cc in ap (λ z. Some (t.Parameter z)) e
parameter_is (Some (t.Number n)) p h = cc
parameter_is (Some u) p h = cc

pub form_put : (s : ℕ → Term) (f : ℕ → Option Term) (o : Option Term) → outcome_of o ≡ outcome.Form → outcome_of (at_reached s f o) ≡ outcome.Form
form_put s f None h = cc
form_put s f (Some (t.Parameter q)) h = cc
form_put s f (Some (t.Number n)) h = refl
form_put s f (Some u) h = refl

-- a type that is neither a use nor a parameter
pub form_itself : (types : List rule.Definition) (below : ℕ → Option Term) (at : TermId → Term) (f : Form) → ((n : ℕ) (ids : List TermId) → f ≡ form.Use n ids → ⊥) → ((n : ℕ) → f ≡ form.Parameter n → ⊥)
    → outcome_of (followed types below (term_of at f)) ≡ outcome.Form
form_itself types below at (form.Use n ids) u p = absurd (u n ids refl)
form_itself types below at (form.Parameter n) u p = absurd (p n refl)
form_itself types below at (form.Number k) u p = refl
form_itself types below at f u p = refl

module _ (forms : List Form) (l : Listed) (outcomes : List Outcome) (id : TermId) (f : Form) (there : slice_get forms id.index ≡ Some f) where
  abbrev goes : List Form → (ℕ → Option Term) → Option Term
  goes later below = followed (types_in later l) below (term later id)

  from_form : (later : List Form) (below : ℕ → Option Term) → Later forms later → goes later below ≡ followed (types_in later l) below (term_of (term later) f)
  from_form later below h = ap (followed (types_in later l) below) (term_later forms later id f h there)

  pub done_form : ((n : ℕ) (ids : List TermId) → f ≡ form.Use n ids → ⊥) → ((n : ℕ) → f ≡ form.Parameter n → ⊥) → Follows forms l outcomes id outcome.Form
  done_form u p later h below a = ap outcome_of (from_form later below h) ∙ form_itself (types_in later l) below (term later) f u p

  pub done_parameter : (n : ℕ) → f ≡ form.Parameter n → Follows forms l outcomes id (outcome.Parameter n)
  done_parameter n e later h below a = ap outcome_of (from_form later below h ∙ ap (λ (x : Form). followed (types_in later l) below (term_of (term later) x)) e)

  module _ (n : ℕ) (ids : List TermId) (e : f ≡ form.Use n ids) where
    from_use : (later : List Form) (below : ℕ → Option Term) → Later forms later → goes later below ≡ followed (types_in later l) below (t.Use n (unlisted (map (term later) ids)))
    from_use later below h = from_form later below h ∙ ap (λ (x : Form). followed (types_in later l) below (term_of (term later) x)) e

    pub done_endless : outcome_at l.names outcomes n ≡ outcome.Endless → Follows forms l outcomes id outcome.Endless
    done_endless o later h below a =
        ap outcome_of (from_use later below h ∙ use_of_none (types_in later l) below n (unlisted (map (term later) ids)) (endless_is (below n) (a n ∙ o)))

    pub done_use : outcome_at l.names outcomes n ≡ outcome.Form → Follows forms l outcomes id outcome.Form
    done_use o later h below a = ap outcome_of (from_use later below h)
        ∙ form_put (argument_of (parameters_of (definition_at (types_in later l) n)) (unlisted (map (term later) ids)))
        (found_of (parameters_of (definition_at (types_in later l) n)) (each_followed (types_in later l) below (unlisted (map (term later) ids)))) (below n) (a n ∙ o)

    module _ (p : ℕ) (o : outcome_at l.names outcomes n ≡ outcome.Parameter p) where
      to_argument : (later : List Form) (below : ℕ → Option Term) → Later forms later → Agree l outcomes below
          → goes later below ≡ followed (types_in later l) below (or_other (term later) (argument_in (definition_of l n) ids p) false p)
      to_argument later below h a =
          from_use later below h
          ∙ (use_of_parameter (types_in later l) below n p (unlisted (map (term later) ids)) (parameter_is (below n) p (a n ∙ o))
          ∙ ap (followed (types_in later l) below) (ap (λ ps. argument_of ps (unlisted (map (term later) ids)) p) (parameters_are (term later) l n) ∙ argument_found (term later) (definition_of l n) ids p))

      pub done_missing : argument_in (definition_of l n) ids p ≡ None → Follows forms l outcomes id outcome.Form
      done_missing m later h below a = ap outcome_of (to_argument later below h a ∙ ap (λ z. followed (types_in later l) below (or_other (term later) z false p)) m)

      argument_less : (d : Option Definition) (next : TermId) → Each (λ q. q.index < id.index) ids → argument_in d ids p ≡ Some next → next.index < id.index
      argument_less None next b m = cc
      argument_less (Some x) next b m = place (first_place x.parameters p) m where
        place : (i : Option ℕ) → putting.at_place ids i ≡ Some next → next.index < id.index
        place None k = cc
        place (Some i) k = each_get (λ q. q.index < id.index) ids i next b k

      pub leads_on : (next : TermId) → argument_in (definition_of l n) ids p ≡ Some next → PartsBelow id.index f → Leads forms l outcomes id next
      unfolding layout
      leads_on next m b = record {
        less = argument_less (definition_of l n) next (left ids (subst (λ (x : Form). PartsBelow id.index x) e b)) m;
        is = λ later h below a. to_argument later below h a ∙ ap (λ z. followed (types_in later l) below (or_other (term later) z false p)) m;
      }
        where
          left : (xs : List TermId) → Each (λ q. q.index < id.index) (xs ++ []) → Each (λ q. q.index < id.index) xs
          left [] h = tt
          left (x ∷ xs) h = (h.0, left xs h.1)

-- ---- rounds

module _ (forms : List Form) (l : Listed) (outcomes : List Outcome) where
  pub follow_more : (xs : List Definition) (os : List Outcome) (x : Definition) (o : Outcome) → FollowEach forms l outcomes xs os → Follows forms l outcomes x.right o → FollowEach forms l outcomes (xs ++ x ∷ []) (os ++ o ∷ [])
  follow_more [] [] x o h k = (k, tt)
  follow_more [] (p ∷ os) x o h k = absurd h
  follow_more (y ∷ xs) [] x o h k = absurd h
  follow_more (y ∷ xs) (p ∷ os) x o h k = (h.0, follow_more xs os x o h.1 k)

  follow_many : (xs : List Definition) (os : List Outcome) → FollowEach forms l outcomes xs os → length os ≡ length xs
  follow_many [] [] h = refl
  follow_many [] (p ∷ os) h = absurd h
  follow_many (y ∷ xs) [] h = absurd h
  follow_many (y ∷ xs) (p ∷ os) h = ap suc (follow_many xs os h.1)

  module _ (later : List Form) (below : ℕ → Option Term) (h : Later forms later) (a : Agree l outcomes below) where
    abbrev one_more : Option rule.Definition → Option Term
    one_more d = followed_right (types_in later l) below d

    picked_round : (ns : List ℕ) (xs : List Definition) (os : List Outcome) (q : ℕ) → FollowEach forms l outcomes xs os
        → outcome_of (one_more (definition_at (as_rules (term later) ns xs) q)) ≡ or_endless (pick ns os q)
    picked_round [] xs os q f = refl
    picked_round (n ∷ ns) [] [] q f = refl
    picked_round (n ∷ ns) [] (o ∷ os) q f = absurd f
    picked_round (n ∷ ns) (x ∷ xs) [] q f = absurd f
    picked_round (n ∷ ns) (x ∷ xs) (o ∷ os) q f = by (nat_eq n q) (f.0 later h below a) (picked_round ns xs os q f.1) where
      by : (c : Bool) → outcome_of (followed (types_in later l) below (term later x.right)) ≡ o
          → outcome_of (one_more (definition_at (as_rules (term later) ns xs) q)) ≡ or_endless (pick ns os q)
          → outcome_of (one_more (cond c (Some (as_rule (term later) n x)) (definition_at (as_rules (term later) ns xs) q))) ≡ or_endless (cond c (Some o) (pick ns os q))
      by true e g = e
      by false e g = g

  pub is_round : (os : List Outcome) → FollowEach forms l outcomes l.types os → IsRound forms l outcomes os
  is_round os f = record {
    many = follow_many l.types os f;
    is = λ later h below a at. picked_round later below h a l.names l.types os at f ∙ ap or_endless (sym (pick_is os l.names at));
  }

module _ (forms : List Form) (l : Listed) where
  -- the outcomes within so many definitions
  abbrev pub WithinRounds : ℕ → List Outcome → Type 0
  WithinRounds n os = (later : List Form) → Later forms later → Agree l os (reaches (types_in later l) n)

  none_there : (o : Option ℕ) → or_endless (at_place [] o) ≡ outcome.Endless
  none_there None = refl
  none_there (Some i) = refl

  pub no_rounds : WithinRounds 0 []
  no_rounds later h at = sym (none_there (first_place l.names at))

  pub one_round : (n : ℕ) (os ps : List Outcome) → WithinRounds n os → IsRound forms l os ps → WithinRounds (suc n) ps
  one_round n os ps w r later h at = r.is later h (reaches (types_in later l) n) (w later h) at

  settled : (n k : ℕ) (os : List Outcome) → WithinRounds n os → IsRound forms l os os → WithinRounds (k + n) os
  settled n zero os w r = let e : 0 + n ≡ n = omega arith in subst (λ m. WithinRounds m os) (sym e) w
  settled n (suc k) os w r = let e : suc (k + n) ≡ suc k + n = omega arith in subst (λ m. WithinRounds m os) e (one_round (k + n) os os (settled n k os w r) r)

  rules_many : (at : TermId → Term) (ns : List ℕ) (xs : List Definition) → length ns ≡ length xs → length (as_rules at ns xs) ≡ length xs
  rules_many at [] [] h = refl
  rules_many at [] (x ∷ xs) h = absurd (omega arith)
  rules_many at (n ∷ ns) [] h = absurd (omega arith)
  rules_many at (n ∷ ns) (x ∷ xs) h = ap suc (rules_many at ns xs (omega arith))

  pub all_rounds : (n : ℕ) (os : List Outcome) → length l.names ≡ length l.types → n ≡ length l.types → WithinRounds (suc n) os → AreOutcomes forms l os
  all_rounds n os m e w later h =
      subst (λ k. Agree l os (reaches (types_in later l) (suc k))) (e ∙ sym (rules_many (term later) l.names l.types m)) (w later h)

  pub settles : (n i : ℕ) (os : List Outcome) → length l.names ≡ length l.types → n ≡ length l.types → i < n → WithinRounds i os → IsRound forms l os os → AreOutcomes forms l os
  settles n i os m e b w r =
      let k : (suc n - i) + i ≡ suc n = omega arith in
      all_rounds n os m e (subst (λ j. WithinRounds j os) k (settled i (suc n - i) os w r))

-- the steps of the loop over definitions
module _ (forms : List Form) (l : Listed) (outcomes : List Outcome) where
  pub follow_next : (xs : List Definition) (i : ℕ) (x : Definition) (os ps : List Outcome) (o : Outcome) → i < length xs → x ≡ get_or xs i x → FollowEach forms l outcomes (take i xs) os → Follows forms l outcomes x.right o
      → ps ≡ os ++ o ∷ [] → FollowEach forms l outcomes (take (i + 1) xs) ps
  follow_next xs i x os ps o b e f g h =
      let t : take (i + 1) xs ≡ take i xs ++ x ∷ [] = take_more xs i x b ∙ ap (λ y. take i xs ++ y ∷ []) (sym e) in
      subst (λ ys. FollowEach forms l outcomes ys ps) (sym t)
      (subst (λ ys. FollowEach forms l outcomes (take i xs ++ x ∷ []) ys) (sym h) (follow_more forms l outcomes (take i xs) os x o f g))

  take_all : {A : Type 0} (xs : List A) (i : ℕ) → length xs ≤ i → take i xs ≡ xs
  take_all [] zero h = refl
  take_all [] (suc i) h = refl
  take_all (x ∷ xs) zero h = absurd (omega arith)
  take_all (x ∷ xs) (suc i) h = ap (λ ys. x ∷ ys) (take_all xs i (omega arith))

  pub follow_all : (xs : List Definition) (i : ℕ) (os : List Outcome) → xs ≡ l.types → length xs ≤ i → FollowEach forms l outcomes (take i xs) os → IsRound forms l outcomes os
  follow_all xs i os e b f = is_round forms l outcomes os (subst (λ ys. FollowEach forms l outcomes ys os) (take_all xs i b ∙ e) f)
