-- The tests of a pattern lead on as the pattern matches.
use Rattle.std.proofs.Common.{◌≡◌, ℕ, suc, ◌+◌, Bool, true, false, List, [], ◌∷◌, length, Option, Some, None, slice_get, refl, ap, ◌∙◌, subst, arith}
use Rattle.std.specs.Prelude.{is_some, cond}
use Rattle.std.specs.Str.{bytes_eq}
use Rattle.mo_types.specs.Sub.{AtSome}
use Rattle.mo_values.specs.Shapes.{Bytes, Leaf, Present, Tuple, Array, Object, Tag, Error, Cell, Future, Shape, Made, Function, NoShape, AShape}
use Rattle.mo_values.specs.Views.{leaf_of, tuple_of, field_of}
use Rattle.typed_tree.specs.Patterns.{Pat, Pats, Wildcard, Bind, Constant, Present?, Tagged, Parts, Fields, Either, NoPat, APat, Found, is_literal, all_of, first_of_both, where_true, where_there, present_of, tagged_of, matches, matches_all, matches_fields}
use Rattle.pattern_elab.specs.declared.decision.Place.{Place}
use Rattle.pattern_elab.specs.declared.decision.Place.TheVariants as place
use Rattle.pattern_elab.specs.declared.decision.Question.{Question}
use Rattle.pattern_elab.specs.declared.decision.Question.TheVariants as ask
use Rattle.pattern_elab.specs.declared.decision.Target.{Target}
use Rattle.pattern_elab.specs.declared.decision.Test.{Test}
use Rattle.pattern_elab.specs.declared.making.State.{State}
use Rattle.pattern_elab.specs.Deciding.{payload_of, part_of, answer, next, Lies, AtPart, Leads, Here, Asks}
use Rattle.pattern_elab.specs.Making.{Begun, with_place, asked, made_of, parts_made, fields_made}
use Rattle.pattern_elab.specs.Suiting.{Within, Suits, SuitAll, SuitFields}
use Rattle.pattern_elab.proofs.Growing.{in_last, Extends, on, test_extends, made_extends, parts_extend, fields_extend}

-- where a pattern leads on to
abbrev pub by_match : {V : Type 0} → Option V → Target → Target → Target
by_match None holds fails = fails
by_match (Some v) holds fails = holds

module _ {F : Type 0} (z : State) (v : Shape F) where
  abbrev At : ℕ → Shape F → Type 0
  At = Lies z.places v

  abbrev pub To : Target → Target → Type 0
  To = Leads z.places z.tests v

  pub further : (s t u : Target) → To s t → To t u → To s u
  further s t u (Here r) b = b
  further s t u (Asks i q w r e l a) b = Asks i q w u e l (further (next q (answer q.question w)) t u a b)

  -- ---- one test

  tested : (k : ℕ) (q : Question) (fails : Target) (b : Begun) → Extends (asked k q fails b).state z → (u : Shape F) → At k u
      → (end : Target) → To (next (record { place = k; question = q; holds = b.entry; fails = fails }) (answer q u)) end → To (asked k q fails b).entry end
  tested k q fails b x u l end a =
      let t : Test = record { place = k; question = q; holds = b.entry; fails = fails } in
      Asks (length b.state.tests) t u end (x.tests (length b.state.tests) t (in_last b.state.tests t)) l a

  literal : (t : Test) (b : Bool) → To (next t b) (by_match (where_true {F = F} b) t.holds t.fails)
  literal t true = Here t.holds
  literal t false = Here t.fails

  -- of a part that is there or not
  looked : (t : Test) (holds : Target) (f : Shape F → Found F) (o : Option (Shape F)) → ((w : Shape F) → o ≡ Some w → To t.holds (by_match (f w) holds t.fails))
      → To (next t (is_some o)) (by_match (where_there f o) holds t.fails)
  looked t holds f None g = Here t.fails
  looked t holds f (Some w) g = g w refl

  suited : (P : Shape F → Type 0) (o : Option (Shape F)) (w : Shape F) → o ≡ Some w → Within P o → P w
  suited P o w e s = subst (Within P) e s

  under_tag : (l : Bytes) (u w : Shape F) → tagged_of l u ≡ Some w → payload_of u ≡ Some w
  under_tag l (Made (Tag m) (AShape w NoShape)) r e = by (bytes_eq l m) e
    where
      by : (b : Bool) → cond b (Some w) None ≡ Some r → Some w ≡ Some r
      by true e = e
      by false e = cc
  under_tag l (Made (Tag m) NoShape) r e = cc
  under_tag l (Made (Tag m) (AShape w (AShape x xs))) r e = cc
  under_tag l (Made (Leaf p) vs) r e = cc
  under_tag l (Made Present vs) r e = cc
  under_tag l (Made Tuple vs) r e = cc
  under_tag l (Made Array vs) r e = cc
  under_tag l (Made (Object ls) vs) r e = cc
  under_tag l (Made (Error c m) vs) r e = cc
  under_tag l (Made (Cell at) vs) r e = cc
  under_tag l (Made (Future c) vs) r e = cc
  under_tag l (Function f) r e = cc

  -- ---- both of two, and one of two

  both : (entry middle holds fails : Target) (a b : Found F) → To entry (by_match b middle fails) → To middle (by_match a holds fails)
      → To entry (by_match (all_of a b) holds fails)
  both entry middle holds fails None None p q = p
  both entry middle holds fails None (Some ws) p q = further entry middle fails p q
  both entry middle holds fails (Some vs) None p q = p
  both entry middle holds fails (Some vs) (Some ws) p q = further entry middle holds p q

  one : (entry middle holds fails : Target) (a b : Found F) → To entry (by_match a holds middle) → To middle (by_match b holds fails)
      → To entry (by_match (first_of_both a b) holds fails)
  one entry middle holds fails None None p q = further entry middle fails p q
  one entry middle holds fails None (Some ws) p q = further entry middle holds p q
  one entry middle holds fails (Some vs) None p q = p
  one entry middle holds fails (Some vs) (Some ws) p q = p

  -- ---- parts that are there

  in_tuple : (ps : Pats) (holds fails entry : Target) (o : Option (List (Shape F))) → AtSome o (λ vs. SuitAll ps vs)
      → ((vs : List (Shape F)) → o ≡ Some vs → SuitAll ps vs → To entry (by_match (matches_all ps vs) holds fails)) → To entry (by_match (where_there (λ vs. matches_all ps vs) o) holds fails)
  in_tuple ps holds fails entry None h f = absurd h
  in_tuple ps holds fails entry (Some vs) h f = f vs refl h

  in_field : (p : Pat) (holds fails entry : Target) (o : Option (Shape F)) → AtSome o (λ w. Suits p w)
      → ((w : Shape F) → o ≡ Some w → Suits p w → To entry (by_match (matches p w) holds fails)) → To entry (by_match (where_there (λ w. matches p w) o) holds fails)
  in_field p holds fails entry None h f = absurd h
  in_field p holds fails entry (Some w) h f = f w refl h

  -- ---- patterns

  new_place : (p : Place) (s last : State) → Extends (with_place p s) last → Extends last z → slice_get z.places (length s.places) ≡ Some p
  new_place p s last x y = y.places (length s.places) p (x.places (length s.places) p (in_last s.places p))

  mutual
    pub right : (p : Pat) (k : ℕ) (holds fails : Target) (s : State) → Extends (made_of p k holds fails s).state z → (u : Shape F) → At k u → Suits p u
        → To (made_of p k holds fails s).entry (by_match (matches p u) holds fails)
    right Wildcard k holds fails s x u l h = Here holds
    right Bind k holds fails s x u l h = Here holds
    right (Constant c) k holds fails s x u l h =
        let b : Begun = record { entry = holds; state = s } in
        let t : Test = record { place = k; question = ask.Equals c; holds = holds; fails = fails } in
        tested k (ask.Equals c) fails b x u l (by_match (where_true {F = F} (is_literal c (leaf_of u))) holds fails) (literal t (is_literal c (leaf_of u)))
    right (Present? p) k holds fails s x u l h =
        let at : Place = place.Inside k in
        let b : Begun = made_of p (length s.places) holds fails (with_place at s) in
        let t : Test = record { place = k; question = ask.Present; holds = b.entry; fails = fails } in
        let y : Extends b.state z = on b.state (asked k ask.Present fails b).state z (test_extends k ask.Present fails b) x in
        let g : slice_get z.places (length s.places) ≡ Some at = new_place at s b.state (made_extends p (length s.places) holds fails (with_place at s)) y in
        tested k ask.Present fails b x u l (by_match (where_there (λ w. matches p w) (present_of u)) holds fails)
        (looked t holds (λ w. matches p w) (present_of u) (λ w e. right p (length s.places) holds fails (with_place at s) y w (AtPart (length s.places) k at u w g refl l e) (suited (λ w. Suits p w) (present_of u) w e h)))
    right (Tagged m p) k holds fails s x u l h =
        let at : Place = place.Payload k in
        let b : Begun = made_of p (length s.places) holds fails (with_place at s) in
        let t : Test = record { place = k; question = ask.Tag m; holds = b.entry; fails = fails } in
        let y : Extends b.state z = on b.state (asked k (ask.Tag m) fails b).state z (test_extends k (ask.Tag m) fails b) x in
        let g : slice_get z.places (length s.places) ≡ Some at = new_place at s b.state (made_extends p (length s.places) holds fails (with_place at s)) y in
        tested k (ask.Tag m) fails b x u l (by_match (where_there (λ w. matches p w) (tagged_of m u)) holds fails)
        (looked t holds (λ w. matches p w) (tagged_of m u) (λ w e. right p (length s.places) holds fails (with_place at s) y w (AtPart (length s.places) k at u w g refl l (under_tag m u w e)) (suited (λ w. Suits p w) (tagged_of m u) w e h)))
    right (Parts ps) k holds fails s x u l h =
        in_tuple ps holds fails (parts_made ps 0 k fails (record { entry = holds; state = s })).entry (tuple_of u) h
        (λ vs e g. parts_right ps 0 k fails (record { entry = holds; state = s }) x u l vs e vs (λ j w r. subst (λ i. slice_get vs i ≡ Some w) (omega arith) r) g)
    right (Fields ls ps) k holds fails s x u l h = fields_right ls ps k fails (record { entry = holds; state = s }) x u l h
    right (Either p q) k holds fails s x u l h =
        let b : Begun = made_of q k holds fails s in
        let n : Begun = made_of p k holds b.entry b.state in
        one n.entry b.entry holds fails (matches p u) (matches q u) (right p k holds b.entry b.state x u l h.0)
        (right q k holds fails s (on b.state n.state z (made_extends p k holds b.entry b.state) x) u l h.1)

    pub parts_right : (ps : Pats) (i k : ℕ) (fails : Target) (b : Begun) → Extends (parts_made ps i k fails b).state z → (u : Shape F) → At k u
        → (all : List (Shape F)) → tuple_of u ≡ Some all → (vs : List (Shape F)) → ((j : ℕ) (w : Shape F) → slice_get vs j ≡ Some w → slice_get all (i + j) ≡ Some w) → SuitAll ps vs
        → To (parts_made ps i k fails b).entry (by_match (matches_all ps vs) b.entry fails)
    parts_right NoPat i k fails b x u l all e [] f h = Here b.entry
    parts_right NoPat i k fails b x u l all e (v ∷ vs) f h = absurd h
    parts_right (APat p ps) i k fails b x u l all e [] f h = absurd h
    parts_right (APat p ps) i k fails b x u l all e (w ∷ vs) f h =
        let at : Place = place.Part k i in
        let c : ℕ = length b.state.places in
        let n : Begun = made_of p c b.entry fails (with_place at b.state) in
        let y : Extends n.state z = on n.state (parts_made ps (suc i) k fails n).state z (parts_extend ps (suc i) k fails n) x in
        let g : slice_get z.places c ≡ Some at = new_place at b.state n.state (made_extends p c b.entry fails (with_place at b.state)) y in
        let there : part_of i (tuple_of u) ≡ Some w = ap (part_of i) e ∙ (subst (λ j. slice_get all j ≡ Some w) (omega arith) (f 0 w refl)) in
        both (parts_made ps (suc i) k fails n).entry n.entry b.entry fails (matches p w) (matches_all ps vs)
        (parts_right ps (suc i) k fails n x u l all e vs (λ j r q. subst (λ m. slice_get all m ≡ Some r) (omega arith) (f (suc j) r q)) h.1)
        (right p c b.entry fails (with_place at b.state) y w (AtPart c k at u w g refl l there) h.0)

    pub fields_right : (ls : List Bytes) (ps : Pats) (k : ℕ) (fails : Target) (b : Begun) → Extends (fields_made ls ps k fails b).state z → (u : Shape F) → At k u → SuitFields ls ps u
        → To (fields_made ls ps k fails b).entry (by_match (matches_fields ls ps u) b.entry fails)
    fields_right [] NoPat k fails b x u l h = Here b.entry
    fields_right [] (APat p ps) k fails b x u l h = absurd h
    fields_right (m ∷ ls) NoPat k fails b x u l h = absurd h
    fields_right (m ∷ ls) (APat p ps) k fails b x u l h =
        let at : Place = place.Field k m in
        let c : ℕ = length b.state.places in
        let n : Begun = made_of p c b.entry fails (with_place at b.state) in
        let y : Extends n.state z = on n.state (fields_made ls ps k fails n).state z (fields_extend ls ps k fails n) x in
        let g : slice_get z.places c ≡ Some at = new_place at b.state n.state (made_extends p c b.entry fails (with_place at b.state)) y in
        both (fields_made ls ps k fails n).entry n.entry b.entry fails (where_there (λ w. matches p w) (field_of m u)) (matches_fields ls ps u)
        (fields_right ls ps k fails n x u l h.1)
        (in_field p b.entry fails n.entry (field_of m u) h.0 (λ w e r. right p c b.entry fails (with_place at b.state) y w (AtPart c k at u w g refl l e) r))
