-- Arguments in the place of parameters, and the bounds of these.
use Rattle.std.proofs.Common.{◌≡◌, ◌∙◌, ◌+◌, ℕ, Bool, true, false, List, [], ◌∷◌, ◌++◌, length, length-append, map, Ok, Err, Option, Some, None, refl, sym, ap}
use Rattle.std.proofs.lemmas.List.{map-append}
use Rattle.std.proofs.Math.Path.{fun_ext}
use Rattle.std.specs.Prelude.{Result, IfOk, OnOk, cond, nat_eq}
use Rattle.type_terms.specs.declared.form.Form.{Form}
use Rattle.type_terms.specs.declared.form.Form.TheVariants as form
use Rattle.type_terms.specs.declared.form.TermId.{TermId}
use Rattle.typing_rules.specs.Definitions.{bound_at}
use Rattle.typing_rules.specs.Terms.{Term, argument_or_itself, put_in, zipped}
use Rattle.typing_rules.specs.Terms as t
use Rattle.type_definitions.specs.Definitions.{Listed, as_bounds, at_place, bound_of}
use Rattle.type_definitions.specs.Meanings.{term}
use Rattle.type_definitions.specs.Places.{first_place}
use Rattle.type_definitions.specs.Putting as putting
use Rattle.type_definitions.specs.Putting.{IsPut, or_other, placed}
use Rattle.type_definitions.specs.Tables.{IsTermOf, Makes, Within}
use Rattle.type_definitions.proofs.Leading.{pick, pick_is}
use Rattle.type_definitions.proofs.Meanings.{each_within, later_on}
use Rattle.type_definitions.proofs.Shapes.{bound_there}
use Rattle.met_types.specs.States.{State, Goes, Kept, Stands}
use Rattle.proper_types.proofs.Judging.{goes_itself}
use Rattle.proper_types.proofs.Readings.{each_more}
use Rattle.judging.proofs.Chains.{goes_on_from}
use Rattle.instance_rules.specs.Instances.{AreBoundsWith, IsBound, IsBoundWith, IsWith, Puts, PutsEach, bound_with, with_these}

-- ---- bounds

unbounded : (at : TermId → Term) (ns : List ℕ) (bs : List TermId) (n : ℕ) → pick ns bs n ≡ None → bound_at (as_bounds at ns bs) n ≡ t.Any
unbounded at [] bs n e = refl
unbounded at (k ∷ ns) [] n e = refl
unbounded at (k ∷ ns) (c ∷ bs) n e = by (nat_eq k n) (unbounded at ns bs n) e where
  by : (q : Bool) → (pick ns bs n ≡ None → bound_at (as_bounds at ns bs) n ≡ t.Any) → cond q (Some c) (pick ns bs n) ≡ None → cond q (at c) (bound_at (as_bounds at ns bs) n) ≡ t.Any
  by true g h = cc
  by false g h = g h

module _ (s : State) (g : ℕ) (id : TermId) where
  pub written_bound : Kept s → bound_of s.listed g ≡ Some id → Puts s (IsBound s.listed g id) id s
  written_bound k e =
      let m = bound_there s.listed s.forms g id k.stand e in
      record { kept = k; goes = goes_itself s; stands = λ met h. h; within = m.within; is = m.is }

  any_is : (later : List Form) → bound_of s.listed g ≡ None → term later id ≡ t.Any → IsBound s.listed g id later
  any_is later e h = h ∙ sym (unbounded (term later) s.listed.bounded s.listed.bounds g (sym (pick_is s.listed.bounds s.listed.bounded g) ∙ e))

puts_from : {E : Type 0} (s n : State) (P Q : TermId → List Form → Type 0) (r : Result TermId E) → OnOk r (Kept n) → OnOk r (Goes s n) → OnOk r ((met : List Term) → Stands met s → Stands met n)
    → IfOk r (λ id. Makes s.forms (P id) id n.forms) → ((id : TermId) (later : List Form) → P id later → Q id later) → IfOk r (λ id. Puts s (Q id) id n)
puts_from s n P Q (Ok id) k g st m f = record { kept = k; goes = g; stands = st; within = m.within; is = λ later l. f id later (m.is later l) }
puts_from s n P Q (Err e) k g st m f = tt

pub any_bound : {E : Type 0} (s n : State) (g : ℕ) (r : Result TermId E) → bound_of s.listed g ≡ None → OnOk r (Kept n) → OnOk r (Goes s n) → OnOk r ((met : List Term) → Stands met s → Stands met n)
    → IfOk r (λ id. Makes s.forms (IsTermOf form.Any id) id n.forms) → IfOk r (λ id. Puts s (IsBound s.listed g id) id n)
any_bound s n g r e k h st m = puts_from s n (λ id. IsTermOf form.Any id) (λ id. IsBound s.listed g id) r k h st m (λ id later x. any_is s g id later e x)

-- ---- arguments in the place of parameters

same_place : (ids : List TermId) (o : Option ℕ) → putting.at_place ids o ≡ at_place ids o
same_place ids None = refl
same_place ids (Some i) = refl

module _ (at : TermId → Term) (p : ℕ) where
  picked : (ps : List ℕ) (ids : List TermId) → or_other at (pick ps ids p) true p ≡ argument_or_itself (zipped ps (map at ids)) p
  picked [] ids = refl
  picked (k ∷ ps) [] = refl
  picked (k ∷ ps) (id ∷ ids) = by (nat_eq k p) (picked ps ids) where
    by : (c : Bool) → or_other at (pick ps ids p) true p ≡ argument_or_itself (zipped ps (map at ids)) p
        → or_other at (cond c (Some id) (pick ps ids p)) true p ≡ cond c (at id) (argument_or_itself (zipped ps (map at ids)) p)
    by true e = refl
    by false e = e

  same_argument : (ps : List ℕ) (ids : List TermId) → placed at ps ids true p ≡ argument_or_itself (zipped ps (map at ids)) p
  same_argument ps ids = ap (λ (o : Option TermId). or_other at o true p) (same_place ids (first_place ps p) ∙ pick_is ids ps p) ∙ picked ps ids

module _ (ps : List ℕ) (us : List TermId) (stay : Bool) (is_so : stay ≡ true) where
  put_as : (later : List Form) (u : Term) → put_in (placed (term later) ps us stay) u ≡ with_these ps us later u
  put_as later u =
      ap (λ (b : Bool). put_in (placed (term later) ps us b) u) is_so
      ∙ ap (λ (f : ℕ → Term). put_in f u) (fun_ext (λ p. same_argument (term later) p ps us))

  pub with_put : {E : Type 0} (s n : State) (id : TermId) (r : Result TermId E) → OnOk r (Kept n) → OnOk r (Goes s n) → OnOk r ((met : List Term) → Stands met s → Stands met n)
      → IfOk r (λ made. Makes s.forms (IsPut ps us stay id made) made n.forms) → IfOk r (λ made. Puts s (IsWith ps us id made) made n)
  with_put s n id r k g st m = puts_from s n (λ made. IsPut ps us stay id made) (λ made. IsWith ps us id made) r k g st m (λ made later x. x ∙ put_as later (term later id))

module _ (ps : List ℕ) (us : List TermId) where
  pub bound_put : (s t n : State) (g : ℕ) (b made : TermId) → Puts s (IsBound s.listed g b) b t → Puts t (IsWith ps us b made) made n → Puts s (IsBoundWith ps us s.listed g made) made n
  bound_put s t n g b made x y = record {
    kept = y.kept;
    goes = goes_on_from s t n x.goes y.goes;
    stands = λ met h. y.stands met (x.stands met h);
    within = y.within;
    is = λ later l. y.is later l ∙ ap (with_these ps us later) (x.is later (later_on t.forms n.forms later y.goes.forms l));
  }

  -- ---- one bound after the other

  pub no_bounds : (s : State) → Kept s → PutsEach s (AreBoundsWith ps us s.listed [] []) [] [] s
  no_bounds s k = record { kept = k; goes = goes_itself s; stands = λ met h. h; many = refl; within = tt; is = λ later l. refl }

  one_longer : {A B : Type 0} (xs ys : List A) (zs ws : List B) (x : A) (z : B) → ys ≡ xs ++ x ∷ [] → ws ≡ zs ++ z ∷ [] → length zs ≡ length xs → length ws ≡ length ys
  one_longer xs ys zs ws x z e f g =
      ap length f ∙ (length-append zs (z ∷ []) ∙ (ap (λ (n : ℕ). n + 1) g ∙ (sym (length-append xs (x ∷ [])) ∙ sym (ap length e))))

  pub next_bound : (s m n : State) (xs ys : List ℕ) (ids more : List TermId) (g : ℕ) (id : TermId) → ys ≡ xs ++ g ∷ [] → more ≡ ids ++ id ∷ [] → PutsEach s (AreBoundsWith ps us s.listed xs ids) xs ids m
      → Puts m (IsBoundWith ps us m.listed g id) id n → PutsEach s (AreBoundsWith ps us s.listed ys more) ys more n
  next_bound s m n xs ys ids more g id e f x y = record {
    kept = y.kept;
    goes = goes_on_from s m n x.goes y.goes;
    stands = λ met h. y.stands met (x.stands met h);
    many = one_longer xs ys ids more g id e f x.many;
    within = each_more (Within n.forms) ids more id f (each_within m.forms n.forms ids y.goes.forms x.within) y.within;
    is = λ later l.
        let bound : ℕ → Term = bound_with ps us s.listed later in
        ap (map (term later)) f
        ∙ (map-append (term later) ids (id ∷ [])
        ∙ (ap (λ (ts : List Term). ts ++ term later id ∷ []) (x.is later (later_on m.forms n.forms later y.goes.forms l))
        ∙ (ap (λ (u : Term). map bound xs ++ u ∷ []) (y.is later l ∙ ap (λ (d : Listed). bound_with ps us d later g) x.goes.listed)
        ∙ (sym (map-append bound xs (g ∷ [])) ∙ sym (ap (map bound) e)))));
  }
