-- Following the use of a name in a table.
use Rattle.std.proofs.Common.{◌≡◌, ℕ, ◌<◌, false, List, [], ◌∷◌, ◌++◌, Option, Some, None, slice_get, refl, sym, ap, ◌∙◌, subst}
use Rattle.mo_types.specs.Heads.{map_option}
use Rattle.mo_types.specs.Sub.{Each}
use Rattle.type_terms.specs.declared.form.Form.{Form}
use Rattle.type_terms.specs.declared.form.Form.TheVariants as form
use Rattle.type_terms.specs.declared.form.TermId.{TermId}
use Rattle.type_terms.specs.Layouts.{layout}
use Rattle.type_terms.specs.Tables.{PartsBelow, Interns}
use Rattle.typing_rules.specs.Terms.{Term, Terms, put_in, argument_of, unlisted}
use Rattle.typing_rules.specs.Terms as t
use Rattle.typing_rules.specs.Definitions as rule
use Rattle.typing_rules.specs.Definitions.{definition_at, parameters_of, followed, followed_right, reached, or_bottom, unfolded}
use Rattle.type_definitions.specs.declared.definitions.Definition.{Definition}
use Rattle.type_definitions.specs.declared.chains.Outcome.{Outcome}
use Rattle.type_definitions.specs.declared.chains.Outcome.TheVariants as outcome
use Rattle.type_definitions.specs.Meanings.{term, term_of, parts_at}
use Rattle.type_definitions.specs.Tables.{Grows, Within, Later, Makes}
use Rattle.type_definitions.specs.Places.{first_place}
use Rattle.type_definitions.specs.Putting as putting
use Rattle.type_definitions.specs.Putting.{or_other, placed, IsPut}
use Rattle.type_definitions.specs.Definitions.{Listed, definition_of, types_in, Stand}
use Rattle.type_definitions.specs.Outcomes.{outcome_of, outcome_at, argument_in, AreOutcomes}
use Rattle.type_definitions.specs.Unfolding.{IsUnfolded, LeadsTo, UseLeadsTo, RightOf, IsRightOf, IsUse, IsNoUse, FindsUse}
use Rattle.type_definitions.proofs.Meanings.{grows_not, grows_on, later_on, within_on, term_later, interned_is, each_get, each_map, each_within, below_within}
use Rattle.type_definitions.proofs.Putting.{twice}
use Rattle.type_definitions.proofs.Following.{use_of_none, use_of_parameter, use_of_right}
use Rattle.type_definitions.proofs.Leading.{argument_is, rule_is, seen_rule, seen_own, Seen, parameters_are, argument_found, endless_is, parameter_is}

-- the same is put in where the same stands in the place of each parameter
pub put_alike : (f g : ℕ → Term) → ((q : ℕ) → f q ≡ g q) → (u : Term) → put_in f u ≡ put_in g u
put_alike f g e u = sym (twice f (λ q. t.Parameter q) f (λ q. refl) u) ∙ twice f (λ q. t.Parameter q) g e u

pub stand_on : (a b : List Form) (l : Listed) → Grows a b → Stand a l → Stand b l
stand_on a b l g s = record {
  as_many = s.as_many;
  as_many_bounds = s.as_many_bounds;
  types = each_map (λ (x : Definition). Within a x.right) (λ x. Within b x.right) (λ x. within_on a b x.right g) l.types s.types;
  bounds = each_within a b l.bounds g s.bounds;
}

pub outcomes_on : (a b : List Form) (l : Listed) (os : List Outcome) → Grows a b → AreOutcomes a l os → AreOutcomes b l os
outcomes_on a b l os g w later h = w later (later_on a b later g h)

-- a type that is no use of a name stands for itself
unfolds_itself : (types : List rule.Definition) (at : TermId → Term) (f : Form) → ((n : ℕ) (ids : List TermId) → f ≡ form.Use n ids → ⊥) → unfolded types (term_of at f) ≡ term_of at f
unfolds_itself types at (form.Use n ids) u = absurd (u n ids refl)
unfolds_itself types at (form.Number k) u = refl
unfolds_itself types at f u = refl

pub no_use : (a : List Form) (l : Listed) (id : TermId) → Within a id → IsNoUse a id → Makes a (IsUnfolded l id id) id a
no_use a l id w n = record {
  grows = grows_not a;
  within = w;
  is = λ later h.
      let e = term_later a later id n.shape h n.there in
      e ∙ sym (ap (unfolded (types_in later l)) e ∙ unfolds_itself (types_in later l) (term later) n.shape n.other);
}

-- the steps

pub some_rule : (l : Listed) (later : List Form) (n : ℕ) (x : Definition) → definition_of l n ≡ Some x → (d : rule.Definition) × (definition_at (types_in later l) n ≡ Some d) × (d.outer ++ d.own ≡ x.parameters) × (d.right ≡ term later x.right)
some_rule l later n x e = pick (definition_at (types_in later l) n) (rule_is (term later) l n ∙ ap (map_option (seen_own (term later))) e) where
  pick : (o : Option rule.Definition) → map_option (seen_rule (term later)) o ≡ Some (seen_own (term later) x) → (d : rule.Definition) × (o ≡ Some d) × (d.outer ++ d.own ≡ x.parameters) × (d.right ≡ term later x.right)
  pick None h = cc
  pick (Some d) h = let g : seen_rule (term later) d ≡ seen_own (term later) x = cc in (d, refl, ap (λ (s : Seen (term later)). s.0) g, ap (λ (s : Seen (term later)). s.1) g)

pub no_rule : (l : Listed) (later : List Form) (n : ℕ) → definition_of l n ≡ None → definition_at (types_in later l) n ≡ None
no_rule l later n e = pick (definition_at (types_in later l) n) (rule_is (term later) l n ∙ ap (map_option (seen_own (term later))) e) where
  pick : (o : Option rule.Definition) → map_option (seen_rule (term later)) o ≡ None → o ≡ None
  pick None h = refl
  pick (Some d) h = cc

reached_some : (o : Option Term) → outcome_of o ≡ outcome.Form → (u : Term) × (o ≡ Some u)
reached_some None h = cc
reached_some (Some u) h = (u, refl)

module _ (a : List Form) (l : Listed) (os : List Outcome) (n : ℕ) (ids : List TermId) (agree : AreOutcomes a l os) where
  abbrev us : List Form → Terms
  us later = unlisted (parts_at (term later) ids)

  pub to_bottom : (b : List Form) (r : TermId) → outcome_at l.names os n ≡ outcome.Endless → Interns a form.Bottom r b → Makes a (UseLeadsTo l n ids r) r b
  to_bottom b r o i =
      let m = interned_is a b form.Bottom r i in
      record {
        grows = m.grows;
        within = m.within;
        is = λ later h.
            let h2 = later_on a b later m.grows h in
            ap (unfolded (types_in later l)) (m.is later h)
            ∙ sym (ap (or_bottom (types_in later l)) (use_of_none (types_in later l) (reached (types_in later l)) n (us later) (endless_is (reached (types_in later l) n) (agree later h2 n ∙ o))));
      }

  module _ (p : ℕ) (o : outcome_at l.names os n ≡ outcome.Parameter p) where
    to_argument : (later : List Form) → Later a later → unfolded (types_in later l) (t.Use n (us later)) ≡ unfolded (types_in later l) (or_other (term later) (argument_in (definition_of l n) ids p) false p)
    to_argument later h =
        ap (or_bottom (types_in later l)) (use_of_parameter (types_in later l) (reached (types_in later l)) n p (us later) (parameter_is (reached (types_in later l) n) p (agree later h n ∙ o)))
        ∙ ap (unfolded (types_in later l)) (ap (λ ps. argument_of ps (us later) p) (parameters_are (term later) l n) ∙ argument_found (term later) (definition_of l n) ids p)

    argument_within : (d : Option Definition) (r : TermId) → Each (Within a) ids → argument_in d ids p ≡ Some r → Within a r
    argument_within None r w m = cc
    argument_within (Some x) r w m = place (first_place x.parameters p) m where
      place : (i : Option ℕ) → putting.at_place ids i ≡ Some r → Within a r
      place None k = cc
      place (Some i) k = each_get (Within a) ids i r w k

    pub to_found : (r : TermId) → Each (Within a) ids → argument_in (definition_of l n) ids p ≡ Some r → Makes a (UseLeadsTo l n ids r) r a
    to_found r w m = record {
      grows = grows_not a;
      within = argument_within (definition_of l n) r w m;
      is = λ later h. sym (to_argument later h ∙ ap (λ z. unfolded (types_in later l) (or_other (term later) z false p)) m);
    }

    pub to_missing : (b : List Form) (r : TermId) → argument_in (definition_of l n) ids p ≡ None → Interns a form.Bottom r b → Makes a (UseLeadsTo l n ids r) r b
    to_missing b r m i =
        let k = interned_is a b form.Bottom r i in
        record {
          grows = k.grows;
          within = k.within;
          is = λ later h.
              ap (unfolded (types_in later l)) (k.is later h)
              ∙ sym (to_argument later (later_on a b later k.grows h) ∙ ap (λ z. unfolded (types_in later l) (or_other (term later) z false p)) m);
        }

  to_right : (later : List Form) (r : TermId) (x : Option Definition) → Later a later → outcome_at l.names os n ≡ outcome.Form → definition_of l n ≡ x → RightOf x ids r later
      → unfolded (types_in later l) (term later r) ≡ unfolded (types_in later l) (t.Use n (us later))
  to_right later r None h o e k =
      let none : reached (types_in later l) n ≡ None = ap (followed_right (types_in later l) _) (no_rule l later n e) in
      let f : outcome.Endless ≡ outcome.Form = sym (ap outcome_of none) ∙ (agree later h n ∙ o) in
      cc
  to_right later r (Some x) h o e k =
      let d = some_rule l later n x e in
      let u = reached_some (reached (types_in later l) n) (agree later h n ∙ o) in
      let step = use_of_right (types_in later l) n (us later) d.0 u.0 d.1 u.1 in
      ap (unfolded (types_in later l)) (k
      ∙ (sym (put_alike (argument_of x.parameters (us later)) (placed (term later) x.parameters ids false) (argument_is (term later) x.parameters ids) (term later x.right))
      ∙ (ap (λ ps. put_in (argument_of ps (us later)) (term later x.right)) (sym d.2) ∙ ap (put_in (argument_of (d.0.outer ++ d.0.own) (us later))) (sym d.3))))
      ∙ sym (ap (or_bottom (types_in later l)) step)

  pub to_right_side : (b : List Form) (r : TermId) → outcome_at l.names os n ≡ outcome.Form → Makes a (IsRightOf l n ids r) r b → Makes a (UseLeadsTo l n ids r) r b
  to_right_side b r o m = record {
    grows = m.grows;
    within = m.within;
    is = λ later h. to_right later r (definition_of l n) (later_on a b later m.grows h) o refl (m.is later h);
  }

-- a right side
pub right_put : (a b : List Form) (l : Listed) (n : ℕ) (ids : List TermId) (x : Definition) (r : TermId) → definition_of l n ≡ Some x → Makes a (IsPut x.parameters ids false x.right r) r b → Makes a (IsRightOf l n ids r) r b
right_put a b l n ids x r e m = record {
  grows = m.grows;
  within = m.within;
  is = λ later h. subst (λ o. RightOf o ids r later) (sym e) (m.is later h);
}

pub no_right : (a b : List Form) (l : Listed) (n : ℕ) (ids : List TermId) (r : TermId) → definition_of l n ≡ None → Interns a form.Bottom r b → Makes a (IsRightOf l n ids r) r b
no_right a b l n ids r e i =
    let m = interned_is a b form.Bottom r i in
    record { grows = m.grows; within = m.within; is = λ later h. subst (λ o. RightOf o ids r later) (sym e) tt }

-- ---- the loop

pub starts : (a : List Form) (l : Listed) (id : TermId) → Within a id → Makes a (LeadsTo l id id) id a
starts a l id w = record { grows = grows_not a; within = w; is = λ later h. refl }

pub goes_on : (a b c : List Form) (l : Listed) (id i j : TermId) (n : ℕ) (ids : List TermId) → Makes a (LeadsTo l id i) i b → IsUse b i n ids → Makes b (UseLeadsTo l n ids j) j c → Makes a (LeadsTo l id j) j c
goes_on a b c l id i j n ids m u k = record {
  grows = grows_on a b c m.grows k.grows;
  within = k.within;
  is = λ later h.
      let h2 = later_on b c later k.grows h in
      k.is later h ∙ (ap (unfolded (types_in later l)) (sym (term_later b later i (form.Use n ids) h2 u.there)) ∙ m.is later h2);
}

pub ends : (a b : List Form) (l : Listed) (id i : TermId) → Makes a (LeadsTo l id i) i b → IsNoUse b i → Makes a (IsUnfolded l id i) i b
ends a b l id i m n = record {
  grows = m.grows;
  within = m.within;
  is = λ later h. (no_use b l i m.within n).is later h ∙ m.is later h;
}

-- ---- what is found of a use

pub use_is : (a : List Form) (id : TermId) (f : Form) (n : ℕ) (ids xs : List TermId) → slice_get a id.index ≡ Some f → f ≡ form.Use n ids → xs ≡ ids → PartsBelow id.index f → Within a id → IsUse a id n xs
unfolding layout
use_is a id f n ids xs there e x b w = record {
  there = there ∙ ap (λ (y : Form). Some y) (e ∙ ap (form.Use n) (sym x));
  within = subst (λ ys. Each (Within a) ys) (sym x) (below_within a id ids w (left ids (subst (λ (y : Form). PartsBelow id.index y) e b)));
}
  where
    left : (xs : List TermId) → Each (λ q. q.index < id.index) (xs ++ []) → Each (λ q. q.index < id.index) xs
    left [] h = tt
    left (x ∷ xs) h = (h.0, left xs h.1)

pub found_none : (a : List Form) (id : TermId) (o : Option (ℕ × List TermId)) → FindsUse a id o → o ≡ None → IsNoUse a id
found_none a id None h e = h
found_none a id (Some u) h e = cc

pub found_some : (a : List Form) (id : TermId) (o : Option (ℕ × List TermId)) (n : ℕ) (ids : List TermId) → FindsUse a id o → o ≡ Some (n, ids) → IsUse a id n ids
found_some a id None n ids h e = cc
found_some a id (Some u) n ids h e =
    let g : u ≡ (n, ids) = cc in
    subst (λ (v : ℕ × List TermId). IsUse a id v.0 v.1) g h
