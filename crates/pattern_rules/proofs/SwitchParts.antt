-- `switch` by its parts.
use Rattle.std.proofs.Common.{◌≡◌, ◌∙◌, ℕ, suc, List, [], ◌∷◌, ◌++◌, append-nil, append_assoc, drop, Ok, Err, None, option_map, map, refl, sym, ap, subst}
use Rattle.std.specs.Prelude.{Result}
use Rattle.std.specs.Result.{IsErr, IsErrAnd}
use Rattle.mo_types.specs.Sub.{Each}
use Rattle.type_terms.specs.declared.form.Form.{Form}
use Rattle.type_terms.specs.declared.form.TermId.{TermId}
use Rattle.typing_rules.specs.AbstractSyntax.{Expression}
use Rattle.typing_rules.specs.AbstractSyntax as p
use Rattle.typing_rules.specs.Ends.{Branches}
use Rattle.typing_rules.specs.Expressions.{JudgeCases}
use Rattle.typing_rules.specs.Judgements.{Judgement, Part}
use Rattle.typing_rules.specs.Terms.{Term}
use Rattle.typing_rules.specs.TypedTrees.{Note, Typed, case_types, type_of}
use Rattle.type_definitions.specs.Definitions.{rules_in}
use Rattle.type_definitions.specs.Meanings.{term}
use Rattle.met_types.specs.States.{IsReached, State}
use Rattle.type_judgements.specs.declared.refusal.Refusal.{Refusal}
use Rattle.abstract_tree.specs.declared.expressions.Case.{Case}
use Rattle.abstract_tree.specs.TreeView.{cases, plain_case}
use Rattle.value_scopes.specs.declared.note.Note as value_note
use Rattle.value_scopes.specs.declared.scopes.Scopes.{Scopes}
use Rattle.value_scopes.specs.Values.{noted}
use Rattle.judging.specs.declared.checker.Checker.{Checker}
use Rattle.judging.specs.declared.site.Site.{Site}
use Rattle.judging.specs.Views.{View, context, definitions, judge, kind_reached, rule, typed_in, view, wanted_in}
use Rattle.judging.specs.Answers.{Answers}
use Rattle.judging.proofs.Chains.{goes_on, seen_as, stops}
use Rattle.judging.proofs.Forms.{type_is}
use Rattle.judging.proofs.TypedParts.{Comes, Given, part_given, part_refused}
use Rattle.pattern_rules.specs.Arms.{cases_in, cases_reached, judge_cases}
use Rattle.pattern_rules.proofs.Matching.{seen_case}

abbrev pub Handed : Result Given Refusal → Refusal → Type 0
Handed r e = IsErr r × IsErrAnd r (λ y. y ≡ e)

abbrev pub kinds : List (Case value_note.Note) → List TermId
kinds made = map (λ one. one.body.note.kind) made

pub kinds_reached : (s : State) (made : List (Case value_note.Note)) (us : List TermId) → us ≡ kinds made → cases_reached s made → Each (IsReached s) us
kinds_reached s made us e h = subst (λ (ids : List TermId). Each (IsReached s) ids) (sym e) (by made h) where
  by : (made : List (Case value_note.Note)) → cases_reached s made → Each (IsReached s) (kinds made)
  by [] h = tt
  by (b ∷ rest) h = (h.0, by rest h.1)

kinds_are : (made : List (Case value_note.Note)) (later : List Form) → case_types (cases_in made later) ≡ map (term later) (kinds made)
kinds_are [] later = refl
kinds_are (b ∷ rest) later =
    ap case_types (seen_case (λ n. noted later n) b (cases_in rest later))
    ∙ (ap (λ (u : Term). u ∷ case_types (cases_in rest later)) (type_is b.body later) ∙ ap (λ (us : List Term). term later b.body.note.kind ∷ us) (kinds_are rest later))

module _ (cs : List (Case value_note.Note)) (i : ℕ) (made : List TermId) (h : made ++ kinds (drop i cs) ≡ kinds cs) where
  pub next_kind : (y : Case value_note.Note) (more : List TermId) → drop i cs ≡ y ∷ drop (suc i) cs → more ≡ made ++ y.body.note.kind ∷ [] → more ++ kinds (drop (suc i) cs) ≡ kinds cs
  next_kind y more at q =
      ap (λ (ids : List TermId). ids ++ kinds (drop (suc i) cs)) q
      ∙ (append_assoc made (y.body.note.kind ∷ []) (kinds (drop (suc i) cs)) ∙ (ap (λ (ds : List (Case value_note.Note)). made ++ kinds ds) (sym at) ∙ h))

  pub all_kinds : drop i cs ≡ [] → made ≡ kinds cs
  all_kinds at = sym (append-nil made) ∙ (ap (λ (ds : List (Case value_note.Note)). made ++ kinds ds) (sym at) ∙ h)

module _ (x : Site) (a : Expression ℕ) (cs : List (Case ℕ)) where
  abbrev pub switch : View → Judgement Typed
  switch = rule x (p.Switch a (cases (map plain_case cs)))

  abbrev of : View → Judgement Typed
  of = judge x.place a None

  abbrev on_type : View → Typed → Judgement Typed
  on_type v b =
      Part (JudgeCases (definitions v) (context v x.place) (cases (map plain_case cs)) (type_of b) (wanted_in v x.wanted)) (λ ks. Branches x.at (wanted_in v x.wanted) (case_types ks) (p.Switch b ks))

  pub no_value : (c d : Scopes) (k l : Checker) (e : Refusal) (r : Result Given Refusal) → Handed r e → Comes of c k d l (Err e) → Comes switch c k d l r
  no_value c d k l e r h j = part_refused of on_type c d k l e r h j

  module _ (c d : Scopes) (k l : Checker) (g : Given) (j : Comes of c k d l (Ok g)) where
    abbrev switched : View → p.Cases Note → Judgement Typed
    switched v ks = Branches x.at (wanted_in v x.wanted) (case_types ks) (p.Switch (typed_in g v.later) ks)

    abbrev each : View → Judgement (p.Cases Note)
    each = judge_cases x cs g.note.kind

    from_kind : (f : Scopes) (m : Checker) (r : Result Given Refusal) → Comes (λ v. Part (each v) (switched v)) d l f m r → Comes switch c k f m r
    from_kind f m r h =
        part_given of on_type c d f k l m g r j
        (seen_as typed_in kind_reached (λ v. on_type v (typed_in g v.later)) (λ v. Part (each v) (switched v)) d f l m r
        (λ later w.
        ap (λ (u : Term).
        Part (JudgeCases (rules_in later l.types.listed) (context (view later l.types.listed d) x.place) (cases (map plain_case cs)) u (option_map (term later) x.wanted))
        (λ ks. Branches x.at (option_map (term later) x.wanted) (case_types ks) (p.Switch (typed_in g later) ks)))
        (type_is g later)) h)

    pub no_cases : (f : Scopes) (m : Checker) (e : Refusal) (r : Result Given Refusal) → Handed r e → Answers cases_in cases_reached each d l f m (Err e) → Comes switch c k f m r
    no_cases f m e r h i = from_kind f m r (stops typed_in kind_reached cases_in cases_reached each switched d f l m e r h i)

    pub switch_given : (f : Scopes) (m n : Checker) (made : List (Case value_note.Note)) (us : List TermId) (r : Result Given Refusal) → us ≡ kinds made → Answers cases_in cases_reached each d l f m (Ok made)
        → Comes (λ v. Branches x.at (wanted_in v x.wanted) (map (term v.later) us) (p.Switch (typed_in g v.later) (cases_in made v.later))) f m f n r → Comes switch c k f n r
    switch_given f m n made us r q i h =
        from_kind f n r
        (goes_on typed_in kind_reached cases_in cases_reached each switched d f f l m n made r i
        (seen_as typed_in kind_reached (λ v. switched v (cases_in made v.later)) (λ v. Branches x.at (wanted_in v x.wanted) (map (term v.later) us) (p.Switch (typed_in g v.later) (cases_in made v.later))) f f m n r
        (λ later w. ap (λ (ts : List Term). Branches x.at (option_map (term later) x.wanted) ts (p.Switch (typed_in g later) (cases_in made later))) (kinds_are made later ∙ ap (map (term later)) (sym q))) h))
