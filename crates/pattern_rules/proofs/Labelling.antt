-- What stands under a label.
use Rattle.std.proofs.Common.{◌≡◌, ◌∙◌, inl, inr, ℕ, true, false, List, [], ◌∷◌, ◌++◌, length, Ok, Err, Option, Some, refl, sym, ap, subst}
use Rattle.std.specs.Prelude.{Result}
use Rattle.type_terms.specs.declared.form.TermId.{TermId}
use Rattle.typing_rules.specs.AbstractSyntax.{Bytes, Expression, TypeNode}
use Rattle.typing_rules.specs.AbstractSyntax as p
use Rattle.typing_rules.specs.Ends.{Has}
use Rattle.typing_rules.specs.Judgements.{Judgement, Part}
use Rattle.typing_rules.specs.Terms.{Term}
use Rattle.typing_rules.specs.TypedTrees.{Typed}
use Rattle.type_definitions.specs.Meanings.{term}
use Rattle.type_definitions.specs.Tables.{Within}
use Rattle.type_definitions.proofs.Meanings.{each_map}
use Rattle.met_types.specs.States.{IsReached}
use Rattle.type_judgements.specs.declared.refusal.Refusal.{Refusal}
use Rattle.value_scopes.specs.declared.place.Around.TheVariants as around
use Rattle.value_scopes.specs.declared.place.Place.{Place}
use Rattle.value_scopes.specs.declared.scopes.Label as value_label
use Rattle.value_scopes.specs.declared.scopes.Scopes.{Scopes}
use Rattle.judging.specs.declared.checker.Checker.{Checker}
use Rattle.judging.specs.declared.site.Site.{Site}
use Rattle.judging.specs.Parts.{Entering, IsReachedFirst, Ready, Sound}
use Rattle.judging.specs.Views.{View, judge, kind_reached, rule, term_in, typed_in, wanted_in}
use Rattle.judging.specs.Answers.{Answers}
use Rattle.judging.proofs.Chains.{goes_on, stops}
use Rattle.judging.proofs.Steps.{ready_on, some_on}
use Rattle.judging.proofs.TypedParts.{Comes, Given, part_given, part_refused}
use Rattle.scope_judging.specs.Rules.{kind_within, reads_or_unit}
use Rattle.scope_judging.proofs.Under.{given_elsewhere, refused_elsewhere}
use Rattle.pattern_rules.specs.Labelled.{labelled_in, under_label}
use Rattle.pattern_rules.proofs.SwitchParts.{Handed}

abbrev Labels : Type 0
Labels = List (Bytes × value_label.Label)

-- directly under a label
abbrev pub there : Site → Place
there x = record x.place { around = around.Labelled }

module _ (x : Site) (name : Bytes) (id : TermId) (a : Expression ℕ) (c : Scopes) (k : Checker) where
  abbrev one : Bytes × value_label.Label
  one = (name, record { kind = id; is_loop = false })

  abbrev within : Scopes
  within = record c { labels = one ∷ c.labels }

  -- the names in scope, with these labels
  module _ (qs : Labels) (p : qs ≡ one ∷ c.labels) where
    abbrev named : Scopes
    named = record c { labels = qs }

    pub entering_label : (y : Place) → y ≡ there x → Ready k c x → Within k.types.forms id → Entering k named y (Some id)
    entering_label y e r h = subst (λ (z : Place). Entering k named z (Some id)) (sym e) (subst (λ (ls : Labels). Entering k (record c { labels = ls }) (there x) (Some id)) (sym p) (record {
      known = r.sound.known;
      values = r.sound.values;
      labels = (inr refl, each_map (λ q. IsReached k.types q.1.kind) (λ q. IsReachedFirst k (Some id) q.1.kind) (λ q g. inl g) c.labels r.sound.labels);
      returns = some_on (IsReached k.types) (IsReachedFirst k (Some id)) x.place.returns (λ u g. inl g) r.returns;
      wanted = h;
    }))

    from_within : (y : Place) (d : Scopes) (l : Checker) (r : Result Given Refusal) → y ≡ there x → Comes (judge y a (Some id)) named k d l r → Comes (judge (there x) a (Some id)) within k d l r
    from_within y d l r e h =
        subst (λ (ls : Labels). Comes (judge (there x) a (Some id)) (record c { labels = ls }) k d l r) p (subst (λ (z : Place). Comes (judge z a (Some id)) named k d l r) e h)

    pub no_body : (y : Place) (d f : Scopes) (l : Checker) (q : Refusal) (r : Result Given Refusal) → y ≡ there x → Handed r q → Comes (judge y a (Some id)) named k d l (Err q) → Comes (labelled_in x name id a) c k f l r
    no_body y d f l q (Ok g) e i h = let z : false ≡ true = i.0 in cc
    no_body y d f l q (Err z) e i h =
        subst (λ (w : Refusal). Comes (labelled_in x name id a) c k f l (Err w)) (sym i.1)
        (refused_elsewhere typed_in kind_reached (labelled_in x name id a) (judge (there x) a (Some id)) c within k (λ later w. refl) d f l q (from_within y d l (Err q) e h))

    module _ (y : Place) (d : Scopes) (l : Checker) (g : Given) (e : y ≡ there x) (h : Comes (judge y a (Some id)) named k d l (Ok g)) (count : ℕ) (ls : Labels)
        (back : (more before : Labels) → d.labels ≡ more ++ before → count ≡ length before → ls ≡ before) (n : count ≡ length c.labels) where
      is_within : d ≡ within
      is_within = (from_within y d l (Ok g) e h).outcome.same

      labels_back : ls ≡ c.labels
      labels_back = back (one ∷ []) c.labels (ap (λ (z : Scopes). z.labels) is_within) n

      pub same_back : record d { labels = ls } ≡ c
      same_back = ap (λ (z : Scopes). record z { labels = ls }) is_within ∙ ap (λ (z : Labels). record c { labels = z }) labels_back

      sound_before : Sound l within → Sound l c
      sound_before s = record { known = s.known; values = s.values; labels = s.labels.1 }

      pub sound_back : Sound l (record d { labels = ls })
      sound_back =
          subst (λ (z : Scopes). Sound l z) (sym same_back) (sound_before (subst (λ (z : Scopes). Sound l z) is_within (from_within y d l (Ok g) e h).outcome.sound))

      pub label_given : Comes (labelled_in x name id a) c k (record d { labels = ls }) l (Ok g)
      label_given =
          given_elsewhere typed_in kind_reached (labelled_in x name id a) (judge (there x) a (Some id)) c within k (λ later w. refl) d (record d { labels = ls }) l g sound_back same_back (from_within y d l (Ok g) e h)

      pub ready_back : Ready k c x → Ready l (record d { labels = ls }) x
      ready_back r = ready_on k l c (record d { labels = ls }) x r sound_back (from_within y d l (Ok g) e h).outcome.goes

-- ---- the rule

module _ (x : Site) (name : Bytes) (n : Option TypeNode) (a : Expression ℕ) where
  abbrev pub label : View → Judgement Typed
  label = rule x (p.Label name n a)

  abbrev on_type : View → Term → Judgement Typed
  on_type v u = Part (under_label x name u a v) (λ b. Has x.at (wanted_in v x.wanted) u (p.Label name n b))

  pub no_type : (c : Scopes) (k l : Checker) (e : Refusal) (r : Result Given Refusal) → Handed r e → Answers term_in kind_within (reads_or_unit n) c k c l (Err e) → Comes label c k c l r
  no_type c k l e r h j = stops typed_in kind_reached term_in kind_within (reads_or_unit n) on_type c c k l e r h j

  module _ (c : Scopes) (k l : Checker) (id : TermId) (j : Answers term_in kind_within (reads_or_unit n) c k c l (Ok id)) where
    abbrev ends : View → Typed → Judgement Typed
    ends v b = Has x.at (wanted_in v x.wanted) (term v.later id) (p.Label name n b)

    pub no_part : (d : Scopes) (m : Checker) (e : Refusal) (r : Result Given Refusal) → Handed r e → Comes (labelled_in x name id a) c l d m (Err e) → Comes label c k d m r
    no_part d m e r h i = goes_on typed_in kind_reached term_in kind_within (reads_or_unit n) on_type c c d k l m id r j (part_refused (labelled_in x name id a) ends c d l m e r h i)

    pub labelled_given : (d : Scopes) (m o : Checker) (b : Given) (r : Result Given Refusal) → Comes (labelled_in x name id a) c l d m (Ok b)
        → Comes (λ v. Has x.at (wanted_in v x.wanted) (term v.later id) (p.Label name n (typed_in b v.later))) d m d o r → Comes label c k d o r
    labelled_given d m o b r i h = goes_on typed_in kind_reached term_in kind_within (reads_or_unit n) on_type c c d k l o id r j (part_given (labelled_in x name id a) ends c d d l m o b r i h)
