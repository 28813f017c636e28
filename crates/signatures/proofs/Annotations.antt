-- Types that are written at parameters and results, and type parameters.
use Rattle.std.proofs.Common.{◌≡◌, ℕ, List, [], ◌∷◌, ◌++◌, Option, Some, None, refl, sym, ap, ◌∙◌, subst, map, option_map}
use Rattle.std.proofs.lemmas.List.{map-append}
use Rattle.std.specs.Prelude.{Result}
use Rattle.type_terms.specs.declared.form.TermId.{TermId}
use Rattle.type_terms.specs.declared.form.Form.{Form}
use Rattle.typing_rules.specs.declared.condition.Condition.TheVariants as condition
use Rattle.typing_rules.specs.AbstractSyntax.{Named, Pattern, TypeNode, TypeParameter}
use Rattle.typing_rules.specs.AbstractSyntax as p
use Rattle.typing_rules.specs.Answers.{fault}
use Rattle.typing_rules.specs.Definitions.{Definitions}
use Rattle.typing_rules.specs.Judgements.{Judgement, Gives, Fails, Case, Given, Part}
use Rattle.typing_rules.specs.Signatures.{AsyncResult}
use Rattle.typing_rules.specs.Terms.{Term, unit}
use Rattle.typing_rules.specs.Types.{Reads, ReadsOr}
use Rattle.typing_rules.specs.TypedTrees.{annotation, pattern_place}
use Rattle.typing_rules.specs.TypeScopes.{TypeScope, names_of, places_of}
use Rattle.type_definitions.specs.Definitions.{Listed, rules_in}
use Rattle.type_definitions.specs.Meanings.{term}
use Rattle.met_types.specs.States.{State}
use Rattle.definition_rules.proofs.Promoting.{same_itself}
use Rattle.shareable_types.specs.declared.sharing.Sharing.{Sharing}
use Rattle.abstract_types.specs.declared.patterns.Pattern as value
use Rattle.abstract_types.specs.declared.types.TypeParameter as value_parameter
use Rattle.abstract_types.specs.PatternView.{plain}
use Rattle.abstract_types.specs.TypeView.{named, parameter}
use Rattle.written_types.specs.Written.{Wrote, awaited}
use Rattle.type_judgements.specs.declared.refusal.Refusal.{Refusal}
use Rattle.proper_types.specs.Passing.{Ready, Passed, Refused, Judges}
use Rattle.proper_types.specs.Rules.{Rule, as_term, as_terms, reads}
use Rattle.proper_types.proofs.Judging.{failed, given, judges_as, left_itself, ready_on}
use Rattle.typed_patterns.proofs.Views.{pattern_is}
use Rattle.signatures.specs.Rules.{async_result, kind_of, parameter_types, result_of}
use Rattle.typed_patterns.proofs.Standing.{behind_alike}
use Rattle.signatures.proofs.Gathering.{Gather, gathered}

-- ---- what is written at a pattern

pub place_is : (q : value.Pattern ℕ) → pattern_place (plain q) ≡ q.note
place_is q = ap pattern_place (pattern_is (λ n. n) q q.form refl)

module _ (s : TypeScope) (q : Pattern ℕ) (w : Option TermId) where
  abbrev wanted_or : Option TypeNode → Rule Term
  wanted_or o l later = Case o (λ a. Reads (rules_in later l) s a) (λ u. Given condition.NeedsType (pattern_place q) (option_map (term later) w) (λ u. Gives u))

  pub written_kind : (n : TypeNode) (old new : State) (c : Sharing) (r : Result TermId Refusal) → annotation q ≡ Some n → Judges (reads s n) old new c as_term r → Judges (kind_of s q w) old new c as_term r
  written_kind n old new c r e h = subst (λ (o : Option TypeNode). Judges (wanted_or o) old new c as_term r) (sym e) h

  pub wanted_kind : (id : TermId) (st : State) (c : Sharing) → annotation q ≡ None → w ≡ Some id → Ready st c → Passed (kind_of s q w st.listed) st st c (as_term id)
  wanted_kind id st c e f ready = given (kind_of s q w st.listed) st st c (as_term id) (same_itself st ready.kept) ready
      (λ later l. sym (ap (λ (o : Option TypeNode). wanted_or o st.listed later) e ∙ ap (λ (v : Option TermId). Given condition.NeedsType (pattern_place q) (option_map (term later) v) (λ u. Gives u)) f))

  abbrev failing : ℕ → Judgement Term
  failing n = Fails condition.NeedsType n

  pub no_kind : (at : ℕ) (st : State) → annotation q ≡ None → w ≡ None → pattern_place q ≡ at → Refused (kind_of s q w st.listed) st st (fault condition.NeedsType at)
  no_kind at st e f k = failed (kind_of s q w st.listed) st st condition.NeedsType at (left_itself st)
      (λ later l. sym (ap (λ (o : Option TypeNode). wanted_or o st.listed later) e
      ∙ (ap (λ (v : Option TermId). Given condition.NeedsType (pattern_place q) (option_map (term later) v) (λ u. Gives u)) f ∙ ap (λ (n : ℕ). failing n) k)))

-- ---- the types of parameters

case_given : (at : ℕ) (o : Option TypeNode) (k : TypeNode → Judgement Term) → Case o k (λ u. Fails condition.NeedsType at) ≡ Given condition.NeedsType at o k
case_given at None k = refl
case_given at (Some n) k = refl

module _ (s : TypeScope) where
  abbrev pub own_kind : value.Pattern ℕ → Rule Term
  own_kind q = kind_of s (plain q) None

  own_are : (qs : List (value.Pattern ℕ)) (l : Listed) (later : List Form) → gathered own_kind qs l later ≡ parameter_types s (map plain qs) l later
  own_are [] l later = refl
  own_are (q ∷ qs) l later =
      behind_alike (own_kind q l later) (λ u. Part (Gather (λ x. own_kind x l later) qs) (λ us. Gives (u ∷ us))) (λ u. Part (parameter_types s (map plain qs) l later) (λ us. Gives (u ∷ us)))
      (λ u. ap (λ (j : Judgement (List Term)). Part j (λ us. Gives (u ∷ us))) (own_are qs l later))
      ∙ ap (λ (j : Judgement Term). Part j (λ u. Part (parameter_types s (map plain qs) l later) (λ us. Gives (u ∷ us)))) (case_given (pattern_place (plain q)) (annotation (plain q)) (λ a. Reads (rules_in later l) s a))

  pub parameters_are : (qs : List (value.Pattern ℕ)) (old new : State) (c : Sharing) (r : Result (List TermId) Refusal) → Judges (gathered own_kind qs) old new c as_terms r → Judges (parameter_types s (map plain qs)) old new c as_terms r
  parameters_are qs old new c r h = judges_as (gathered own_kind qs) (parameter_types s (map plain qs)) old new c as_terms r (λ l later. own_are qs l later) h

  -- ---- results

  module _ (o : Option TypeNode) where
    abbrev or_unit : Option TypeNode → Rule Term
    or_unit m l later = ReadsOr (rules_in later l) s m unit

    pub result_read : (n : TypeNode) (old new : State) (c : Sharing) (r : Result TermId Refusal) → o ≡ Some n → Judges (reads s n) old new c as_term r → Judges (result_of s o) old new c as_term r
    result_read n old new c r e h = subst (λ (m : Option TypeNode). Judges (or_unit m) old new c as_term r) (sym e) h

    pub no_result_read : (old new : State) (c : Sharing) (id : TermId) → o ≡ None → Ready old c → Wrote old new unit id → Passed (result_of s o old.listed) old new c (as_term id)
    no_result_read old new c id e ready w = given (result_of s o old.listed) old new c (as_term id) w.same (ready_on old new c ready w.same.kept w.same.goes)
        (λ later l. ap (λ (u : Term). Gives u) (w.made.is later l) ∙ sym (ap (λ (m : Option TypeNode). or_unit m old.listed later) e))

  -- ---- `async A`

  promised : (defs : Definitions) (at : ℕ) (n a : TypeNode) → Some a ≡ awaited n → Reads defs s a ≡ AsyncResult defs at s (Some n)
  promised defs at (p.node i (p.Async b)) a h = let e : a ≡ b = cc in ap (λ (m : TypeNode). Reads defs s m) e
  promised defs at (p.node i (p.Function c vs m)) a h = cc
  promised defs at (p.node i (p.Optional b)) a h = cc
  promised defs at (p.node i (p.Use z vs)) a h = cc
  promised defs at (p.node i (p.Tuple vs)) a h = cc
  promised defs at (p.node i (p.Array mutable b)) a h = cc
  promised defs at (p.node i (p.Object fs)) a h = cc
  promised defs at (p.node i (p.Variant fs)) a h = cc
  promised defs at (p.node i (p.Actor fs)) a h = cc

  not_promised : (defs : Definitions) (at : ℕ) (n : TypeNode) → None ≡ awaited n → Fails condition.NotShared at ≡ AsyncResult defs at s (Some n)
  not_promised defs at (p.node i (p.Async b)) h = cc
  not_promised defs at (p.node i (p.Function c vs m)) h = refl
  not_promised defs at (p.node i (p.Optional b)) h = refl
  not_promised defs at (p.node i (p.Use z vs)) h = refl
  not_promised defs at (p.node i (p.Tuple vs)) h = refl
  not_promised defs at (p.node i (p.Array mutable b)) h = refl
  not_promised defs at (p.node i (p.Object fs)) h = refl
  not_promised defs at (p.node i (p.Variant fs)) h = refl
  not_promised defs at (p.node i (p.Actor fs)) h = refl

  module _ (at : ℕ) (o : Option TypeNode) where
    pub future_read : (n a : TypeNode) (old new : State) (c : Sharing) (r : Result TermId Refusal) → o ≡ Some n → Some a ≡ awaited n → Judges (reads s a) old new c as_term r → Judges (async_result s at o) old new c as_term r
    future_read n a old new c r e f h = judges_as (reads s a) (async_result s at o) old new c as_term r
        (λ l later. promised (rules_in later l) at n a f ∙ ap (λ (v : Option TypeNode). AsyncResult (rules_in later l) at s v) (sym e)) h

    pub no_future : (n : TypeNode) (st : State) → o ≡ Some n → None ≡ awaited n → Refused (async_result s at o st.listed) st st (fault condition.NotShared at)
    no_future n st e f = failed (async_result s at o st.listed) st st condition.NotShared at (left_itself st)
        (λ later l. not_promised (rules_in later st.listed) at n f ∙ ap (λ (v : Option TypeNode). AsyncResult (rules_in later st.listed) at s v) (sym e))

    pub no_result : (st : State) → o ≡ None → Refused (async_result s at o st.listed) st st (fault condition.NotShared at)
    no_result st e = failed (async_result s at o st.listed) st st condition.NotShared at (left_itself st) (λ later l. ap (λ (v : Option TypeNode). AsyncResult (rules_in later st.listed) at s v) (sym e))

-- ---- type parameters

names_more : (xs : List value_parameter.TypeParameter) (x : value_parameter.TypeParameter) → names_of (map parameter (xs ++ x ∷ [])) ≡ names_of (map parameter xs) ++ named x.name ∷ []
names_more xs x = ap names_of (map-append parameter xs (x ∷ [])) ∙ map-append (λ g. g.name) (map parameter xs) (parameter x ∷ [])

pub places_more : (made new : List ℕ) (xs ys : List value_parameter.TypeParameter) (x : value_parameter.TypeParameter) → ys ≡ xs ++ x ∷ [] → new ≡ made ++ x.name.at ∷ [] → made ≡ places_of (names_of (map parameter xs)) → new ≡ places_of (names_of (map parameter ys))
places_more made new xs ys x e n m =
    n
    ∙ (ap (λ (zs : List ℕ). zs ++ x.name.at ∷ []) m
    ∙ sym (ap (λ (zs : List value_parameter.TypeParameter). places_of (names_of (map parameter zs))) e ∙ (ap places_of (names_more xs x) ∙ map-append (λ y. y.at) (names_of (map parameter xs)) (named x.name ∷ []))))
