-- `try` by its parts.
use Rattle.std.proofs.Common.{◌≡◌, ◌∙◌, ℕ, true, false, List, [], ◌∷◌, Ok, Err, option_map, map, sym, ap}
use Rattle.std.specs.Prelude.{Result}
use Rattle.type_terms.specs.declared.form.TermId.{TermId}
use Rattle.typing_rules.specs.declared.condition.Condition.TheVariants as condition
use Rattle.typing_rules.specs.AbstractSyntax.{Expression, Pattern}
use Rattle.typing_rules.specs.AbstractSyntax as p
use Rattle.typing_rules.specs.AsyncPlaces.{waits}
use Rattle.typing_rules.specs.Ends.{Branches}
use Rattle.typing_rules.specs.Judgements.{Gives, Judgement, Meets, Part}
use Rattle.typing_rules.specs.Patterns.{Stands}
use Rattle.typing_rules.specs.Terms.{Term}
use Rattle.typing_rules.specs.Terms as t
use Rattle.typing_rules.specs.TypedTrees.{Note, Typed, type_of}
use Rattle.type_definitions.specs.Meanings.{term}
use Rattle.met_types.specs.States.{IsReached}
use Rattle.type_scopes.specs.Scopes.{seen}
use Rattle.type_judgements.specs.declared.refusal.Refusal.{Refusal}
use Rattle.type_judgements.specs.declared.refusal.Refusal.TheVariants as refusal
use Rattle.value_scopes.specs.declared.scopes.Scopes.{Scopes}
use Rattle.value_scopes.specs.Places.{body_in}
use Rattle.typed_patterns.specs.Making.{pattern_in}
use Rattle.judging.specs.declared.checker.Checker.{Checker}
use Rattle.judging.specs.declared.site.Site.{Site}
use Rattle.judging.specs.Views.{View, definitions, judge, kind_reached, rule, term_in, typed_in, view, wanted_in}
use Rattle.judging.specs.Answers.{Answers}
use Rattle.judging.proofs.Cases.{tests_fail, tests_hold}
use Rattle.judging.proofs.Chains.{goes_on, seen_as, stops}
use Rattle.judging.proofs.Forms.{type_is}
use Rattle.judging.proofs.TypedParts.{Comes, Given, part_given, part_refused}
use Rattle.scope_judging.specs.Rules.{judge_under}
use Rattle.pattern_rules.specs.declared.arms.Arm.{Arm}
use Rattle.pattern_rules.specs.Arms.{arm, arm_in, arm_reached}
use Rattle.pattern_rules.proofs.Matching.{arm_then}
use Rattle.pattern_rules.proofs.SwitchParts.{Handed}

module _ (x : Site) (a : Expression ℕ) (q : Pattern ℕ) (b : Expression ℕ) where
  abbrev pub tried : View → Judgement Typed
  tried = rule x (p.Try a q b)

  abbrev body : View → Judgement Typed
  body = judge x.place a x.wanted

  abbrev try_end : View → Typed → Pattern Note × Typed → Judgement Typed
  try_end v y z = Branches x.at (wanted_in v x.wanted) (type_of y ∷ type_of z.1 ∷ []) (p.Try y z.0 z.1)

  abbrev handled : View → Typed → Term → Judgement Typed
  handled v y u = Part (Stands (definitions v) (seen v.scopes.types) q u) (λ r. Part (judge_under x.place b x.wanted r.0 v) (λ z. try_end v y (r.1, z)))

  abbrev pub error : View → Judgement Term
  error v = Meets t.Error (Gives t.Error)

  abbrev caught : View → Typed → Judgement Typed
  caught v y = Part (error v) (handled v y)

  pub not_there : (c : Scopes) (k : Checker) → waits (body_in x.place.body) ≡ false → Comes tried c k c k (Err (refusal.False x.at condition.AsyncPlace))
  not_there c k e = tests_fail typed_in kind_reached condition.AsyncPlace x.at (waits (body_in x.place.body)) (λ v. Part (body v) (caught v)) c k e

  module _ (there : waits (body_in x.place.body) ≡ true) (c d : Scopes) (k l : Checker) where
    from_there : (f : Scopes) (m : Checker) (r : Result Given Refusal) → Comes (λ v. Part (body v) (caught v)) c k f m r → Comes tried c k f m r
    from_there f m r h = tests_hold typed_in kind_reached condition.AsyncPlace x.at (waits (body_in x.place.body)) (λ v. Part (body v) (caught v)) c f k m r there h

    pub no_body : (e : Refusal) (r : Result Given Refusal) → Handed r e → Comes body c k d l (Err e) → Comes tried c k d l r
    no_body e r h j = from_there d l r (part_refused body caught c d k l e r h j)

    module _ (g : Given) (j : Comes body c k d l (Ok g)) where
      pub no_error : (m : Checker) (e : Refusal) (r : Result Given Refusal) → Handed r e → Answers term_in IsReached error d l d m (Err e) → Comes tried c k d m r
      no_error m e r h i = from_there d m r (part_given body caught c d d k l m g r j (stops typed_in kind_reached term_in IsReached error (λ v. handled v (typed_in g v.later)) d d l m e r h i))

      module _ (m : Checker) (id : TermId) (i : Answers term_in IsReached error d l d m (Ok id)) where
        from_arm : (f : Scopes) (n : Checker) (r : Result Given Refusal) → Comes (λ v. Part (arm x q id b v) (try_end v (typed_in g v.later))) d m f n r → Comes tried c k f n r
        from_arm f n r h =
            from_there f n r (part_given body caught c d f k l n g r j
            (goes_on typed_in kind_reached term_in IsReached error (λ v. handled v (typed_in g v.later)) d d f l m n id r i
            (seen_as typed_in kind_reached (λ v. handled v (typed_in g v.later) (term v.later id)) (λ v. Part (arm x q id b v) (try_end v (typed_in g v.later))) d f m n r
            (λ later w. sym (arm_then x q id b (try_end (view later m.types.listed d) (typed_in g later)) (view later m.types.listed d))) h)))

        pub no_handler : (f : Scopes) (n : Checker) (e : Refusal) (r : Result Given Refusal) → Handed r e → Answers arm_in arm_reached (arm x q id b) d m f n (Err e) → Comes tried c k f n r
        no_handler f n e r h o = from_arm f n r (stops typed_in kind_reached arm_in arm_reached (arm x q id b) (λ v. try_end v (typed_in g v.later)) d f m n e r h o)

        pub try_given : (f : Scopes) (n s : Checker) (y : Arm) (r : Result Given Refusal) → Answers arm_in arm_reached (arm x q id b) d m f n (Ok y)
            → Comes (λ v. Branches x.at (wanted_in v x.wanted) (map (term v.later) (g.note.kind ∷ y.body.note.kind ∷ [])) (p.Try (typed_in g v.later) (pattern_in y.pattern v.later) (typed_in y.body v.later))) f n f s r
            → Comes tried c k f s r
        try_given f n s y r o h =
            from_arm f s r (goes_on typed_in kind_reached arm_in arm_reached (arm x q id b) (λ v. try_end v (typed_in g v.later)) d f f m n s y r o
            (seen_as typed_in kind_reached (λ v. try_end v (typed_in g v.later) (arm_in y v.later))
            (λ v. Branches x.at (wanted_in v x.wanted) (map (term v.later) (g.note.kind ∷ y.body.note.kind ∷ [])) (p.Try (typed_in g v.later) (pattern_in y.pattern v.later) (typed_in y.body v.later))) f f n s r
            (λ later w. ap (λ (us : List Term). Branches x.at (option_map (term later) x.wanted) us (p.Try (typed_in g later) (pattern_in y.pattern later) (typed_in y.body later)))
            (ap (λ (u : Term). u ∷ type_of (typed_in y.body later) ∷ []) (type_is g later) ∙ ap (λ (u : Term). term later g.note.kind ∷ u ∷ []) (type_is y.body later))) h))
