-- The rules of truth values and choices by their parts.
use Rattle.std.proofs.Common.{◌≡◌, ◌∙◌, ℕ, List, [], ◌∷◌, Ok, Err, Some, map, option_map, ap}
use Rattle.std.specs.Prelude.{Result}
use Rattle.std.specs.Result.{IsErr, IsErrAnd}
use Rattle.typing_rules.specs.AbstractSyntax.{Expression}
use Rattle.typing_rules.specs.AbstractSyntax as p
use Rattle.typing_rules.specs.Terms.{Term}
use Rattle.typing_rules.specs.Terms as t
use Rattle.typing_rules.specs.Judgements.{Judgement, Part}
use Rattle.typing_rules.specs.TypedTrees.{Typed, type_of}
use Rattle.typing_rules.specs.Ends.{Branches}
use Rattle.type_definitions.specs.Meanings.{term}
use Rattle.type_judgements.specs.declared.refusal.Refusal.{Refusal}
use Rattle.value_scopes.specs.declared.scopes.Scopes.{Scopes}
use Rattle.judging.specs.declared.checker.Checker.{Checker}
use Rattle.judging.specs.declared.site.Site.{Site}
use Rattle.judging.specs.Views.{View, judge, judge_at, rule, wanted_in, typed_in, kind_reached}
use Rattle.judging.proofs.Chains.{seen_as}
use Rattle.judging.proofs.Forms.{type_is}
use Rattle.judging.proofs.TypedParts.{Given, Comes, part_given, part_refused}

abbrev pub Handed : Result Given Refusal → Refusal → Type 0
Handed r e = IsErr r × IsErrAnd r (λ y. y ≡ e)

-- `if q a else b`
module _ (x : Site) (q a b : Expression ℕ) where
  abbrev test : View → Judgement Typed
  test v = judge_at x.place q (Some t.Boolean) v

  abbrev first : View → Judgement Typed
  first = judge x.place a x.wanted

  abbrev second : View → Judgement Typed
  second = judge x.place b x.wanted

  abbrev if_end : View → Typed → Typed → Typed → Judgement Typed
  if_end v d y z = Branches x.at (wanted_in v x.wanted) (type_of y ∷ type_of z ∷ []) (p.If d y z)

  abbrev if_second : View → Typed → Typed → Judgement Typed
  if_second v d y = Part (second v) (if_end v d y)

  abbrev if_first : View → Typed → Judgement Typed
  if_first v d = Part (first v) (if_second v d)

  pub if_no_test : (c d : Scopes) (k l : Checker) (e : Refusal) (r : Result Given Refusal) → Handed r e → Comes test c k d l (Err e) → Comes (rule x (p.If q a b)) c k d l r
  if_no_test c d k l e r h j = part_refused test if_first c d k l e r h j

  module _ (c d : Scopes) (k l : Checker) (g : Given) (j : Comes test c k d l (Ok g)) where
    pub if_no_first : (f : Scopes) (m : Checker) (e : Refusal) (r : Result Given Refusal) → Handed r e → Comes first d l f m (Err e) → Comes (rule x (p.If q a b)) c k f m r
    if_no_first f m e r h i = part_given test if_first c d f k l m g r j (part_refused first (λ v. if_second v (typed_in g v.later)) d f l m e r h i)

    module _ (f : Scopes) (m : Checker) (y : Given) (i : Comes first d l f m (Ok y)) where
      pub if_no_second : (s : Scopes) (n : Checker) (e : Refusal) (r : Result Given Refusal) → Handed r e → Comes second f m s n (Err e) → Comes (rule x (p.If q a b)) c k s n r
      if_no_second s n e r h o =
          part_given test if_first c d s k l n g r j (part_given first (λ v. if_second v (typed_in g v.later)) d f s l m n y r i
          (part_refused second (λ v. if_end v (typed_in g v.later) (typed_in y v.later)) f s m n e r h o))

      pub if_given : (s : Scopes) (n u : Checker) (z : Given) (r : Result Given Refusal) → Comes second f m s n (Ok z)
          → Comes (λ v. Branches x.at (wanted_in v x.wanted) (map (term v.later) (y.note.kind ∷ z.note.kind ∷ [])) (p.If (typed_in g v.later) (typed_in y v.later) (typed_in z v.later))) s n s u r
          → Comes (rule x (p.If q a b)) c k s u r
      if_given s n u z r o h =
          part_given test if_first c d s k l u g r j (part_given first (λ v. if_second v (typed_in g v.later)) d f s l m u y r i
          (part_given second (λ v. if_end v (typed_in g v.later) (typed_in y v.later)) f s s m n u z r o
          (seen_as typed_in kind_reached (λ v. if_end v (typed_in g v.later) (typed_in y v.later) (typed_in z v.later))
          (λ v. Branches x.at (wanted_in v x.wanted) (map (term v.later) (y.note.kind ∷ z.note.kind ∷ [])) (p.If (typed_in g v.later) (typed_in y v.later) (typed_in z v.later))) s s n u r
          (λ later w. ap (λ (us : List Term). Branches x.at (option_map (term later) x.wanted) us (p.If (typed_in g later) (typed_in y later) (typed_in z later)))
          (ap (λ (u : Term). u ∷ type_of (typed_in z later) ∷ []) (type_is y later) ∙ ap (λ (u : Term). term later y.note.kind ∷ u ∷ []) (type_is z later))) h)))
