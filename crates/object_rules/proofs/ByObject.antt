-- The rule of objects by its parts.
use Rattle.std.proofs.Common.{◌≡◌, ◌∙◌, ℕ, Bool, true, false, List, [], ◌∷◌, length, Ok, Err, Option, Some, IfSome, None, map, sym, ap, subst}
use Rattle.std.specs.Prelude.{Result}
use Rattle.std.specs.declared.vec.Vec.{Vec}
use Rattle.std.specs.Result.{IsErr, IsErrAnd}
use Rattle.mo_types.specs.declared.node.Field.{Field}
use Rattle.mo_types.specs.Heads.{object_of}
use Rattle.mo_types.specs.Sub.{Each}
use Rattle.mo_subtype.specs.Renamed.{on_field}
use Rattle.type_terms.specs.declared.form.Form.TheVariants as variants
use Rattle.type_terms.specs.declared.form.TermId.{TermId}
use Rattle.type_terms.specs.Layouts.{layout}
use Rattle.type_terms.specs.Tables.{PartsBelow}
use Rattle.typing_rules.specs.declared.condition.Condition.TheVariants as condition
use Rattle.typing_rules.specs.AbstractSyntax as p
use Rattle.typing_rules.specs.Ends.{Has}
use Rattle.typing_rules.specs.Expressions.{JudgeFields, all_there}
use Rattle.typing_rules.specs.Judgements.{Judgement, Gives, Part, Tests}
use Rattle.typing_rules.specs.Terms.{Term}
use Rattle.typing_rules.specs.Terms as t
use Rattle.typing_rules.specs.TypedTrees.{Note, Typed, field_types, typed}
use Rattle.type_definitions.specs.Meanings.{term}
use Rattle.type_scopes.specs.Scopes.{seen}
use Rattle.met_types.specs.States.{IsReached, State}
use Rattle.type_judgements.specs.declared.refusal.Refusal.{Refusal}
use Rattle.type_judgements.specs.declared.refusal.Refusal.TheVariants as refusal
use Rattle.abstract_tree.specs.declared.expressions.ObjectField.{ObjectField}
use Rattle.abstract_tree.specs.TreeView.{fields, plain_field}
use Rattle.value_scopes.specs.declared.scopes.Scopes.{Scopes}
use Rattle.judging.specs.declared.checker.Checker.{Checker}
use Rattle.judging.specs.declared.site.Site.{Site}
use Rattle.judging.specs.Heads.{WantedHas}
use Rattle.judging.specs.Parts.{Sound}
use Rattle.judging.specs.Views.{View, view, context, definitions, kind_reached, rule, typed_in, wanted_in}
use Rattle.judging.proofs.Cases.{as_wanted, unwanted}
use Rattle.judging.proofs.Chains.{fails, goes_on, seen_as, stops}
use Rattle.judging.proofs.Steps.{reached_within}
use Rattle.judging.proofs.TypedParts.{Given, Comes}
use Rattle.proper_types.proofs.Turns.{part_assoc}
use Rattle.object_rules.specs.declared.fields.MadeFields.{MadeFields}
use Rattle.object_rules.specs.Values.{fields_in, judge_fields, kinds_in, made_in, made_reached, wants, with_types}
use Rattle.object_rules.proofs.Fielding as fielding

abbrev pub Handed : Result Given Refusal → Refusal → Type 0
Handed r e = IsErr r × IsErrAnd r (λ y. y ≡ e)

abbrev pub items_of : {X Z : Type 0} → Vec X Z → List X
items_of v = v.items

-- the types of the fields that are wanted were met
pub fields_reached : (s : State) {Y : Type 0} (of_fields : Y → List (Field TermId)) (o : Option (TermId × Y)) (w : TermId) (y : Y) → o ≡ Some (w, y) → IfSome o (λ q. Each (λ g. IsReached s g.part) (of_fields q.1))
    → Each (λ g. IsReached s g.part) (of_fields y)
fields_reached s {Y} of_fields o w y e h = subst (λ (q : Option (TermId × Y)). IfSome q (λ z. Each (λ g. IsReached s g.part) (of_fields z.1))) e h

-- the types of fields are terms of the table
pub below_object : (k : Checker) (c : Scopes) (gs : List (Field TermId)) → Sound k c → Each (λ g. IsReached k.types g.part) gs → PartsBelow (length k.types.forms) (variants.Object gs)
unfolding layout
below_object k c [] s h = tt
below_object k c (g ∷ gs) s h = (reached_within k.types g.part s.known.kept h.0, below_object k c gs s h.1)

module _ (x : Site) (xs : List (ObjectField ℕ)) (ws : List (Field TermId)) where
  abbrev of : View → Judgement (p.ObjectFields Note)
  of = judge_fields x.place xs ws

  abbrev pub both : View → Judgement (fielding.Seen)
  both = with_types x.place xs ws

  -- ---- no object is wanted

  abbrev had : View → p.ObjectFields Note → Judgement Typed
  had v fs = Has x.at (wanted_in v x.wanted) (t.Object (field_types (seen v.scopes.types) fs)) (p.Object fs)

  abbrev has_both : View → fielding.Seen → Judgement Typed
  has_both v q = Has x.at (wanted_in v x.wanted) (t.Object q.1) (p.Object q.0)

  abbrev pub gives : View → Judgement Typed
  gives v = Part (of v) (had v)

  -- ---- one of this type is wanted

  abbrev fitted : TermId → View → p.ObjectFields Note → Judgement Typed
  fitted w v fs = Gives (typed x.at (term v.later w) (p.Object fs))

  abbrev pub fits : TermId → View → Judgement Typed
  fits w v = Tests condition.Mismatch x.at (all_there (fields (map plain_field xs)) (wants ws v.later)) (Part (of v) (fitted w v))

  module _ (c d : Scopes) (k l : Checker) where
    by_types : (r : Result Given Refusal) → Comes (λ v. Part (both v) (has_both v)) c k d l r → Comes gives c k d l r
    by_types r h =
        seen_as typed_in kind_reached gives (λ v. Part (both v) (has_both v)) c d k l r
        (λ later z.
        let v = view later k.types.listed c in
        sym (part_assoc (of v) (λ fs. Gives (fs, field_types (seen c.types) fs)) (has_both v))) h

    pub not_given : (e : Refusal) (r : Result Given Refusal) → Handed r e → fielding.Comes both c k d l (Err e) → Comes gives c k d l r
    not_given e r g h = by_types r (stops typed_in kind_reached made_in made_reached both has_both c d k l e r g h)

    pub not_there : (w : TermId) (b : Bool) → ((at : TermId → Term) → b ≡ all_there (fields (map plain_field xs)) (map (on_field at) ws)) → b ≡ false → Comes (fits w) c k c k (Err (refusal.False x.at condition.Mismatch))
    not_there w b e g =
        fails typed_in kind_reached (fits w) c k condition.Mismatch x.at
        (λ later z.
        let v = view later k.types.listed c in
        ap (λ (y : Bool). Tests condition.Mismatch x.at y (Part (of v) (fitted w v))) (sym (e (term later)) ∙ g))

    module _ (w : TermId) (b : Bool) (e : (at : TermId → Term) → b ≡ all_there (fields (map plain_field xs)) (map (on_field at) ws)) (g : b ≡ true) where
      by_fields : (r : Result Given Refusal) → Comes (λ v. Part (both v) (λ q. fitted w v q.0)) c k d l r → Comes (fits w) c k d l r
      by_fields r h =
          seen_as typed_in kind_reached (fits w) (λ v. Part (both v) (λ q. fitted w v q.0)) c d k l r
          (λ later z.
          let v = view later k.types.listed c in
          ap (λ (y : Bool). Tests condition.Mismatch x.at y (Part (of v) (fitted w v))) (sym (e (term later)) ∙ g)
          ∙ sym (part_assoc (of v) (λ fs. Gives (fs, field_types (seen c.types) fs)) (λ q. fitted w v q.0))) h

      pub not_fitting : (q : Refusal) (r : Result Given Refusal) → Handed r q → fielding.Comes both c k d l (Err q) → Comes (fits w) c k d l r
      not_fitting q r i h = by_fields r (stops typed_in kind_reached made_in made_reached both (λ v y. fitted w v y.0) c d k l q r i h)

  module _ (c d : Scopes) (k l : Checker) (m : MadeFields) (h : fielding.Comes both c k d l (Ok m)) where
    pub is_given : (o : Checker) (r : Result Given Refusal)
        → Comes (λ v. Has x.at (wanted_in v x.wanted) (t.Object (kinds_in m.kinds v.later)) (p.Object (fields_in m.fields v.later))) d l d o r → Comes gives c k d o r
    is_given o r j = by_types c d k o r (goes_on typed_in kind_reached made_in made_reached both has_both c d d k l o m r h j)

    pub is_fitting : (w : TermId) (b : Bool) → ((at : TermId → Term) → b ≡ all_there (fields (map plain_field xs)) (map (on_field at) ws)) → b ≡ true → (r : Result Given Refusal)
        → Comes (λ v. Gives (typed x.at (term v.later w) (p.Object (fields_in m.fields v.later)))) d l d l r → Comes (fits w) c k d l r
    is_fitting w b e g r j = by_fields c d k l w b e g r (goes_on typed_in kind_reached made_in made_reached both (λ v y. fitted w v y.0) c d d k l l m r h j)

-- ---- whether an object is wanted

module _ (x : Site) (xs : List (ObjectField ℕ)) (c d : Scopes) (k l : Checker) (r : Result Given Refusal) where
  abbrev when_wanted : View → Term × List (Field Term) → Judgement Typed
  when_wanted v q =
      Tests condition.Mismatch x.at (all_there (fields (map plain_field xs)) q.1)
      (Part (JudgeFields (definitions v) (context v x.place) (fields (map plain_field xs)) q.1) (λ fs. Gives (typed x.at q.0 (p.Object fs))))

  abbrev otherwise : View → Unit {0} → Judgement Typed
  otherwise v _ = gives x xs [] v

  module _ {Y : Type 0} (of_fields : Y → List (Field TermId)) (o : Option (TermId × Y)) (h : WantedHas object_of k.types x.wanted (λ later y. map (on_field (term later)) (of_fields y)) o) where
    pub object_wanted : (w : TermId) (y : Y) → o ≡ Some (w, y) → Comes (fits x xs (of_fields y) w) c k d l r → Comes (rule x (p.Object (fields (map plain_field xs)))) c k d l r
    object_wanted w y e g = as_wanted typed_in kind_reached object_of (λ later z. map (on_field (term later)) (of_fields z)) x.wanted when_wanted otherwise c d k l r o h w y e g

    pub object_unwanted : o ≡ None → Comes (gives x xs []) c k d l r → Comes (rule x (p.Object (fields (map plain_field xs)))) c k d l r
    object_unwanted e g = unwanted typed_in kind_reached object_of (λ later z. map (on_field (term later)) (of_fields z)) x.wanted when_wanted otherwise c d k l r o h e g
