-- Objects with a name.
use Rattle.std.proofs.Common.{◌≡◌, ◌∙◌, ℕ, Bool, false, List, [], ◌∷◌, Ok, Err, Some, None, refl, sym, ap}
use Rattle.std.specs.Prelude.{Result}
use Rattle.std.specs.Result.{IsErr, IsErrAnd}
use Rattle.typing_rules.specs.AbstractSyntax.{Named}
use Rattle.typing_rules.specs.AbstractSyntax as p
use Rattle.typing_rules.specs.Contexts.{constant}
use Rattle.typing_rules.specs.Judgements.{Fine, Gives, Judgement, Meets, Part}
use Rattle.typing_rules.specs.Lists as rules
use Rattle.typing_rules.specs.PublicFields.{PublicFields}
use Rattle.typing_rules.specs.Terms.{Term}
use Rattle.typing_rules.specs.TypedTrees.{Note, note}
use Rattle.type_definitions.specs.Meanings.{term}
use Rattle.met_types.specs.States.{Goes, IsReached, Kept, State}
use Rattle.type_judgements.specs.Judged.{Judged}
use Rattle.type_judgements.specs.LeftBehind.{LeavesOn}
use Rattle.type_judgements.specs.declared.refusal.Refusal.{Refusal}
use Rattle.abstract_types.specs.declared.names.PlacedName.{PlacedName}
use Rattle.abstract_types.specs.TypeView.{named}
use Rattle.abstract_tree.specs.declared.declarations.Declaration as value
use Rattle.abstract_tree.specs.declared.declarations.DeclarationForm.TheVariants as form
use Rattle.value_scopes.specs.declared.scopes.Scopes.{Scopes}
use Rattle.value_scopes.specs.Values.{noted}
use Rattle.typed_patterns.specs.Binding.{Names}
use Rattle.proper_types.proofs.Turns.{part_assoc}
use Rattle.typed_patterns.proofs.Standing.{behind_alike}
use Rattle.judging.specs.declared.checker.Checker.{Checker}
use Rattle.judging.specs.declared.site.Site.{Site}
use Rattle.judging.specs.Parts.{Sound}
use Rattle.judging.specs.Views.{View, context, definitions, no_more, nothing, view}
use Rattle.judging.specs.Answers.{Answers}
use Rattle.judging.proofs.Steps.{refused_as, sound_on}
use Rattle.scope_judging.specs.Binding.{under}
use Rattle.list_judging.specs.declared.part.MadeList.{MadeList}
use Rattle.list_judging.specs.Lists.{declarations_in, list_in, list_of, seen_list}
use Rattle.block_rules.specs.Objects.{judge_object, object_term, object_within}
use Rattle.order_rules.specs.declared.entries.Entry.{Entry}
use Rattle.order_rules.specs.Entries.{Enters, entry_in, entry_reached, judge_one}
use Rattle.order_rules.proofs.Declarations.{seen_NamedObject}
use Rattle.order_rules.proofs.Entering.{enters_as, enters_given, enters_then, stops_entering}

module _ (x : Site) (at : ℕ) (name : Named) (xs : List (value.Declaration ℕ)) (last : Bool) where
  abbrev pub object_of : View → Judgement rules.Entry
  object_of = judge_one x at (p.NamedObject name (seen_list xs)) last

  abbrev fields : View → Judgement (Term × p.Declarations Note)
  fields = judge_object x.place at xs

  abbrev list : View → Judgement (Term × p.Declarations Note)
  list v = list_of (definitions v) (context v x.place) at false (seen_list xs) None

  abbrev with_kind : View → Term × p.Declarations Note → Judgement (Term × p.Declarations Note)
  with_kind v q = Gives (object_term xs v.scopes, q.1)

  abbrev entering : Term → p.Declarations Note → Judgement rules.Entry
  entering u ds = Gives (rules.entry ((name.bytes, constant u) ∷ []) (note at u) (p.NamedObject name ds))

  abbrev met : View → Term × p.Declarations Note → Judgement rules.Entry
  met v q = Part (Meets q.0 Fine) (λ w. entering q.0 q.1)

  same_object : (v : View) → object_of v ≡ Part (fields v) (met v)
  same_object v =
      sym (part_assoc (PublicFields (seen_list xs)) (λ u. Part (list v) (with_kind v)) (met v)
      ∙ behind_alike (PublicFields (seen_list xs)) (λ u. Part (Part (list v) (with_kind v)) (met v)) (λ u. Part (list v) (λ q. met v (object_term xs v.scopes, q.1)))
      (λ u. part_assoc (list v) (with_kind v) (met v)))

  as_object : (c d : Scopes) (k l : Checker) (r : Result Entry Refusal) → Enters entry_in entry_reached (λ v. Part (fields v) (met v)) c k d l r → Enters entry_in entry_reached object_of c k d l r
  as_object c d k l r g = enters_as entry_in entry_reached object_of (λ v. Part (fields v) (met v)) c d k l r (λ later w. same_object (view later k.types.listed c)) g

  pub no_fields : (c d f : Scopes) (k l : Checker) (e : Refusal) (r : Result Entry Refusal) → IsErr r × IsErrAnd r (λ z. z ≡ e) → Answers list_in object_within fields c k d l (Err e)
      → Enters entry_in entry_reached object_of c k f l r
  no_fields c d f k l e r g j = as_object c f k l r (stops_entering entry_in entry_reached list_in object_within fields met c d f k l e r g j)

  module _ (c d : Scopes) (k l : Checker) (made : MadeList) (j : Answers list_in object_within fields c k d l (Ok made)) where
    abbrev meeting : View → Judgement (Unit {0})
    meeting v = Meets (term v.later made.kind) Fine

    abbrev behind : View → Unit {0} → Judgement rules.Entry
    behind v w = entering (term v.later made.kind) (declarations_in made.declarations v.later)

    from_meeting : (e : Scopes) (m : Checker) (r : Result Entry Refusal) → Enters entry_in entry_reached (λ v. Part (meeting v) (behind v)) d l e m r → Enters entry_in entry_reached object_of c k e m r
    from_meeting e m r g = as_object c e k m r (enters_then entry_in entry_reached list_in object_within fields met c d e k l m made r j g)

    pub unmet : (f : Scopes) (t : State) (y : Refusal) (r : Result Entry Refusal) → IsErr r × IsErrAnd r (λ z. z ≡ y) → LeavesOn l.types t y
        → Judged (λ later. Meets (term later made.kind) Fine) l.types t (λ (made : Unit {0}) later. made) (Err y) → Enters entry_in entry_reached object_of c k f (record l { types = t }) r
    unmet f t y r g left h =
        from_meeting f (record l { types = t }) r
        (stops_entering entry_in entry_reached nothing no_more meeting behind d d f l (record l { types = t }) y r g
        (refused_as nothing no_more (λ later. Meets (term later made.kind) Fine) nothing d d l (record l { types = t }) y left h))

    module _ (copy : PlacedName) (e : named copy ≡ name) where
      abbrev pub object_made : Entry
      object_made = record { value = None; made = Some (record { note = record { at = at; kind = made.kind }; form = form.NamedObject copy made.declarations }) }

      abbrev pub one : Names
      one = (name.bytes, record { kind = made.kind; mutable = false; generics = [] }) ∷ []

      abbrev later_checker : State → Checker
      later_checker t = record l { types = t }

      pub object_given : (g : Scopes) (t : State) → g ≡ under one d → Kept t → Goes l.types t → IsReached t made.kind → Judged (λ later. Meets (term later made.kind) Fine) l.types t (λ (made : Unit {0}) later. made) (Ok tt)
          → Enters entry_in entry_reached object_of c k g (later_checker t) (Ok object_made)
      object_given g t q kept goes i h =
          let sound : Sound (later_checker t) d = sound_on l d t j.outcome.sound kept goes in
          from_meeting g (later_checker t) (Ok object_made)
          (enters_then entry_in entry_reached nothing no_more meeting behind d d g l (later_checker t) (later_checker t) tt (Ok object_made) (record { outcome = record { sound = sound; same = refl; goes = goes; holds = tt; gave = h } })
          (enters_given entry_in entry_reached (λ v. behind v tt) d g (later_checker t) one object_made sound tt (i, tt) q
          (λ later w.
          ap (λ (z : p.Declaration Note). Gives (rules.entry ((name.bytes, constant (term later made.kind)) ∷ []) (note at (term later made.kind)) z)) (sym (seen_NamedObject (λ n. noted later n) copy made.declarations
          ∙ ap (λ (z : Named). p.NamedObject z (declarations_in made.declarations later)) e)))))
