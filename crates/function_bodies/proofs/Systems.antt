-- System functions.
use Rattle.std.proofs.Common.{◌≡◌, ◌∙◌, ℕ, List, [], Ok, Err, map, sym, ap}
use Rattle.std.specs.Prelude.{Result}
use Rattle.type_terms.specs.declared.form.TermId.{TermId}
use Rattle.typing_rules.specs.AbstractSyntax.{Expression, Named}
use Rattle.typing_rules.specs.AbstractSyntax as p
use Rattle.typing_rules.specs.Judgements.{Gives, Judgement, Part}
use Rattle.typing_rules.specs.Lists as rules
use Rattle.typing_rules.specs.Terms.{Term, unit}
use Rattle.typing_rules.specs.TypedTrees.{Note, Typed, note}
use Rattle.type_definitions.specs.Meanings.{term}
use Rattle.met_types.specs.States.{State}
use Rattle.type_judgements.specs.declared.refusal.Refusal.{Refusal}
use Rattle.abstract_types.specs.declared.names.PlacedName.{PlacedName}
use Rattle.abstract_types.specs.TypeView.{named}
use Rattle.abstract_tree.specs.declared.declarations.DeclarationForm.TheVariants as declaration
use Rattle.abstract_tree.specs.declared.expressions.Expression as value
use Rattle.value_scopes.specs.declared.note.Note as value_note
use Rattle.value_scopes.specs.declared.place.Body.TheVariants as body
use Rattle.value_scopes.specs.declared.place.Place.{Place}
use Rattle.value_scopes.specs.declared.scopes.Scopes.{Scopes}
use Rattle.value_scopes.specs.Values.{noted}
use Rattle.written_types.specs.Written.{Wrote}
use Rattle.judging.specs.declared.checker.Checker.{Checker}
use Rattle.judging.specs.Views.{View, kind_reached, typed_in}
use Rattle.judging.specs.Answers.{Answers}
use Rattle.judging.proofs.Chains.{given, goes_on, stops}
use Rattle.body_judging.specs.Bodies as bodies
use Rattle.body_judging.specs.Bodies.{body_under}
use Rattle.order_rules.specs.declared.entries.MadeDeclaration.{MadeDeclaration}
use Rattle.order_rules.specs.Entries.{made_in}
use Rattle.order_rules.proofs.Declarations.{seen_System}
use Rattle.function_bodies.specs.Bodies.{any_made, body_in, judge_body}
use Rattle.function_bodies.proofs.First.{Handed, here, made_first}

-- ---- system functions

module _ (y : Place) (at : ℕ) (x : Named) (a : Expression ℕ) (rest : List MadeDeclaration) where
  abbrev pub system : View → Judgement (rules.Made × List rules.Made)
  system = judge_body y at (p.System x a) rest

  abbrev system_end : View → Term → Typed → Judgement (rules.Made × List rules.Made)
  system_end v u z = Gives ((note at u, p.System x z), map (made_in v.later) rest)

  abbrev system_of : View → Term → Judgement (rules.Made × List rules.Made)
  system_of v u = Part (body_under y body.Local u a [] v) (system_end v u)

  module _ (c : Scopes) (k : Checker) (t : State) (id : TermId) (w : Wrote k.types t unit id) where
    from_unit : (d : Scopes) (l : Checker) (r : Result MadeDeclaration Refusal) → Answers (body_in rest) any_made (λ v. system_of v (term v.later id)) c (here k t) d l r → Answers (body_in rest) any_made system c k d l r
    from_unit d l r h = made_first (body_in rest) any_made (λ v. unit) system_of c d k l t id r w.same (λ later z. w.made.is later z) h

    pub system_not : (d : Scopes) (l : Checker) (e : Refusal) (r : Result MadeDeclaration Refusal) → Handed r e → Answers typed_in kind_reached (bodies.judge_body body.Local id a) c (here k t) d l (Err e) → Answers (body_in rest) any_made system c k d l r
    system_not d l e r h j = from_unit d l r (stops (body_in rest) any_made typed_in kind_reached (bodies.judge_body body.Local id a) (λ v. system_end v (term v.later id)) c d (here k t) l e r h j)

    pub system_given : (d : Scopes) (l : Checker) (z : value.Expression value_note.Note) → Answers typed_in kind_reached (bodies.judge_body body.Local id a) c (here k t) d l (Ok z) → (copy : PlacedName) → named copy ≡ x
        → Answers (body_in rest) any_made system c k d l (Ok (record { note = record { at = at; kind = id }; form = declaration.System copy z }))
    system_given d l z j copy f =
        let made : MadeDeclaration = record { note = record { at = at; kind = id }; form = declaration.System copy z } in
        from_unit d l (Ok made)
        (goes_on (body_in rest) any_made typed_in kind_reached (bodies.judge_body body.Local id a) (λ v. system_end v (term v.later id)) c d d (here k t) l l z (Ok made) j
        (given (body_in rest) any_made (λ v. system_end v (term v.later id) (typed_in z v.later)) d l made j.outcome.sound tt
        (λ later q. sym (ap (λ (w : p.Declaration Note). Gives ((note at (term later id), w), map (made_in later) rest)) (seen_System (λ n. noted later n) copy z ∙ ap (λ (n : Named). p.System n (typed_in z later)) f)))))
