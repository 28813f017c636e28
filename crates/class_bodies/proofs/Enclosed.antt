-- The parameters of a class, and its fields with their names.
use Rattle.std.proofs.Common.{◌≡◌, ℕ, false, List, [], length, Ok, Err, None, refl, sym, ap, subst}
use Rattle.std.specs.Prelude.{Result}
use Rattle.type_terms.specs.declared.form.Form.{Form}
use Rattle.typing_rules.specs.AbstractSyntax.{Declarations, Pattern, Patterns}
use Rattle.typing_rules.specs.AsyncPlaces.{Local}
use Rattle.typing_rules.specs.Contexts.{Scope, in_body}
use Rattle.typing_rules.specs.Judgements.{Gives, Judgement, Part}
use Rattle.typing_rules.specs.PublicFields.{PublicFields}
use Rattle.typing_rules.specs.Terms.{Term}
use Rattle.typing_rules.specs.TypedTrees.{Note}
use Rattle.type_definitions.specs.Definitions.{rules_in}
use Rattle.type_judgements.specs.declared.refusal.Refusal.{Refusal}
use Rattle.abstract_tree.specs.declared.declarations.Declaration as value
use Rattle.value_scopes.specs.declared.place.Place.{Place}
use Rattle.value_scopes.specs.declared.scopes.Scopes.{Scopes}
use Rattle.value_scopes.specs.Places.{context_in}
use Rattle.value_scopes.specs.Values.{scope_in}
use Rattle.value_scopes.proofs.Seeing.{scope_joined}
use Rattle.typed_patterns.specs.Binding.{Names}
use Rattle.signatures.specs.declared.taking.Taken.{Taken}
use Rattle.signatures.specs.Taking.{taken_in}
use Rattle.judging.specs.declared.checker.Checker.{Checker}
use Rattle.judging.specs.Parts.{Sound}
use Rattle.judging.specs.Views.{View, view}
use Rattle.judging.specs.Answers.{Answers}
use Rattle.judging.proofs.Chains.{given}
use Rattle.scope_judging.specs.Binding.{Binds, under}
use Rattle.scope_judging.proofs.Under.{given_under, refused_under, sound_back, sound_under, unbound}
use Rattle.signature_judging.specs.Rules.{parameters}
use Rattle.list_judging.specs.declared.part.MadeList.{MadeList}
use Rattle.list_judging.specs.Lists.{list_in, list_of, list_reached, seen_list}
use Rattle.function_bodies.proofs.First.{Handed}
use Rattle.class_bodies.specs.declared.classes.Fields.{Fields}
use Rattle.class_bodies.specs.Classes.{any_fields, class_fields, class_parts, fields_in, public_under}

module _ (y : Place) (at : ℕ) (qs : List (Pattern ℕ)) (xs : List (value.Declaration ℕ)) where
  abbrev fields : Scope → View → Judgement (Term × Declarations Note)
  fields names v = public_under y at xs names v

  abbrev both : View → List Term × Patterns Note → Term × Declarations Note → Judgement ((List Term × Patterns Note) × (Term × Declarations Note))
  both v r z = Gives (r, z)

  abbrev pub parted : View → Judgement ((List Term × Patterns Note) × (Term × Declarations Note))
  parted = class_parts y at qs xs

  pub no_parameters : (c d f : Scopes) (k l : Checker) (e : Refusal) (r : Result Fields Refusal) → Handed r e → Binds taken_in (parameters qs []) c k d l (Err e) → Answers fields_in any_fields parted c k f l r
  no_parameters c d f k l e r g h = unbound fields_in any_fields list_in list_reached taken_in (parameters qs []) fields both c d f k l e r g h

  module _ (c d : Scopes) (k l : Checker) (m : Taken) (h : Binds taken_in (parameters qs []) c k d l (Ok m)) where
    -- what follows can be judged with the names
    pub sound_there : Sound l d
    sound_there = subst (λ (z : Scopes). Sound l z) (sym h.pushed) (sound_under h.more c l h.answer.outcome.sound h.answer.outcome.holds)

    abbrev with_names : List Form → Scope → Judgement (Term × Declarations Note)
    with_names later names = Part (PublicFields (seen_list xs)) (λ u. list_of (rules_in later l.types.listed) (record (in_body Local None [] (context_in later c y)) { values = names }) at false (seen_list xs) None)

    same : (later : List Form) → fields (scope_in later h.more) (view later l.types.listed c) ≡ class_fields at xs (view later l.types.listed (under h.more c))
    same later = ap (with_names later) (sym (scope_joined later h.more c.values))

    pub no_fields : (e f : Scopes) (o : Checker) (q : Refusal) (r : Result Fields Refusal) → Handed r q → Answers list_in list_reached (class_fields at xs) d l e o (Err q) → Answers fields_in any_fields parted c k f o r
    no_fields e f o q r g j = refused_under fields_in any_fields list_in list_reached taken_in (parameters qs []) fields both c d k l m h (class_fields at xs) same e f o q r g j

    pub fields_given : (e f : Scopes) (o : Checker) (z : MadeList) (count : ℕ) → ((more : Names) (w : Scopes) → e ≡ under more w → count ≡ length w.values → f ≡ w) → count ≡ length c.values
        → Answers list_in list_reached (class_fields at xs) d l e o (Ok z) → Answers fields_in any_fields parted c k f o (Ok (record { taken = m; list = z }))
    fields_given e f o z count u w j =
        given_under fields_in any_fields list_in list_reached taken_in (parameters qs []) fields both c d k l m h (class_fields at xs) same e f o z count u w j f o (Ok (record { taken = m; list = z }))
        (given fields_in any_fields (λ v. both v (taken_in m v.later) (list_in z v.later)) f o (record { taken = m; list = z })
        (sound_back fields_in any_fields list_in list_reached taken_in (parameters qs []) fields both c d k l m h (class_fields at xs) same e f o z count u w j)
        tt (λ later x. refl))
