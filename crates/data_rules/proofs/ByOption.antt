-- The rules of options by their parts.
use Rattle.std.proofs.Common.{◌≡◌, ℕ, Ok, Err, Option, Some, None, option_map, ap}
use Rattle.std.specs.Prelude.{Result}
use Rattle.std.specs.Result.{IsErr, IsErrAnd}
use Rattle.mo_types.specs.Heads.{opt_of}
use Rattle.type_terms.specs.declared.form.TermId.{TermId}
use Rattle.typing_rules.specs.AbstractSyntax.{Expression}
use Rattle.typing_rules.specs.AbstractSyntax as p
use Rattle.typing_rules.specs.Terms.{Term}
use Rattle.typing_rules.specs.Terms as t
use Rattle.typing_rules.specs.Judgements.{Judgement, Case, Gives, Part}
use Rattle.typing_rules.specs.TypedTrees.{Note, Typed, type_of, typed}
use Rattle.typing_rules.specs.Ends.{Has, wanted}
use Rattle.type_definitions.specs.Meanings.{term}
use Rattle.type_judgements.specs.declared.refusal.Refusal.{Refusal}
use Rattle.value_scopes.specs.declared.place.Place.{Place}
use Rattle.value_scopes.specs.declared.scopes.Scopes.{Scopes}
use Rattle.judging.specs.declared.checker.Checker.{Checker}
use Rattle.judging.specs.declared.site.Site.{Site}
use Rattle.judging.specs.Heads.{WantedHas}
use Rattle.judging.specs.Views.{View, definitions, judge, judge_at, kind_reached, typed_in, wanted_in}
use Rattle.judging.proofs.Cases.{as_wanted, unwanted}
use Rattle.judging.proofs.Chains.{seen_as}
use Rattle.judging.proofs.Forms.{type_is}
use Rattle.judging.proofs.TypedParts.{Given, Comes, part_given, part_refused}

-- an option, of which `a` is the part, where it stands at this place, and where this is the form
module _ (x : Site) (y : Place) (a : Expression ℕ) (form : Typed → p.Form Note) where
  abbrev fitted : View → Term → Typed → Judgement Typed
  fitted v w b = Gives (typed x.at w (form b))

  abbrev fitting : View → Term × Term → Judgement Typed
  fitting v q = Part (judge_at y a (Some q.1) v) (fitted v q.0)

  abbrev had : View → Typed → Judgement Typed
  had v b = Has x.at (wanted_in v x.wanted) (t.Optional (type_of b)) (form b)

  abbrev having : View → Unit {0} → Judgement Typed
  having v u = Part (judge y a None v) (had v)

  abbrev pub by_option : View → Judgement Typed
  by_option v = Case (wanted (definitions v) opt_of (wanted_in v x.wanted)) (fitting v) (having v)

  module _ (c d : Scopes) (k l : Checker) (o : Option (TermId × TermId)) (h : WantedHas opt_of k.types x.wanted term o) where
    pub fits_refused : (w part : TermId) (e : Refusal) (r : Result Given Refusal) → o ≡ Some (w, part) → IsErr r × IsErrAnd r (λ z. z ≡ e) → Comes (judge y a (Some part)) c k d l (Err e) → Comes by_option c k d l r
    fits_refused w part e r i g j =
        as_wanted typed_in kind_reached opt_of term x.wanted fitting having c d k l r o h w part i
        (part_refused (judge y a (Some part)) (λ v. fitted v (term v.later w)) c d k l e r g j)

    pub fits_given : (w part : TermId) (b : Given) (r : Result Given Refusal) → o ≡ Some (w, part) → Comes (judge y a (Some part)) c k d l (Ok b)
        → Comes (λ v. Gives (typed x.at (term v.later w) (form (typed_in b v.later)))) d l d l r → Comes by_option c k d l r
    fits_given w part b r i j g =
        as_wanted typed_in kind_reached opt_of term x.wanted fitting having c d k l r o h w part i
        (part_given (judge y a (Some part)) (λ v. fitted v (term v.later w)) c d d k l l b r j g)

    pub has_refused : (e : Refusal) (r : Result Given Refusal) → o ≡ None → IsErr r × IsErrAnd r (λ z. z ≡ e) → Comes (judge y a None) c k d l (Err e) → Comes by_option c k d l r
    has_refused e r i g j = unwanted typed_in kind_reached opt_of term x.wanted fitting having c d k l r o h i (part_refused (judge y a None) had c d k l e r g j)

    pub has_given : (n : Checker) (b : Given) (r : Result Given Refusal) → o ≡ None → Comes (judge y a None) c k d l (Ok b)
        → Comes (λ v. Has x.at (wanted_in v x.wanted) (t.Optional (term v.later b.note.kind)) (form (typed_in b v.later))) d l d n r → Comes by_option c k d n r
    has_given n b r i j g =
        unwanted typed_in kind_reached opt_of term x.wanted fitting having c d k n r o h i
        (part_given (judge y a None) had c d d k l n b r j
        (seen_as typed_in kind_reached (λ v. had v (typed_in b v.later)) (λ v. Has x.at (wanted_in v x.wanted) (t.Optional (term v.later b.note.kind)) (form (typed_in b v.later))) d d l n r
        (λ later z. ap (λ (u : Term). Has x.at (option_map (term later) x.wanted) (t.Optional u) (form (typed_in b later))) (type_is b later)) g))
