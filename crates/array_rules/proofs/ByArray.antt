-- The rules of arrays by their parts.
use Rattle.std.proofs.Common.{◌≡◌, ℕ, Bool, List, Ok, Err, Option, Some, None, map}
use Rattle.std.specs.Prelude.{Result}
use Rattle.std.specs.Result.{IsErr, IsErrAnd}
use Rattle.mo_types.specs.declared.node.Node.{Node}
use Rattle.type_terms.specs.declared.form.TermId.{TermId}
use Rattle.typing_rules.specs.AbstractSyntax as p
use Rattle.typing_rules.specs.Terms.{Term}
use Rattle.typing_rules.specs.Judgements.{Judgement, Case, Gives, Part}
use Rattle.typing_rules.specs.TypedTrees.{Note, Typed, typed, types_of}
use Rattle.typing_rules.specs.Ends.{Has, wanted}
use Rattle.typing_rules.specs.Expressions.{JudgeAll}
use Rattle.type_definitions.specs.Meanings.{term}
use Rattle.type_judgements.specs.declared.refusal.Refusal.{Refusal}
use Rattle.abstract_tree.specs.declared.expressions.Expression as value
use Rattle.abstract_tree.specs.TreeView.{listed, plain}
use Rattle.value_scopes.specs.declared.scopes.Scopes.{Scopes}
use Rattle.judging.specs.declared.checker.Checker.{Checker}
use Rattle.judging.specs.declared.site.Site.{Site}
use Rattle.judging.specs.Answers.{Answers}
use Rattle.judging.specs.Heads.{WantedHas}
use Rattle.judging.specs.Views.{View, context, definitions, each_in, each_reached, kind_reached, term_in, typed_in, wanted_in}
use Rattle.judging.proofs.Cases.{as_wanted, unwanted}
use Rattle.judging.proofs.Chains.{goes_on, stops}
use Rattle.judging.proofs.TypedParts.{Given, Comes}
use Rattle.array_rules.specs.Within.{is_within}
use Rattle.array_rules.proofs.AllElements.{all_at}

abbrev pub Handed : Result Given Refusal → Refusal → Type 0
Handed r e = IsErr r × IsErrAnd r (λ z. z ≡ e)

module _ (x : Site) (items : List (value.Expression ℕ)) (w : Option TermId) where
  -- the elements, and then what follows from them
  abbrev pub AllCome : Scopes → Checker → Scopes → Checker → Result (List Given) Refusal → Type 0
  AllCome c k d l r = Answers each_in each_reached (all_at x.place items w) c k d l r

  pub no_element : (next : View → p.Expressions Note → Judgement Typed) (c d : Scopes) (k l : Checker) (e : Refusal) (r : Result Given Refusal) → Handed r e → AllCome c k d l (Err e)
      → Comes (λ v. Part (all_at x.place items w v) (next v)) c k d l r
  no_element next c d k l e r g h = stops typed_in kind_reached each_in each_reached (all_at x.place items w) next c d k l e r g h

  module _ (mutable : Bool) (kind : List Term → Judgement Term) (of : Term → Term) where
    abbrev had : View → p.Expressions Note → Term → Judgement Typed
    had v es u = Has x.at (wanted_in v x.wanted) (of u) (p.Array mutable es)

    abbrev pub having : View → p.Expressions Note → Judgement Typed
    having v es = Part (kind (types_of es)) (had v es)

    abbrev pub giving : View → Judgement Typed
    giving v = Part (all_at x.place items w v) (having v)

    module _ (c d : Scopes) (k l : Checker) (made : List Given) (h : AllCome c k d l (Ok made)) where
      pub no_kind : (m : Checker) (e : Refusal) (r : Result Given Refusal) → Handed r e → Answers term_in is_within (λ v. kind (types_of (each_in made v.later))) d l d m (Err e) → Comes giving c k d m r
      no_kind m e r g j =
          goes_on typed_in kind_reached each_in each_reached (all_at x.place items w) having c d d k l m made r h
          (stops typed_in kind_reached term_in is_within (λ v. kind (types_of (each_in made v.later))) (λ v. had v (each_in made v.later)) d d l m e r g j)

      pub array_given : (m n : Checker) (id : TermId) (r : Result Given Refusal) → Answers term_in is_within (λ v. kind (types_of (each_in made v.later))) d l d m (Ok id)
          → Comes (λ v. Has x.at (wanted_in v x.wanted) (of (term v.later id)) (p.Array mutable (each_in made v.later))) d m d n r → Comes giving c k d n r
      array_given m n id r j g =
          goes_on typed_in kind_reached each_in each_reached (all_at x.place items w) having c d d k l n made r h
          (goes_on typed_in kind_reached term_in is_within (λ v. kind (types_of (each_in made v.later))) (λ v. had v (each_in made v.later)) d d d l m n id r j g)

-- of which a type is wanted
module _ (x : Site) (items : List (value.Expression ℕ)) (mutable : Bool) (w kind : TermId) where
  abbrev pub fit_end : View → p.Expressions Note → Judgement Typed
  fit_end v es = Gives (typed x.at (term v.later w) (p.Array mutable es))

  pub array_fitted : (c d : Scopes) (k l : Checker) (made : List Given) (r : Result Given Refusal) → AllCome x items (Some kind) c k d l (Ok made)
      → Comes (λ v. Gives (typed x.at (term v.later w) (p.Array mutable (each_in made v.later)))) d l d l r → Comes (λ v. Part (all_at x.place items (Some kind) v) (fit_end v)) c k d l r
  array_fitted c d k l made r h g = goes_on typed_in kind_reached each_in each_reached (all_at x.place items (Some kind)) fit_end c d d k l l made r h g

-- by the array that is wanted, of which each element is to have the type q.1
module _ (x : Site) (items : List (value.Expression ℕ)) (mutable : Bool) (array : Node Term → Option Term) (other : View → Unit {0} → Judgement Typed) where
  abbrev fits : View → Term × Term → Judgement Typed
  fits v q = Part (JudgeAll (definitions v) (context v x.place) (listed (map plain items)) (Some q.1)) (λ es. Gives (typed x.at q.0 (p.Array mutable es)))

  abbrev pub by_array : View → Judgement Typed
  by_array v = Case (wanted (definitions v) array (wanted_in v x.wanted)) (fits v) (other v)

  module _ (c d : Scopes) (k l : Checker) (r : Result Given Refusal) (o : Option (TermId × TermId)) (h : WantedHas array k.types x.wanted term o) where
    pub array_wanted : (w kind : TermId) → o ≡ Some (w, kind) → Comes (λ v. Part (all_at x.place items (Some kind) v) (fit_end x items mutable w kind v)) c k d l r → Comes by_array c k d l r
    array_wanted w kind e g = as_wanted typed_in kind_reached array term x.wanted fits other c d k l r o h w kind e g

    pub array_unwanted : o ≡ None → Comes (λ v. other v tt) c k d l r → Comes by_array c k d l r
    array_unwanted e g = unwanted typed_in kind_reached array term x.wanted fits other c d k l r o h e g

-- where none is wanted
abbrev pub given_none : (x : Site) (items : List (value.Expression ℕ)) → Bool → (List Term → Judgement Term) → (Term → Term) → View → Unit {0} → Judgement Typed
given_none x items mutable kind of v u = giving x items None mutable kind of v
