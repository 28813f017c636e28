-- The rule of annotated expressions by its parts.
use Rattle.std.proofs.Common.{◌≡◌, ◌∙◌, ℕ, Bool, true, false, Ok, Err, Some, None, is_some, sym, ap, subst}
use Rattle.std.specs.Prelude.{Result}
use Rattle.std.specs.Result.{IsErr, IsErrAnd}
use Rattle.mo_types.specs.Heads.{actor_of}
use Rattle.type_terms.specs.declared.form.TermId.{TermId}
use Rattle.typing_rules.specs.declared.condition.Condition.TheVariants as condition
use Rattle.typing_rules.specs.AbstractSyntax.{Bytes, Expression, TypeNode}
use Rattle.typing_rules.specs.AbstractSyntax as p
use Rattle.typing_rules.specs.Expressions.{actor_text}
use Rattle.typing_rules.specs.Heads.{head}
use Rattle.typing_rules.specs.Judgements.{Judgement, Fine, Gives, IsPrincipal, Needs, Part, Tests}
use Rattle.typing_rules.specs.TypedTrees.{Typed, place, typed}
use Rattle.typing_rules.specs.Ends.{Has}
use Rattle.type_definitions.specs.Meanings.{term}
use Rattle.met_types.specs.States.{IsReached}
use Rattle.type_judgements.specs.Judged.{Judged}
use Rattle.type_judgements.specs.declared.refusal.Refusal.{Refusal}
use Rattle.type_judgements.specs.declared.refusal.Refusal.TheVariants as refusal
use Rattle.abstract_tree.specs.declared.expressions.Expression as value
use Rattle.abstract_tree.specs.TreeView.{plain}
use Rattle.abstract_tree.proofs.TreeViews.{expression_is}
use Rattle.value_scopes.specs.declared.scopes.Scopes.{Scopes}
use Rattle.judging.specs.declared.checker.Checker.{Checker}
use Rattle.judging.specs.declared.site.Site.{Site}
use Rattle.judging.specs.Answers.{Answers}
use Rattle.judging.specs.Parts.{Sound}
use Rattle.judging.specs.Views.{View, view, definitions, judge, kind_reached, no_more, nothing, rule, term_in, typed_in, wanted_in}
use Rattle.judging.proofs.Cases.{case_none, case_some}
use Rattle.judging.proofs.Chains.{fails, goes_on, seen_as, stops}
use Rattle.judging.proofs.Steps.{judged_as, needs_then}
use Rattle.judging.proofs.TypedParts.{Given, Comes, part_given, part_refused}
use Rattle.scope_judging.specs.Rules.{reads}
use Rattle.annotation_rules.specs.Actors.{IsActorAnswer, actor_in, annotated_in, value_in}

abbrev pub Handed : Result Given Refusal → Refusal → Type 0
Handed r e = IsErr r × IsErrAnd r (λ z. z ≡ e)

pub place_is : (a : value.Expression ℕ) → place (plain a) ≡ a.note
place_is a = ap place (expression_is a)

-- ---- an actor reference

module _ (x : Site) (at : ℕ) (text : Bytes) (u : TypeNode) (id : TermId) where
  abbrev actor_end : View → Typed → Judgement Typed
  actor_end v b = Has x.at (wanted_in v x.wanted) (term v.later id) (p.Annotated b u)

  abbrev pub referred : View → Judgement Typed
  referred v = Gives (typed at (term v.later id) (p.ActorReference text))

  abbrev refers : View → Unit {0} → Judgement Typed
  refers v z = Part (referred v) (actor_end v)

  abbrev asked : View → Judgement (Unit {0})
  asked v = Needs condition.BadPrincipal x.at (IsPrincipal text) Fine

  abbrev pub actor_at : View → Judgement Typed
  actor_at v = Tests condition.NotActor x.at (is_some (actor_of (head (definitions v) (term v.later id)))) (Needs condition.BadPrincipal x.at (IsPrincipal text) (refers v tt))

  module _ (c : Scopes) (k : Checker) (b : Bool) (h : IsActorAnswer k.types id b) where
    pub no_actor : b ≡ false → Comes actor_at c k c k (Err (refusal.False x.at condition.NotActor))
    no_actor e =
        fails typed_in kind_reached actor_at c k condition.NotActor x.at
        (λ later z. ap (λ (y : Bool). Tests condition.NotActor x.at y (Needs condition.BadPrincipal x.at (IsPrincipal text) (refers (view later k.types.listed c) tt))) (h later z ∙ e))

    module _ (e : b ≡ true) (s : Sound k c) where
      as_asked : (l : Checker) (r : Result Given Refusal) → Comes (λ v. Part (asked v) (refers v)) c k c l r → Comes actor_at c k c l r
      as_asked l r g =
          seen_as typed_in kind_reached actor_at (λ v. Part (asked v) (refers v)) c c k l r
          (λ later z. ap (λ (y : Bool). Tests condition.NotActor x.at y (Needs condition.BadPrincipal x.at (IsPrincipal text) (refers (view later k.types.listed c) tt))) (h later z ∙ e)
          ∙ needs_then condition.BadPrincipal x.at (IsPrincipal text) (refers (view later k.types.listed c) tt)) g

      pub no_text : (q : Refusal) (r : Result Given Refusal) → Handed r q → Judged (λ later. Needs condition.BadPrincipal x.at (IsPrincipal text) Fine) k.types k.types nothing (Err q) → Comes actor_at c k c k r
      no_text q r g i =
          as_asked k r
          (stops typed_in kind_reached nothing no_more asked refers c c k k q r g (judged_as nothing no_more (λ later. Needs condition.BadPrincipal x.at (IsPrincipal text) Fine) c k (Err q) s (λ m z. tt) i))

      module _ (i : Judged (λ later. Needs condition.BadPrincipal x.at (IsPrincipal text) Fine) k.types k.types nothing (Ok tt)) where
        as_referred : (l : Checker) (r : Result Given Refusal) → Comes (λ v. Part (referred v) (actor_end v)) c k c l r → Comes actor_at c k c l r
        as_referred l r g =
            as_asked l r
            (goes_on typed_in kind_reached nothing no_more asked refers c c c k k l tt r (judged_as nothing no_more (λ later. Needs condition.BadPrincipal x.at (IsPrincipal text) Fine) c k (Ok tt) s (λ m z. tt) i) g)

        pub not_referred : (q : Refusal) (r : Result Given Refusal) → Handed r q → Comes referred c k c k (Err q) → Comes actor_at c k c k r
        not_referred q r g o = as_referred k r (part_refused referred actor_end c c k k q r g o)

        pub actor_given : (l : Checker) (made : Given) (r : Result Given Refusal) → Comes referred c k c k (Ok made)
            → Comes (λ v. Has x.at (wanted_in v x.wanted) (term v.later id) (p.Annotated (typed_in made v.later) u)) c k c l r → Comes actor_at c k c l r
        actor_given l made r o g = as_referred l r (part_given referred actor_end c c c k k l made r o g)

-- ---- another expression

module _ (x : Site) (a : Expression ℕ) (u : TypeNode) (id : TermId) (c d : Scopes) (k l : Checker) where
  abbrev value_end : View → Typed → Judgement Typed
  value_end v b = Has x.at (wanted_in v x.wanted) (term v.later id) (p.Annotated b u)

  pub no_value : (q : Refusal) (r : Result Given Refusal) → Handed r q → Comes (judge x.place a (Some id)) c k d l (Err q) → Comes (λ v. value_in x a u v (term v.later id)) c k d l r
  no_value q r g h = part_refused (judge x.place a (Some id)) value_end c d k l q r g h

  pub value_given : (m : Checker) (made : Given) (r : Result Given Refusal) → Comes (judge x.place a (Some id)) c k d l (Ok made)
      → Comes (λ v. Has x.at (wanted_in v x.wanted) (term v.later id) (p.Annotated (typed_in made v.later) u)) d l d m r → Comes (λ v. value_in x a u v (term v.later id)) c k d m r
  value_given m made r h g = part_given (judge x.place a (Some id)) value_end c d d k l m made r h g

-- ---- either

module _ (x : Site) (a : value.Expression ℕ) (u : TypeNode) (id : TermId) (c d : Scopes) (k l : Checker) (r : Result Given Refusal) where
  abbrev as_actor : View → Bytes → Judgement Typed
  as_actor v text = actor_in x (plain a) u v (term v.later id) text

  abbrev as_value : View → Unit {0} → Judgement Typed
  as_value v z = value_in x (plain a) u v (term v.later id)

  pub is_reference : (text : Bytes) → actor_text (plain a) ≡ Some text → Comes (actor_at x a.note text u id) c k d l r → Comes (λ v. annotated_in x (plain a) u v (term v.later id)) c k d l r
  is_reference text e h =
      case_some typed_in kind_reached (λ v. actor_text (plain a)) c d k l r as_actor as_value (λ later. text) (λ later z. e)
      (subst (λ (n : ℕ). Comes (actor_at x n text u id) c k d l r) (sym (place_is a)) h)

  pub is_value : actor_text (plain a) ≡ None → Comes (λ v. value_in x (plain a) u v (term v.later id)) c k d l r → Comes (λ v. annotated_in x (plain a) u v (term v.later id)) c k d l r
  is_value e h = case_none typed_in kind_reached (λ v. actor_text (plain a)) c d k l r as_actor as_value (λ later z. e) h

-- ---- the type that is written, and then the expression

module _ (x : Site) (a : Expression ℕ) (u : TypeNode) (c : Scopes) (k l : Checker) where
  pub not_read : (q : Refusal) (r : Result Given Refusal) → Handed r q → Answers term_in IsReached (reads u) c k c l (Err q) → Comes (rule x (p.Annotated a u)) c k c l r
  not_read q r g h = stops typed_in kind_reached term_in IsReached (reads u) (annotated_in x a u) c c k l q r g h

  pub is_read : (d : Scopes) (m : Checker) (id : TermId) (r : Result Given Refusal) → Answers term_in IsReached (reads u) c k c l (Ok id)
      → Comes (λ v. annotated_in x a u v (term v.later id)) c l d m r → Comes (rule x (p.Annotated a u)) c k d m r
  is_read d m id r h g = goes_on typed_in kind_reached term_in IsReached (reads u) (annotated_in x a u) c c d k l m id r h g
