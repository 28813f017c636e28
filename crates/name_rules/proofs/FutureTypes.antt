-- Types of futures, and where calls that give them stand, and names of such calls.
use Rattle.std.proofs.Common.{◌≡◌, ◌∙◌, ℕ, Bool, true, false, not, ◌||◌, ◌&&◌, List, is_some, refl, sym, ap}
use Rattle.std.specs.Prelude.{Result}
use Rattle.mo_types.specs.declared.node.Node.{Node}
use Rattle.mo_types.specs.declared.node.Node.TheVariants as node
use Rattle.mo_types.specs.declared.node.TypeId.{TypeId}
use Rattle.mo_types.specs.Heads.{async_of}
use Rattle.mo_subtype.specs.Renamed.{on_node}
use Rattle.type_terms.specs.declared.form.Form.{Form}
use Rattle.type_terms.specs.declared.form.TermId.{TermId}
use Rattle.typing_rules.specs.declared.condition.Condition.{Condition}
use Rattle.typing_rules.specs.declared.condition.Condition.TheVariants as condition
use Rattle.typing_rules.specs.AsyncPlaces.{FuturePlaced, calls}
use Rattle.typing_rules.specs.Graphs.{term_of}
use Rattle.typing_rules.specs.Heads.{head}
use Rattle.typing_rules.specs.Judgements.{Judgement, If, Tests, Fine}
use Rattle.typing_rules.specs.Terms.{Term}
use Rattle.type_definitions.specs.Definitions.{Listed, rules_in}
use Rattle.type_definitions.specs.Heads.{IsHeadOf, MakesNode}
use Rattle.type_definitions.specs.Meanings.{term}
use Rattle.type_definitions.proofs.Meanings.{grows_not}
use Rattle.met_types.specs.Closing.{terms_in}
use Rattle.met_types.specs.States.{State, Goes, IsNodeOf, Kept, Stands}
use Rattle.type_judgements.specs.Judged.{Judged}
use Rattle.type_judgements.specs.declared.refusal.Refusal.{Refusal}
use Rattle.value_scopes.specs.declared.place.Body as value_body
use Rattle.value_scopes.specs.declared.scopes.Scopes.{Scopes}
use Rattle.value_scopes.specs.Places.{body_in}
use Rattle.judging.specs.declared.checker.Checker.{Checker}
use Rattle.judging.specs.Parts.{Sound}
use Rattle.judging.specs.Views.{View, definitions, nothing, no_more}
use Rattle.judging.specs.Answers.{Answers}
use Rattle.judging.proofs.Chains.{after, seen_as}
use Rattle.judging.proofs.Steps.{judged_as, sound_on}
use Rattle.name_rules.specs.Futures.{IsFuture}

same_async : {A B : Type 0} (f : A → B) (y : Node A) → is_some (async_of (on_node f y)) ≡ is_some (async_of y)
same_async f (node.Async a) = refl
same_async f _ = refl

pub met_is : (s : State) (id : TermId) (n : Node TypeId) (b : Bool) → IsNodeOf s id n → b ≡ is_some (async_of n) → IsFuture s id b
met_is s id n b h e later l = ap (λ (y : Node Term). is_some (async_of y)) (h.is later l) ∙ (same_async (term_of (terms_in later s.reached)) n ∙ sym e)

pub head_is : (s t : State) (id : TermId) (n : Node TermId) (b : Bool) → t.listed ≡ s.listed → MakesNode s.forms (IsHeadOf s.listed id n) n t.forms → b ≡ is_some (async_of n) → IsFuture t id b
head_is s t id n b g h e later l =
    ap (λ (d : Listed). is_some (async_of (head (rules_in later d) (term later id)))) g
    ∙ (ap (λ (y : Node Term). is_some (async_of y)) (sym (h.is later l)) ∙ (same_async (term later) n ∙ sym e))

pub goes_not : (s : State) → Goes s s
goes_not s = record { forms = grows_not s.forms; listed = refl; outcomes = refl; reached = λ i u h. h }

placed_as : (c : Condition) (at : ℕ) (is holds a b : Bool) → holds ≡ (not is || (a && b)) → If is (λ _. Tests c at a (Tests c at b Fine)) (λ _. Fine) ≡ Tests c at holds Fine
placed_as c at false holds a b e = ap (λ (x : Bool). Tests c at x Fine) (sym e)
placed_as c at true holds false b e = ap (λ (x : Bool). Tests c at x Fine) (sym e)
placed_as c at true holds true b e = ap (λ (x : Bool). Tests c at x Fine) (sym e)

module _ (body : value_body.Body) (takes : Bool) (at : ℕ) (id : TermId) where
  abbrev placed : View → Judgement (Unit {0})
  placed v = FuturePlaced (definitions v) (body_in body) takes at (term v.later id)

  abbrev tested : Bool → List Form → Judgement (Unit {0})
  tested holds later = Tests condition.AsyncPlace at holds Fine

  pub is_placed : (c : Scopes) (k : Checker) (t : State) (is holds : Bool) (r : Result (Unit {0}) Refusal) → Sound k c → Kept t → Goes k.types t → ((met : List Term) → Stands met k.types → Stands met t) → IsFuture t id is
      → holds ≡ (not is || (calls (body_in body) && takes)) → ((s : State) → Judged (tested holds) s s nothing r) → Answers nothing no_more placed c k c (record k { types = t }) r
  is_placed c k t is holds r s q g st f e h =
      after nothing no_more placed c c c k (record k { types = t }) (record k { types = t }) r g st refl
      (seen_as nothing no_more placed (λ v. tested holds v.later) c c (record k { types = t }) (record k { types = t }) r
      (λ later w. ap (λ (b : Bool). If b (λ _. Tests condition.AsyncPlace at (calls (body_in body)) (Tests condition.AsyncPlace at takes Fine)) (λ _. Fine)) (f later w)
      ∙ placed_as condition.AsyncPlace at is holds (calls (body_in body)) takes e)
      (judged_as nothing no_more (tested holds) c (record k { types = t }) r (sound_on k c t s q g) (λ m z. tt) (h t)))
