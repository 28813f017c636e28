-- Callees by what they are.
use Rattle.std.proofs.Common.{◌≡◌, ◌∙◌, ℕ, true, false, List, [], ◌∷◌, length, Ok, Err, Option, Some, None, option_map, refl, sym, ap, subst, arith}
use Rattle.std.proofs.lemmas.Bool.{ne_eqb}
use Rattle.std.specs.Prelude.{Result, nat_eq}
use Rattle.std.specs.Result.{IsErr, IsErrAnd}
use Rattle.type_terms.specs.declared.form.TermId.{TermId}
use Rattle.typing_rules.specs.declared.condition.Condition.TheVariants as condition
use Rattle.typing_rules.specs.AbstractSyntax.{Expression, TypeNode}
use Rattle.typing_rules.specs.AbstractSyntax as p
use Rattle.typing_rules.specs.Calls.{polymorphic}
use Rattle.typing_rules.specs.Contexts.{Bound}
use Rattle.typing_rules.specs.Ends.{Has}
use Rattle.typing_rules.specs.Judgements.{Gives, Judgement, Meets, Part, Tests}
use Rattle.typing_rules.specs.Patterns.{is_empty}
use Rattle.typing_rules.specs.Terms.{Term}
use Rattle.typing_rules.specs.TypedTrees.{Note, Typed, place, typed}
use Rattle.type_definitions.specs.Meanings.{term}
use Rattle.met_types.specs.States.{State}
use Rattle.type_judgements.specs.declared.refusal.Refusal.{Refusal}
use Rattle.type_judgements.specs.declared.refusal.Refusal.TheVariants as refusal
use Rattle.value_scopes.specs.declared.scopes.Scopes.{Scopes}
use Rattle.judging.specs.declared.checker.Checker.{Checker}
use Rattle.judging.specs.declared.site.Site.{Site}
use Rattle.judging.specs.Views.{View, context, form_in, judge, kind_reached, term_in, typed_in}
use Rattle.judging.specs.Answers.{Answers}
use Rattle.judging.proofs.Cases.{case_none, case_some, given_none, given_some, tests_fail, tests_hold}
use Rattle.judging.proofs.Chains.{after, goes_on, stops}
use Rattle.judging.proofs.TypedParts.{Comes, Given}
use Rattle.scope_judging.specs.Rules.{kind_within}
use Rattle.instance_rules.specs.declared.callees.Generic.{Generic}
use Rattle.instance_rules.specs.Callees.{FindsGeneric, generic_in, of_callee}
use Rattle.instance_rules.specs.Instances.{instance}
use Rattle.application_rules.specs.Callees.{at_types, callee, plain_callee}

abbrev Handed : Result Given Refusal → Refusal → Type 0
Handed r e = IsErr r × IsErrAnd r (λ y. y ≡ e)

-- ---- a function with type parameters

module _ (at of : ℕ) (g : Generic) (types : Option (List TypeNode)) (c : Scopes) (k : Checker) where
  abbrev pub typed_at : View → Judgement Typed
  typed_at v = at_types at of types v (generic_in v.later g)

  abbrev met : View → Term → Judgement Typed
  met v u = Meets u (Gives (typed of u (form_in g.form v.later)))

  abbrev written : View → List TypeNode → Judgement Typed
  written v us = Part (instance at g.bound us v) (met v)

  abbrev types_at : View → Option (List TypeNode)
  types_at v = types

  pub no_types : types ≡ None → Comes typed_at c k c k (Err (refusal.False at condition.TypeArguments))
  no_types e = given_none typed_in kind_reached condition.TypeArguments at types_at c k written (λ later w. e)

  module _ (us : List TypeNode) (e : types ≡ Some us) where
    from_written : (l : Checker) (r : Result Given Refusal) → Comes (λ v. written v us) c k c l r → Comes typed_at c k c l r
    from_written l r h = given_some typed_in kind_reached types_at c c k l r condition.TypeArguments at written (λ later. us) (λ later w. e) h

    pub no_instance : (l : Checker) (q : Refusal) (r : Result Given Refusal) → Handed r q → Answers term_in kind_within (instance at g.bound us) c k c l (Err q) → Comes typed_at c k c l r
    no_instance l q r h i = from_written l r (stops typed_in kind_reached term_in kind_within (instance at g.bound us) met c c k l q r h i)

    pub typed_there : (l m : Checker) (id : TermId) (r : Result Given Refusal) → Answers term_in kind_within (instance at g.bound us) c k c l (Ok id) → Comes (λ v. Has of None (term v.later id) (form_in g.form v.later)) c l c m r
        → Comes typed_at c k c m r
    typed_there l m id r h i = from_written m r (goes_on typed_in kind_reached term_in kind_within (instance at g.bound us) met c c c k l m id r h i)

-- ---- another callee

none_is_empty : {A : Type 0} (xs : List A) → nat_eq (length xs) 0 ≡ is_empty xs
none_is_empty [] = refl
none_is_empty (x ∷ xs) = ne_eqb (length (x ∷ xs)) 0 (λ e. omega (arith, e))

module _ (x : Site) (f : Expression ℕ) (types : Option (List TypeNode)) (c d : Scopes) (k l : Checker) (r : Result Given Refusal) where
  abbrev judged : View → Judgement Typed
  judged v = judge x.place f None v

  abbrev empty_types : View → List TypeNode → Judgement Typed
  empty_types v us = Tests condition.TypeArguments x.at (is_empty us) (judged v)

  abbrev no_written : View → Unit {0} → Judgement Typed
  no_written v u = judged v

  pub none_written : types ≡ None → Comes judged c k d l r → Comes (plain_callee x f types) c k d l r
  none_written e h = case_none typed_in kind_reached (λ v. types) c d k l r empty_types no_written (λ later w. e) h

  pub empty_written : (us : List TypeNode) → types ≡ Some us → nat_eq (length us) 0 ≡ true → Comes judged c k d l r → Comes (plain_callee x f types) c k d l r
  empty_written us e g h =
      case_some typed_in kind_reached (λ v. types) c d k l r empty_types no_written (λ later. us) (λ later w. e)
      (tests_hold typed_in kind_reached condition.TypeArguments x.at (is_empty us) judged c d k l r (sym (none_is_empty us) ∙ g) h)

pub too_many : (x : Site) (f : Expression ℕ) (types : Option (List TypeNode)) (c : Scopes) (k : Checker) (us : List TypeNode) → types ≡ Some us → nat_eq (length us) 0 ≡ false
    → Comes (plain_callee x f types) c k c k (Err (refusal.False x.at condition.TypeArguments))
too_many x f types c k us e g =
    case_some typed_in kind_reached (λ v. types) c c k k (Err (refusal.False x.at condition.TypeArguments)) (empty_types x f types c c k k (Err (refusal.False x.at condition.TypeArguments)))
    (no_written x f types c c k k (Err (refusal.False x.at condition.TypeArguments))) (λ later. us) (λ later w. e)
    (tests_fail typed_in kind_reached condition.TypeArguments x.at (is_empty us) (judged x f types c c k k (Err (refusal.False x.at condition.TypeArguments))) c k (sym (none_is_empty us) ∙ g))

-- ---- by whether it has type parameters

module _ (x : Site) (f : Expression ℕ) (types : Option (List TypeNode)) (c d : Scopes) (k : Checker) (t : State) (o : Option Generic) (h : FindsGeneric k.types (of_callee c f) o t) (l : Checker) (r : Result Given Refusal) where
  abbrev sought : Checker
  sought = record k { types = t }

  abbrev generic_at : View → Option (Bound × p.Form Note)
  generic_at v = polymorphic (context v x.place) f

  abbrev with_types : View → Bound × p.Form Note → Judgement Typed
  with_types v q = at_types x.at (place f) types v q

  abbrev without : View → Unit {0} → Judgement Typed
  without v u = plain_callee x f types v

  from_sought : Comes (callee x f types) c sought d l r → Comes (callee x f types) c k d l r
  from_sought i = after typed_in kind_reached (callee x f types) c c d k sought l r h.goes h.stands refl i

  pub is_generic : (g : Generic) (of : ℕ) → o ≡ Some g → place f ≡ of → Comes (λ v. at_types x.at of types v (generic_in v.later g)) c sought d l r → Comes (callee x f types) c k d l r
  is_generic g of e q i =
      from_sought
      (case_some typed_in kind_reached generic_at c d sought l r with_types without (λ later. generic_in later g) (λ later w. h.is later w x.place ∙ ap (option_map (generic_in later)) e)
      (subst (λ (n : ℕ). Comes (λ v. at_types x.at n types v (generic_in v.later g)) c sought d l r) (sym q) i))

  pub is_plain : o ≡ None → Comes (plain_callee x f types) c sought d l r → Comes (callee x f types) c k d l r
  is_plain e i = from_sought (case_none typed_in kind_reached generic_at c d sought l r with_types without (λ later w. h.is later w x.place ∙ ap (option_map (generic_in later)) e) i)
