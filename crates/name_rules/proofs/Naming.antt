-- Names by what they stand for.
use Rattle.std.proofs.Common.{◌≡◌, ◌∙◌, ℕ, Bool, true, false, cond, List, [], ◌∷◌, Ok, Err, Some, None, length, arith, refl, subst, sym}
use Rattle.std.proofs.lemmas.Bool.{ne_eqb}
use Rattle.std.specs.Prelude.{Result, nat_eq}
use Rattle.std.specs.Result.{IsErr, IsErrAnd}
use Rattle.std.specs.Str.{bytes_eq}
use Rattle.mo_scopes.specs.Scopes.{named}
use Rattle.type_terms.specs.declared.form.Form.{Form}
use Rattle.typing_rules.specs.declared.condition.Condition.TheVariants as condition
use Rattle.typing_rules.specs.AbstractSyntax as p
use Rattle.typing_rules.specs.AsyncPlaces.{FuturePlaced, takes_name}
use Rattle.typing_rules.specs.Contexts.{Bound, value_named}
use Rattle.typing_rules.specs.Ends.{Has}
use Rattle.typing_rules.specs.Judgements.{Judgement, Part, Tests, Given as IsGiven}
use Rattle.typing_rules.specs.Patterns.{is_empty}
use Rattle.typing_rules.specs.TypedTrees.{Typed}
use Rattle.type_definitions.specs.Meanings.{term}
use Rattle.type_definitions.specs.Tables.{Within}
use Rattle.type_judgements.specs.declared.refusal.Refusal.{Refusal}
use Rattle.type_judgements.specs.declared.refusal.Refusal.TheVariants as refusal
use Rattle.value_scopes.specs.declared.bound.Bound as value
use Rattle.value_scopes.specs.declared.scopes.Scopes.{Scopes}
use Rattle.value_scopes.specs.Places.{around_in, body_in}
use Rattle.value_scopes.specs.Values.{Hold, bound_in}
use Rattle.judging.specs.declared.checker.Checker.{Checker}
use Rattle.judging.specs.declared.site.Site.{Site}
use Rattle.judging.specs.Views.{View, context, definitions, wanted_in, typed_in, kind_reached, nothing, no_more}
use Rattle.judging.specs.Answers.{Answers}
use Rattle.judging.proofs.Cases.{given_none, given_some, tests_fail, tests_hold}
use Rattle.judging.proofs.Chains.{goes_on, stops}
use Rattle.judging.proofs.TypedParts.{Given, Comes}
use Rattle.name_rules.proofs.NoNames.{value_seen}

none_is_empty : {A : Type 0} (xs : List A) → nat_eq (length xs) 0 ≡ is_empty xs
none_is_empty [] = refl
none_is_empty (x ∷ xs) = ne_eqb (length (x ∷ xs)) 0 (λ e. omega (arith, e))

-- the type of a value in scope is a term of the table
pub bound_within : (forms : List Form) (qs : List (List ℕ × value.Bound)) (x : List ℕ) (b : value.Bound) → Some b ≡ named qs x → Hold forms qs → Within forms b.kind
bound_within forms [] x b e h = cc
bound_within forms (q ∷ qs) x b e h = by (bytes_eq x q.0) e (λ k. bound_within forms qs x b k h.1) where
  by : (here : Bool) → Some b ≡ cond here (Some q.1) (named qs x) → (Some b ≡ named qs x → Within forms b.kind) → Within forms b.kind
  by true k f = let i : b ≡ q.1 = cc in subst (λ (a : value.Bound). Within forms a.kind) (sym i) h.0
  by false k f = f k

module _ (x : Site) (name : List ℕ) (c : Scopes) (k : Checker) where
  abbrev placed : Bool → View → Bound → Judgement (Unit {0})
  placed takes v b = FuturePlaced (definitions v) (body_in x.place.body) takes x.at b.type

  abbrev ends : View → Bound → Judgement Typed
  ends v b = Has x.at (wanted_in v x.wanted) b.type (p.Name name)

  abbrev placed_first : View → Bound → Judgement Typed
  placed_first v b = Part (placed (takes_name (around_in x.around)) v b) (λ _. ends v b)

  abbrev named_as : View → Bound → Judgement Typed
  named_as v b = Tests condition.TypeArguments x.at (is_empty b.generics) (placed_first v b)

  abbrev by_name : View → Judgement Typed
  by_name v = IsGiven condition.NoField x.at (value_named (context v x.place) name) (named_as v)

  pub no_name : None ≡ named c.values name → Comes by_name c k c k (Err (refusal.False x.at condition.NoField))
  no_name e = given_none typed_in kind_reached condition.NoField x.at (λ v. value_named (context v x.place) name) c k named_as (λ later w. value_seen later c.values name None e)

  module _ (b : value.Bound) (e : Some b ≡ named c.values name) (is : Bool) (is_it : is ≡ nat_eq (length b.generics) 0) where
    found : (d : Scopes) (m : Checker) (r : Result Given Refusal) → Comes (λ v. named_as v (bound_in v.later b)) c k d m r → Comes by_name c k d m r
    found d m r h =
        given_some typed_in kind_reached (λ v. value_named (context v x.place) name) c d k m r condition.NoField x.at named_as (λ later. bound_in later b) (λ later w. value_seen later c.values name (Some b) e) h

    pub is_function : is ≡ false → Comes by_name c k c k (Err (refusal.False x.at condition.TypeArguments))
    is_function g =
        found c k (Err (refusal.False x.at condition.TypeArguments))
        (tests_fail typed_in kind_reached condition.TypeArguments x.at (is_empty b.generics) (λ v. placed_first v (bound_in v.later b)) c k (sym (none_is_empty b.generics) ∙ (sym is_it ∙ g)))

    module _ (g : is ≡ true) (takes : Bool) (taken : takes ≡ takes_name (around_in x.around)) where
      abbrev is_placed : View → Judgement (Unit {0})
      is_placed v = placed takes v (bound_in v.later b)

      plain : (d : Scopes) (m : Checker) (r : Result Given Refusal) → Comes (λ v. Part (is_placed v) (λ _. ends v (bound_in v.later b))) c k d m r → Comes by_name c k d m r
      plain d m r h =
          found d m r
          (tests_hold typed_in kind_reached condition.TypeArguments x.at (is_empty b.generics) (λ v. placed_first v (bound_in v.later b)) c d k m r (sym (none_is_empty b.generics) ∙ (sym is_it ∙ g))
          (subst (λ (t : Bool). Comes (λ v. Part (placed t v (bound_in v.later b)) (λ _. ends v (bound_in v.later b))) c k d m r) taken h))

      pub not_placed : (l : Checker) (q : Refusal) (r : Result Given Refusal) → IsErr r × IsErrAnd r (λ y. y ≡ q) → Answers nothing no_more is_placed c k c l (Err q) → Comes by_name c k c l r
      not_placed l q r i h = plain c l r (stops typed_in kind_reached nothing no_more is_placed (λ v _. ends v (bound_in v.later b)) c c k l q r i h)

      pub is_named : (l m : Checker) (r : Result Given Refusal) → Answers nothing no_more is_placed c k c l (Ok tt) → Comes (λ v. Has x.at (wanted_in v x.wanted) (term v.later b.kind) (p.Name name)) c l c m r
          → Comes by_name c k c m r
      is_named l m r h i = plain c m r (goes_on typed_in kind_reached nothing no_more is_placed (λ v _. ends v (bound_in v.later b)) c c c k l m tt r h i)
