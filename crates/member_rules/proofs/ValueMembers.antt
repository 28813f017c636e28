-- The rule of members by what is found.
use Rattle.std.proofs.Common.{◌≡◌, ◌∙◌, ℕ, List, Ok, Err, Option, Some, None, option_map, refl, ap}
use Rattle.std.specs.Prelude.{Result}
use Rattle.std.specs.Result.{IsErr, IsErrAnd}
use Rattle.mo_scopes.specs.declared.library.Member.{Member}
use Rattle.type_terms.specs.declared.form.Form.{Form}
use Rattle.type_terms.specs.declared.form.TermId.{TermId}
use Rattle.typing_rules.specs.declared.condition.Condition.TheVariants as condition
use Rattle.typing_rules.specs.AbstractSyntax.{Expression}
use Rattle.typing_rules.specs.AbstractSyntax as p
use Rattle.typing_rules.specs.Calls.{built_in}
use Rattle.typing_rules.specs.Ends.{Has}
use Rattle.typing_rules.specs.Heads.{members_head}
use Rattle.typing_rules.specs.Judgements.{Judgement, Tests, Given as IsGiven}
use Rattle.typing_rules.specs.Members.{member_bound, member_type}
use Rattle.typing_rules.specs.Patterns.{is_empty}
use Rattle.typing_rules.specs.Terms.{Term}
use Rattle.typing_rules.specs.TypedTrees.{Typed, type_of}
use Rattle.type_definitions.specs.Meanings.{term}
use Rattle.met_types.specs.States.{State}
use Rattle.type_judgements.specs.declared.refusal.Refusal.{Refusal}
use Rattle.type_judgements.specs.declared.refusal.Refusal.TheVariants as refusal
use Rattle.value_scopes.specs.declared.place.Place.{Place}
use Rattle.value_scopes.specs.declared.scopes.Scopes.{Scopes}
use Rattle.value_scopes.specs.Places.{context_in}
use Rattle.judging.specs.declared.checker.Checker.{Checker}
use Rattle.judging.specs.declared.site.Site.{Site}
use Rattle.judging.specs.Views.{View, context, definitions, judge, rule, wanted_in, typed_in, kind_reached}
use Rattle.judging.proofs.Cases.{case_none, case_some}
use Rattle.judging.proofs.Chains.{after}
use Rattle.judging.proofs.TypedParts.{Given, Comes, part_given, part_refused}
use Rattle.member_heads.proofs.ByMembers.{by_members, member_given, no_member}
use Rattle.member_rules.specs.MemberKinds.{FindsMember}
use Rattle.member_rules.specs.ValueRules.{value_rule}

module _ (x : Site) (a : Expression ℕ) (y : List ℕ) (c : Scopes) (k : Checker) where
  abbrev of_value : View → Judgement Typed
  of_value v = judge x.place a None v

  abbrev is_member : View → Typed → Term → Judgement Typed
  is_member v b u = Has x.at (wanted_in v x.wanted) u (p.Member b y)

  abbrev values : View → Typed → Judgement Typed
  values v b = IsGiven condition.NoField x.at (member_type y (members_head (definitions v) (type_of b))) (is_member v b)

  pub no_value : (d : Scopes) (l : Checker) (q : Refusal) (r : Result Given Refusal) → IsErr r × IsErrAnd r (λ z. z ≡ q) → Comes of_value c k d l (Err q) → Comes (value_rule x a y) c k d l r
  no_value d l q r h i = part_refused of_value values c d k l q r h i

  module _ (d : Scopes) (l : Checker) (g : Given) (h : Comes of_value c k d l (Ok g)) (t : State) (o : Option TermId) (f : FindsMember l.types g.note.kind y o t) where
    abbrev written : Checker
    written = record l { types = t }

    abbrev found : View → Judgement Typed
    found = by_members (member_type y) condition.NoField x.at g (λ v. is_member v (typed_in g v.later)) d written

    with_member : (e : Scopes) (m : Checker) (r : Result Given Refusal) → Comes found d written e m r → Comes (value_rule x a y) c k e m r
    with_member e m r i = part_given of_value values c d e k l m g r h (after typed_in kind_reached (λ v. values v (typed_in g v.later)) d d e l written m r f.added.goes f.added.stands refl i)

    pub member_found : (kind : TermId) → o ≡ Some kind → (e : Scopes) (m : Checker) (r : Result Given Refusal) → Comes (λ v. Has x.at (wanted_in v x.wanted) (term v.later kind) (p.Member (typed_in g v.later) y)) d written e m r
        → Comes (value_rule x a y) c k e m r
    member_found kind q e m r i =
        with_member e m r
        (member_given (member_type y) condition.NoField x.at g (λ v. is_member v (typed_in g v.later)) d written (λ later. term later kind) (λ later w. f.is later w ∙ ap (option_map (term later)) q) e m r i)

    pub no_member_found : o ≡ None → Comes (value_rule x a y) c k d written (Err (refusal.False x.at condition.NoField))
    no_member_found q =
        with_member d written (Err (refusal.False x.at condition.NoField))
        (no_member (member_type y) condition.NoField x.at g (λ v. is_member v (typed_in g v.later)) d written (λ later w. f.is later w ∙ ap (option_map (term later)) q))

  abbrev of_library : View → Member → Judgement Typed
  of_library v m = Tests condition.TypeArguments x.at (is_empty (member_bound m).generics) (Has x.at (wanted_in v x.wanted) (member_bound m).type (p.BuiltIn m))

  abbrev of_no_library : View → Unit {0} → Judgement Typed
  of_no_library v u = value_rule x a y v

  pub of_module : (m : Member) → ((later : List Form) (e : Place) → built_in (context_in later c e) a y ≡ Some m) → (d : Scopes) (l : Checker) (r : Result Given Refusal) → Comes (λ v. of_library v m) c k d l r
      → Comes (rule x (p.Member a y)) c k d l r
  of_module m e d l r h = case_some typed_in kind_reached (λ v. built_in (context v x.place) a y) c d k l r of_library of_no_library (λ later. m) (λ later w. e later x.place) h

  pub of_no_module : ((later : List Form) (e : Place) → built_in (context_in later c e) a y ≡ None) → (d : Scopes) (l : Checker) (r : Result Given Refusal) → Comes (value_rule x a y) c k d l r → Comes (rule x (p.Member a y)) c k d l r
  of_no_module e d l r h = case_none typed_in kind_reached (λ v. built_in (context v x.place) a y) c d k l r of_library of_no_library (λ later w. e later x.place) h
