-- Members of modules, whose types are written out.
use Rattle.std.proofs.Common.{◌≡◌, ◌∙◌, ℕ, Bool, true, false, List, [], ◌∷◌, Err, option_map, length, refl, sym, ap, arith}
use Rattle.std.proofs.lemmas.Bool.{ne_eqb}
use Rattle.std.specs.Prelude.{Result, nat_eq}
use Rattle.mo_scopes.specs.declared.library.Member.{Member}
use Rattle.typing_rules.specs.declared.condition.Condition.TheVariants as condition
use Rattle.typing_rules.specs.AbstractSyntax as p
use Rattle.typing_rules.specs.Contexts.{Bound}
use Rattle.typing_rules.specs.Ends.{Has}
use Rattle.typing_rules.specs.Judgements.{Judgement, Tests}
use Rattle.typing_rules.specs.Members.{member_bound}
use Rattle.typing_rules.specs.Patterns.{is_empty}
use Rattle.typing_rules.specs.Terms.{Term}
use Rattle.typing_rules.specs.TypedTrees.{Typed}
use Rattle.type_definitions.specs.Meanings.{term}
use Rattle.met_types.specs.States.{State}
use Rattle.type_judgements.specs.declared.refusal.Refusal.{Refusal}
use Rattle.type_judgements.specs.declared.refusal.Refusal.TheVariants as refusal
use Rattle.value_scopes.specs.declared.bound.Bound as value
use Rattle.value_scopes.specs.declared.scopes.Scopes.{Scopes}
use Rattle.judging.specs.declared.checker.Checker.{Checker}
use Rattle.judging.specs.declared.site.Site.{Site}
use Rattle.judging.specs.Views.{View, wanted_in, typed_in, kind_reached}
use Rattle.judging.proofs.Cases.{tests_fail, tests_hold}
use Rattle.judging.proofs.Chains.{after, seen_as}
use Rattle.judging.proofs.TypedParts.{Given, Comes}
use Rattle.built_in_members.specs.Written.{WritesBound}

none_is_empty : {A : Type 0} (xs : List A) → nat_eq (length xs) 0 ≡ is_empty xs
none_is_empty [] = refl
none_is_empty (x ∷ xs) = ne_eqb (length (x ∷ xs)) 0 (λ e. omega (arith, e))

module _ (x : Site) (m : Member) (c : Scopes) (k : Checker) (t : State) (b : value.Bound) (w : WritesBound k.types m b t) where
  abbrev pub written : Checker
  written = record k { types = t }

  abbrev pub is_member : View → Judgement Typed
  is_member v = Has x.at (wanted_in v x.wanted) (member_bound m).type (p.BuiltIn m)

  abbrev pub is_tested : View → Judgement Typed
  is_tested v = Tests condition.TypeArguments x.at (is_empty (member_bound m).generics) (is_member v)

  pub member_is : (l : Checker) (r : Result Given Refusal) → Comes (λ v. Has x.at (wanted_in v x.wanted) (term v.later b.kind) (p.BuiltIn m)) c written c l r → Comes is_member c k c l r
  member_is l r h =
      after typed_in kind_reached is_member c c c k written l r w.added.goes w.added.stands refl
      (seen_as typed_in kind_reached is_member (λ v. Has x.at (wanted_in v x.wanted) (term v.later b.kind) (p.BuiltIn m)) c c written l r
      (λ later z. ap (λ (u : Term). Has x.at (option_map (term later) x.wanted) u (p.BuiltIn m)) (sym (ap (λ (q : Bound). q.type) (w.is later z)))) h)

  module _ (is : Bool) (is_it : is ≡ nat_eq (length b.generics) 0) (generics : b.generics ≡ (member_bound m).generics) where
    none : is ≡ is_empty (member_bound m).generics
    none = is_it ∙ (none_is_empty b.generics ∙ ap (λ (xs : List ℕ). is_empty xs) generics)

    pub member_tested : is ≡ true → (l : Checker) (r : Result Given Refusal) → Comes (λ v. Has x.at (wanted_in v x.wanted) (term v.later b.kind) (p.BuiltIn m)) c written c l r → Comes is_tested c k c l r
    member_tested g l r h = tests_hold typed_in kind_reached condition.TypeArguments x.at (is_empty (member_bound m).generics) is_member c c k l r (sym none ∙ g) (member_is l r h)

    pub member_refused : is ≡ false → Comes is_tested c k c written (Err (refusal.False x.at condition.TypeArguments))
    member_refused g =
        after typed_in kind_reached is_tested c c c k written written (Err (refusal.False x.at condition.TypeArguments)) w.added.goes w.added.stands refl
        (tests_fail typed_in kind_reached condition.TypeArguments x.at (is_empty (member_bound m).generics) is_member c written (sym none ∙ g))
