-- Parameters of functions.
use Rattle.std.proofs.Common.{◌≡◌, ℕ, List, [], ◌∷◌, ◌++◌, map, Some, refl, ap₂, ◌∙◌, subst}
use Rattle.mo_types.specs.Sub.{Each}
use Rattle.typed_tree.specs.PatternTypes.{IsInScope, AllStand}
use Rattle.typed_tree.specs.Wants.{Of}
use Rattle.typing_rules.specs.declared.condition.Condition.TheVariants as condition
use Rattle.typing_rules.specs.AbstractSyntax.{Pattern, Patterns}
use Rattle.typing_rules.specs.AbstractSyntax as p
use Rattle.typing_rules.specs.Contexts.{Scope}
use Rattle.typing_rules.specs.Judgements.{Gives, Case, Given}
use Rattle.typing_rules.specs.Patterns.{Stands}
use Rattle.typing_rules.specs.Signatures.{Taken, Parameters, first, others}
use Rattle.typing_rules.specs.Terms.{Term}
use Rattle.typing_rules.specs.TypedTrees.{Note, annotation, pattern_place}
use Rattle.typing_rules.specs.Types.{Reads}
use Rattle.typing_rules.specs.TypeScopes.{TypeScope}
use Rattle.desugaring.specs.FreeNames.{names_in, names_in_each}
use Rattle.desugaring.specs.Patterns.{patterns}
use Rattle.desugaring_laws.specs.Known.{IsKnown}
use Rattle.desugaring_laws.specs.Laws.{wants, AreWrittenFine, PatternTyped}
use Rattle.desugaring_laws.specs.Names.{bound_names, bound_in_each, entered}
use Rattle.desugaring_laws.specs.Written.{EachIsWritten}
use Rattle.desugaring_laws.specs.Yields.{Yields}
use Rattle.desugaring_laws.proofs.Graph.{in_scope}
use Rattle.desugaring_laws.proofs.Patterns.{patterns_are_typed, beside, each_append, map_append}
use Rattle.desugaring_laws.proofs.Yielding.{given, by_case, part as after}
use Rattle.expression_laws.proofs.BoundNames.{names_kept, both}
use Rattle.expression_laws.proofs.Ending.{Setting, self}

module _ (S : Setting) (vs : List ℕ) where
  abbrev Known : Term → Type 0
  Known = IsKnown S.defs S.terms vs

  -- parameters that become patterns on their types
  pub record ParametersTyped (qs : Patterns ℕ) (taken : Taken) : Type 0 where
    pub stand : AllStand S.slots vs (patterns S.defs S.number taken.patterns) (map S.number taken.types) (wants S.number (bound_in_each taken.patterns))
    pub scope_is : taken.scope ≡ entered (bound_in_each taken.patterns) []
    pub known : Each (λ x. Known x.1) (bound_in_each taken.patterns)
    pub types_known : Each Known taken.types
    pub same : names_in_each taken.patterns ≡ names_in_each qs

  -- types that are known are in scope
  pub each_in_scope : (us : List Term) → Each Known us → Each (IsInScope S.slots vs) (map S.number us)
  each_in_scope [] k = tt
  each_in_scope (u ∷ us) k = (in_scope S.defs S.slots S.terms S.number S.graph vs u k.0.there k.0.fine.scoped, each_in_scope us k.1)

  abbrev PatternIs : Pattern ℕ → Term → Scope × Pattern Note → Type 0
  PatternIs q u b = PatternTyped S.defs S.slots S.terms S.number vs u b.0 b.1 × (names_in b.1 ≡ names_in q)

  first_known : (us : List Term) → Each Known us → (u : Term) → first us ≡ Some u → Known u
  first_known [] k u h = cc
  first_known (v ∷ us) k u h = let e : Some v ≡ Some u = h in let f : v ≡ u = cc in subst (λ z. Known z) f k.0

  others_known : (us : List Term) → Each Known us → Each Known (others us)
  others_known [] k = tt
  others_known (v ∷ us) k = k.1

  pub parameters_typed : (s : TypeScope) → AreWrittenFine S.defs S.terms vs s → (qs : Patterns ℕ) → EachIsWritten qs → (us : List Term) → Each Known us → Yields S.defs S.terms (Parameters S.defs s qs us) (ParametersTyped qs)
  parameters_typed s written p.Nil w us k = record { stand = refl; scope_is = refl; known = tt; types_known = tt; same = refl }
  parameters_typed s written (p.Cons q rest) w us k =
      after S.defs S.terms (Case (annotation q) (λ a. Reads S.defs s a) (λ _. Given condition.NeedsType (pattern_place q) (first us) (λ u. Gives u))) _ Known (ParametersTyped (p.Cons q rest))
      (by_case S.defs S.terms (annotation q) _ _ Known (λ a e. written a) (λ e. given S.defs S.terms condition.NeedsType (pattern_place q) (first us) _ Known (λ u h. first_known us k u h))) (λ u ku.
      after S.defs S.terms (Stands S.defs s q u) _ (PatternIs q u) (ParametersTyped (p.Cons q rest))
      (both S.defs S.terms (Stands S.defs s q u) (λ b. PatternTyped S.defs S.slots S.terms S.number vs u b.0 b.1) (λ b. names_in b.1 ≡ names_in q)
      (patterns_are_typed S.defs S.slots S.terms S.number S.graph S.units vs s written q w.0 u ku) (names_kept S.defs S.terms s q u)) (λ b i.
      after S.defs S.terms (Parameters S.defs s rest (others us)) _ (ParametersTyped rest) (ParametersTyped (p.Cons q rest)) (parameters_typed s written rest w.1 (others us) (others_known us k)) (λ c j. record {
        stand = (
          wants S.number (bound_names b.1),
          wants S.number (bound_in_each c.patterns),
          map_append (λ x. Of (S.number x.1)) (bound_names b.1) (bound_in_each c.patterns),
          i.0.stands (S.number u) (self S (S.number u)),
          j.stand,
        );
        scope_is = ap₂ (λ x y. x ++ y) j.scope_is i.0.scope_is ∙ beside (bound_names b.1) (bound_in_each c.patterns);
        known = each_append (λ x. Known x.1) (bound_names b.1) (bound_in_each c.patterns) i.0.known j.known;
        types_known = (ku, j.types_known);
        same = ap₂ (λ x y. x ++ y) i.1 j.same;
      })))
