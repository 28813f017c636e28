-- Definitions that are as they have to be lead to no futures.
use Rattle.std.proofs.Common.{◌≡◌, ◌⊎◌, inl, inr, ℕ, zero, suc, List, Option, Some, sym, subst}
use Rattle.mo_types.specs.Sub.{Each}
use Rattle.typed_tree.specs.Instances.{IsAmong}
use Rattle.typing_rules.specs.AbstractSyntax.{Bytes, Named, TypeNode, Declarations}
use Rattle.typing_rules.specs.AbstractSyntax as p
use Rattle.typing_rules.specs.DeclaredTypes.{with_list}
use Rattle.typing_rules.specs.Definitions.{Definition, Definitions, definition_at, followed, followed_right, reaches}
use Rattle.typing_rules.specs.Gathered.{in_list, in_declaration, defined}
use Rattle.typing_rules.specs.Signatures.{DefinitionOf, DefinitionsOf}
use Rattle.typing_rules.specs.Terms.{Term}
use Rattle.typing_rules.specs.Terms as t
use Rattle.typing_rules.specs.Types.{Proper, Defines}
use Rattle.typing_rules.specs.TypeScopes.{IsDefinition, TypeScope, type_named, with_parameters, term}
use Rattle.desugaring_laws.specs.Scopes.{IsScopeFine}
use Rattle.desugaring_laws.specs.Yields.{Yields}
use Rattle.desugaring_laws.proofs.Scoping.{proper_no_future}
use Rattle.desugaring_laws.proofs.Yielding.{anything, more, part as after}
use Rattle.expression_laws.proofs.Wanting.{for_all}
use Rattle.scope_laws.specs.Gathers.{Gathers}
use Rattle.scope_laws.specs.Laws.{ListsStayFine}
use Rattle.scope_laws.proofs.Parts.{left_part, right_part}
use Rattle.scope_laws.proofs.Scoped.{Defined, definition_named, from_list, names_with_list, parameters_listed}

abbrev NoFuture : Option Term → Type 0
NoFuture o = (a : Term) → o ≡ Some (t.Async a) → ⊥

-- a way to follow definitions by which none that is named there leads to a future
record Follows (s : TypeScope) : Type 0 where
  below : ℕ → Option Term
  fine : (x : Bytes) (at : ℕ) (outer : List ℕ) (own : ℕ) → type_named s x ≡ Some (IsDefinition at outer own) → NoFuture (below at)

object_no_future : (fs : t.Fields) → NoFuture (Some (t.Object fs))
object_no_future fs a e = cc

module _ (defs : Definitions) (terms : List Term) (s : TypeScope) where
  -- by its right side it leads to none
  abbrev LeadsOn : ℕ → Type 0
  LeadsOn at = (w : Follows s) → NoFuture (followed_right defs.types w.below (definition_at defs.types at))

  right_side : (at : ℕ) (d : Definition) → definition_at defs.types at ≡ Some d → ((w : Follows s) → NoFuture (followed defs.types w.below d.right)) → LeadsOn at
  right_side at d e h w = subst (λ o. NoFuture (followed_right defs.types w.below o)) (sym e) (h w)

  alias_leads : (x : Named) (ps : List Named) (a : TypeNode) → Gathers defs (defined s x ps (term (with_parameters s ps) a)) → Yields defs terms (DefinitionOf defs s (p.TypeAlias x ps a)) (λ u. LeadsOn x.at)
  alias_leads x ps a g =
      after defs terms (Proper defs (with_parameters s ps) a) _ (λ u. (w : Follows s) → NoFuture (followed defs.types w.below (term (with_parameters s ps) a))) (λ u. LeadsOn x.at)
      (for_all defs terms (Proper defs (with_parameters s ps) a) (λ w u. NoFuture (followed defs.types w.below (term (with_parameters s ps) a)))
      (λ w. proper_no_future defs w.below terms (with_parameters s ps) (λ y at outer own e. w.fine y at outer own (definition_named ps s y at outer own e)) a)) (λ u h.
      more defs terms (Defines defs x) (λ v. Unit {0}) (λ v. LeadsOn x.at) (anything defs terms (Defines defs x)) (λ v z. right_side x.at _ g.types.0 h))

  class_leads : (x : Named) (g : p.Signature ℕ) (fields : Declarations ℕ) → Gathers defs (in_declaration {N = ℕ} s (p.Class x g fields)) → LeadsOn x.at
  class_leads x g fields h = right_side x.at _ h.types.0 (λ w. object_no_future _)

  abbrev AllLead : Declarations ℕ → Type 0
  AllLead ds = (at : ℕ) → Defined ds at → LeadsOn at

  first_leads : (x at : ℕ) → LeadsOn x → x ≡ at → LeadsOn at
  first_leads x at h e = subst (λ n. LeadsOn n) e h

  all_lead : (ds : Declarations ℕ) → Gathers defs (in_list s ds) → Yields defs terms (DefinitionsOf defs s ds) (λ u. AllLead ds)
  all_lead p.End g = λ at m. absurd m
  all_lead (p.Then public n (p.TypeAlias x ps a) rest) g =
      after defs terms (DefinitionOf defs s (p.TypeAlias x ps a)) _ (λ u. LeadsOn x.at) (λ u. AllLead (p.Then public n (p.TypeAlias x ps a) rest)) (alias_leads x ps a (left_part defs (in_declaration {N = ℕ} s (p.TypeAlias x ps a)) (in_list s rest) g)) (λ u h.
      more defs terms (DefinitionsOf defs s rest) (λ v. AllLead rest) (λ v. AllLead (p.Then public n (p.TypeAlias x ps a) rest)) (all_lead rest (right_part defs (in_declaration {N = ℕ} s (p.TypeAlias x ps a)) (in_list s rest) g)) (λ v k. on h k))
    where
      on : LeadsOn x.at → AllLead rest → AllLead (p.Then public n (p.TypeAlias x ps a) rest)
      on h k at (inl e) = first_leads x.at at h e
      on h k at (inr m) = k at m
  all_lead (p.Then public n (p.Class x c fields) rest) g =
      after defs terms (Defines defs x) _ (λ u. Unit {0}) (λ u. AllLead (p.Then public n (p.Class x c fields) rest)) (anything defs terms (Defines defs x)) (λ u z.
      more defs terms (DefinitionsOf defs s rest) (λ v. AllLead rest) (λ v. AllLead (p.Then public n (p.Class x c fields) rest)) (all_lead rest (right_part defs (in_declaration {N = ℕ} s (p.Class x c fields)) (in_list s rest) g)) (λ v k.
      on (class_leads x c fields (left_part defs (in_declaration {N = ℕ} s (p.Class x c fields)) (in_list s rest) g)) k))
    where
      on : LeadsOn x.at → AllLead rest → AllLead (p.Then public n (p.Class x c fields) rest)
      on h k at (inl e) = first_leads x.at at h e
      on h k at (inr m) = k at m
  all_lead (p.Then public n (p.Let q a) rest) g = all_lead rest (right_part defs (in_declaration {N = ℕ} s (p.Let q a)) (in_list s rest) g)
  all_lead (p.Then public n (p.Var stable x u a) rest) g = all_lead rest (right_part defs (in_declaration {N = ℕ} s (p.Var stable x u a)) (in_list s rest) g)
  all_lead (p.Then public n (p.Func x c body) rest) g = all_lead rest (right_part defs (in_declaration {N = ℕ} s (p.Func x c body)) (in_list s rest) g)
  all_lead (p.Then public n (p.Method query context x c body) rest) g = all_lead rest (right_part defs (in_declaration {N = ℕ} s (p.Method query context x c body)) (in_list s rest) g)
  all_lead (p.Then public n (p.System x body) rest) g = all_lead rest (right_part defs (in_declaration {N = ℕ} s (p.System x body)) (in_list s rest) g)
  all_lead (p.Then public n (p.NamedObject x fields) rest) g = all_lead rest (right_part defs (in_declaration {N = ℕ} s (p.NamedObject x fields)) (in_list s rest) g)
  all_lead (p.Then public n (p.Evaluate a) rest) g = all_lead rest (right_part defs (in_declaration {N = ℕ} s (p.Evaluate a)) (in_list s rest) g)

module _ (defs : Definitions) (terms : List Term) (vs : List ℕ) (s : TypeScope) (fine : IsScopeFine defs vs s) (ds : Declarations ℕ) where
  abbrev S : TypeScope
  S = with_list s ds

  none_reached : (at : ℕ) → NoFuture (reaches defs.types zero at)
  none_reached at a e = cc

  module _ (lead : AllLead defs terms S ds) where
    to_depth : (n : ℕ) (x : Bytes) (at : ℕ) (outer : List ℕ) (own : ℕ) → type_named S x ≡ Some (IsDefinition at outer own) → NoFuture (reaches defs.types n at)
    to_depth zero x at outer own e = none_reached at
    to_depth (suc n) x at outer own e = by (from_list ds s x at outer own e) (λ y m os k q. to_depth n y m os k q) where
      by : (type_named s x ≡ Some (IsDefinition at outer own)) ⊎ Defined ds at
          → ((y : Bytes) (m : ℕ) (os : List ℕ) (k : ℕ) → type_named S y ≡ Some (IsDefinition m os k) → NoFuture (reaches defs.types n m)) → NoFuture (reaches defs.types (suc n) at)
      by (inl q) below = fine.futures x at outer own q (suc n)
      by (inr m) below = lead at m (record { below = reaches defs.types n; fine = below })

    stays : IsScopeFine defs vs S
    stays = record {
      names = names_with_list ds s fine.names;
      futures = λ x at outer own e n. to_depth n x at outer own e;
      parameters = subst (λ ps. Each (λ v. IsAmong v vs) ps) (sym (parameters_listed ds s)) fine.parameters;
      others = subst (λ ps. Each (λ v. IsAmong v ps) vs) (sym (parameters_listed ds s)) fine.others;
    }

pub lists_stay_fine : ListsStayFine
lists_stay_fine defs terms vs s fine ds g =
    more defs terms (DefinitionsOf defs (with_list s ds) ds) (λ u. AllLead defs terms (with_list s ds) ds) (λ u. IsScopeFine defs vs (with_list s ds)) (all_lead defs terms (with_list s ds) ds g) (λ u h.
    stays defs terms vs s fine ds h)
