-- Signatures of lists.
use Rattle.std.proofs.Common.{◌≡◌, ℕ, Bool, List, [], ◌∷◌, ◌++◌, map, Option, Some, None, refl, sym, ap, ap₂, ◌∙◌, subst}
use Rattle.mo_types.specs.declared.node.Sort.{Sort}
use Rattle.mo_types.specs.declared.node.TypeId.{TypeId}
use Rattle.mo_types.specs.Graph.{Slot}
use Rattle.mo_types.specs.Heads.{async_of}
use Rattle.mo_types.specs.Sub.{Each}
use Rattle.subtype_laws.specs.Reached.{Among}
use Rattle.typed_tree.specs.Shareable.{IsShareable}
use Rattle.typing_rules.specs.declared.condition.Condition.{Condition}
use Rattle.typing_rules.specs.AbstractSyntax.{TypeNode, Signature, Declaration, Declarations}
use Rattle.typing_rules.specs.AbstractSyntax as p
use Rattle.typing_rules.specs.Contexts.{Scope, constant}
use Rattle.typing_rules.specs.DeclaredTypes.{within, with_list, parameter_terms, function_term, class_term}
use Rattle.typing_rules.specs.Definitions.{Definitions}
use Rattle.typing_rules.specs.Gathered.{of_generics, in_list, in_expression, in_declaration as gathered_in, defined, class_object, both as together}
use Rattle.typing_rules.specs.Heads.{head}
use Rattle.typing_rules.specs.Judgements.{NeedsEach, IsShareable as Shares, Fine}
use Rattle.typing_rules.specs.Signatures.{ParameterTypes, AsyncResult, SignatureOf, Signatures, async_term, method_sort}
use Rattle.typing_rules.specs.Terms.{Term, Terms, listed, unlisted}
use Rattle.typing_rules.specs.Terms as t
use Rattle.typing_rules.specs.Types.{AllShareable, Reads}
use Rattle.typing_rules.specs.TypeScopes.{TypeScope, names_of, term}
use Rattle.desugaring_laws.specs.Known.{IsKnown}
use Rattle.desugaring_laws.specs.Scopes.{IsIn, IsScopeFine, AreBoundsIn}
use Rattle.desugaring_laws.specs.Yields.{Yields}
use Rattle.desugaring_laws.proofs.Scoping.{names_in, scoped_in, written_fine}
use Rattle.desugaring_laws.proofs.Yielding.{more, part as after}
use Rattle.expression_laws.proofs.BoundNames.{both}
use Rattle.expression_laws.proofs.Heads.{listed_back}
use Rattle.scope_laws.specs.Gathers.{Gathers}
use Rattle.scope_laws.proofs.Members.{or_in, parameters_in}
use Rattle.scope_laws.proofs.Parts.{left_part, right_part}
use Rattle.declaration_laws.specs.Laws.{own_of, IsBoundTo}
use Rattle.declaration_laws.proofs.Reading.{reads_term, types_written}
use Rattle.declaration_laws.proofs.Signing.{signatures_are_known}
use Rattle.block_laws.specs.Laws.{ListsAreSigned}
use Rattle.block_laws.specs.Lists.{method_term, signed_one, signed, IsSigned, AreSigned, IsReady, AreReady}

-- the result of a public function
result_written : (defs : Definitions) (terms : List Term) (vs : List ℕ) (at : ℕ) (s : TypeScope) → IsScopeFine defs vs s → AreBoundsIn vs defs → (o : Option TypeNode) → Yields defs terms (AsyncResult defs at s o) (λ u. (u ≡ async_term s o) × IsKnown defs terms vs u)
result_written defs terms vs at s fine bounds None = tt
result_written defs terms vs at s fine bounds (Some (p.node n (p.Async a))) = both defs terms (Reads defs s a) (λ u. u ≡ term s a) (IsKnown defs terms vs) (reads_term defs terms s a) (written_fine defs vs s fine bounds terms a)
result_written defs terms vs at s fine bounds (Some (p.node n (p.Function h ps r))) = tt
result_written defs terms vs at s fine bounds (Some (p.node n (p.Optional a))) = tt
result_written defs terms vs at s fine bounds (Some (p.node n (p.Use x us))) = tt
result_written defs terms vs at s fine bounds (Some (p.node n (p.Tuple us))) = tt
result_written defs terms vs at s fine bounds (Some (p.node n (p.Array m a))) = tt
result_written defs terms vs at s fine bounds (Some (p.node n (p.Object gs))) = tt
result_written defs terms vs at s fine bounds (Some (p.node n (p.Variant gs))) = tt
result_written defs terms vs at s fine bounds (Some (p.node n (p.Actor gs))) = tt

async_in : (defs : Definitions) (vs : List ℕ) (s : TypeScope) → IsScopeFine defs vs s → (o : Option TypeNode) → IsIn vs (async_term s o)
async_in defs vs s fine None = tt
async_in defs vs s fine (Some (p.node n (p.Async a))) = or_in vs s (names_in defs vs s fine) fine.parameters (Some a) t.unit tt
async_in defs vs s fine (Some (p.node n (p.Function h ps r))) = tt
async_in defs vs s fine (Some (p.node n (p.Optional a))) = tt
async_in defs vs s fine (Some (p.node n (p.Use x us))) = tt
async_in defs vs s fine (Some (p.node n (p.Tuple us))) = tt
async_in defs vs s fine (Some (p.node n (p.Array m a))) = tt
async_in defs vs s fine (Some (p.node n (p.Object gs))) = tt
async_in defs vs s fine (Some (p.node n (p.Variant gs))) = tt
async_in defs vs s fine (Some (p.node n (p.Actor gs))) = tt

needs_each : (defs : Definitions) (terms : List Term) (c : Condition) (n : ℕ) (us : List Term) → Yields defs terms (NeedsEach c n (map Shares us) Fine) (λ z. Each (IsShareable (head defs)) us)
needs_each defs terms c n [] = tt
needs_each defs terms c n (u ∷ us) = (λ h. more defs terms (NeedsEach c n (map Shares us) Fine) (λ z. Each (IsShareable (head defs)) us) (λ z. Each (IsShareable (head defs)) (u ∷ us)) (needs_each defs terms c n us) (λ z k. (h, k)), λ no. tt)

all_shareable : (defs : Definitions) (terms : List Term) (at : ℕ) (us : List Term) (r : Term) → Yields defs terms (AllShareable at us r) (λ z. Each (IsShareable (head defs)) (r ∷ us))
all_shareable defs terms at us r = needs_each defs terms _ at (r ∷ us)

shared_head : (defs : Definitions) (how : Sort) (ps : Terms) (r : Term) → async_of (head defs (t.Shared how ps r)) ≡ None
unfolding head
shared_head defs how ps r = refl

module _ (defs : Definitions) (slots : List Slot) (terms : List Term) (number : Term → TypeId) (vs : List ℕ) (s : TypeScope) (fine : IsScopeFine defs vs s) (bounds : AreBoundsIn vs defs) where
  method_known : (query : Bool) (f : Signature ℕ) → Among (method_term s query f) terms → IsKnown defs terms vs (method_term s query f)
  method_known query f m = record {
    there = m;
    fine = record {
      scoped = scoped_in vs defs bounds (method_term s query f) (parameters_in vs s (names_in defs vs s fine) fine.parameters f.parameters, async_in defs vs s fine f.result);
      no_future = (shared_head defs (method_sort query) (parameter_terms s f.parameters) (async_term s f.result));
    };
  }

  abbrev One : Declaration ℕ → Scope → Type 0
  One d names = (names ≡ signed_one s d) × IsSigned defs terms vs s d

  one_signed : (d : Declaration ℕ) → Gathers defs (gathered_in s d) → IsReady defs slots terms number s d → Yields defs terms (SignatureOf defs s d) (One d)
  one_signed (p.Let q a) g r = (refl, tt)
  one_signed (p.Var stable x u a) g r = (refl, tt)
  one_signed (p.Func x f body) g r =
      more defs terms (SignatureOf defs s (p.Func x f body)) (IsBoundTo defs terms vs x (own_of f) (function_term s f)) (One (p.Func x f body))
      ((signatures_are_known defs terms vs s fine bounds x f (left_part defs (of_generics (within s f) f.generics) (in_expression (within s f) body) g)).0 body) (λ names i. (i.bound, (i.known, i.there)))
  one_signed (p.Method query context x f body) g r =
      let P = One (p.Method query context x f body) in
      after defs terms (ParameterTypes defs s f.parameters) _ (λ us. unlisted us ≡ parameter_terms s f.parameters) P (types_written defs terms s f.parameters) (λ us e.
      after defs terms (AsyncResult defs x.at s f.result) _ (λ u. (u ≡ async_term s f.result) × IsKnown defs terms vs u) P (result_written defs terms vs x.at s fine bounds f.result) (λ u i.
      after defs terms (AllShareable x.at us u) _ (λ z. Each (IsShareable (head defs)) (u ∷ us)) P (all_shareable defs terms x.at us u) (λ z shares. λ m.
      let same : t.Shared (method_sort query) (unlisted us) u ≡ method_term s query f = ap₂ (λ a b. t.Shared (method_sort query) a b) e i.0 in (
        ap (λ v. (x.bytes, constant v) ∷ []) same,
        (
          method_known query f (subst (λ v. Among v terms) same m),
          subst (λ v. IsKnown defs terms vs v) i.0 i.1,
          subst (λ v. Each (IsShareable (head defs)) (v ∷ listed (parameter_terms s f.parameters))) i.0 (subst (λ vs. Each (IsShareable (head defs)) (u ∷ vs)) (sym (listed_back us) ∙ ap (λ vs. listed vs) e) shares),
        ),
      ))))
  one_signed (p.System x body) g r = (refl, tt)
  one_signed (p.TypeAlias x parameters u) g r = (refl, tt)
  one_signed (p.Class x f fields) g r =
      more defs terms (SignatureOf defs s (p.Class x f fields)) (IsBoundTo defs terms vs x (own_of f) (class_term s x f)) (One (p.Class x f fields))
      ((signatures_are_known defs terms vs s fine bounds x f
      (left_part defs (of_generics (within s f) f.generics) (in_list (with_list (within s f) fields) fields)
      (right_part defs (defined s x (names_of f.generics) (class_object s f fields)) (together (of_generics (within s f) f.generics) (in_list (with_list (within s f) fields) fields)) g))).1 fields) (λ names i. (i.bound, (i.known, i.there)))
  one_signed (p.NamedObject x fields) g r = (refl, tt)
  one_signed (p.Evaluate a) g r = (refl, tt)

  abbrev All : Declarations ℕ → Scope → Type 0
  All ds names = (names ≡ signed s ds) × AreSigned defs terms vs s ds

  list_signed : (ds : Declarations ℕ) → Gathers defs (in_list s ds) → AreReady defs slots terms number s ds → Yields defs terms (Signatures defs s ds) (All ds)
  list_signed p.End g r = (refl, tt)
  list_signed (p.Then public n d rest) g r =
      after defs terms (SignatureOf defs s d) _ (One d) (All (p.Then public n d rest)) (one_signed d (left_part defs (gathered_in s d) (in_list s rest) g) r.0) (λ one i.
      after defs terms (Signatures defs s rest) _ (All rest) (All (p.Then public n d rest)) (list_signed rest (right_part defs (gathered_in s d) (in_list s rest) g) r.1) (λ names j.
      (ap₂ (λ a b. a ++ b) j.0 i.0, (i.1, j.1))))

pub lists_are_signed : ListsAreSigned
lists_are_signed defs slots terms number vs s fine bounds ds g r = list_signed defs slots terms number vs s fine bounds ds g r
