-- Signatures of functions and classes.
use Rattle.std.proofs.Common.{◌≡◌, ℕ, List, [], ◌∷◌, ◌++◌, refl, ap, ap₂, subst}
use Rattle.mo_types.specs.Heads.{async_of}
use Rattle.subtype_laws.specs.Reached.{Among}
use Rattle.typing_rules.specs.AbstractSyntax.{Named, TypeParameter, Signature, Expression, Declarations}
use Rattle.typing_rules.specs.AbstractSyntax as p
use Rattle.typing_rules.specs.Contexts.{generic}
use Rattle.typing_rules.specs.DeclaredTypes.{within, parameter_terms, function_term, class_type, class_term}
use Rattle.typing_rules.specs.Definitions.{Definitions}
use Rattle.typing_rules.specs.Gathered.{of_generics}
use Rattle.typing_rules.specs.Signatures.{ParameterTypes, SignatureOf}
use Rattle.typing_rules.specs.Terms.{Term, Terms, unit, unlisted}
use Rattle.typing_rules.specs.Terms as t
use Rattle.typing_rules.specs.Types.{Generics, ReadsOr, ends}
use Rattle.typing_rules.specs.TypeScopes.{TypeScope, names_of, places_of, term_or}
use Rattle.desugaring_laws.specs.Known.{IsKnown}
use Rattle.desugaring_laws.specs.Scopes.{IsIn, AreIn, IsScopeFine, AreBoundsIn}
use Rattle.desugaring_laws.specs.Yields.{Yields}
use Rattle.desugaring_laws.proofs.Scoping.{names_in, scoped_in}
use Rattle.desugaring_laws.proofs.Yielding.{anything, more, tests, part as after}
use Rattle.expression_laws.proofs.Heads.{function_head}
use Rattle.scope_laws.specs.Gathers.{Gathers}
use Rattle.scope_laws.proofs.Bounding.{bounds_stay_in}
use Rattle.scope_laws.proofs.Members.{or_in, parameters_in, each_parameter}
use Rattle.scope_laws.proofs.Scoped.{parameters_stay_fine}
use Rattle.declaration_laws.specs.Made.{AreThere}
use Rattle.declaration_laws.specs.Laws.{own_of, IsBoundTo, SignaturesAreKnown}
use Rattle.declaration_laws.proofs.Reading.{reads_or_term, types_written}

-- each type parameter was met
generics_there : (defs : Definitions) (terms : List Term) (s : TypeScope) (gs : List TypeParameter) → Yields defs terms (Generics defs s gs) (λ u. AreThere terms (places_of (names_of gs)))
generics_there defs terms s [] = tt
generics_there defs terms s (g ∷ rest) =
    let P = λ (u : Unit {0}). AreThere terms (places_of (names_of (g ∷ rest))) in
    after defs terms (ReadsOr defs s g.bound t.Any) _ (λ u. Unit {0}) P (anything defs terms (ReadsOr defs s g.bound t.Any)) (λ u z.
    tests defs terms _ _ (ends defs g.name.at) _ P (λ e. λ m.
    more defs terms (Generics defs s rest) (λ v. AreThere terms (places_of (names_of rest))) P (generics_there defs terms s rest) (λ v h. (m, h))))

module _ (defs : Definitions) (terms : List Term) (vs : List ℕ) (s : TypeScope) (fine : IsScopeFine defs vs s) (bounds : AreBoundsIn vs defs) (x : Named) (g : Signature ℕ) (gathers : Gathers defs (of_generics (within s g) g.generics)) where
  abbrev inner : TypeScope
  inner = within s g

  abbrev all : List ℕ
  all = own_of g ++ vs

  inner_fine : IsScopeFine defs (own_of g ++ vs) (within s g)
  inner_fine = parameters_stay_fine defs vs s fine (names_of g.generics)

  inner_bounds : AreBoundsIn (own_of g ++ vs) defs
  inner_bounds = bounds_stay_in defs vs s fine bounds g gathers

  -- a type of functions in scope that was met
  function_known : (ps : Terms) (r : Term) → AreIn all ps → IsIn all r → Among (t.Function ps r) terms → IsKnown defs terms all (t.Function ps r)
  function_known ps r h k m = record { there = m; fine = record { scoped = scoped_in all defs inner_bounds (t.Function ps r) (h, k); no_future = ap async_of (function_head defs ps r) } }

  written_parameters : AreIn all (parameter_terms inner g.parameters)
  written_parameters = parameters_in all inner (names_in defs all inner inner_fine) inner_fine.parameters g.parameters

  -- what is bound, by its parts
  bound_so : AreThere terms (own_of g) → (us : List Term) (r : Term) (ps : Terms) (v : Term) → unlisted us ≡ ps → r ≡ v → AreIn all ps → IsIn all v → Among (t.Function (unlisted us) r) terms
      → IsBoundTo defs terms vs x (own_of g) (t.Function ps v) ((x.bytes, generic (own_of g) (t.Function (unlisted us) r)) ∷ [])
  bound_so there us r ps v e f h k m =
      let same : t.Function (unlisted us) r ≡ t.Function ps v = ap₂ (λ a b. t.Function a b) e f in record {
        bound = ap (λ u. (x.bytes, generic (own_of g) u) ∷ []) same;
        known = function_known ps v h k (subst (λ u. Among u terms) same m);
        there = there;
      }

  function_signature : (body : Expression ℕ) → Yields defs terms (SignatureOf defs s (p.Func x g body)) (IsBoundTo defs terms vs x (own_of g) (function_term s g))
  function_signature body =
      let P = IsBoundTo defs terms vs x (own_of g) (function_term s g) in
      after defs terms (Generics defs inner g.generics) _ (λ u. AreThere terms (own_of g)) P (generics_there defs terms inner g.generics) (λ z y.
      after defs terms (ParameterTypes defs inner g.parameters) _ (λ us. unlisted us ≡ parameter_terms inner g.parameters) P (types_written defs terms inner g.parameters) (λ us e.
      after defs terms (ReadsOr defs inner g.result unit) _ (λ r. r ≡ term_or inner g.result unit) P (reads_or_term defs terms inner g.result unit) (λ r f. λ m.
      bound_so y us r (parameter_terms inner g.parameters) (term_or inner g.result unit) e f written_parameters (or_in all inner (names_in defs all inner inner_fine) inner_fine.parameters g.result unit tt) m)))

  class_signature : (fields : Declarations ℕ) → Yields defs terms (SignatureOf defs s (p.Class x g fields)) (IsBoundTo defs terms vs x (own_of g) (class_term s x g))
  class_signature fields =
      let P = IsBoundTo defs terms vs x (own_of g) (class_term s x g) in
      after defs terms (Generics defs inner g.generics) _ (λ u. AreThere terms (own_of g)) P (generics_there defs terms inner g.generics) (λ z y.
      after defs terms (ParameterTypes defs inner g.parameters) _ (λ us. unlisted us ≡ parameter_terms inner g.parameters) P (types_written defs terms inner g.parameters) (λ us e. λ m.
      bound_so y us (class_type inner x) (parameter_terms inner g.parameters) (class_type inner x) e refl written_parameters
      (each_parameter all inner (names_in defs all inner inner_fine) inner_fine.parameters inner.parameters inner_fine.parameters) m))

pub signatures_are_known : SignaturesAreKnown
signatures_are_known defs terms vs s fine bounds x g gathers = (function_signature defs terms vs s fine bounds x g gathers, class_signature defs terms vs s fine bounds x g gathers)
