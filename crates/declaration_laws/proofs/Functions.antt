-- Functions of lists, with their type parameters.
use Rattle.std.proofs.Common.{◌≡◌, ◌⊎◌, inl, inr, ℕ, ◌+◌, List, [], ◌∷◌, ◌++◌, map, Some, refl, sym, ap, ◌∙◌, subst}
use Rattle.mo_types.specs.declared.node.Node.TheVariants as node
use Rattle.mo_types.specs.declared.node.Sort.TheVariants as sort
use Rattle.mo_types.specs.declared.node.TypeId.{TypeId}
use Rattle.mo_types.specs.Graph.{Slot, head_at}
use Rattle.mo_types.specs.Sub.{Each}
use Rattle.subtype_laws.specs.Reached.{Among}
use Rattle.typed_tree.specs.ActionTypes as typed
use Rattle.typed_tree.specs.Instances.{IsAmong}
use Rattle.typed_tree.specs.PatternTypes.{IsInScope}
use Rattle.typed_tree.specs.Typing.{AreParameters, IsFunctionOf, Typed, in_body}
use Rattle.typed_tree.specs.Wants.{Of}
use Rattle.typing_rules.specs.AbstractSyntax.{Named, Expression}
use Rattle.typing_rules.specs.AbstractSyntax as p
use Rattle.typing_rules.specs.AsyncPlaces.{Local, Other}
use Rattle.typing_rules.specs.Contexts.{Context, with_types}
use Rattle.typing_rules.specs.Contexts as rules
use Rattle.typing_rules.specs.DeclaredTypes.{within, parameter_terms, function_term}
use Rattle.typing_rules.specs.Definitions.{Definitions, bound_at}
use Rattle.typing_rules.specs.Expressions.{Judge, JudgeBody}
use Rattle.typing_rules.specs.Gathered.{of_generics}
use Rattle.typing_rules.specs.Heads.{head}
use Rattle.typing_rules.specs.Lists.{Made}
use Rattle.typing_rules.specs.Nodes as counts
use Rattle.typing_rules.specs.Signatures.{Taken, Parameters}
use Rattle.typing_rules.specs.Terms.{Term, unit, listed, unlisted}
use Rattle.typing_rules.specs.Terms as t
use Rattle.typing_rules.specs.TypedTrees.{Note, signature}
use Rattle.typing_rules.specs.TypeScopes.{TypeScope, names_of, term_or}
use Rattle.desugaring.specs.Expressions.{tree as written_out, function_of, becomes}
use Rattle.desugaring.specs.FreeNames.{names_in_each, occurring, in_declaration}
use Rattle.desugaring.specs.Frames.{Frame}
use Rattle.desugaring.specs.Frames as frames
use Rattle.desugaring_laws.specs.GraphOf.{IsGraphOf}
use Rattle.desugaring_laws.specs.Known.{IsKnown}
use Rattle.desugaring_laws.specs.Laws.{wants}
use Rattle.desugaring_laws.specs.Names.{bound_in_each}
use Rattle.desugaring_laws.specs.Scopes.{IsScopeFine, AreBoundsIn}
use Rattle.desugaring_laws.specs.Yields.{Yields}
use Rattle.desugaring_laws.proofs.Graph.{head_there, in_scope, part_known}
use Rattle.desugaring_laws.proofs.Scoping.{each_among_of, scoped_in, written_fine}
use Rattle.desugaring_laws.proofs.Weakening.{among_behind}
use Rattle.desugaring_laws.proofs.Yielding.{more, part as after}
use Rattle.expression_laws.specs.Results.{Becomes, AreTyped}
use Rattle.expression_laws.proofs.BoundNames.{both}
use Rattle.expression_laws.proofs.Ending.{Setting, as_wanted}
use Rattle.expression_laws.proofs.Heads.{function_head, listed_back}
use Rattle.expression_laws.proofs.Wanting.{for_all}
use Rattle.function_laws.specs.Laws.{AreParametersFine}
use Rattle.function_laws.proofs.Functions.{body_fits, function_typed}
use Rattle.function_laws.proofs.InFunctions.{signature_of}
use Rattle.function_laws.proofs.Parameters.{ParametersTyped, parameters_typed}
use Rattle.scope_laws.specs.Gathers.{Gathers}
use Rattle.scope_laws.proofs.Bounding.{bounds_stay_in}
use Rattle.scope_laws.proofs.Parts.{among_first, among_split}
use Rattle.scope_laws.proofs.Scoped.{parameters_stay_fine}
use Rattle.declaration_laws.specs.Made.{AreFresh, AreThere, Standing, FunctionMade}
use Rattle.declaration_laws.specs.Laws.{own_of, signature_at, DeclaredFunctionsAreTyped}
use Rattle.declaration_laws.proofs.Reading.{taken_written}

parameter_head : (defs : Definitions) (v : ℕ) → head defs (t.Parameter v) ≡ node.Variable v (bound_at defs.parameters v)
unfolding head
parameter_head defs v = refl

pub last_among : (us : List Term) (r : Term) → Among r (us ++ r ∷ [])
last_among [] r = inl refl
last_among (u ∷ us) r = inr (last_among us r)

module _ (S : Setting) where
  -- type parameters that stand for themselves, and no others in scope
  pub are_parameters : (scope vs : List ℕ) → ((v : ℕ) → IsAmong v vs → IsAmong v scope) → (gs : List ℕ) → AreFresh scope gs → AreThere S.terms gs → AreParameters (head_at S.slots) vs (map (λ n. S.number (t.Parameter n)) gs) gs
  are_parameters scope vs sub [] fresh there = tt
  are_parameters scope vs sub (v ∷ gs) fresh there = (
    S.number (bound_at S.defs.parameters v),
    head_there S.defs S.slots S.terms S.number S.graph (t.Parameter v) there.0 (node.Variable v (bound_at S.defs.parameters v)) (parameter_head S.defs v),
    (λ m. fresh.0 (moved (among_split gs vs v m))),
    are_parameters scope vs sub gs fresh.1 there.1,
  )
    where
      moved : IsAmong v gs ⊎ IsAmong v vs → IsAmong v (gs ++ scope)
      moved (inl m) = among_first gs scope v m
      moved (inr m) = among_behind gs scope v (sub v m)

  -- they are in scope, with their bounds
  pub parameters_in_scope : (vs : List ℕ) → AreBoundsIn vs S.defs → (gs : List ℕ) → ((v : ℕ) → IsAmong v gs → IsAmong v vs) → AreThere S.terms gs → Each (IsInScope S.slots vs) (map (λ n. S.number (t.Parameter n)) gs)
  parameters_in_scope vs bounds [] sub there = tt
  parameters_in_scope vs bounds (v ∷ gs) sub there = (
    in_scope S.defs S.slots S.terms S.number S.graph vs (t.Parameter v) there.0 (scoped_in vs S.defs bounds (t.Parameter v) (sub v (inl refl))),
    parameters_in_scope vs bounds gs (λ w m. sub w (inr m)) there.1,
  )

module _ (defs : Definitions) (slots : List Slot) (terms : List Term) (number : Term → TypeId) (graph : IsGraphOf defs slots terms number) (units : Among unit terms) (vs : List ℕ) (e : Context) (n : ℕ) (made : List Made) (x : Named) (g : p.Signature ℕ)
    (body : Expression ℕ) (fine : AreParametersFine g.parameters) (gathers : Gathers defs (of_generics (within e.types g) g.generics)) (fresh : AreFresh e.types.parameters (own_of g)) (there : AreThere terms (own_of g))
    (known : IsKnown defs terms (own_of g ++ vs) (function_term e.types g)) (j : AreTyped defs slots terms number (within e.types g) body) where
  abbrev setting : Setting
  setting = record { defs = defs; slots = slots; terms = terms; number = number; graph = graph; units = units; scope = e.types }

  abbrev inner : TypeScope
  inner = within e.types g

  abbrev uses : List p.Bytes
  uses = in_declaration (p.Func x g body)

  abbrev Stood : Type 0
  Stood = Standing defs slots terms number vs uses e

  abbrev all : Stood → List ℕ
  all w = own_of g ++ w.context.parameters

  abbrev result : Term
  result = term_or (within e.types g) g.result unit

  types_fine : (w : Stood) → IsScopeFine defs (own_of g ++ w.context.parameters) (within e.types g)
  types_fine w = parameters_stay_fine defs w.context.parameters e.types w.fits.types (names_of g.generics)

  bounds_fine : (w : Stood) → AreBoundsIn (own_of g ++ w.context.parameters) defs
  bounds_fine w = bounds_stay_in defs w.context.parameters e.types w.fits.types w.fits.bounds g gathers

  result_known : (w : Stood) → IsKnown defs terms (own_of g ++ w.context.parameters) (term_or (within e.types g) g.result unit)
  result_known w =
      subst (λ ps. IsKnown defs terms (own_of g ++ ps) (term_or (within e.types g) g.result unit)) (sym w.parameters)
      (part_known defs slots terms number graph (own_of g ++ vs) (function_term e.types g) (term_or (within e.types g) g.result unit) known
      (node.Func sort.Local (listed (parameter_terms (within e.types g) g.parameters)) (term_or (within e.types g) g.result unit ∷ [])) (function_head defs (parameter_terms (within e.types g) g.parameters) (term_or (within e.types g) g.result unit))
      (last_among (listed (parameter_terms (within e.types g) g.parameters)) (term_or (within e.types g) g.result unit)))

  abbrev Took : Taken → Type 0
  Took ps = ((w : Stood) → ParametersTyped setting (all w) g.parameters ps) × (unlisted ps.types ≡ parameter_terms inner g.parameters)

  taken : Yields defs terms (Parameters defs inner g.parameters []) Took
  taken =
      both defs terms (Parameters defs inner g.parameters []) (λ ps. (w : Stood) → ParametersTyped setting (all w) g.parameters ps) (λ ps. unlisted ps.types ≡ parameter_terms inner g.parameters)
      (for_all defs terms (Parameters defs inner g.parameters []) (λ (w : Stood) ps. ParametersTyped setting (all w) g.parameters ps) (λ w.
      parameters_typed setting (all w) inner (written_fine defs (all w) inner (types_fine w) (bounds_fine w) terms) g.parameters fine.written [] tt)) (taken_written defs terms inner g.parameters)

  abbrev E : Taken → Context
  E ps = rules.in_body Local (Some result) ps.scope (with_types inner e)

  abbrev D : Stood → Taken → typed.Context
  D w ps = in_body (signature_of defs slots terms number (own_of g) (map number ps.types) (number result)) (wants number (bound_in_each ps.patterns)) w.context

  abbrev InFrame : Stood → Taken → Frame
  InFrame w ps = frames.in_function (names_in_each ps.patterns) w.frame

  abbrev BodyTyped : Taken → p.Expression Note → Type 0
  BodyTyped ps b = (w : Stood) → Typed slots (written_out defs number (InFrame w ps) b) (D w ps) (Of (number result))

  body_typed : (ps : Taken) → Took ps → Yields defs terms (Judge defs (E ps) body (Some result)) (BodyTyped ps)
  body_typed ps i =
      for_all defs terms (Judge defs (E ps) body (Some result)) (λ (w : Stood) b. Typed slots (written_out defs number (InFrame w ps) b) (D w ps) (Of (number result))) (λ w.
      more defs terms (Judge defs (E ps) body (Some result)) (Becomes defs slots terms number Other [] (InFrame w ps) (D w ps) (Some result)) (λ b. Typed slots (written_out defs number (InFrame w ps) b) (D w ps) (Of (number result)))
      (j (E ps) (InFrame w ps) (D w ps)
      (body_fits setting e w.frame w.context uses w.fits (own_of g) inner (types_fine w) (bounds_fine w) g.parameters (occurring body) fine.distinct (λ y m. m) ps (i.0 w) result (result_known w)) (Some result) (result_known w).fine) (λ b h.
      as_wanted setting [] (InFrame w ps) (D w ps) result b h))

  pub function_made : Yields defs terms (JudgeBody defs e n (p.Func x g body) made) (λ q. (q.1 ≡ made) × FunctionMade defs slots terms number vs uses e x.bytes (signature_at number e.types g) (becomes defs number q.0.0 q.0.1))
  function_made =
      let P = λ (q : Made × List Made). (q.1 ≡ made) × FunctionMade defs slots terms number vs uses e x.bytes (signature_at number e.types g) (becomes defs number q.0.0 q.0.1) in
      after defs terms (Parameters defs inner g.parameters []) _ Took P taken (λ ps i.
      after defs terms (Judge defs (E ps) body (Some result)) _ (BodyTyped ps) P (body_typed ps i) (λ b h. (
        refl,
        (
          refl,
          λ w.
              subst (λ us. IsFunctionOf slots (function_of defs number sort.Local (signature g ps.patterns) (counts.in_patterns ps.patterns + counts.in_expression b) (λ q. written_out defs number q b) w.frame) w.context (signature_of defs slots terms number (own_of g) (map number us) (number result))) (sym (listed_back ps.types) ∙ ap (λ us. listed us) i.1)
              (function_typed setting e w.frame w.context uses w.fits (own_of g) inner (types_fine w) (bounds_fine w) g.parameters g ps (i.0 w) result (result_known w)
              (are_parameters setting e.types.parameters w.context.parameters (λ v m. each_among_of w.context.parameters (λ u. IsAmong u e.types.parameters) w.fits.types.others v m) (own_of g) fresh there)
              (parameters_in_scope setting (all w) (bounds_fine w) (own_of g) (λ v m. among_first (own_of g) w.context.parameters v m) there) b (h w)),
        ),
      )))

pub declared_functions_are_typed : DeclaredFunctionsAreTyped
declared_functions_are_typed defs slots terms number graph units vs e n made x g body fine gathers fresh there known j = function_made defs slots terms number graph units vs e n made x g body fine gathers fresh there known j
