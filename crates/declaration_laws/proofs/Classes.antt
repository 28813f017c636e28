-- Classes of lists.
use Rattle.std.proofs.Common.{◌≡◌, ℕ, suc, ◌+◌, false, List, [], ◌∷◌, ◌++◌, map, Some, None, refl, sym, ap, ◌∙◌, subst}
use Rattle.mo_types.specs.declared.node.Node.TheVariants as node
use Rattle.mo_types.specs.declared.node.Sort.TheVariants as sort
use Rattle.mo_types.specs.declared.node.TypeId.{TypeId}
use Rattle.mo_types.specs.Graph.{Slot}
use Rattle.subtype_laws.specs.Reached.{Among}
use Rattle.typed_tree.specs.ActionTypes as typed
use Rattle.typed_tree.specs.Instances.{IsAmong}
use Rattle.typed_tree.specs.PatternTypes.{IsInScope}
use Rattle.typed_tree.specs.Typing.{IsFunctionOf, in_body}
use Rattle.typed_tree.proofs.Rules.{functions}
use Rattle.typing_rules.specs.AbstractSyntax.{Named, Declarations}
use Rattle.typing_rules.specs.AbstractSyntax as p
use Rattle.typing_rules.specs.AsyncPlaces.{Local, Other}
use Rattle.typing_rules.specs.Contexts.{Context, with_types, directly}
use Rattle.typing_rules.specs.Contexts as rules
use Rattle.typing_rules.specs.DeclaredTypes.{within, with_list, parameter_terms, class_type, class_term}
use Rattle.typing_rules.specs.Definitions.{Definitions}
use Rattle.typing_rules.specs.Gathered.{of_generics, in_list, in_declaration as gathered_in, defined, class_object, both as together}
use Rattle.typing_rules.specs.Expressions.{JudgeBody}
use Rattle.typing_rules.specs.Lists.{Made}
use Rattle.typing_rules.specs.Nodes as counts
use Rattle.typing_rules.specs.PublicFields.{PublicFields}
use Rattle.typing_rules.specs.Signatures.{Taken, Parameters}
use Rattle.typing_rules.specs.Terms.{Term, unit, listed, unlisted}
use Rattle.typing_rules.specs.Terms as t
use Rattle.typing_rules.specs.TypedTrees.{Note, signature}
use Rattle.typing_rules.specs.TypeScopes.{TypeScope, names_of}
use Rattle.desugaring.specs.Expressions.{becomes, pieces, public_names, object_of_names, function_of}
use Rattle.desugaring.specs.FreeNames.{names_in_each, names_of_list, in_declarations, in_declaration, without}
use Rattle.desugaring.specs.Frames.{Frame}
use Rattle.desugaring.specs.Frames as frames
use Rattle.desugaring.specs.Pieces.{arranged}
use Rattle.desugaring_laws.specs.GraphOf.{IsGraphOf}
use Rattle.desugaring_laws.specs.Known.{IsKnown}
use Rattle.desugaring_laws.specs.Laws.{wants}
use Rattle.desugaring_laws.specs.Names.{bound_in_each}
use Rattle.desugaring_laws.specs.Scopes.{IsScopeFine, AreBoundsIn}
use Rattle.desugaring_laws.specs.Yields.{Yields}
use Rattle.desugaring_laws.proofs.Graph.{in_scope, part_known, reflexive}
use Rattle.desugaring_laws.proofs.Patterns.{each_append}
use Rattle.desugaring_laws.proofs.Scoping.{each_among_of, written_fine}
use Rattle.desugaring_laws.proofs.Yielding.{part as after}
use Rattle.expression_laws.specs.Fitting.{Fits}
use Rattle.expression_laws.proofs.BoundNames.{both}
use Rattle.expression_laws.proofs.Ending.{Setting}
use Rattle.expression_laws.proofs.Heads.{function_head, listed_back}
use Rattle.expression_laws.proofs.Wanting.{for_all}
use Rattle.function_laws.specs.Laws.{AreParametersFine}
use Rattle.function_laws.proofs.Functions.{body_fits}
use Rattle.function_laws.proofs.InFunctions.{signature_of}
use Rattle.function_laws.proofs.Parameters.{ParametersTyped, each_in_scope, parameters_typed}
use Rattle.node_laws.proofs.ProgramNodes.{classes_are_covered}
use Rattle.scope_laws.specs.Gathers.{Gathers, ArePlainFields}
use Rattle.scope_laws.proofs.Bounding.{bounds_stay_in}
use Rattle.scope_laws.proofs.Classes.{classes_are_objects}
use Rattle.scope_laws.proofs.Parts.{among_first, left_part, right_part}
use Rattle.scope_laws.proofs.Plain.{public_fields_are_plain}
use Rattle.scope_laws.proofs.Scoped.{parameters_stay_fine}
use Rattle.declaration_laws.specs.Made.{AreFresh, AreThere, Standing, FunctionMade}
use Rattle.declaration_laws.specs.Laws.{own_of}
use Rattle.declaration_laws.specs.Objects.{FieldsJudged, written_fields, BecomeObject, AreFieldsTyped}
use Rattle.declaration_laws.specs.Classes.{class_signature_at, ClassesAreTyped}
use Rattle.declaration_laws.proofs.Functions.{are_parameters, last_among, parameters_in_scope}
use Rattle.declaration_laws.proofs.Reading.{taken_written}

no_result : (u : Term) → None ≡ Some u → ⊥
no_result u h = cc

module _ (defs : Definitions) (slots : List Slot) (terms : List Term) (number : Term → TypeId) (graph : IsGraphOf defs slots terms number) (units : Among unit terms) (vs : List ℕ) (e : Context) (n : ℕ) (made : List Made) (x : Named) (g : p.Signature ℕ)
    (fields : Declarations ℕ) (fine : AreParametersFine g.parameters) (gathers : Gathers defs (gathered_in e.types (p.Class x g fields))) (fresh : AreFresh e.types.parameters (own_of g)) (there : AreThere terms (own_of g))
    (known : IsKnown defs terms (own_of g ++ vs) (class_term e.types x g)) (j : AreFieldsTyped defs slots terms number (within e.types g) fields) where
  abbrev setting : Setting
  setting = record { defs = defs; slots = slots; terms = terms; number = number; graph = graph; units = units; scope = e.types }

  abbrev inner : TypeScope
  inner = within e.types g

  abbrev uses : List p.Bytes
  uses = in_declaration (p.Class x g fields)

  abbrev Stood : Type 0
  Stood = Standing defs slots terms number vs uses e

  abbrev all : Stood → List ℕ
  all w = own_of g ++ w.context.parameters

  abbrev result : Term
  result = class_type (within e.types g) x

  generics_there : Gathers defs (of_generics (within e.types g) g.generics)
  generics_there =
      left_part defs (of_generics (within e.types g) g.generics) (in_list (with_list (within e.types g) fields) fields)
      (right_part defs (defined e.types x (names_of g.generics) (class_object e.types g fields)) (together (of_generics (within e.types g) g.generics) (in_list (with_list (within e.types g) fields) fields)) gathers)

  types_fine : (w : Stood) → IsScopeFine defs (own_of g ++ w.context.parameters) (within e.types g)
  types_fine w = parameters_stay_fine defs w.context.parameters e.types w.fits.types (names_of g.generics)

  bounds_fine : (w : Stood) → AreBoundsIn (own_of g ++ w.context.parameters) defs
  bounds_fine w = bounds_stay_in defs w.context.parameters e.types w.fits.types w.fits.bounds g generics_there

  result_known : (w : Stood) → IsKnown defs terms (own_of g ++ w.context.parameters) (class_type (within e.types g) x)
  result_known w =
      subst (λ ps. IsKnown defs terms (own_of g ++ ps) (class_type (within e.types g) x)) (sym w.parameters)
      (part_known defs slots terms number graph (own_of g ++ vs) (class_term e.types x g) (class_type (within e.types g) x) known
      (node.Func sort.Local (listed (parameter_terms (within e.types g) g.parameters)) (class_type (within e.types g) x ∷ [])) (function_head defs (parameter_terms (within e.types g) g.parameters) (class_type (within e.types g) x))
      (last_among (listed (parameter_terms (within e.types g) g.parameters)) (class_type (within e.types g) x)))

  abbrev Took : Taken → Type 0
  Took ps = ((w : Stood) → ParametersTyped setting (all w) g.parameters ps) × (unlisted ps.types ≡ parameter_terms inner g.parameters)

  taken : Yields defs terms (Parameters defs inner g.parameters []) Took
  taken =
      both defs terms (Parameters defs inner g.parameters []) (λ ps. (w : Stood) → ParametersTyped setting (all w) g.parameters ps) (λ ps. unlisted ps.types ≡ parameter_terms inner g.parameters)
      (for_all defs terms (Parameters defs inner g.parameters []) (λ (w : Stood) ps. ParametersTyped setting (all w) g.parameters ps) (λ w.
      parameters_typed setting (all w) inner (written_fine defs (all w) inner (types_fine w) (bounds_fine w) terms) g.parameters fine.written [] tt)) (taken_written defs terms inner g.parameters)

  abbrev E : Taken → Context
  E ps = rules.in_body Local None ps.scope (with_types inner e)

  abbrev D : Stood → Taken → typed.Context
  D w ps = in_body (signature_of defs slots terms number (own_of g) (map number ps.types) (number result)) (wants number (bound_in_each ps.patterns)) w.context

  abbrev InFrame : Stood → Taken → Frame
  InFrame w ps = frames.in_function (names_in_each ps.patterns) w.frame

  abbrev inside : List p.Bytes
  inside = without (names_of_list fields) (in_declarations fields)

  -- in a class nothing is returned
  class_fits : (w : Stood) (ps : Taken) → ParametersTyped setting (own_of g ++ w.context.parameters) g.parameters ps → Fits defs slots terms number inner inside (directly Other (E ps)) (InFrame w ps) (D w ps)
  class_fits w ps i =
      let fit = body_fits setting e w.frame w.context uses w.fits (own_of g) inner (types_fine w) (bounds_fine w) g.parameters inside fine.distinct (λ y m. m) ps i result (result_known w) in
      record { names = fit.names; labels = fit.labels; returns = λ u h. absurd (no_result u h); options = fit.options; body_is = fit.body_is; types = fit.types; bounds = fit.bounds; scope_is = fit.scope_is }

  abbrev Objects : Taken → Term × Declarations Note → Type 0
  Objects ps q = (w : Stood) → BecomeObject defs slots terms number (InFrame w ps) (D w ps) (written_fields inner fields) q.1

  abbrev Public : Taken → Type 0
  Public ps = ((w : Stood) → Yields defs terms (FieldsJudged defs (directly Other (E ps)) n fields) (λ q. BecomeObject defs slots terms number (InFrame w ps) (D w ps) (written_fields inner fields) q.1)) × ArePlainFields fields

  public_typed : (ps : Taken) → Took ps → Yields defs terms (PublicFields fields) (λ z. Public ps)
  public_typed ps i =
      both defs terms (PublicFields fields)
      (λ z. (w : Stood) → Yields defs terms (FieldsJudged defs (directly Other (E ps)) n fields) (λ q. BecomeObject defs slots terms number (InFrame w ps) (D w ps) (written_fields inner fields) q.1)) (λ z. ArePlainFields fields)
      (for_all defs terms (PublicFields fields) (λ (w : Stood) z. Yields defs terms (FieldsJudged defs (directly Other (E ps)) n fields) (λ q. BecomeObject defs slots terms number (InFrame w ps) (D w ps) (written_fields inner fields) q.1)) (λ w.
      j (E ps) (InFrame w ps) (D w ps) n (class_fits w ps (i.0 w)))) (public_fields_are_plain defs terms fields)

  pub class_made : Yields defs terms (JudgeBody defs e n (p.Class x g fields) made) (λ q. (q.1 ≡ made) × FunctionMade defs slots terms number vs uses e x.bytes (class_signature_at number e.types x g) (becomes defs number q.0.0 q.0.1))
  class_made =
      let P = λ (q : Made × List Made). (q.1 ≡ made) × FunctionMade defs slots terms number vs uses e x.bytes (class_signature_at number e.types x g) (becomes defs number q.0.0 q.0.1) in
      after defs terms (Parameters defs inner g.parameters []) _ Took P taken (λ ps i.
      after defs terms (PublicFields fields) _ (λ z. Public ps) P (public_typed ps i) (λ z y.
      after defs terms (FieldsJudged defs (directly Other (E ps)) n fields) _ (Objects ps) P
      (for_all defs terms (FieldsJudged defs (directly Other (E ps)) n fields) (λ (w : Stood) q. BecomeObject defs slots terms number (InFrame w ps) (D w ps) (written_fields inner fields) q.1) y.0) (λ q h. (
        refl,
        (
          refl,
          λ w.
              let k = result_known w in
              let value = h w result k (classes_are_objects defs w.context.parameters e.types w.fits.types x g fields gathers y.1) in
              subst (λ us. IsFunctionOf slots (function_of defs number sort.Local (signature g ps.patterns) (suc (counts.in_patterns ps.patterns + counts.in_list q.1)) (λ f. object_of_names defs number result (public_names q.1) (arranged false (pieces defs number q.1) f)) w.frame) w.context (signature_of defs slots terms number (own_of g) (map number us) (number result))) (sym (listed_back ps.types) ∙ ap (λ us. listed us) i.1)
              ((functions slots _ w.context (signature_of defs slots terms number (own_of g) (map number ps.types) (number result))).1 (
                wants number (bound_in_each ps.patterns),
                refl,
                are_parameters setting e.types.parameters w.context.parameters (λ v m. each_among_of w.context.parameters (λ u. IsAmong u e.types.parameters) w.fits.types.others v m) (own_of g) fresh there,
                (i.0 w).stand,
                (
                  in_scope defs slots terms number graph (all w) result k.there k.fine.scoped,
                  each_append (IsInScope slots (all w)) (map (λ v. number (t.Parameter v)) (own_of g)) (map number ps.types)
                      (parameters_in_scope setting (all w) (bounds_fine w) (own_of g) (λ v m. among_first (own_of g) w.context.parameters v m) there) (each_in_scope setting (all w) ps.types (i.0 w).types_known),
                ),
                value.typed (number result) (reflexive defs slots terms number graph (number result)),
                classes_are_covered defs number (InFrame w ps) result ps.patterns q.1,
              )),
        ),
      ))))

pub classes_are_typed : ClassesAreTyped
classes_are_typed defs slots terms number graph units vs e n made x g fields fine gathers fresh there known j = class_made defs slots terms number graph units vs e n made x g fields fine gathers fresh there known j
