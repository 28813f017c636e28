-- Public and system functions.
use Rattle.std.proofs.Common.{◌≡◌, inl, inr, ℕ, Bool, true, false, List, [], ◌∷◌, ◌++◌, map, Option, Some, None, refl, sym, ap, ap₂, ◌∙◌, subst, arith}
use Rattle.std.specs.Prelude.{codes}
use Rattle.mo_types.specs.declared.node.Node.TheVariants as node
use Rattle.mo_types.specs.declared.node.Sort.TheVariants as sort
use Rattle.mo_types.specs.declared.node.TypeId.{TypeId}
use Rattle.mo_types.specs.Graph.{Slot, head_at}
use Rattle.mo_types.specs.Heads.{async_of}
use Rattle.mo_types.specs.Sub.{Each}
use Rattle.mo_subtype.specs.Renamed.{on_node}
use Rattle.subtype_laws.specs.Reached.{Among}
use Rattle.typed_tree.specs.ActionTypes as typed
use Rattle.typed_tree.specs.ActionTypes.{ResultOf}
use Rattle.typed_tree.specs.Instances.{types_in}
use Rattle.typed_tree.specs.OperationTypes.{Distinct}
use Rattle.typed_tree.specs.PatternTypes.{IsInScope, AllStand}
use Rattle.typed_tree.specs.Types.{IsLawfulNode}
use Rattle.typed_tree.specs.Typing.{Typed}
use Rattle.typed_tree.specs.Wants.{Of, in_function}
use Rattle.typed_tree.specs.WellTyped.{IsContextType, ContextNames}
use Rattle.typed_tree.proofs.Rules.{functions}
use Rattle.typing_rules.specs.AbstractSyntax.{Bytes, Named, Pattern, Signature, Expression}
use Rattle.typing_rules.specs.AbstractSyntax as p
use Rattle.typing_rules.specs.AsyncPlaces.{Local, Other, body_of}
use Rattle.typing_rules.specs.Contexts.{Scope, Context}
use Rattle.typing_rules.specs.Contexts as rules
use Rattle.typing_rules.specs.DeclaredTypes.{parameter_terms}
use Rattle.typing_rules.specs.Definitions.{Definitions, unfolded}
use Rattle.typing_rules.specs.Expressions.{Judge, JudgeBody}
use Rattle.typing_rules.specs.Heads.{head, results, shape}
use Rattle.typing_rules.specs.Lists.{Made}
use Rattle.typing_rules.specs.Patterns.{Stands}
use Rattle.typing_rules.specs.Signatures.{Taken, Parameters, ContextOf, async_term, context_type}
use Rattle.typing_rules.specs.Signatures as signatures
use Rattle.typing_rules.specs.Terms.{Term, Terms, unit, listed, unlisted, listed_fields}
use Rattle.typing_rules.specs.Terms as t
use Rattle.typing_rules.specs.TypedTrees.{Note, signature}
use Rattle.desugaring.specs.Expressions.{tree as written_out}
use Rattle.desugaring.specs.FreeNames.{names_in, names_in_each, occurring, without}
use Rattle.desugaring.specs.Frames.{Frame}
use Rattle.desugaring.specs.Frames as frames
use Rattle.desugaring.specs.Patterns.{patterns}
use Rattle.desugaring.specs.Programs.{method_sort, context_names, context_pattern}
use Rattle.desugaring_laws.specs.GraphOf.{IsGraphOf}
use Rattle.desugaring_laws.specs.Known.{IsKnown}
use Rattle.desugaring_laws.specs.Laws.{wants, PatternTyped}
use Rattle.desugaring_laws.specs.Names.{Names, bound_names, bound_in_each, entered}
use Rattle.desugaring_laws.specs.Scopes.{IsScopeFine, AreBoundsIn}
use Rattle.desugaring_laws.specs.Yields.{Yields}
use Rattle.desugaring_laws.proofs.Graph.{reflexive, head_there, parts_there, in_scope}
use Rattle.desugaring_laws.proofs.Patterns.{patterns_are_typed, unit_fine}
use Rattle.desugaring_laws.proofs.Scoping.{scoped_in, written_fine}
use Rattle.desugaring_laws.proofs.Yielding.{more, part as after}
use Rattle.expression_laws.specs.Fitting.{sort_of, Fits}
use Rattle.expression_laws.specs.Results.{Becomes, AreTyped}
use Rattle.expression_laws.proofs.BoundNames.{names_bound, names_bound_in_each, names_kept, both}
use Rattle.expression_laws.proofs.Ending.{Setting, as_wanted}
use Rattle.expression_laws.proofs.Heads.{listed_back}
use Rattle.expression_laws.proofs.Naming.{names_of}
use Rattle.expression_laws.proofs.Wanting.{for_all}
use Rattle.node_laws.proofs.ProgramNodes.{functions_are_covered}
use Rattle.function_laws.proofs.Parameters.{ParametersTyped, each_in_scope, parameters_typed}
use Rattle.declaration_laws.proofs.Objects.{object_head}
use Rattle.declaration_laws.proofs.Reading.{taken_written}
use Rattle.block_laws.specs.Lists.{method_term}
use Rattle.method_laws.specs.Methods.{names_in_context, ContextIsWritten, method_uses, IsMethodFine, Behind, MethodTyped, MethodMade, SystemMade, MethodsAreTyped, SystemsAreTyped}
use Rattle.method_laws.proofs.Entering.{Inner, body_fits}

principal_head : (defs : Definitions) → head defs t.Principal ≡ node.Principal
unfolding head
principal_head defs = refl

-- the head of a type that unfolds to a tuple
tuple_unfolded : (defs : Definitions) (r : Term) (ps : Terms) → unfolded defs.types r ≡ t.Tuple ps → head defs r ≡ node.Tuple (listed ps)
unfolding head
tuple_unfolded defs r ps e = ap (shape defs) e

sorts : (query : Bool) → sort_of (body_of query) ≡ method_sort query
sorts true = refl
sorts false = refl

abbrev context_bound : Option (Pattern Note) → Names
context_bound None = []
context_bound (Some q) = bound_names q

module _ (defs : Definitions) (slots : List Slot) (terms : List Term) (number : Term → TypeId) (graph : IsGraphOf defs slots terms number) (units : Among unit terms) where
  -- the results of a public function
  results_of : (r u : Term) → Among r terms → unfolded defs.types r ≡ u → ResultOf (head_at slots) (map number (results r u)) (number r)
  results_of r (t.Tuple ps) m e = by (listed ps) (head_there defs slots terms number graph r m (node.Tuple (listed ps)) (tuple_unfolded defs r ps e)) where
    by : (us : List Term) → head_at slots (number r) ≡ on_node number (node.Tuple us) → ResultOf (head_at slots) (map number us) (number r)
    by [] h = h
    by (v ∷ []) h = absurd (subst (λ y. IsLawfulNode (head_at slots) y) h (graph.lawful.nodes (number r)).0 refl)
    by (v ∷ x ∷ us) h = h
  results_of r (t.Number k) m e = refl
  results_of r t.Boolean m e = refl
  results_of r t.Character m e = refl
  results_of r t.Text m e = refl
  results_of r t.Blob m e = refl
  results_of r t.Principal m e = refl
  results_of r t.Error m e = refl
  results_of r t.Null m e = refl
  results_of r t.Any m e = refl
  results_of r t.Bottom m e = refl
  results_of r (t.Optional a) m e = refl
  results_of r (t.Array a) m e = refl
  results_of r (t.MutableArray a) m e = refl
  results_of r (t.Object fs) m e = refl
  results_of r (t.Actor fs) m e = refl
  results_of r (t.Variant fs) m e = refl
  results_of r (t.Function ps q) m e = refl
  results_of r (t.Shared s ps q) m e = refl
  results_of r (t.Async a) m e = refl
  results_of r (t.Parameter v) m e = refl
  results_of r (t.Use at us) m e = refl

  -- `{caller : Principal}`
  caller_known : AreBoundsIn [] defs → Among context_type terms → IsKnown defs terms [] context_type
  caller_known bounds m = record { there = m; fine = record { scoped = scoped_in [] defs bounds context_type (tt, tt); no_future = ap async_of (object_head defs (t.constant (codes "caller") t.Principal t.NoFields)) } }

  caller_type : Among context_type terms → IsContextType slots (number context_type)
  caller_type m =
      let fs = t.constant (codes "caller") t.Principal t.NoFields in
      let there = parts_there defs slots terms number graph context_type t.Principal m (subst (λ y. Among t.Principal (types_in y)) (sym (object_head defs fs)) (inl refl)) in (
        record { label = codes "caller"; mutable = false; part = number t.Principal },
        head_there defs slots terms number graph context_type m (node.Object (listed_fields fs)) (object_head defs fs),
        refl,
        refl,
        head_there defs slots terms number graph t.Principal there node.Principal (principal_head defs),
      )

  module _ (uses : List Bytes) (e : Context) where
    abbrev setting : Setting
    setting = record { defs = defs; slots = slots; terms = terms; number = number; graph = graph; units = units; scope = e.types }

    abbrev W : Type 0
    W = Behind defs slots terms number uses e

    types_fine : W → IsScopeFine defs [] e.types
    types_fine w = subst (λ vs. IsScopeFine defs vs e.types) w.parameters w.fits.types

    bounds_fine : W → AreBoundsIn [] defs
    bounds_fine w = subst (λ vs. AreBoundsIn vs defs) w.parameters w.fits.bounds

    -- ---- the context of a call

    record ContextTyped (context : Option (Pattern ℕ)) (c : Scope × Option (Pattern Note)) : Type 0 where
      scope_is : c.0 ≡ entered (context_bound c.1) []
      names : ContextNames slots (context_pattern defs number c.1) (wants number (context_bound c.1))
      known : Each (λ x. IsKnown defs terms [] x.1) (context_bound c.1)
      same : names_of (context_bound c.1) ≡ names_in_context context

    context_typed : (context : Option (Pattern ℕ)) → ContextIsWritten context → W → Yields defs terms (ContextOf defs e.types context) (ContextTyped context)
    context_typed None h w = record { scope_is = refl; names = refl; known = tt; same = refl }
    context_typed (Some q) h w = λ m.
        let k = caller_known (bounds_fine w) m in
        after defs terms (Stands defs e.types q context_type) _ (λ b. PatternTyped defs slots terms number [] context_type b.0 b.1 × (names_in b.1 ≡ names_in q)) (ContextTyped (Some q))
        (both defs terms (Stands defs e.types q context_type) (λ b. PatternTyped defs slots terms number [] context_type b.0 b.1) (λ b. names_in b.1 ≡ names_in q)
        (patterns_are_typed defs slots terms number graph units [] e.types (written_fine defs [] e.types (types_fine w) (bounds_fine w) terms) q h context_type k) (names_kept defs terms e.types q context_type)) (λ b i. record {
          scope_is = i.0.scope_is;
          names = (number context_type, caller_type m, i.0.stands (number context_type) (reflexive defs slots terms number graph (number context_type)));
          known = i.0.known;
          same = sym (names_bound b.1) ∙ i.1;
        })

    -- ---- the body

    module _ (query : Bool) (context : Option (Pattern ℕ)) (x : Named) (g : Signature ℕ) (body : Expression ℕ) (fine : IsMethodFine context g) (result_known : IsKnown defs terms [] (async_term e.types g.result))
        (uses_are : uses ≡ method_uses context g body) (j : AreTyped defs slots terms number e.types body) where
      abbrev r : Term
      r = async_term e.types g.result

      abbrev Params : Taken → Type 0
      Params ps = (w : W) → ParametersTyped setting [] g.parameters ps

      abbrev E : Scope × Option (Pattern Note) → Taken → Context
      E c ps = rules.in_body (body_of query) (Some r) (ps.scope ++ c.0) e

      known_at : (w : W) → IsKnown defs terms w.context.parameters r
      known_at w = subst (λ vs. IsKnown defs terms vs r) (sym w.parameters) result_known

      -- the names of the context, of which those that a parameter has are hidden, and of the parameters
      abbrev F : Scope × Option (Pattern Note) → Taken → W → Frame
      F c ps w = frames.in_method (names_of (context_bound c.1)) (names_of (bound_in_each ps.patterns)) w.frame

      abbrev D : Scope × Option (Pattern Note) → Taken → W → typed.Context
      D c ps w = Inner defs slots terms number e uses w (body_of query) r (known_at w) (wants number (context_bound c.1) ++ wants number (bound_in_each ps.patterns))

      inside : (c : Scope × Option (Pattern Note)) → ContextTyped context c → (ps : Taken) → ParametersTyped setting [] g.parameters ps → (w : W) → Fits defs slots terms number e.types (occurring body) (E c ps) (F c ps w) (D c ps w)
      inside c i ps k w =
          let cs = context_bound c.1 in
          let qs = bound_in_each ps.patterns in
          let same : names_of qs ≡ names_in_each g.parameters = sym (names_bound_in_each ps.patterns) ∙ k.same in
          subst (λ z. Fits defs slots terms number e.types (occurring body) (rules.in_body (body_of query) (Some r) z e) (F c ps w) (D c ps w)) (sym (ap₂ (λ a b. a ++ b) k.scope_is i.scope_is))
          (body_fits defs slots terms number e uses w (body_of query) r (known_at w) cs qs (occurring body) (subst (λ ns. Distinct ns) (sym i.same) fine.context_distinct) (subst (λ ns. Distinct ns) (sym same) fine.parameters.distinct)
          (subst (λ vs. Each (λ z. IsKnown defs terms vs z.1) cs) (sym w.parameters) i.known) (subst (λ vs. Each (λ z. IsKnown defs terms vs z.1) qs) (sym w.parameters) k.known)
          (λ y m. subst (λ z. Among y z) (sym uses_are) (subst (λ ns. Among y (without ns (occurring body))) (ap₂ (λ a b. a ++ b) i.same same) m)))

      abbrev BodyTyped : Scope × Option (Pattern Note) → Taken → p.Expression Note → Type 0
      BodyTyped c ps b = (w : W) → Typed slots (written_out defs number (F c ps w) b) (D c ps w) (Of (number r))

      body_typed : (c : Scope × Option (Pattern Note)) → ((w : W) → ContextTyped context c) → (ps : Taken) → Params ps → Yields defs terms (Judge defs (E c ps) body (Some r)) (BodyTyped c ps)
      body_typed c i ps k =
          for_all defs terms (Judge defs (E c ps) body (Some r)) (λ (w : W) b. Typed slots (written_out defs number (F c ps w) b) (D c ps w) (Of (number r))) (λ w.
          more defs terms (Judge defs (E c ps) body (Some r)) (Becomes defs slots terms number Other [] (F c ps w) (D c ps w) (Some r)) (λ b. Typed slots (written_out defs number (F c ps w) b) (D c ps w) (Of (number r)))
          (j (E c ps) (F c ps w) (D c ps w) (inside c (i w) ps (k w) w) (Some r) (known_at w).fine) (λ b h. as_wanted setting [] (F c ps w) (D c ps w) r b h))

      -- the function
      function_made : (c : Scope × Option (Pattern Note)) → ((w : W) → ContextTyped context c) → (ps : Taken) → Params ps → (b : p.Expression Note) → BodyTyped c ps b → (w : W)
          → MethodTyped defs slots terms number uses e query c.1 (signature g ps.patterns) b (t.Shared (signatures.method_sort query) (unlisted ps.types) r) w
      function_made c i ps k b h w =
          let cs = context_bound c.1 in
          let qs = bound_in_each ps.patterns in
          let G = frames.in_method (context_names c.1) (names_in_each ps.patterns) w.frame in
          let made : Typed slots (written_out defs number G b) (record { names = (wants number cs ++ wants number qs) ++ map in_function w.context.names; labels = number r ∷ []; body = method_sort query; parameters = w.context.parameters }) (Of (number r)) =
          subst (λ s. Typed slots (written_out defs number G b) (record { names = (wants number cs ++ wants number qs) ++ map in_function w.context.names; labels = number r ∷ []; body = s; parameters = w.context.parameters }) (Of (number r))) (sorts query)
          (subst (λ ns. Typed slots (written_out defs number (frames.in_method (context_names c.1) ns w.frame) b) (D c ps w) (Of (number r))) (sym (names_bound_in_each ps.patterns))
          (subst (λ ns. Typed slots (written_out defs number (frames.in_method ns (names_of qs) w.frame) b) (D c ps w) (Of (number r))) (sym (named_context c.1)) (h w))) in
          record {
            names = wants number cs;
            result = number r;
            context_names = (i w).names;
            result_of = results_of r (unfolded defs.types r) result_known.there refl;
            function =
                (functions slots _ w.context (record { sort = method_sort query; generics = []; context = wants number cs; parameters = map number (listed (unlisted ps.types)); result = number r })).1 (
                  wants number qs,
                  refl,
                  tt,
                  subst (λ vs. AllStand slots vs (patterns defs number ps.patterns) (map number (listed (unlisted ps.types))) (wants number qs)) (sym w.parameters)
                      (subst (λ us. AllStand slots [] (patterns defs number ps.patterns) (map number us) (wants number qs)) (sym (listed_back ps.types)) (k w).stand),
                  (
                    in_scope defs slots terms number graph w.context.parameters r (known_at w).there (known_at w).fine.scoped,
                    subst (λ vs. Each (IsInScope slots vs) (map number (listed (unlisted ps.types)))) (sym w.parameters)
                        (subst (λ us. Each (IsInScope slots []) (map number us)) (sym (listed_back ps.types)) (each_in_scope setting [] ps.types (k w).types_known)),
                  ),
                  made,
                  omega (arith, functions_are_covered defs number G ps.patterns b),
                );
          }
        where
          named_context : (o : Option (Pattern Note)) → context_names o ≡ names_of (context_bound o)
          named_context None = refl
          named_context (Some q) = names_bound q

      pub method_made : (n : ℕ) (made : List Made) → Yields defs terms (JudgeBody defs e n (p.Method query context x g body) made) (λ q. (q.1 ≡ made) × MethodMade defs slots terms number uses e query x (method_term e.types query g) q.0)
      method_made n made =
          let P = λ (q : Made × List Made). (q.1 ≡ made) × MethodMade defs slots terms number uses e query x (method_term e.types query g) q.0 in
          after defs terms (ContextOf defs e.types context) _ (λ c. (w : W) → ContextTyped context c) P
          (for_all defs terms (ContextOf defs e.types context) (λ (w : W) c. ContextTyped context c) (λ w. context_typed context fine.context_written w)) (λ c i.
          after defs terms (Parameters defs e.types g.parameters []) _ (λ ps. Params ps × (t.Shared (signatures.method_sort query) (unlisted ps.types) r ≡ method_term e.types query g)) P
          (both defs terms (Parameters defs e.types g.parameters []) Params (λ ps. t.Shared (signatures.method_sort query) (unlisted ps.types) r ≡ method_term e.types query g)
          (for_all defs terms (Parameters defs e.types g.parameters []) (λ (w : W) ps. ParametersTyped setting [] g.parameters ps) (λ w.
          parameters_typed setting [] e.types (written_fine defs [] e.types (types_fine w) (bounds_fine w) terms) g.parameters fine.parameters.written [] tt))
          (more defs terms (Parameters defs e.types g.parameters []) (λ ps. unlisted ps.types ≡ parameter_terms e.types g.parameters) (λ ps. t.Shared (signatures.method_sort query) (unlisted ps.types) r ≡ method_term e.types query g) (taken_written defs terms e.types g.parameters)
          (λ ps h. ap (λ us. t.Shared (signatures.method_sort query) us r) h))) (λ ps k.
          after defs terms (Judge defs (E c ps) body (Some r)) _ (BodyTyped c ps) P (body_typed c i ps k.0) (λ b h. (refl, (refl, refl, k.1, λ w. function_made c i ps k.0 b h w)))))

    -- ---- system functions

    module _ (x : Named) (body : Expression ℕ) (uses_are : uses ≡ occurring body) (j : AreTyped defs slots terms number e.types body) where
      abbrev S : Context
      S = rules.in_body Local (Some unit) [] e

      unit_at : (w : W) → IsKnown defs terms w.context.parameters unit
      unit_at w = record { there = units; fine = unit_fine defs w.context.parameters }

      abbrev C : W → typed.Context
      C w = Inner defs slots terms number e uses w Local unit (unit_at w) []

      system_fits : (w : W) → Fits defs slots terms number e.types (occurring body) S (frames.in_function [] w.frame) (C w)
      system_fits w =
          body_fits defs slots terms number e uses w Local unit (unit_at w) [] [] (occurring body) tt tt tt tt (λ y m. subst (λ z. Among y z) (sym uses_are) (inside_none (occurring body) y m))
        where
          inside_none : (ys : List Bytes) (y : Bytes) → Among y (without [] ys) → Among y ys
          inside_none [] y m = m
          inside_none (z ∷ ys) y (inl i) = inl i
          inside_none (z ∷ ys) y (inr m) = inr (inside_none ys y m)

      pub system_made : (n : ℕ) (made : List Made) → Yields defs terms (JudgeBody defs e n (p.System x body) made) (λ q. (q.1 ≡ made) × SystemMade defs slots terms number uses e x q.0)
      system_made n made =
          let T = λ (b : p.Expression Note). (w : W) → Typed slots (written_out defs number (frames.in_function [] w.frame) b) (C w) (Of (number unit)) in
          after defs terms (Judge defs S body (Some unit)) _ T (λ q. (q.1 ≡ made) × SystemMade defs slots terms number uses e x q.0)
          (for_all defs terms (Judge defs S body (Some unit)) (λ (w : W) b. Typed slots (written_out defs number (frames.in_function [] w.frame) b) (C w) (Of (number unit))) (λ w.
          more defs terms (Judge defs S body (Some unit)) (Becomes defs slots terms number Other [] (frames.in_function [] w.frame) (C w) (Some unit)) (λ b. Typed slots (written_out defs number (frames.in_function [] w.frame) b) (C w) (Of (number unit)))
          (j S (frames.in_function [] w.frame) (C w) (system_fits w) (Some unit) (unit_at w).fine) (λ b h. as_wanted setting [] (frames.in_function [] w.frame) (C w) unit b h))) (λ b h. (
            refl,
            (
              refl,
              λ w.
                  (functions slots _ w.context (record { sort = sort.Local; generics = []; context = []; parameters = []; result = number unit })).1 (
                    [],
                    refl,
                    tt,
                    refl,
                    (in_scope defs slots terms number graph w.context.parameters unit units (unit_at w).fine.scoped, tt),
                    h w,
                    omega (arith, functions_are_covered defs number (frames.in_function [] w.frame) p.Nil b),
                  ),
            ),
          ))

pub methods_are_typed : MethodsAreTyped
methods_are_typed defs slots terms number graph units e n made query context x g body fine known j = method_made defs slots terms number graph units (method_uses context g body) e query context x g body fine known refl j n made

pub systems_are_typed : SystemsAreTyped
systems_are_typed defs slots terms number graph units e n made x body j = system_made defs slots terms number graph units (occurring body) e x body refl j n made
