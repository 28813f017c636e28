-- Functions that are no shared ones.
use Rattle.std.proofs.Common.{◌≡◌, ◌⊎◌, inl, inr, ℕ, ◌+◌, List, [], ◌∷◌, ◌++◌, length, map, Option, Some, None, refl, sym, ap, ◌∙◌, subst}
use Rattle.std.specs.Prelude.{nat_eq}
use Rattle.mo_types.specs.declared.node.Node.{Node}
use Rattle.mo_types.specs.declared.node.Node.TheVariants as node
use Rattle.mo_types.specs.declared.node.Sort.TheVariants as sort
use Rattle.mo_types.specs.Graph.{head_at}
use Rattle.mo_types.specs.Sub.{Each}
use Rattle.subtype_laws.specs.Reached.{Among}
use Rattle.typed_tree.specs.declared.expression.Form.TheOpen as F
use Rattle.typed_tree.specs.declared.expression.Function.{Function}
use Rattle.typed_tree.specs.declared.expression.Step.{roll-Step}
use Rattle.typed_tree.specs.ActionTypes as typed
use Rattle.typed_tree.specs.Instances.{MentionsOnly}
use Rattle.typed_tree.specs.OperationTypes.{Distinct}
use Rattle.typed_tree.specs.PatternTypes.{IsInScope}
use Rattle.typed_tree.specs.Typing.{AreParameters, IsFunctionOf, NameOf, Declares, Typed, in_body, with_names}
use Rattle.typed_tree.specs.Wants.{Of}
use Rattle.typed_tree.proofs.Rules.{functions, steps}
use Rattle.typing_rules.specs.AbstractSyntax.{Bytes, Expression, Patterns, Signature}
use Rattle.typing_rules.specs.declared.condition.Condition.TheVariants as condition
use Rattle.typing_rules.specs.AbstractSyntax as p
use Rattle.typing_rules.specs.AsyncPlaces.{Local, Other}
use Rattle.typing_rules.specs.Calls.{local_of}
use Rattle.typing_rules.specs.Contexts.{Context, directly, with_types}
use Rattle.typing_rules.specs.Contexts as rules
use Rattle.typing_rules.specs.Ends.{wanted, Has}
use Rattle.typing_rules.specs.Expressions.{Judge, Rule}
use Rattle.typing_rules.specs.Heads.{head, result}
use Rattle.typing_rules.specs.Judgements.{Part}
use Rattle.typing_rules.specs.Nodes as counts
use Rattle.typing_rules.specs.Signatures.{Taken, Parameters}
use Rattle.typing_rules.specs.Terms.{Term, unit, unlisted}
use Rattle.typing_rules.specs.Terms as t
use Rattle.typing_rules.specs.TypedTrees.{Note, signature, count_patterns}
use Rattle.typing_rules.specs.Types.{ReadsOr}
use Rattle.typing_rules.specs.TypeScopes.{TypeScope, places_of}
use Rattle.typing_rules.specs.TypeScopes as scopes
use Rattle.desugaring.specs.Expressions.{tree as written_out, function_of, alone}
use Rattle.desugaring.specs.FreeNames.{names_in_each, without, occurring}
use Rattle.desugaring.specs.Frames.{Unnamed, Frame, with_entries}
use Rattle.desugaring.specs.Frames as frames
use Rattle.desugaring_laws.specs.Known.{IsKnown}
use Rattle.desugaring_laws.specs.Laws.{wants}
use Rattle.desugaring_laws.specs.Names.{bound_in_each, entered}
use Rattle.desugaring_laws.specs.Scopes.{IsScopeFine, AreBoundsIn}
use Rattle.desugaring_laws.specs.Yields.{Yields}
use Rattle.desugaring_laws.proofs.Graph.{each_among, in_scope}
use Rattle.desugaring_laws.proofs.Patterns.{each_append}
use Rattle.desugaring_laws.proofs.Yielding.{more, tests, by_case, part as after}
use Rattle.expression_laws.specs.Fitting.{Fits}
use Rattle.expression_laws.specs.Results.{Becomes, AreTyped}
use Rattle.expression_laws.proofs.BoundNames.{names_bound_in_each}
use Rattle.expression_laws.proofs.Calling.{one_result, parameters_known, results_scoped}
use Rattle.expression_laws.proofs.Ending.{Setting, Place, Within, self, there, as_wanted, Known, WantKnown, Is, Value, has, a_value, written}
use Rattle.expression_laws.proofs.Heads.{made_fine, function_head, listed_back}
use Rattle.expression_laws.proofs.Leaving.{reads_or}
use Rattle.expression_laws.proofs.Naming.{names_of, with_pattern}
use Rattle.expression_laws.proofs.Outside.{outside}
use Rattle.expression_laws.proofs.Simple.{unit_known}
use Rattle.expression_laws.proofs.Trees.{value_node}
use Rattle.expression_laws.proofs.Wanting.{wanted_is}
use Rattle.node_laws.proofs.ProgramNodes.{functions_are_covered}
use Rattle.function_laws.specs.Laws.{AreParametersFine}
use Rattle.function_laws.proofs.InFunctions.{behind_unnamed, signature_of, in_function_body}
use Rattle.function_laws.proofs.Parameters.{ParametersTyped, each_in_scope, parameters_typed}

is_local : (y : Node Term) (q : List Term × Term) → local_of y ≡ Some q → (rs : List Term) × (y ≡ node.Func sort.Local q.0 rs) × (q.1 ≡ result rs)
is_local (node.Number k) q h = cc
is_local node.Bool q h = cc
is_local node.Char q h = cc
is_local node.Text q h = cc
is_local node.Blob q h = cc
is_local node.Principal q h = cc
is_local node.Error q h = cc
is_local node.Null q h = cc
is_local node.Any q h = cc
is_local node.Bottom q h = cc
is_local (node.Opt a) q h = cc
is_local (node.Array a) q h = cc
is_local (node.MutArray a) q h = cc
is_local (node.Tuple ts) q h = cc
is_local (node.Object fs) q h = cc
is_local (node.Actor fs) q h = cc
is_local (node.Variant fs) q h = cc
is_local (node.Func sort.Local ps rs) q h =
    let e : Some (ps, result rs) ≡ Some q = h in
    let f : (ps, result rs) ≡ q = cc in
    (rs, ap (λ (z : List Term × Term). node.Func sort.Local z.0 rs) f, ap (λ (z : List Term × Term). z.1) (sym f))
is_local (node.Func sort.Shared ps rs) q h = cc
is_local (node.Func sort.Query ps rs) q h = cc
is_local (node.Async a) q h = cc
is_local (node.Variable v b) q h = cc

module _ (S : Setting) where
  -- the frame in the body of a function
  abbrev Inner : Frame → Patterns Note → Frame
  Inner f qs = frames.in_function (names_in_each qs) f

  module _ (e : Context) (f : Frame) (c : typed.Context) (outer : List Bytes) (fit : Fits S.defs S.slots S.terms S.number S.scope outer e f c) (gs : List ℕ) (s : TypeScope)
      (types : IsScopeFine S.defs (gs ++ c.parameters) s) (bounds : AreBoundsIn (gs ++ c.parameters) S.defs) where
    abbrev vs : List ℕ
    vs = gs ++ c.parameters

    abbrev E : Taken → Term → Context
    E ps r = rules.in_body Local (Some r) ps.scope (with_types s e)

    abbrev C : Taken → Term → typed.Context
    C ps r = in_body (signature_of S.defs S.slots S.terms S.number gs (map S.number ps.types) (S.number r)) (wants S.number (bound_in_each ps.patterns)) c

    -- what uses the parameters and these others fits in the body
    pub body_fits : (qs : Patterns ℕ) (used : List Bytes) → Distinct (names_in_each qs) → Within (without (names_in_each qs) used) outer → (ps : Taken) → ParametersTyped S vs qs ps → (r : Term) → IsKnown S.defs S.terms vs r
        → Fits S.defs S.slots S.terms S.number s used (E ps r) (Inner f ps.patterns) (C ps r)
    body_fits qs used distinct within ps i r k =
        let xs = bound_in_each ps.patterns in
        let same : names_of xs ≡ names_in_each qs = sym (names_bound_in_each ps.patterns) ∙ i.same in
        let base = in_function_body S.defs S.slots S.terms S.number S.scope outer e f c gs s (map S.number ps.types) r fit types bounds k in
        subst (λ x. Fits S.defs S.slots S.terms S.number s used (rules.in_body Local (Some r) x (with_types s e)) (Inner f ps.patterns) (C ps r)) (sym i.scope_is)
        (subst (λ ns. Fits S.defs S.slots S.terms S.number s used (rules.in_body Local (Some r) (entered xs []) (with_types s e)) (frames.in_function ns f) (C ps r)) (sym (names_bound_in_each ps.patterns))
        (with_pattern S.defs S.slots S.terms S.number s used outer xs (λ x m. reach x (outside (names_in_each qs) used x m) same) (rules.in_body Local (Some r) [] (with_types s e)) (frames.in_function [] f)
        (in_body (signature_of S.defs S.slots S.terms S.number gs (map S.number ps.types) (S.number r)) [] c) base (subst (λ ns. Distinct ns) (sym same) distinct) i.known))
      where
        reach : (x : Bytes) → Among x (names_in_each qs) ⊎ Among x (without (names_in_each qs) used) → names_of (bound_in_each ps.patterns) ≡ names_in_each qs → Among x (names_of (bound_in_each ps.patterns)) ⊎ Among x outer
        reach x (inl m) h = inl (subst (λ ns. Among x ns) (sym h) m)
        reach x (inr m) h = inr (within x m)

    -- a function whose body is typed
    pub function_typed : (qs : Patterns ℕ) (g : Signature ℕ) (ps : Taken) → ParametersTyped S vs qs ps → (r : Term) → IsKnown S.defs S.terms vs r → AreParameters (head_at S.slots) c.parameters (map (λ n. S.number (t.Parameter n)) (places_of (scopes.names_of g.generics))) gs
        → Each (IsInScope S.slots vs) (map (λ n. S.number (t.Parameter n)) (places_of (scopes.names_of g.generics)))
        → (b : Expression Note) → Typed S.slots (written_out S.defs S.number (Inner f ps.patterns) b) (C ps r) (Of (S.number r))
        → IsFunctionOf S.slots (function_of S.defs S.number sort.Local (signature g ps.patterns) (counts.in_patterns ps.patterns + counts.in_expression b) (λ inner. written_out S.defs S.number inner b) f) c
        (signature_of S.defs S.slots S.terms S.number gs (map S.number ps.types) (S.number r))
    function_typed qs g ps i r k generics scoped b h =
        (functions S.slots _ c (signature_of S.defs S.slots S.terms S.number gs (map S.number ps.types) (S.number r))).1 (
          wants S.number (bound_in_each ps.patterns),
          refl,
          generics,
          i.stand,
          (
            in_scope S.defs S.slots S.terms S.number S.graph vs r k.there k.fine.scoped,
            each_append (IsInScope S.slots vs) (map (λ n. S.number (t.Parameter n)) (places_of (scopes.names_of g.generics))) (map S.number ps.types) scoped (each_in_scope S vs ps.types i.types_known),
          ),
          h,
          functions_are_covered S.defs S.number (Inner f ps.patterns) ps.patterns b,
        )

module _ (S : Setting) (A : Place S) where
  abbrev Around : Context
  Around = directly Other A.known

  wanted_known : (w : Option Term) (u : Term) → w ≡ Some u → WantKnown S A w → Known S A u
  wanted_known None u e k = cc
  wanted_known (Some v) u e k = let f : v ≡ u = cc in subst (λ z. Known S A z) f k

  each_scoped : (us : List Term) → Each (Known S A) us → (r : Term) → Known S A r → (v : Term) → Among v (us ++ r ∷ []) → MentionsOnly (head S.defs) A.context.parameters v
  each_scoped [] k r kr v (inl e) = subst (λ z. MentionsOnly (head S.defs) A.context.parameters z) e kr.fine.scoped
  each_scoped [] k r kr v (inr m) = absurd m
  each_scoped (u ∷ us) k r kr v (inl e) = subst (λ z. MentionsOnly (head S.defs) A.context.parameters z) e k.0.fine.scoped
  each_scoped (u ∷ us) k r kr v (inr m) = each_scoped us k.1 r kr v m

  head_is : (us : List Term) (r : Term) → head S.defs (t.Function (unlisted us) r) ≡ node.Func sort.Local us (r ∷ [])
  head_is us r = function_head S.defs (unlisted us) r ∙ ap (λ l. node.Func sort.Local l (r ∷ [])) (listed_back us)

  function_known : (us : List Term) → Each (Known S A) us → (r : Term) → Known S A r → Among (t.Function (unlisted us) r) S.terms → Known S A (t.Function (unlisted us) r)
  function_known us k r kr m = record { there = m; fine = made_fine S.defs A.context.parameters (t.Function (unlisted us) r) (node.Func sort.Local us (r ∷ [])) (head_is us r) tt refl (each_scoped us k r kr) }

  -- a function without a name
  alone_value : (us : List Term) (r : Term) → Known S A (t.Function (unlisted us) r) → (make : Frame → Function)
      → IsFunctionOf S.slots (make (with_entries (Unnamed ∷ []) A.frame)) (with_names (Of (S.number (t.Function (unlisted us) r)) ∷ []) A.context) (signature_of S.defs S.slots S.terms S.number [] (map S.number us) (S.number r))
      → Value S A (t.Function (unlisted us) r) (alone S.defs S.number (t.Function (unlisted us) r) make A.frame)
  alone_value us r k make h =
      let u = t.Function (unlisted us) r in
      let fn = make (with_entries (Unnamed ∷ []) A.frame) in
      let inner = with_names (Of (S.number u) ∷ []) A.context in
      let stands : NameOf (head_at S.slots) (signature_of S.defs S.slots S.terms S.number [] (map S.number us) (S.number r)) (Of (S.number u)) =
      inr (S.number u, there S u k.there (node.Func sort.Local us (r ∷ [])) (head_is us r), refl) in
      let declared : Declares S.slots (roll-Step (F.Functions (fn ∷ []))) A.context (Of (S.number u) ∷ []) =
      (steps S.slots (F.Functions (fn ∷ [])) A.context (Of (S.number u) ∷ [])).1 ((signature_of S.defs S.slots S.terms S.number [] (map S.number us) (S.number r), refl, refl, h, stands), tt) in
      a_value S A u k (F.Block (roll-Step (F.Functions (fn ∷ [])) ∷ []) _)
      (S.number u, refl, (Of (S.number u) ∷ [], declared, value_node S.defs S.slots S.terms S.number S.graph inner u k (F.Name 0) (Of (S.number u), refl, refl) (S.number u) (self S (S.number u))))

  module _ (n : ℕ) (g : Signature ℕ) (body : Expression ℕ) (none : g.generics ≡ []) (fine : AreParametersFine g.parameters) (within : Within (without (names_in_each g.parameters) (occurring body)) A.used)
      (j : AreTyped S.defs S.slots S.terms S.number S.scope body) (w : Option Term) (k : WantKnown S A w) where
    abbrev F' : Frame
    F' = with_entries (Unnamed ∷ []) A.frame

    abbrev Ended : Taken → Term → Expression Note → Type 0
    Ended ps r b = Yields S.defs S.terms (Has n w (t.Function (unlisted ps.types) r) (p.Function (signature g ps.patterns) b)) (Is S A w)

    abbrev Taking : Taken → Type 0
    Taking ps = ParametersTyped S A.context.parameters g.parameters ps

    no_parameters : AreParameters (head_at S.slots) A.context.parameters (map (λ v. S.number (t.Parameter v)) (places_of (scopes.names_of g.generics))) []
    no_parameters = subst (λ gs. AreParameters (head_at S.slots) A.context.parameters (map (λ v. S.number (t.Parameter v)) (places_of (scopes.names_of gs))) []) (sym none) tt

    no_bounds : Each (IsInScope S.slots A.context.parameters) (map (λ v. S.number (t.Parameter v)) (places_of (scopes.names_of g.generics)))
    no_bounds = subst (λ gs. Each (IsInScope S.slots A.context.parameters) (map (λ v. S.number (t.Parameter v)) (places_of (scopes.names_of gs)))) (sym none) tt

    -- behind the parameters and the result
    body_typed : (ps : Taken) → Taking ps → (r : Term) → Known S A r → Yields S.defs S.terms (Judge S.defs (rules.in_body Local (Some r) ps.scope Around) body (Some r)) (Ended ps r)
    body_typed ps i r kr =
        let u = t.Function (unlisted ps.types) r in
        let fit = behind_unnamed S.defs S.slots S.terms S.number S.scope A.used Around A.frame A.context (Of (S.number u)) A.fits in
        let inner = frames.in_function (names_in_each ps.patterns) F' in
        let c = with_names (Of (S.number u) ∷ []) A.context in
        let e = rules.in_body Local (Some r) ps.scope Around in
        let d = C S Around F' c A.used fit [] A.known.types A.fits.types A.fits.bounds ps r in
        let inside_fits = subst (λ z. Fits S.defs S.slots S.terms S.number z (occurring body) e inner d) A.fits.scope_is
        (body_fits S Around F' c A.used fit [] A.known.types A.fits.types A.fits.bounds g.parameters (occurring body) fine.distinct within ps i r kr) in
        more S.defs S.terms (Judge S.defs e body (Some r)) (Becomes S.defs S.slots S.terms S.number Other [] inner d (Some r)) (Ended ps r) (j e inner d inside_fits (Some r) kr.fine) (λ b h.
        has S A n w u (p.Function (signature g ps.patterns) b) (λ l. refl) k (λ m.
        alone_value ps.types r (function_known ps.types i.types_known r kr m) (function_of S.defs S.number sort.Local (signature g ps.patterns) (counts.in_patterns ps.patterns + counts.in_expression b) (λ q. written_out S.defs S.number q b))
        (function_typed S Around F' c A.used fit [] A.known.types A.fits.types A.fits.bounds g.parameters g ps i r kr no_parameters no_bounds b (as_wanted S [] inner d r b h))))

    -- with these types for parameters, and this one for a result, where none are written
    function_with : (us : List Term) → Each (Known S A) us → (v : Term) → Known S A v
        → Yields S.defs S.terms
        (Part (Parameters S.defs A.known.types g.parameters us) (λ ps. Part (ReadsOr S.defs A.known.types g.result v) (λ r. Part (Judge S.defs (rules.in_body Local (Some r) ps.scope Around) body (Some r)) (λ b.
        Has n w (t.Function (unlisted ps.types) r) (p.Function (signature g ps.patterns) b)))))
        (Is S A w)
    function_with us ku v kv =
        after S.defs S.terms (Parameters S.defs A.known.types g.parameters us) _ Taking (Is S A w) (parameters_typed S A.context.parameters A.known.types (written S A) g.parameters fine.written us ku) (λ ps i.
        after S.defs S.terms (ReadsOr S.defs A.known.types g.result v) _ (Known S A) (Is S A w) (reads_or S A g.result v kv) (λ r kr.
        after S.defs S.terms (Judge S.defs (rules.in_body Local (Some r) ps.scope Around) body (Some r)) _ (Ended ps r) (Is S A w) (body_typed ps i r kr) (λ b h. h)))

    pub function_typed_so : Yields S.defs S.terms (Rule S.defs A.around Around n (p.Function g body) w) (Is S A w)
    function_typed_so =
        by_case S.defs S.terms (wanted S.defs local_of w) _ _ (Is S A w) (λ q e.
        let r = wanted_is S.defs local_of w q e in
        let h = is_local (head S.defs q.0) q.1 r.1 in
        let kq : Known S A q.0 = wanted_known w q.0 r.0 k in
        let one = one_result S A q.0 kq q.1.0 h.0 h.1 in
        let e' : q.1.1 ≡ one.0 = h.2 ∙ ap (λ l. result l) one.1 in
        let kr : Known S A q.1.1 = subst (λ z. Known S A z) (sym e') (results_scoped S A q.0 kq sort.Local q.1.0 h.0 h.1 one.0 (subst (λ l. Among one.0 l) (sym one.1) (inl refl))) in
        tests S.defs S.terms condition.Mismatch n (nat_eq (length q.1.0) (count_patterns g.parameters)) _ (Is S A w) (λ many.
        function_with q.1.0 (each_among (Known S A) q.1.0 (λ u m. parameters_known S A q.0 kq sort.Local q.1.0 h.0 h.1 u m)) q.1.1 kr)) (λ e.
        function_with [] tt unit (unit_known S A.context.parameters))
