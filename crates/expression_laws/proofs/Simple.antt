-- Forms of which each part is judged where the whole stands: choices, `not`, `assert`, `ignore`, `debug`, annotations, tuples, options, tags, arrays.
use Rattle.std.proofs.Common.{◌≡◌, inl, inr, ℕ, true, List, [], ◌∷◌, Option, Some, None, refl, sym, ◌∙◌, subst}
use Rattle.mo_types.specs.declared.node.Node.TheVariants as node
use Rattle.mo_types.specs.declared.node.TypeId.{TypeId}
use Rattle.mo_types.specs.Graph.{head_at}
use Rattle.mo_types.specs.Heads.{opt_of}
use Rattle.mo_types.specs.Sub.{IsSubtype}
use Rattle.mo_values.specs.declared.operation.Operation.TheVariants as op
use Rattle.subtype_laws.specs.Reached.{Among}
use Rattle.typed_tree.specs.declared.action.Action.TheVariants as action
use Rattle.typed_tree.specs.declared.literal.Literal.TheVariants as literal
use Rattle.typed_tree.specs.declared.expression.Form.TheOpen as F
use Rattle.typed_tree.specs.declared.expression.TypedExpression.{TypedExpression}
use Rattle.typed_tree.specs.declared.expression.Step.{roll-Step}
use Rattle.typed_tree.specs.Instances.{MentionsOnly}
use Rattle.typed_tree.specs.Typing.{Typed}
use Rattle.typed_tree.specs.Wants.{Want, Of, FutureOf}
use Rattle.typed_tree.proofs.Rules.{steps}
use Rattle.typing_rules.specs.AbstractSyntax.{Bytes, Expression}
use Rattle.typing_rules.specs.AbstractSyntax as p
use Rattle.mo_types.specs.declared.node.Sort.TheVariants as sort
use Rattle.typing_rules.specs.AsyncPlaces.{Body, Update, Query, Local, Around, Awaited, Other, waits}
use Rattle.typing_rules.specs.Contexts.{Context, Label, directly}
use Rattle.typing_rules.specs.Ends.{wanted}
use Rattle.typing_rules.specs.Expressions.{Judge, Rule}
use Rattle.typing_rules.specs.Heads.{head}
use Rattle.typing_rules.specs.Terms.{Term, unit}
use Rattle.typing_rules.specs.Terms as t
use Rattle.typing_rules.specs.TypedTrees.{Note, type_of}
use Rattle.desugaring.specs.FreeNames.{occurring}
use Rattle.desugaring.specs.Nodes.{unit_value, operates}
use Rattle.desugaring_laws.specs.Known.{IsKnown}
use Rattle.desugaring_laws.specs.Yields.{Yields}
use Rattle.desugaring_laws.proofs.Graph.{below_number}
use Rattle.desugaring_laws.proofs.HeadForms.{is_option}
use Rattle.desugaring_laws.proofs.Patterns.{unit_fine}
use Rattle.desugaring_laws.proofs.Yielding.{tests, by_case, part as after}
use Rattle.expression_laws.specs.Fitting.{sort_of, Fits}
use Rattle.expression_laws.specs.Results.{IsWantFine, Gives, Becomes}
use Rattle.expression_laws.proofs.Ending.{Setting, Place, Within, IsTypedPart, self, trans, there, inside, value_of, as_wanted, as_given, Known, WantKnown, Is, IsPart, Tree, Value, judged, wanting, stands_so, has, fits, a_value, acts}
use Rattle.expression_laws.proofs.Heads.{boolean_head, boolean_fine, error_head, error_fine, bottom_head, bottom_fine, option_head, made_fine, tuple_head}
use Rattle.expression_laws.proofs.Wanting.{wanted_is}

module _ (S : Setting) where
  pub boolean_there : Among t.Boolean S.terms → head_at S.slots (S.number t.Boolean) ≡ node.Bool
  boolean_there m = there S t.Boolean m node.Bool (boolean_head S.defs)

  pub unit_there : head_at S.slots (S.number unit) ≡ node.Tuple []
  unit_there = there S unit S.units (node.Tuple []) (tuple_head S.defs t.Nil)

  pub unit_known : (vs : List ℕ) → IsKnown S.defs S.terms vs unit
  unit_known vs = record { there = S.units; fine = unit_fine S.defs vs }

  pub boolean_known : (vs : List ℕ) → Among t.Boolean S.terms → IsKnown S.defs S.terms vs t.Boolean
  boolean_known vs m = record { there = m; fine = boolean_fine S.defs vs }

  module _ (A : Place S) where
    abbrev E : Context
    E = directly Other A.known

    abbrev labels : List (Bytes × Label)
    labels = A.known.labels

    abbrev Asked : ℕ → p.Form ℕ → Type 0
    Asked at x = (w : Option Term) → WantKnown S A w → Yields S.defs S.terms (Rule S.defs A.around E at x w) (Is S A w)

    abbrev Typing : Expression ℕ → Type 0
    Typing a = IsTypedPart S A a

    abbrev wanted_so : {u : Term} (b : p.Expression Note) → IsPart S A (Some u) b → Typed S.slots (Tree S A b) A.context (Of (S.number u))
    wanted_so b i = as_wanted S labels A.frame A.context _ b i

    abbrev given_so : {w : Option Term} (b : p.Expression Note) → IsPart S A w b → Typed S.slots (Tree S A b) A.context (Of (S.number (type_of b)))
    given_so b i = as_given S labels A.frame A.context _ b i

    pub as_fine : (w : Option Term) → WantKnown S A w → IsWantFine S.defs A.context.parameters w
    as_fine None k = tt
    as_fine (Some u) k = k.fine

    -- the same place with something else directly around
    pub moved : (a : Expression ℕ) → Within (occurring a) A.used → (o : Around) → Fits S.defs S.slots S.terms S.number S.scope (occurring a) (directly o E) A.frame A.context
    moved a h o = record { names = λ x m. A.fits.names x (h x m); labels = A.fits.labels; returns = A.fits.returns; options = A.fits.options; body_is = A.fits.body_is; types = A.fits.types; bounds = A.fits.bounds; scope_is = A.fits.scope_is }

    pub no_local : waits A.known.body ≡ true → A.context.body ≡ sort.Local → ⊥
    no_local h e = by A.known.body h (sym A.fits.body_is ∙ e) where
      by : (b : Body) → waits b ≡ true → sort_of b ≡ sort.Local → ⊥
      by Update h e = cc
      by Query h e = cc
      by Local h e = cc

    pub only : (u : Term) → MentionsOnly (head S.defs) A.context.parameters u → (v : Term) → Among v (u ∷ []) → MentionsOnly (head S.defs) A.context.parameters v
    only u h v (inl e) = subst (λ z. MentionsOnly (head S.defs) A.context.parameters z) e h
    only u h v (inr m) = absurd m

    -- () as a value
    pub unit_typed : Typed S.slots (unit_value S.defs S.number) A.context (Of (S.number unit))
    unit_typed = (a_value S A unit (unit_known A.context.parameters) (F.Constant literal.Unit) (S.number unit, refl, unit_there)).typed (S.number unit) (self S (S.number unit))

    -- and at a type above it
    pub unit_at : (v : Term) → Known S A v → IsSubtype (head S.defs) unit v → Typed S.slots (unit_value S.defs S.number) A.context (Of (S.number v))
    unit_at v k b = (a_value S A unit (unit_known A.context.parameters) (F.Constant literal.Unit) (S.number unit, refl, unit_there)).typed (S.number v) (below_number S.defs S.slots S.terms S.number S.graph unit v S.units k.there b)

    pub not_typed : (at : ℕ) (a : Expression ℕ) → Typing a → Asked at (p.Not a)
    not_typed at a j w k =
        wanting S A a j t.Boolean (boolean_fine S.defs A.context.parameters) _ (Is S A w) (λ b m i.
        has S A at w t.Boolean (p.Not b) (λ l. refl) k (λ m.
        acts S A t.Boolean (boolean_known A.context.parameters m) (action.Operate op.Not) (Tree S A b ∷ []) (Of (S.number t.Boolean) ∷ [])
        ((S.number t.Boolean, refl, boolean_there m), (S.number t.Boolean, refl, boolean_there m)) (wanted_so b i, tt)))

    pub assert_typed : (at : ℕ) (a : Expression ℕ) → Typing a → Asked at (p.Assert a)
    assert_typed at a j w k =
        wanting S A a j t.Boolean (boolean_fine S.defs A.context.parameters) _ (Is S A w) (λ b m i.
        has S A at w unit (p.Assert b) (λ l. refl) k (λ n.
        acts S A unit (unit_known A.context.parameters) (action.Operate op.Assert) (Tree S A b ∷ []) (Of (S.number t.Boolean) ∷ [])
        ((S.number t.Boolean, refl, boolean_there m), (S.number unit, refl, unit_there)) (wanted_so b i, tt)))

    -- at a type above its own
    raised : (v : Term) (b : p.Expression Note) → IsPart S A (Some v) b → IsKnown S.defs S.terms A.context.parameters v → Value S A v (Tree S A b)
    raised v b i k =
        let y = value_of S labels A.frame A.context (Some v) b i in
        record { known = k; typed = λ u h. y.typed u (trans S (S.number (type_of b)) (S.number v) u i.below h); unasked = y.unasked }

    pub debug_typed : (at : ℕ) (a : Expression ℕ) → Typing a → Asked at (p.Debug a)
    debug_typed at a j w k =
        judged S A a j (Some unit) (unit_fine S.defs A.context.parameters) _ (Is S A w) (λ b i.
        has S A at w unit (p.Debug b) (λ l. refl) k (λ m. raised unit b i (unit_known A.context.parameters)))

    pub do_typed : (at : ℕ) (a : Expression ℕ) → Typing a → Asked at (p.Do a)
    do_typed at a j w k =
        judged S A a j w (as_fine w k) _ (Is S A w) (λ b i. record {
          below = i.below;
          gives = stands_so S A at (type_of b) (p.Do b) (λ l. refl) (value_of S labels A.frame A.context w b i);
        })

    pub throw_typed : (at : ℕ) (a : Expression ℕ) → Typing a → Asked at (p.Throw a)
    throw_typed at a j w k =
        tests S.defs S.terms _ at (waits A.known.body) _ (Is S A w) (λ waiting.
        wanting S A a j t.Error (error_fine S.defs A.context.parameters) _ (Is S A w) (λ b m i.
        has S A at w t.Bottom (p.Throw b) (λ l. refl) k (λ n.
        acts S A t.Bottom (record { there = n; fine = bottom_fine S.defs A.context.parameters }) action.Throw (Tree S A b ∷ []) (Of (S.number t.Error) ∷ [])
        (no_local waiting, (S.number t.Error, refl, there S t.Error m node.Error (error_head S.defs)), (S.number t.Bottom, refl, there S t.Bottom n node.Bottom (bottom_head S.defs))) (wanted_so b i, tt))))

    pub when_typed : (at : ℕ) (a b : Expression ℕ) → Typing a → Typing b → Asked at (p.When a b)
    when_typed at a b j l w k =
        wanting S A a j t.Boolean (boolean_fine S.defs A.context.parameters) _ (Is S A w) (λ x m i.
        wanting S A b l unit (unit_fine S.defs A.context.parameters) _ (Is S A w) (λ y n h.
        has S A at w unit (p.When x y) (λ l. refl) k (λ m'.
        a_value S A unit (unit_known A.context.parameters) (F.If (Tree S A x) (Tree S A y) (unit_value S.defs S.number)) (S.number unit, S.number t.Boolean, refl, boolean_there m, wanted_so x i, wanted_so y h, unit_typed))))

    pub ignore_typed : (at : ℕ) (a : Expression ℕ) → Typing a → Asked at (p.Ignore a)
    ignore_typed at a j w k =
        after S.defs S.terms (Judge S.defs (directly Awaited E) a None) _ (Becomes S.defs S.slots S.terms S.number Awaited labels A.frame A.context None) (Is S A w) (j.0 (directly Awaited E) A.frame A.context (moved a j.1 Awaited) None tt) (λ b i.
        has S A at w unit (p.Ignore b) (λ l. refl) k (λ m.
        let g = either b i.gives in
        a_value S A unit (unit_known A.context.parameters) (F.Block (roll-Step (F.Evaluate (Tree S A b)) ∷ []) (unit_value S.defs S.number))
        (S.number unit, refl, ([], (steps S.slots (F.Evaluate (Tree S A b)) A.context []).1 (g.0, g.1, refl), unit_typed))))
      where
        either : (b : p.Expression Note) → Gives S.defs S.slots S.terms S.number A.context Awaited (type_of b) (Tree S A b) → (v : Want TypeId) × Typed S.slots (Tree S A b) A.context v
        either b (inl h) = (Of (S.number (type_of b)), h.typed (S.number (type_of b)) (self S (S.number (type_of b))))
        either b (inr h) = (FutureOf (S.number h.future.value), h.typed)

    -- ---- values with parts

    pub option_value : (v u : Term) → Known S A v → head S.defs v ≡ node.Opt u → (x : TypedExpression) → Typed S.slots x A.context (Of (S.number u)) → Value S A v (operates S.defs S.number v op.MakeOption (x ∷ []))
    option_value v u k e x h =
        acts S A v k (action.Operate op.MakeOption) (x ∷ []) (Of (S.number u) ∷ []) (S.number v, refl, (S.number u, there S v k.there (node.Opt u) e, refl)) (h, tt)

    pub option_typed : (at : ℕ) (a : Expression ℕ) → Typing a → Asked at (p.Optional a)
    option_typed at a j w k =
        by_case S.defs S.terms (wanted S.defs opt_of w) _ _ (Is S A w) (λ q e.
        let r = wanted_is S.defs opt_of w q e in
        let h : head S.defs q.0 ≡ node.Opt q.1 = is_option (head S.defs q.0) q.1 r.1 in
        let v : Known S A q.0 = subst (λ z. WantKnown S A z) r.0 k in
        judged S A a j (Some q.1) (inside S A.context.parameters q.0 q.1 v (node.Opt q.1) h (inl refl)).fine _ (Is S A w) (λ b i.
        fits S A at q.0 (p.Optional b) (λ l. refl) (option_value q.0 q.1 v h (Tree S A b) (wanted_so b i)) w r.0)) (λ e.
        judged S A a j None tt _ (Is S A w) (λ b i.
        let u = type_of b in
        let known = (value_of S labels A.frame A.context None b i).known in
        has S A at w (t.Optional u) (p.Optional b) (λ l. refl) k (λ m.
        option_value (t.Optional u) u (record { there = m; fine = made_fine S.defs A.context.parameters (t.Optional u) (node.Opt u) (option_head S.defs u) tt refl (only u known.fine.scoped) }) (option_head S.defs u) (Tree S A b) (given_so b i))))
