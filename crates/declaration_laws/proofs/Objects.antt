-- Objects with declarations.
use Rattle.std.proofs.Common.{◌≡◌, inl, inr, ℕ, zero, false, List, [], ◌∷◌, Some, None, refl, sym, ap, subst}
use Rattle.std.proofs.lemmas.Slice.Eq.{bytes_eq-Decides}
use Rattle.std.specs.Prelude.{cond}
use Rattle.mo_scopes.specs.Scopes.{named}
use Rattle.mo_types.specs.declared.node.Node.TheVariants as node
use Rattle.mo_types.specs.declared.node.TypeId.{TypeId}
use Rattle.mo_types.specs.Graph.{Slot}
use Rattle.mo_types.specs.Heads.{async_of}
use Rattle.subtype_laws.specs.Reached.{Among}
use Rattle.typed_tree.specs.declared.expression.Form.TheOpen as F
use Rattle.typed_tree.specs.declared.expression.Step.{roll-Step}
use Rattle.typed_tree.specs.declared.expression.TypedExpression.{TypedExpression}
use Rattle.typed_tree.specs.declared.pattern.PatternForm.TheOpen as P
use Rattle.typed_tree.specs.Instances.{IsAmong}
use Rattle.typed_tree.specs.Typing.{Typed}
use Rattle.typed_tree.specs.Wants.{Want, Of}
use Rattle.typed_tree.proofs.Rules.{steps}
use Rattle.typing_rules.specs.AbstractSyntax.{Bytes, Declarations}
use Rattle.typing_rules.specs.AbstractSyntax as p
use Rattle.typing_rules.specs.AsyncPlaces.{Other}
use Rattle.typing_rules.specs.Contexts.{Bound, Scope, Context, constant, directly}
use Rattle.typing_rules.specs.DeclaredTypes.{with_list}
use Rattle.typing_rules.specs.Definitions.{Definitions}
use Rattle.typing_rules.specs.Heads.{head}
use Rattle.typing_rules.specs.Lists.{Entry as Given}
use Rattle.typing_rules.specs.PublicFields.{PublicFields}
use Rattle.typing_rules.specs.Terms.{Term, Fields, unit, listed_fields}
use Rattle.typing_rules.specs.Terms as t
use Rattle.typing_rules.specs.TypedTrees.{Note, note}
use Rattle.typing_rules.specs.TypeScopes.{TypeScope}
use Rattle.desugaring.specs.Expressions.{public_names, pieces, object_of_names}
use Rattle.desugaring.specs.FreeNames.{in_declaration}
use Rattle.desugaring.specs.Frames.{Entry, Frame, value, found_from}
use Rattle.desugaring.specs.Patterns.{stands as at_type}
use Rattle.desugaring.specs.Pieces.{arranged}
use Rattle.desugaring_laws.specs.GraphOf.{IsGraphOf}
use Rattle.desugaring_laws.specs.Known.{IsKnown}
use Rattle.desugaring_laws.specs.Laws.{PatternTyped}
use Rattle.desugaring_laws.specs.Scopes.{IsIn, IsScopeFine, AreBoundsIn}
use Rattle.desugaring_laws.specs.Yields.{Yields}
use Rattle.desugaring_laws.proofs.Graph.{reflexive}
use Rattle.desugaring_laws.proofs.Patterns.{patterns_are_typed}
use Rattle.desugaring_laws.proofs.Scoping.{each_among_of, scoped_in, written_fine}
use Rattle.desugaring_laws.proofs.Yielding.{part as after}
use Rattle.expression_laws.specs.Fitting.{AValue}
use Rattle.expression_laws.proofs.BoundNames.{both}
use Rattle.expression_laws.proofs.Wanting.{for_all}
use Rattle.list_laws.specs.Standing.{StandsAt, StandsIn}
use Rattle.list_laws.proofs.Reaching.{unequal}
use Rattle.scope_laws.specs.Gathers.{ArePlainFields}
use Rattle.scope_laws.proofs.Bounding.{is_in_more}
use Rattle.scope_laws.proofs.Members.{members_in}
use Rattle.scope_laws.proofs.Parts.{each_of}
use Rattle.scope_laws.proofs.Plain.{public_fields_are_plain}
use Rattle.scope_laws.proofs.Scoped.{names_with_list, parameters_listed}
use Rattle.declaration_laws.specs.Made.{Standing, StepTyped, StepMade, OneMade}
use Rattle.declaration_laws.specs.Objects.{FieldsJudged, written_fields, BecomeObject, NamedObjectsAreTyped}
use Rattle.declaration_laws.proofs.Lets.{constant_is}
use Rattle.declaration_laws.proofs.Variables.{found_one}

pub object_head : (defs : Definitions) (fs : Fields) → head defs (t.Object fs) ≡ node.Object (listed_fields fs)
unfolding head
object_head defs fs = refl

module _ (defs : Definitions) (terms : List Term) (vs : List ℕ) (s : TypeScope) (fine : IsScopeFine defs vs s) (bounds : AreBoundsIn vs defs) (fields : Declarations ℕ) (plain : ArePlainFields fields) where
  -- the fields that are written mention only type parameters in scope
  object_in : IsIn vs (t.Object (written_fields s fields))
  object_in =
      let inner = with_list s fields in
      is_in_more inner.parameters vs (λ v m. each_among_of s.parameters (λ u. IsAmong u vs) fine.parameters v (subst (λ ps. IsAmong v ps) (parameters_listed fields s) m)) (t.Object (written_fields s fields))
      (members_in inner.parameters inner (names_with_list fields s fine.names) (each_of (λ v. IsAmong v inner.parameters) inner.parameters (λ v m. m)) fields plain)

  pub object_known : Among (t.Object (written_fields s fields)) terms → IsKnown defs terms vs (t.Object (written_fields s fields))
  object_known m = record { there = m; fine = record { scoped = scoped_in vs defs bounds (t.Object (written_fields s fields)) object_in; no_future = ap async_of (object_head defs (written_fields s fields)) } }

module _ (defs : Definitions) (slots : List Slot) (terms : List Term) (number : Term → TypeId) (graph : IsGraphOf defs slots terms number) (units : Among unit terms) (vs : List ℕ) (uses : List Bytes) (e : Context) where
  -- a name that is bound to a value
  bound_step : (x : Bytes) (u : Term) (tree : Frame → TypedExpression) (w : Standing defs slots terms number vs uses (directly Other e)) → IsKnown defs terms w.context.parameters u → Typed slots (tree w.frame) w.context (Of (number u))
      → StepTyped defs slots terms number vs uses (directly Other e) (value x ∷ []) (λ f. roll-Step (F.Let (at_type defs number u P.Bind) (tree f))) (x ∷ []) ((x, constant u) ∷ []) w
  bound_step x u tree w k h =
      let i : PatternTyped defs slots terms number w.context.parameters u ((x, constant u) ∷ []) (p.pattern (note 0 u) (p.Variable x)) =
      patterns_are_typed defs slots terms number graph units w.context.parameters e.types (written_fine defs w.context.parameters e.types w.fits.types w.fits.bounds terms) (p.pattern 0 (p.Variable x)) tt u k in
      record {
        wants = Of (number u) ∷ [];
        declares = (steps slots (F.Let (at_type defs number u P.Bind) (tree w.frame)) w.context (Of (number u) ∷ [])).1 (inl (number u, h, i.stands (number u) (reflexive defs slots terms number graph (number u))));
        many = refl;
        stand = λ y m v c q rest ms. by y m v c q rest ms;
        plain = λ no y m v c h. subst (λ z. async_of (head defs z.type) ≡ None) (constant_is x y v u c (found_one x y m) h) k.fine.no_future;
      }
    where
      by : (y : Bytes) → Among y (x ∷ []) → (v : Scope) (c : Bound) → named ((x, constant u) ∷ v) y ≡ Some c → (rest : List Entry) (ms : List (Want TypeId))
          → StandsIn defs slots terms number w.context.parameters e.body (value x ∷ rest) (Of (number u) ∷ ms) y c
      by y (inl q) v c h' rest ms =
          subst (λ z. StandsAt defs slots terms number w.context.parameters e.body z (Of (number u) ∷ ms) c) (sym (ap (λ t. cond t (record { index = zero; cell = false }) (found_from 1 rest y)) ((bytes_eq-Decides x y).1 q)))
          (subst (λ z. StandsAt defs slots terms number w.context.parameters e.body (record { index = zero; cell = false }) (Of (number u) ∷ ms) z) (constant_is x y v u c q h') (Of (number u), refl, AValue refl refl refl k refl))
      by y (inr m) v c h' rest ms = absurd m

pub named_objects_are_typed : NamedObjectsAreTyped
named_objects_are_typed defs slots terms number graph units vs e n x fields j w =
    let uses = in_declaration (p.NamedObject x fields) in
    let fs = written_fields e.types fields in
    let Stood = Standing defs slots terms number vs uses (directly Other e) in
    let Q = λ (q : Term × Declarations Note). (s : Stood) → BecomeObject defs slots terms number s.frame s.context fs q.1 in
    let P = λ (one : Given). OneMade defs slots terms number (StepMade defs slots terms number vs uses (directly Other e) (x.bytes ∷ []) one.scope) one in
    after defs terms (PublicFields fields) _ (λ z. ((s : Stood) → Yields defs terms (FieldsJudged defs (directly Other e) n fields) (λ q. BecomeObject defs slots terms number s.frame s.context fs q.1)) × ArePlainFields fields) P
    (both defs terms (PublicFields fields) (λ z. (s : Stood) → Yields defs terms (FieldsJudged defs (directly Other e) n fields) (λ q. BecomeObject defs slots terms number s.frame s.context fs q.1)) (λ z. ArePlainFields fields)
    (for_all defs terms (PublicFields fields) (λ (s : Stood) z. Yields defs terms (FieldsJudged defs (directly Other e) n fields) (λ q. BecomeObject defs slots terms number s.frame s.context fs q.1)) (λ s. j e s.frame s.context n s.fits))
    (public_fields_are_plain defs terms fields)) (λ z y.
    after defs terms (FieldsJudged defs (directly Other e) n fields) _ Q P
    (for_all defs terms (FieldsJudged defs (directly Other e) n fields) (λ (s : Stood) q. BecomeObject defs slots terms number s.frame s.context fs q.1) y.0) (λ q i. λ m. (
      refl,
      (λ y' absent v. ap (λ z. cond z (Some (constant (t.Object fs))) (named v y')) (unequal y' x.bytes (λ r. absent (inl r)))),
      (λ s.
          let k = object_known defs terms s.context.parameters e.types s.fits.types s.fits.bounds fields y.1 m in
          bound_step defs slots terms number graph units vs uses e x.bytes (t.Object fs) (λ f. object_of_names defs number (t.Object fs) (public_names q.1) (arranged false (pieces defs number q.1) f)) s k
          ((i s (t.Object fs) k (object_head defs fs)).typed (number (t.Object fs)) (reflexive defs slots terms number graph (number (t.Object fs))))),
      tt,
    )))
