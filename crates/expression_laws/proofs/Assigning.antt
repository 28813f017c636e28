-- Places and assignments.
use Rattle.std.proofs.Common.{◌≡◌, inl, ℕ, true, false, List, [], ◌∷◌, Option, Some, None, refl, sym, ap, ◌∙◌}
use Rattle.std.specs.Prelude.{slice_get}
use Rattle.mo_num.specs.declared.kind.Kind.TheVariants as kind
use Rattle.mo_types.specs.declared.node.Field.{Field}
use Rattle.mo_types.specs.declared.node.Node.{Node}
use Rattle.mo_types.specs.declared.node.Node.TheVariants as node
use Rattle.mo_types.specs.declared.node.TypeId.{TypeId}
use Rattle.mo_types.specs.Heads.{mut_array_of}
use Rattle.mo_types.specs.Sub.{find}
use Rattle.subtype_laws.specs.Reached.{Among}
use Rattle.typed_tree.specs.declared.action.Action.TheVariants as action
use Rattle.typed_tree.specs.declared.expression.Form.TheOpen as F
use Rattle.typed_tree.specs.declared.expression.TypedExpression.{TypedExpression}
use Rattle.typed_tree.specs.Typing.{Typed}
use Rattle.typed_tree.specs.Wants.{Want, Of, CellOf}
use Rattle.typing_rules.specs.AbstractSyntax.{Bytes, Expression}
use Rattle.typing_rules.specs.AbstractSyntax as p
use Rattle.typing_rules.specs.AsyncPlaces.{Other}
use Rattle.typing_rules.specs.Calls.{built_in}
use Rattle.typing_rules.specs.Contexts.{Bound, directly, value_named}
use Rattle.typing_rules.specs.Expressions.{JudgePlace, Rule, element_of}
use Rattle.typing_rules.specs.Heads.{head, members_head}
use Rattle.typing_rules.specs.Members.{object_field}
use Rattle.typing_rules.specs.Terms.{Term, nat, unit}
use Rattle.typing_rules.specs.TypedTrees.{Note, note, type_of}
use Rattle.desugaring.specs.Expressions.{cell_tree, assigned}
use Rattle.desugaring.specs.Frames.{found}
use Rattle.desugaring.specs.Nodes.{acts as acting}
use Rattle.desugaring_laws.specs.Yields.{Yields}
use Rattle.desugaring_laws.proofs.HeadForms.{is_mutable_array}
use Rattle.desugaring_laws.proofs.Patterns.{find_among}
use Rattle.desugaring_laws.proofs.Yielding.{given, tests, by_case, part as after}
use Rattle.expression_laws.specs.Fitting.{StandsFor, AValue, ACell, AFuture, AGeneric}
use Rattle.expression_laws.proofs.Ending.{Setting, Place, there, inside, value_of, as_wanted, Known, WantKnown, Is, IsTypedPart, Tree, Value, judged, wanting, has, acts}
use Rattle.expression_laws.proofs.Heads.{number_fine}
use Rattle.expression_laws.proofs.Parts.{field_cell, element_cell, nat_there}
use Rattle.expression_laws.proofs.Promoting.{promotes}
use Rattle.expression_laws.proofs.Simple.{unit_there, unit_known}
use Rattle.expression_laws.proofs.Trees.{cell_node}

pub object_is : (y : Node Term) (x : Bytes) (f : Field Term) → object_field x y ≡ Some f → (fs : List (Field Term)) × (y ≡ node.Object fs) × (find x fs ≡ Some f)
object_is (node.Object fs) x f e = (fs, refl, e)
object_is (node.Number k) x f e = cc
object_is (node.Opt a) x f e = cc
object_is (node.Array a) x f e = cc
object_is (node.MutArray a) x f e = cc
object_is (node.Tuple ts) x f e = cc
object_is (node.Actor fs) x f e = cc
object_is (node.Variant fs) x f e = cc
object_is (node.Func s ps rs) x f e = cc
object_is (node.Async a) x f e = cc
object_is (node.Variable v b) x f e = cc
object_is node.Bool x f e = cc
object_is node.Char x f e = cc
object_is node.Text x f e = cc
object_is node.Blob x f e = cc
object_is node.Principal x f e = cc
object_is node.Error x f e = cc
object_is node.Null x f e = cc
object_is node.Any x f e = cc
object_is node.Bottom x f e = cc

module _ (S : Setting) (A : Place S) where
  abbrev Cell : p.Expression Note → TypedExpression
  Cell r = cell_tree S.defs S.number A.frame r

  -- a place, its cell and what is written to it
  pub record IsPlace (r : p.Expression Note) : Type 0 where
    pub known : Known S A (type_of r)
    pub cell : Typed S.slots (Cell r) A.context (CellOf (S.number (type_of r)))
    pub write : (x : TypedExpression) → Typed S.slots x A.context (Of (S.number (type_of r))) → Value S A unit (assigned S.defs S.number A.frame unit r x)

  -- what is written to a cell
  written : (u : Term) (y x : TypedExpression) → Typed S.slots y A.context (CellOf (S.number u)) → Typed S.slots x A.context (Of (S.number u)) → Value S A unit (acting S.defs S.number unit action.Write (y ∷ x ∷ []))
  written u y x hy hx =
      acts S A unit (unit_known S A.context.parameters) action.Write (y ∷ x ∷ []) (CellOf (S.number u) ∷ Of (S.number u) ∷ []) (S.number u, refl, (S.number unit, refl, unit_there S)) (hy, (hx, tt))

  name_cell : (x : Bytes) (b : Bound) → b.mutable ≡ true → (w : Want TypeId) → slice_get A.context.names (found A.frame x).index ≡ Some w
      → StandsFor S.defs S.slots S.terms S.number A.context.parameters A.known.body b (found A.frame x).cell w → (at : ℕ) → IsPlace (p.exp (note at b.type) (p.Name x))
  name_cell x b m w e (ACell q g c k h) at =
      let cell = cell_node S.defs S.slots S.terms S.number S.graph A.context b.type k (F.Name (found A.frame x).index) (CellOf (S.number b.type), e ∙ ap (λ z. Some z) h, refl) in
      record { known = k; cell = cell; write = λ y hy. written b.type (Cell (p.exp (note at b.type) (p.Name x))) y cell hy }
  name_cell x b m w e (AValue q g c k h) at = let z : true ≡ false = sym m ∙ q in absurd (let f : true ≡ false = z in cc)
  name_cell x b m w e (AFuture q g c a h k i) at = let z : true ≡ false = sym m ∙ q in absurd (let f : true ≡ false = z in cc)
  name_cell x b m w e (AGeneric q g c k h) at = let z : true ≡ false = sym m ∙ q in absurd (let f : true ≡ false = z in cc)

  -- the parts of a place are typed
  abbrev pub PlaceParts : p.Form ℕ → Type 0
  PlaceParts (p.Name x) = Among x A.used
  PlaceParts (p.Member a x) = IsTypedPart S A a
  PlaceParts (p.Index a i) = IsTypedPart S A a × IsTypedPart S A i
  PlaceParts _ = Unit {0}

  pub place_typed : (at : ℕ) (x : p.Form ℕ) → PlaceParts x → Yields S.defs S.terms (JudgePlace S.defs (directly Other A.known) (p.exp at x)) IsPlace
  place_typed at (p.Name x) m =
      given S.defs S.terms _ at (value_named A.known x) _ IsPlace (λ b e.
      tests S.defs S.terms _ at b.mutable _ IsPlace (λ mutable.
      λ m'. let n = A.fits.names x m b e in name_cell x b mutable n.0 n.1 n.2 at))
  place_typed at (p.Member a x) j =
      by_case S.defs S.terms (built_in (directly Other A.known) a x) _ _ IsPlace (λ m e. tt) (λ e.
      judged S A a j None tt _ IsPlace (λ b i.
      given S.defs S.terms _ at (object_field x (members_head S.defs (type_of b))) _ IsPlace (λ f g.
      tests S.defs S.terms _ at f.mutable _ IsPlace (λ mutable.
      λ m.
      let r = promotes S A (type_of b) (Tree S A b) (value_of S A.known.labels A.frame A.context None b i) in
      let o = object_is (members_head S.defs (type_of b)) x f g in
      let h : head S.defs r.type ≡ node.Object o.0 = r.head_is ∙ o.1 in
      let cell = field_cell S A r.type r.known o.0 h x f o.2 mutable (Tree S A b) r.typed in
      record {
        known = inside S A.context.parameters r.type f.part r.known (node.Object o.0) h (find_among x o.0 f o.2);
        cell = cell;
        write = λ y hy. written f.part (Cell (p.exp (note at f.part) (p.Member b x))) y cell hy;
      }))))
  place_typed at (p.Index a i) j =
      judged S A a j.0 None tt _ IsPlace (λ b h.
      given S.defs S.terms _ at (element_of (members_head S.defs (type_of b))) _ IsPlace (λ u e.
      given S.defs S.terms _ at (mut_array_of (members_head S.defs (type_of b))) _ IsPlace (λ v g.
      wanting S A i j.1 nat (number_fine S.defs A.context.parameters kind.Nat) _ IsPlace (λ y m hy.
      λ m'.
      let r = promotes S A (type_of b) (Tree S A b) (value_of S A.known.labels A.frame A.context None b h) in
      let k : head S.defs r.type ≡ node.MutArray v = r.head_is ∙ is_mutable_array (members_head S.defs (type_of b)) v g in
      let index = as_wanted S A.known.labels A.frame A.context nat y hy in
      record {
        known = inside S A.context.parameters r.type v r.known (node.MutArray v) k (inl refl);
        cell = element_cell S A r.type v r.known k (Tree S A b) (Tree S A y) r.typed m index;
        write = λ z hz.
            acts S A unit (unit_known S A.context.parameters) action.WriteElement (Tree S A b ∷ Tree S A y ∷ z ∷ []) (Of (S.number r.type) ∷ Of (S.number nat) ∷ Of (S.number v) ∷ [])
            (S.number r.type, S.number nat, S.number v, refl, there S r.type r.known.there (node.MutArray v) k, nat_there S A m, (S.number unit, refl, unit_there S)) (r.typed, (index, (hz, tt)));
      }))))
  place_typed at (p.Constant l) j = tt
  place_typed at (p.Tuple items) j = tt
  place_typed at (p.Optional a) j = tt
  place_typed at (p.Tag x) j = tt
  place_typed at (p.Tagged x a) j = tt
  place_typed at (p.Array m items) j = tt
  place_typed at (p.Object fields) j = tt
  place_typed at (p.Projection a i) j = tt
  place_typed at (p.Annotated a u) j = tt
  place_typed at (p.Negative a) j = tt
  place_typed at (p.Binary o a b) j = tt
  place_typed at (p.Not a) j = tt
  place_typed at (p.Assign r a) j = tt
  place_typed at (p.AssignBy o r a) j = tt
  place_typed at (p.Call g types arguments) j = tt
  place_typed at (p.When c a) j = tt
  place_typed at (p.If c a b) j = tt
  place_typed at (p.Switch a cases) j = tt
  place_typed at (p.Try a r b) j = tt
  place_typed at (p.While c a) j = tt
  place_typed at (p.Loop a) j = tt
  place_typed at (p.LoopWhile a c) j = tt
  place_typed at (p.For r a b) j = tt
  place_typed at (p.Label x u a) j = tt
  place_typed at (p.Break x) j = tt
  place_typed at (p.BreakWith x a) j = tt
  place_typed at (p.Continue x) j = tt
  place_typed at p.Return j = tt
  place_typed at (p.ReturnWith a) j = tt
  place_typed at (p.Throw a) j = tt
  place_typed at (p.Do a) j = tt
  place_typed at (p.DoOption a) j = tt
  place_typed at (p.Bang a) j = tt
  place_typed at (p.Block ds) j = tt
  place_typed at (p.Function g body) j = tt
  place_typed at (p.ObjectBlock fields) j = tt
  place_typed at (p.Assert a) j = tt
  place_typed at (p.Ignore a) j = tt
  place_typed at (p.Debug a) j = tt
  place_typed at (p.ActorReference x) j = tt
  place_typed at (p.Await a) j = tt
  place_typed at (p.BuiltIn m) j = tt
  place_typed at (p.Subsumed a) j = tt

  pub assign_typed : (at n : ℕ) (x : p.Form ℕ) (a : Expression ℕ) → PlaceParts x → IsTypedPart S A a → (w : Option Term) → WantKnown S A w
      → Yields S.defs S.terms (Rule S.defs A.around (directly Other A.known) at (p.Assign (p.exp n x) a) w) (Is S A w)
  assign_typed at n x a jx ja w k =
      after S.defs S.terms (JudgePlace S.defs (directly Other A.known) (p.exp n x)) _ IsPlace (Is S A w) (place_typed n x jx) (λ r i.
      judged S A a ja (Some (type_of r)) i.known.fine _ (Is S A w) (λ b h.
      has S A at w unit (p.Assign r b) (λ l. refl) k (λ m. i.write (Tree S A b) (as_wanted S A.known.labels A.frame A.context (type_of r) b h))))
