-- `for`.
use Rattle.std.proofs.Common.{◌≡◌, ◌⊎◌, inl, inr, ℕ, Bool, true, false, List, [], ◌∷◌, map, Option, Some, None, refl, sym, ap, ◌∙◌, subst}
use Rattle.std.specs.Prelude.{codes, cond}
use Rattle.std.specs.Option.{option_and_then}
use Rattle.mo_types.specs.declared.node.Field.{Field}
use Rattle.mo_types.specs.declared.node.Node.{Node}
use Rattle.mo_types.specs.declared.node.Node.TheVariants as node
use Rattle.mo_types.specs.declared.node.Sort.TheVariants as sort
use Rattle.mo_types.specs.declared.node.TypeId.{TypeId}
use Rattle.mo_types.specs.Graph.{head_at}
use Rattle.mo_types.specs.Sub.{find}
use Rattle.mo_subtype.specs.Renamed.{on_field}
use Rattle.subtype_laws.specs.Reached.{Among}
use Rattle.typed_tree.specs.declared.expression.Form.TheOpen as F
use Rattle.typed_tree.specs.Typing.{GivesElements}
use Rattle.typing_rules.specs.declared.condition.Condition.TheVariants as condition
use Rattle.typing_rules.specs.AbstractSyntax.{Bytes, Expression, Pattern}
use Rattle.typing_rules.specs.AbstractSyntax as p
use Rattle.typing_rules.specs.AsyncPlaces.{Around, Awaited, Named, Labelled, Other}
use Rattle.typing_rules.specs.Calls.{local_of, item_of, gives_item, items_of}
use Rattle.typing_rules.specs.Contexts.{Label, directly, in_loop, with_values}
use Rattle.typing_rules.specs.Definitions.{Definitions}
use Rattle.typing_rules.specs.Expressions.{Judge, Rule}
use Rattle.typing_rules.specs.Heads.{head, members_head, result}
use Rattle.typing_rules.specs.Members.{object_field, unless_mutable, constant_field}
use Rattle.typing_rules.specs.Patterns.{Stands}
use Rattle.typing_rules.specs.Terms.{Term, unit}
use Rattle.typing_rules.specs.Terms as t
use Rattle.typing_rules.specs.TypedTrees.{Note, note, type_of}
use Rattle.desugaring.specs.Expressions.{tree as written_out}
use Rattle.desugaring.specs.Frames.{Frame}
use Rattle.desugaring.specs.Frames as frames
use Rattle.desugaring.specs.FreeNames.{names_in, without, occurring}
use Rattle.desugaring.specs.Nodes.{at}
use Rattle.desugaring.specs.Patterns.{pattern}
use Rattle.desugaring_laws.specs.Laws.{wants}
use Rattle.desugaring_laws.specs.Names.{bound_names}
use Rattle.desugaring_laws.specs.Yields.{Yields}
use Rattle.desugaring_laws.proofs.Patterns.{find_seen, find_among}
use Rattle.desugaring_laws.proofs.Yielding.{given, part as after}
use Rattle.expression_laws.specs.Laws.{IsPatternFine}
use Rattle.expression_laws.specs.Results.{standing, Gives, AreTyped}
use Rattle.expression_laws.proofs.Assigning.{object_is}
use Rattle.expression_laws.proofs.Binding.{Inner, InFrame, Binds, binds}
use Rattle.expression_laws.proofs.Calling.{one_result}
use Rattle.expression_laws.proofs.Ending.{Setting, Place, Within, there, inside, value_of, Known, WantKnown, Is, IsTypedPart, Tree, judged, has_so, a_value}
use Rattle.expression_laws.proofs.Heads.{bottom_head, bottom_fine}
use Rattle.expression_laws.proofs.Leaving.{loop_tree, BodyTyped, loop_body}
use Rattle.expression_laws.proofs.Promoting.{promotes}
use Rattle.expression_laws.proofs.Simple.{unit_there, unit_known}

-- ---- `next`

-- a field that is no `var` field
constant_is : (y : Node Term) (x : Bytes) (f : Field Term) → constant_field x y ≡ Some f → (object_field x y ≡ Some f) × (f.mutable ≡ false)
constant_is y x f e = by (object_field x y) refl e where
  fixed : (g : Field Term) (b : Bool) → g.mutable ≡ b → cond b None (Some g) ≡ Some f → (g ≡ f) × (f.mutable ≡ false)
  fixed g true h k = cc
  fixed g false h k = let q : g ≡ f = cc in (q, subst (λ z. z.mutable ≡ false) q h)

  by : (o : Option (Field Term)) → object_field x y ≡ o → option_and_then unless_mutable o ≡ Some f → (o ≡ Some f) × (f.mutable ≡ false)
  by None h k = cc
  by (Some g) h k = let r = fixed g g.mutable refl k in (ap (λ z. Some z) r.0, r.1)

local_is : (y : Node Term) (q : List Term × Term) → local_of y ≡ Some q → (rs : List Term) × (y ≡ node.Func sort.Local q.0 rs) × (q.1 ≡ result rs)
local_is (node.Func sort.Local ps rs) q e = let g : (ps, result rs) ≡ q = cc in (rs, ap (λ z. node.Func sort.Local z.0 rs) g, sym (ap (λ z. z.1) g))
local_is (node.Func sort.Shared ps rs) q e = cc
local_is (node.Func sort.Query ps rs) q e = cc
local_is (node.Number k) q e = cc
local_is node.Bool q e = cc
local_is node.Char q e = cc
local_is node.Text q e = cc
local_is node.Blob q e = cc
local_is node.Principal q e = cc
local_is node.Error q e = cc
local_is node.Null q e = cc
local_is node.Any q e = cc
local_is node.Bottom q e = cc
local_is (node.Opt a) q e = cc
local_is (node.Array a) q e = cc
local_is (node.MutArray a) q e = cc
local_is (node.Tuple ts) q e = cc
local_is (node.Object fs) q e = cc
local_is (node.Actor fs) q e = cc
local_is (node.Variant fs) q e = cc
local_is (node.Async a) q e = cc
local_is (node.Variable v b) q e = cc

item_is : (defs : Definitions) (y : Node Term) (u : Term) → item_of defs y ≡ Some u → (y ≡ node.Opt u) ⊎ (((y ≡ node.Null) ⊎ (y ≡ node.Bottom)) × (u ≡ t.Bottom))
item_is defs (node.Opt a) u e = let g : a ≡ u = cc in inl (ap (λ z. node.Opt z) g)
item_is defs node.Null u e = let g : t.Bottom ≡ u = cc in inr (inl refl, sym g)
item_is defs node.Bottom u e = let g : t.Bottom ≡ u = cc in inr (inr refl, sym g)
item_is defs (node.Number k) u e = cc
item_is defs node.Bool u e = cc
item_is defs node.Char u e = cc
item_is defs node.Text u e = cc
item_is defs node.Blob u e = cc
item_is defs node.Principal u e = cc
item_is defs node.Error u e = cc
item_is defs node.Any u e = cc
item_is defs (node.Array a) u e = cc
item_is defs (node.MutArray a) u e = cc
item_is defs (node.Tuple ts) u e = cc
item_is defs (node.Object fs) u e = cc
item_is defs (node.Actor fs) u e = cc
item_is defs (node.Variant fs) u e = cc
item_is defs (node.Func s ps rs) u e = cc
item_is defs (node.Async a) u e = cc
item_is defs (node.Variable v b) u e = cc

-- the function that gives elements
record Iterates (defs : Definitions) (y : Node Term) (u : Term) : Type 0 where
  field : Field Term
  results : List Term
  found : constant_field (codes "next") y ≡ Some field
  head_is : head defs field.part ≡ node.Func sort.Local [] results
  item : item_of defs (head defs (result results)) ≡ Some u

items_are : (defs : Definitions) (y : Node Term) (u : Term) → items_of defs y ≡ Some u → Iterates defs y u
items_are defs y u e = by (constant_field (codes "next") y) refl e where
  under : (f : Field Term) → constant_field (codes "next") y ≡ Some f → (o : Option (List Term × Term)) → local_of (head defs f.part) ≡ o → gives_item defs o ≡ Some u → Iterates defs y u
  under f h None g k = cc
  under f h (Some ([], r)) g k =
      let l = local_is (head defs f.part) ([], r) g in record { field = f; results = l.0; found = h; head_is = l.1; item = ap (λ z. item_of defs (head defs z)) (sym l.2) ∙ k }
  under f h (Some (v ∷ vs, r)) g k = cc

  by : (o : Option (Field Term)) → constant_field (codes "next") y ≡ o → gives_item defs (option_and_then (λ f. local_of (head defs f.part)) o) ≡ Some u → Iterates defs y u
  by None h k = cc
  by (Some f) h k = under f h (local_of (head defs f.part)) refl k

module _ (S : Setting) where
  for_stands : (o : Around) (ls : List (Bytes × Label)) (f : Frame) (n : Note) (q : p.Pattern Note) (a b : p.Expression Note)
      → standing S.defs S.slots S.terms S.number o ls f (p.exp n (p.For q a b))
      ≡ at S.defs S.number n.type (F.For (pattern S.defs S.number q) (written_out S.defs S.number f a) (loop_tree S o ls (frames.with_names (names_in q) f) b))
  for_stands Labelled [] f n q a b = refl
  for_stands Labelled (l ∷ ls) f n q a b = refl
  for_stands Awaited ls f n q a b = refl
  for_stands Named ls f n q a b = refl
  for_stands Other ls f n q a b = refl

  module _ (A : Place S) where
    bottom_known : Among t.Bottom S.terms → Known S A t.Bottom
    bottom_known m = record { there = m; fine = bottom_fine S.defs A.context.parameters }

    -- what elements are of a known type
    record Elements (v u : Term) : Type 0 where
      known : Known S A u
      gives : GivesElements (head_at S.slots) (S.number v) (S.number u)

    elements : (v u : Term) → Known S A v → (y : Node Term) → head S.defs v ≡ y → items_of S.defs y ≡ Some u → Among u S.terms → Elements v u
    elements v u k y e h m =
        let i = items_are S.defs y u h in
        let c = constant_is y (codes "next") i.field i.found in
        let o = object_is y (codes "next") i.field c.0 in
        let ev : head S.defs v ≡ node.Object o.0 = e ∙ o.1 in
        let kf = inside S A.context.parameters v i.field.part k (node.Object o.0) ev (find_among (codes "next") o.0 i.field o.2) in
        let one = one_result S A i.field.part kf [] i.results i.head_is in
        let hf : head S.defs i.field.part ≡ node.Func sort.Local [] (one.0 ∷ []) = i.head_is ∙ ap (λ l. node.Func sort.Local [] l) one.1 in
        let kr = inside S A.context.parameters i.field.part one.0 kf (node.Func sort.Local [] (one.0 ∷ [])) hf (inl refl) in
        let item : item_of S.defs (head S.defs one.0) ≡ Some u = ap (λ l. item_of S.defs (head S.defs (result l))) (sym one.1) ∙ i.item in
        let fields = map (on_field S.number) o.0 in
        by fields (on_field S.number i.field) one.0 kr (there S v k.there (node.Object o.0) ev) (find_seen S.number (codes "next") o.0 i.field o.2) c.1
        (there S i.field.part kf.there (node.Func sort.Local [] (one.0 ∷ [])) hf) (item_is S.defs (head S.defs one.0) u item)
      where
        by : (fields : List (Field TypeId)) (f : Field TypeId) (r : Term) → Known S A r → head_at S.slots (S.number v) ≡ node.Object fields → find (codes "next") fields ≡ Some f → f.mutable ≡ false
            → head_at S.slots f.part ≡ node.Func sort.Local [] (S.number r ∷ []) → (head S.defs r ≡ node.Opt u) ⊎ (((head S.defs r ≡ node.Null) ⊎ (head S.defs r ≡ node.Bottom)) × (u ≡ t.Bottom)) → Elements v u
        by fields f r kr ev ef fixed hf (inl g) = record {
          known = inside S A.context.parameters r u kr (node.Opt u) g (inl refl);
          gives = (fields, f.part, S.number r, ev, (f, ef, fixed, refl), hf, inl (there S r kr.there (node.Opt u) g));
        }
        by fields f r kr ev ef fixed hf (inr (inl g, q)) = record {
          known = subst (λ z. Known S A z) (sym q) (bottom_known (subst (λ z. Among z S.terms) q m));
          gives = (fields, f.part, S.number r, ev, (f, ef, fixed, refl), hf, inr (inl (there S r kr.there node.Null g), ap (λ z. head_at S.slots (S.number z)) q ∙ there S t.Bottom (subst (λ z. Among z S.terms) q m) node.Bottom (bottom_head S.defs)));
        }
        by fields f r kr ev ef fixed hf (inr (inr g, q)) = record {
          known = subst (λ z. Known S A z) (sym q) (bottom_known (subst (λ z. Among z S.terms) q m));
          gives = (fields, f.part, S.number r, ev, (f, ef, fixed, refl), hf, inr (inr (there S r kr.there node.Bottom g), ap (λ z. head_at S.slots (S.number z)) q ∙ there S t.Bottom (subst (λ z. Among z S.terms) q m) node.Bottom (bottom_head S.defs)));
        }

    pub for_typed : (n : ℕ) (q : Pattern ℕ) (a b : Expression ℕ) → IsPatternFine q → IsTypedPart S A a → AreTyped S.defs S.slots S.terms S.number S.scope b → Within (without (names_in q) (occurring b)) A.used
        → (w : Option Term) → WantKnown S A w → Yields S.defs S.terms (Rule S.defs A.around (directly Other A.known) n (p.For q a b) w) (Is S A w)
    for_typed n q a b fine ja jb within w k =
        judged S A a ja None tt _ (Is S A w) (λ x ix.
        given S.defs S.terms condition.NotIterable n (items_of S.defs (members_head S.defs (type_of x))) _ (Is S A w) (λ u e.
        λ m.
        let r = promotes S A (type_of x) (Tree S A x) (value_of S A.known.labels A.frame A.context None x ix) in
        let el = elements r.type u r.known (members_head S.defs (type_of x)) r.head_is e m in
        after S.defs S.terms (Stands S.defs A.known.types q u) _ (Binds S A (occurring b) u) (Is S A w) (binds S A q fine u el.known (occurring b) within) (λ s is.
        after S.defs S.terms (Judge S.defs (in_loop A.around (with_values s.0 (directly Other A.known))) b (Some unit)) _
        (BodyTyped S (with_values s.0 A.known) (InFrame S A s) (Inner S A s) b is.fits jb A.around A.known.labels) (Is S A w)
        (loop_body S (with_values s.0 A.known) (InFrame S A s) (Inner S A s) b is.fits jb A.around) (λ y h.
        has_so S A n w unit (p.For s.1 x y) k (λ m'.
        subst (λ z. Gives S.defs S.slots S.terms S.number A.context A.around unit z) (sym (for_stands A.around A.known.labels A.frame (note n unit) s.1 x y))
        (inl (a_value S A unit (unit_known S A.context.parameters) (F.For (pattern S.defs S.number s.1) (Tree S A x) (loop_tree S A.around A.known.labels (InFrame S A s) y))
        (S.number unit, S.number r.type, S.number u, wants S.number (bound_names s.1), refl, unit_there S, el.gives, r.typed, is.stands, h))))))))
