-- Members of values, by the head that they go by.
use Rattle.std.proofs.Common.{◌≡◌, inl, inr, ℕ, Bool, true, false, List, [], ◌∷◌, ◌++◌, map, Option, Some, None, refl, sym, ap, ◌∙◌, subst}
use Rattle.std.specs.Prelude.{cond, codes, if◌then◌else◌, nat_eq}
use Rattle.std.specs.Cmp.Lexicographic.{pointwise}
use Rattle.std.specs.Str.{bytes_eq}
use Rattle.std.proofs.lemmas.Slice.Eq.{bytes_eq-Decides}
use Rattle.mo_num.specs.declared.kind.Kind.TheVariants as kind
use Rattle.mo_scopes.specs.Scopes.{named}
use Rattle.mo_types.specs.declared.node.Field.{Field}
use Rattle.mo_types.specs.declared.node.Node.{Node}
use Rattle.mo_types.specs.declared.node.Node.TheVariants as node
use Rattle.mo_types.specs.declared.node.Sort.TheVariants as sort
use Rattle.mo_types.specs.declared.node.TypeId.{TypeId}
use Rattle.mo_types.specs.Graph.{head_at}
use Rattle.mo_types.specs.Sub.{Each, find}
use Rattle.mo_types.specs.Values.{is_method_name}
use Rattle.mo_subtype.specs.Renamed.{on_field}
use Rattle.mo_values.specs.declared.operation.Operation.TheVariants as op
use Rattle.subtype_laws.specs.Reached.{Among}
use Rattle.typed_tree.specs.declared.action.Action.TheVariants as action
use Rattle.typed_tree.specs.declared.action.Member.{Member}
use Rattle.typed_tree.specs.declared.action.Member.TheVariants as member
use Rattle.typed_tree.specs.declared.expression.TypedExpression.{TypedExpression}
use Rattle.typed_tree.specs.Instances.{MentionsOnly}
use Rattle.typed_tree.specs.MemberTypes.{Function, IsElementOf, IsIterator, MemberTyped}
use Rattle.typed_tree.specs.Shareable.{IsSharedFunction}
use Rattle.typed_tree.specs.Types.{IsLawfulNode}
use Rattle.typed_tree.specs.Typing.{Typed}
use Rattle.typed_tree.specs.Wants.{Of}
use Rattle.typing_rules.specs.declared.condition.Condition.TheVariants as condition
use Rattle.typing_rules.specs.AbstractSyntax.{Bytes, Expression}
use Rattle.typing_rules.specs.AbstractSyntax as p
use Rattle.typing_rules.specs.AsyncPlaces.{Other}
use Rattle.typing_rules.specs.Contexts.{directly}
use Rattle.typing_rules.specs.Definitions.{Definitions}
use Rattle.typing_rules.specs.Ends.{Has}
use Rattle.typing_rules.specs.Expressions.{Judge}
use Rattle.typing_rules.specs.Heads.{head, members_head}
use Rattle.typing_rules.specs.Judgements.{Part, Given}
use Rattle.typing_rules.specs.Members.{function, iterator, array_members, text_members, part_of, member_type}
use Rattle.typing_rules.specs.Terms.{Term, nat}
use Rattle.typing_rules.specs.Terms as t
use Rattle.typing_rules.specs.TypedTrees.{type_of}
use Rattle.desugaring.specs.Expressions.{member_of}
use Rattle.desugaring.specs.Nodes.{array_method, text_method, operates}
use Rattle.desugaring.specs.Nodes as nodes
use Rattle.desugaring_laws.specs.Known.{IsFine}
use Rattle.desugaring_laws.specs.Yields.{Yields}
use Rattle.desugaring_laws.proofs.Yielding.{given}
use Rattle.desugaring_laws.proofs.Patterns.{find_seen, find_among}
use Rattle.expression_laws.proofs.Ending.{Setting, Place, there, inside, value_of, Known, WantKnown, Is, IsTypedPart, Tree, Value, judged, has, acts}
use Rattle.expression_laws.proofs.Heads.{number_head, number_fine, object_head, option_head, function_head, character_head, character_fine, made_fine, listed_back}
use Rattle.expression_laws.proofs.Parts.{field_value}
use Rattle.expression_laws.proofs.Promoting.{promotes}
use Rattle.expression_laws.proofs.Simple.{only}

module _ {A : Type 0} where
  found_has : (P : Field A → Type 0) (b : Bool) (x : Field A) (fs : List (Field A)) (l : List ℕ) (f : Field A) → P x → (find l fs ≡ Some f → P f) → (if b then Some x else find l fs) ≡ Some f → P f
  found_has P true x fs l f h k e = let g : x ≡ f = cc in subst P g h
  found_has P false x fs l f h k e = k e

  -- what holds of each field holds of the one that is found
  pub found_each : (P : Field A → Type 0) (l : List ℕ) (fs : List (Field A)) (f : Field A) → Each P fs → find l fs ≡ Some f → P f
  found_each P l [] f h e = cc
  found_each P l (x ∷ fs) f h e = found_has P (pointwise nat_eq x.label l) x fs l f h.0 (found_each P l fs f h.1) e

  label_at : (b : Bool) (x : Field A) (fs : List (Field A)) (l : List ℕ) (f : Field A) → (b ≡ true → x.label ≡ l) → (find l fs ≡ Some f → f.label ≡ l) → (if b then Some x else find l fs) ≡ Some f → f.label ≡ l
  label_at true x fs l f h k e = let g : x ≡ f = cc in sym (ap (λ z. z.label) g) ∙ h refl
  label_at false x fs l f h k e = k e

  -- it has the label
  pub found_label : (l : List ℕ) (fs : List (Field A)) (f : Field A) → find l fs ≡ Some f → f.label ≡ l
  found_label l [] f e = cc
  found_label l (x ∷ fs) f e = label_at (pointwise nat_eq x.label l) x fs l f (λ h. (bytes_eq-Decides x.label l).0 h) (found_label l fs f) e

part_is : (o : Option (Field Term)) (u : Term) → part_of o ≡ Some u → (f : Field Term) × (o ≡ Some f) × (f.part ≡ u)
part_is None u e = cc
part_is (Some f) u e = let g : f.part ≡ u = cc in (f, refl, g)

pub function_at : (defs : Definitions) (ps : List Term) (r : Term) → head defs (function ps r) ≡ node.Func sort.Local ps (r ∷ [])
function_at defs ps r = function_head defs (t.unlisted ps) r ∙ ap (λ us. node.Func sort.Local us (r ∷ [])) (listed_back ps)

module _ (S : Setting) where
  -- a method of an actor type has a name, and the type of a shared function
  method_lawful : (v : TypeId) (fs : List (Field TypeId)) → head_at S.slots v ≡ node.Actor fs → Each (λ f. IsSharedFunction (head_at S.slots f.part) × (is_method_name f.label ≡ true)) fs
  method_lawful v fs e = (subst (λ y. IsLawfulNode (head_at S.slots) y) e (S.graph.lawful.nodes v).0).2

  module _ (A : Place S) where
    abbrev vs : List ℕ
    vs = A.context.parameters

    -- the parts of a known function type
    result_known : (ps : List Term) (r : Term) → Known S A (function ps r) → Known S A r
    result_known ps r k = inside S vs (function ps r) r k (node.Func sort.Local ps (r ∷ [])) (function_at S.defs ps r) (last ps) where
      last : (us : List Term) → Among r (us ++ r ∷ [])
      last [] = inl refl
      last (u ∷ us) = inr (last us)

    pub function_there : (ps : List Term) (r : Term) → Known S A (function ps r) → head_at S.slots (S.number (function ps r)) ≡ Function (map S.number ps) (S.number r)
    function_there ps r k = there S (function ps r) k.there (node.Func sort.Local ps (r ∷ [])) (function_at S.defs ps r)

    nat_known : Known S A nat → head_at S.slots (S.number nat) ≡ node.Number kind.Nat
    nat_known k = there S nat k.there (node.Number kind.Nat) (number_head S.defs kind.Nat)

    abbrev next_field : Term → Field Term
    next_field u = record { label = codes "next"; mutable = false; part = function [] (t.Optional u) }

    iterator_there : (u : Term) → Known S A (iterator u) → IsIterator (head_at S.slots) (S.number (iterator u)) (S.number u)
    iterator_there u k =
        let e : head S.defs (iterator u) ≡ node.Object (next_field u ∷ []) = object_head S.defs (t.constant (codes "next") (function [] (t.Optional u)) t.NoFields) in
        let f = inside S vs (iterator u) (function [] (t.Optional u)) k (node.Object (next_field u ∷ [])) e (inl refl) in
        let o = result_known [] (t.Optional u) f in (
          on_field S.number (next_field u),
          S.number (t.Optional u),
          there S (iterator u) k.there (node.Object (next_field u ∷ [])) e,
          refl,
          refl,
          function_there [] (t.Optional u) f,
          there S (t.Optional u) o.there (node.Opt u) (option_head S.defs u),
        )

    -- ---- members

    -- a method of arrays or texts
    method_value : (m : Member) (u v : Term) → Known S A u → (x : TypedExpression) → Typed S.slots x A.context (Of (S.number v)) → MemberTyped (head_at S.slots) m (Of (S.number v) ∷ []) (head_at S.slots (S.number u))
        → Value S A u (nodes.acts S.defs S.number u (action.BuiltIn m) (x ∷ []))
    method_value m u v k x h i = acts S A u k (action.BuiltIn m) (x ∷ []) (Of (S.number v) ∷ []) (S.number u, refl, i) (h, tt)

    actor_value : (v : Term) → Known S A v → (fs : List (Field Term)) → head S.defs v ≡ node.Actor fs → (l : Bytes) (f : Field Term) → find l fs ≡ Some f → (x : TypedExpression) → Typed S.slots x A.context (Of (S.number v))
        → Value S A f.part (operates S.defs S.number f.part (op.Method l) (x ∷ []))
    actor_value v k fs e l f g x h =
        let at : head_at S.slots (S.number v) ≡ node.Actor (map (on_field S.number) fs) = there S v k.there (node.Actor fs) e in
        let seen : find l (map (on_field S.number) fs) ≡ Some (on_field S.number f) = find_seen S.number l fs f g in
        let lawful = found_each (λ y. IsSharedFunction (head_at S.slots y.part) × (is_method_name y.label ≡ true)) l (map (on_field S.number) fs) (on_field S.number f) (method_lawful (S.number v) (map (on_field S.number) fs) at) seen in
        acts S A f.part (inside S vs v f.part k (node.Actor fs) e (find_among l fs f g)) (action.Operate (op.Method l)) (x ∷ []) (Of (S.number v) ∷ [])
        (S.number v, refl, (map (on_field S.number) fs, on_field S.number f, ap is_method_name (sym (found_label l fs f g)) ∙ lawful.1, at, seen, lawful.0, refl)) (h, tt)

    abbrev IsMethod : Term → Term → Member → Type 0
    IsMethod u v m = MemberTyped (head_at S.slots) m (Of (S.number v) ∷ []) (head_at S.slots (S.number u))

    array_member : (v e u : Term) → Known S A v → IsElementOf (head_at S.slots) (S.number v) (S.number e) → Known S A u → (x : Bytes) → named (array_members e) x ≡ Some u → (z : TypedExpression) → Typed S.slots z A.context (Of (S.number v))
        → Value S A u (nodes.acts S.defs S.number u (action.BuiltIn (array_method x)) (z ∷ []))
    array_member v e u kv el ku x h z hz =
        method_value (array_method x) u v ku z hz (first (bytes_eq x (codes "size")) h)
      where
        size : function [] nat ≡ u → IsMethod u v member.ArraySize
        size e' =
            let k = subst (λ y. Known S A y) (sym e') ku in
            subst (λ y. MemberTyped (head_at S.slots) member.ArraySize (Of (S.number v) ∷ []) (head_at S.slots (S.number y))) e'
            (S.number v, S.number e, refl, el, (S.number nat, function_there [] nat k, nat_known (result_known [] nat k)))

        vals : function [] (iterator e) ≡ u → IsMethod u v member.ArrayVals
        vals e' =
            let k = subst (λ y. Known S A y) (sym e') ku in
            subst (λ y. MemberTyped (head_at S.slots) member.ArrayVals (Of (S.number v) ∷ []) (head_at S.slots (S.number y))) e'
            (S.number v, S.number e, refl, el, (S.number (iterator e), function_there [] (iterator e) k, iterator_there e (result_known [] (iterator e) k)))

        keys : function [] (iterator nat) ≡ u → IsMethod u v member.ArrayKeys
        keys e' =
            let k = subst (λ y. Known S A y) (sym e') ku in
            let i = result_known [] (iterator nat) k in
            let f = inside S vs (iterator nat) (function [] (t.Optional nat)) i (node.Object (next_field nat ∷ [])) (object_head S.defs (t.constant (codes "next") (function [] (t.Optional nat)) t.NoFields)) (inl refl) in
            let o = result_known [] (t.Optional nat) f in
            let n = inside S vs (t.Optional nat) nat o (node.Opt nat) (option_head S.defs nat) (inl refl) in
            subst (λ y. MemberTyped (head_at S.slots) member.ArrayKeys (Of (S.number v) ∷ []) (head_at S.slots (S.number y))) e'
            (S.number v, S.number e, S.number nat, refl, el, nat_known n, (S.number (iterator nat), function_there [] (iterator nat) k, iterator_there nat i))

        third : (b : Bool) → cond b (Some (function [] (iterator nat))) None ≡ Some u → IsMethod u v member.ArrayKeys
        third true g = let q : function [] (iterator nat) ≡ u = cc in keys q
        third false g = cc

        second : (b : Bool) → cond b (Some (function [] (iterator e))) (cond (bytes_eq x (codes "keys")) (Some (function [] (iterator nat))) None) ≡ Some u → IsMethod u v (cond b member.ArrayVals member.ArrayKeys)
        second true g = let q : function [] (iterator e) ≡ u = cc in vals q
        second false g = third (bytes_eq x (codes "keys")) g

        first : (b : Bool)
            → cond b (Some (function [] nat)) (cond (bytes_eq x (codes "vals")) (Some (function [] (iterator e))) (cond (bytes_eq x (codes "keys")) (Some (function [] (iterator nat))) None)) ≡ Some u
            → IsMethod u v (cond b member.ArraySize (cond (bytes_eq x (codes "vals")) member.ArrayVals member.ArrayKeys))
        first true g = let q : function [] nat ≡ u = cc in size q
        first false g = second (bytes_eq x (codes "vals")) g

    text_member : (v u : Term) → head_at S.slots (S.number v) ≡ node.Text → Known S A u → (x : Bytes) → named text_members x ≡ Some u → (z : TypedExpression) → Typed S.slots z A.context (Of (S.number v))
        → Value S A u (nodes.acts S.defs S.number u (action.BuiltIn (text_method x)) (z ∷ []))
    text_member v u tv ku x h z hz =
        method_value (text_method x) u v ku z hz (first (bytes_eq x (codes "size")) h)
      where
        size : function [] nat ≡ u → IsMethod u v member.TextSize
        size e' =
            let k = subst (λ y. Known S A y) (sym e') ku in
            subst (λ y. MemberTyped (head_at S.slots) member.TextSize (Of (S.number v) ∷ []) (head_at S.slots (S.number y))) e' (S.number v, refl, tv, (S.number nat, function_there [] nat k, nat_known (result_known [] nat k)))

        chars : function [] (iterator t.Character) ≡ u → IsMethod u v member.TextChars
        chars e' =
            let k = subst (λ y. Known S A y) (sym e') ku in
            let i = result_known [] (iterator t.Character) k in
            let f = inside S vs (iterator t.Character) (function [] (t.Optional t.Character)) i (node.Object (next_field t.Character ∷ [])) (object_head S.defs (t.constant (codes "next") (function [] (t.Optional t.Character)) t.NoFields)) (inl refl) in
            let o = result_known [] (t.Optional t.Character) f in
            let c = inside S vs (t.Optional t.Character) t.Character o (node.Opt t.Character) (option_head S.defs t.Character) (inl refl) in
            subst (λ y. MemberTyped (head_at S.slots) member.TextChars (Of (S.number v) ∷ []) (head_at S.slots (S.number y))) e'
            (S.number v, S.number t.Character, refl, tv, there S t.Character c.there node.Char (character_head S.defs), (S.number (iterator t.Character), function_there [] (iterator t.Character) k, iterator_there t.Character i))

        second : (b : Bool) → cond b (Some (function [] (iterator t.Character))) None ≡ Some u → IsMethod u v member.TextChars
        second true g = let q : function [] (iterator t.Character) ≡ u = cc in chars q
        second false g = cc

        first : (b : Bool) → cond b (Some (function [] nat)) (cond (bytes_eq x (codes "chars")) (Some (function [] (iterator t.Character))) None) ≡ Some u → IsMethod u v (cond b member.TextSize member.TextChars)
        first true g = let q : function [] nat ≡ u = cc in size q
        first false g = second (bytes_eq x (codes "chars")) g

    -- a member of a value that goes by this head
    member_value : (y : Node Term) (v u : Term) → Known S A v → head S.defs v ≡ y → (x : Bytes) → member_type x y ≡ Some u → (Among u S.terms → Known S A u) → Among u S.terms → (z : TypedExpression) → Typed S.slots z A.context (Of (S.number v))
        → Value S A u (member_of S.defs S.number u x y z)
    member_value (node.Object fs) v u k e x h ku m z hz =
        let f = part_is (find x fs) u h in
        subst (λ w. Value S A w (member_of S.defs S.number w x (node.Object fs) z)) f.2 (field_value S A v k fs e x f.0 f.1 z hz)
    member_value (node.Actor fs) v u k e x h ku m z hz =
        let f = part_is (find x fs) u h in
        subst (λ w. Value S A w (operates S.defs S.number w (op.Method x) (z ∷ []))) f.2 (actor_value v k fs e x f.0 f.1 z hz)
    member_value (node.Array a) v u k e x h ku m z hz = array_member v a u k (inl (there S v k.there (node.Array a) e)) (ku m) x h z hz
    member_value (node.MutArray a) v u k e x h ku m z hz = array_member v a u k (inr (there S v k.there (node.MutArray a) e)) (ku m) x h z hz
    member_value node.Text v u k e x h ku m z hz = text_member v u (there S v k.there node.Text e) (ku m) x h z hz
    member_value (node.Number k') v u k e x h ku m z hz = cc
    member_value node.Bool v u k e x h ku m z hz = cc
    member_value node.Char v u k e x h ku m z hz = cc
    member_value node.Blob v u k e x h ku m z hz = cc
    member_value node.Principal v u k e x h ku m z hz = cc
    member_value node.Error v u k e x h ku m z hz = cc
    member_value node.Null v u k e x h ku m z hz = cc
    member_value node.Any v u k e x h ku m z hz = cc
    member_value node.Bottom v u k e x h ku m z hz = cc
    member_value (node.Opt a) v u k e x h ku m z hz = cc
    member_value (node.Tuple ts) v u k e x h ku m z hz = cc
    member_value (node.Variant fs) v u k e x h ku m z hz = cc
    member_value (node.Func s ps rs) v u k e x h ku m z hz = cc
    member_value (node.Async a) v u k e x h ku m z hz = cc
    member_value (node.Variable n b) v u k e x h ku m z hz = cc

    pub function_fine : (ps : List Term) (r : Term) → ((u : Term) → Among u (ps ++ r ∷ []) → MentionsOnly (head S.defs) vs u) → IsFine S.defs vs (function ps r)
    function_fine ps r h = made_fine S.defs vs (function ps r) (node.Func sort.Local ps (r ∷ [])) (function_at S.defs ps r) tt refl h

    iterator_fine : (u : Term) → MentionsOnly (head S.defs) vs u → IsFine S.defs vs (iterator u)
    iterator_fine u h =
        let o = made_fine S.defs vs (t.Optional u) (node.Opt u) (option_head S.defs u) tt refl (only S A u h) in
        made_fine S.defs vs (iterator u) (node.Object (next_field u ∷ [])) (object_head S.defs (t.constant (codes "next") (function [] (t.Optional u)) t.NoFields)) tt refl
        (only S A (function [] (t.Optional u)) (function_fine [] (t.Optional u) (only S A (t.Optional u) o.scoped)).scoped)

    -- the members of values are of types in scope
    array_fine : (e u : Term) → MentionsOnly (head S.defs) vs e → (x : Bytes) → named (array_members e) x ≡ Some u → IsFine S.defs vs u
    array_fine e u h x g = first (bytes_eq x (codes "size")) g where
      nat_fine : IsFine S.defs vs nat
      nat_fine = number_fine S.defs vs kind.Nat

      third : (b : Bool) → cond b (Some (function [] (iterator nat))) None ≡ Some u → IsFine S.defs vs u
      third true g = let q : function [] (iterator nat) ≡ u = cc in subst (IsFine S.defs vs) q (function_fine [] (iterator nat) (only S A (iterator nat) (iterator_fine nat nat_fine.scoped).scoped))
      third false g = cc

      second : (b : Bool) → cond b (Some (function [] (iterator e))) (cond (bytes_eq x (codes "keys")) (Some (function [] (iterator nat))) None) ≡ Some u → IsFine S.defs vs u
      second true g = let q : function [] (iterator e) ≡ u = cc in subst (IsFine S.defs vs) q (function_fine [] (iterator e) (only S A (iterator e) (iterator_fine e h).scoped))
      second false g = third (bytes_eq x (codes "keys")) g

      first : (b : Bool) → cond b (Some (function [] nat)) (cond (bytes_eq x (codes "vals")) (Some (function [] (iterator e))) (cond (bytes_eq x (codes "keys")) (Some (function [] (iterator nat))) None)) ≡ Some u → IsFine S.defs vs u
      first true g = let q : function [] nat ≡ u = cc in subst (IsFine S.defs vs) q (function_fine [] nat (only S A nat nat_fine.scoped))
      first false g = second (bytes_eq x (codes "vals")) g

    text_fine' : (u : Term) (x : Bytes) → named text_members x ≡ Some u → IsFine S.defs vs u
    text_fine' u x g = first (bytes_eq x (codes "size")) g where
      second : (b : Bool) → cond b (Some (function [] (iterator t.Character))) None ≡ Some u → IsFine S.defs vs u
      second true g =
          let q : function [] (iterator t.Character) ≡ u = cc in
          subst (IsFine S.defs vs) q (function_fine [] (iterator t.Character) (only S A (iterator t.Character) (iterator_fine t.Character (character_fine S.defs vs).scoped).scoped))
      second false g = cc

      first : (b : Bool) → cond b (Some (function [] nat)) (cond (bytes_eq x (codes "chars")) (Some (function [] (iterator t.Character))) None) ≡ Some u → IsFine S.defs vs u
      first true g = let q : function [] nat ≡ u = cc in subst (IsFine S.defs vs) q (function_fine [] nat (only S A nat (number_fine S.defs vs kind.Nat).scoped))
      first false g = second (bytes_eq x (codes "chars")) g

    field_fine : (v : Term) → Known S A v → (y : Node Term) → head S.defs v ≡ y → (u : Term) (x : Bytes) → member_type x y ≡ Some u → IsFine S.defs vs u
    field_fine v k (node.Object fs) e u x h = let f = part_is (find x fs) u h in subst (IsFine S.defs vs) f.2 (inside S vs v f.0.part k (node.Object fs) e (find_among x fs f.0 f.1)).fine
    field_fine v k (node.Actor fs) e u x h = let f = part_is (find x fs) u h in subst (IsFine S.defs vs) f.2 (inside S vs v f.0.part k (node.Actor fs) e (find_among x fs f.0 f.1)).fine
    field_fine v k (node.Array a) e u x h = array_fine a u (inside S vs v a k (node.Array a) e (inl refl)).fine.scoped x h
    field_fine v k (node.MutArray a) e u x h = array_fine a u (inside S vs v a k (node.MutArray a) e (inl refl)).fine.scoped x h
    field_fine v k node.Text e u x h = text_fine' u x h
    field_fine v k (node.Number k') e u x h = cc
    field_fine v k node.Bool e u x h = cc
    field_fine v k node.Char e u x h = cc
    field_fine v k node.Blob e u x h = cc
    field_fine v k node.Principal e u x h = cc
    field_fine v k node.Error e u x h = cc
    field_fine v k node.Null e u x h = cc
    field_fine v k node.Any e u x h = cc
    field_fine v k node.Bottom e u x h = cc
    field_fine v k (node.Opt a) e u x h = cc
    field_fine v k (node.Tuple ts) e u x h = cc
    field_fine v k (node.Variant fs) e u x h = cc
    field_fine v k (node.Func s ps rs) e u x h = cc
    field_fine v k (node.Async a) e u x h = cc
    field_fine v k (node.Variable n b) e u x h = cc

    -- where a is no module
    pub member_typed : (at : ℕ) (a : Expression ℕ) (x : Bytes) → IsTypedPart S A a → (w : Option Term) → WantKnown S A w
        → Yields S.defs S.terms (Part (Judge S.defs (directly Other A.known) a None) (λ b. Given condition.NoField at (member_type x (members_head S.defs (type_of b))) (λ u. Has at w u (p.Member b x)))) (Is S A w)
    member_typed at a x j w k =
        judged S A a j None tt _ (Is S A w) (λ b i.
        given S.defs S.terms condition.NoField at (member_type x (members_head S.defs (type_of b))) _ (Is S A w) (λ u e.
        let r = promotes S A (type_of b) (Tree S A b) (value_of S A.known.labels A.frame A.context None b i) in
        has S A at w u (p.Member b x) (λ l. refl) k (λ m.
        member_value (members_head S.defs (type_of b)) r.type u r.known r.head_is x e (λ m'. record { there = m'; fine = field_fine r.type r.known (members_head S.defs (type_of b)) r.head_is u x e }) m (Tree S A b) r.typed)))
