-- Calls, where what is called may have type parameters.
use Rattle.std.proofs.Common.{◌≡◌, ◌≢◌, inl, inr, ℕ, suc, List, [], ◌∷◌, ◌++◌, length, map, Option, Some, None, refl, sym, ap, ◌∙◌, subst, arith}
use Rattle.std.specs.Option.{option_and_then}
use Rattle.std.specs.Prelude.{nat_eq, slice_get}
use Rattle.mo_num.specs.declared.kind.Kind.TheVariants as kind
use Rattle.mo_scopes.specs.declared.library.Member.{Member}
use Rattle.mo_scopes.specs.declared.library.Member.TheVariants as library
use Rattle.mo_types.specs.declared.node.Node.TheVariants as node
use Rattle.mo_types.specs.declared.node.Sort.TheVariants as sort
use Rattle.mo_types.specs.declared.node.TypeId.{TypeId}
use Rattle.mo_types.specs.Graph.{head_at}
use Rattle.mo_types.specs.Sub.{IsSubtype, Each}
use Rattle.subtype_laws.specs.Reached.{Among}
use Rattle.typed_tree.specs.declared.action.Action.TheVariants as action
use Rattle.typed_tree.specs.declared.expression.Form.TheOpen as F
use Rattle.typed_tree.specs.Instances.{types_in}
use Rattle.typed_tree.specs.MemberTypes.{Function, MemberTyped}
use Rattle.typed_tree.specs.Wants.{Want, Generic}
use Rattle.typing_rules.specs.declared.condition.Condition.TheVariants as condition
use Rattle.typing_rules.specs.AbstractSyntax.{Bytes, TypeNode, Expression, Expressions, Form}
use Rattle.typing_rules.specs.AbstractSyntax as p
use Rattle.typing_rules.specs.AsyncPlaces.{Other}
use Rattle.typing_rules.specs.Calls.{built_in, if_generic, polymorphic, bound_terms, bound_questions, Instance}
use Rattle.typing_rules.specs.Contexts.{Context, Bound, directly, value_named}
use Rattle.typing_rules.specs.Definitions.{bound_at}
use Rattle.typing_rules.specs.Expressions.{Judge, Rule}
use Rattle.typing_rules.specs.Heads.{head}
use Rattle.typing_rules.specs.Judgements.{Judgement, Gives, Meets, Part, Case, Given, Tests, MeetsEach, NeedsEach}
use Rattle.typing_rules.specs.Members.{function, member_bound}
use Rattle.typing_rules.specs.Patterns.{is_empty}
use Rattle.typing_rules.specs.Terms.{Term, nat, with_arguments, zipped}
use Rattle.typing_rules.specs.Terms as t
use Rattle.typing_rules.specs.TypedTrees.{Note, typed as at_type, type_of, place}
use Rattle.typing_rules.specs.Types.{Reads, ReadsEach}
use Rattle.desugaring.specs.Frames.{found}
use Rattle.desugaring.specs.FreeNames.{occurring}
use Rattle.desugaring.specs.Nodes.{at, held, built_in as built_in_member}
use Rattle.desugaring.specs.Nodes as nodes
use Rattle.desugaring_laws.specs.Yields.{Yields}
use Rattle.desugaring_laws.proofs.Graph.{parts_there}
use Rattle.desugaring_laws.proofs.Scoping.{scoped_in}
use Rattle.desugaring_laws.proofs.Yielding.{more, given, tests, by_case, part as after}
use Rattle.expression_laws.specs.Fitting.{StandsFor, AValue, ACell, AFuture, AGeneric}
use Rattle.expression_laws.proofs.Calling.{called_typed}
use Rattle.expression_laws.proofs.Ending.{Setting, Place, Within, IsTypedPart, IsPart, part_fits, there, value_of, Known, WantKnown, Is, Tree, Value, a_value, acts, written}
use Rattle.expression_laws.proofs.Heads.{number_head, number_fine, array_head, mutable_array_head, made_fine}
use Rattle.expression_laws.proofs.Listed.{same_number, EachTyping}
use Rattle.expression_laws.proofs.Members.{function_at, function_there}
use Rattle.expression_laws.proofs.Simple.{only}
use Rattle.function_laws.proofs.Instances.{length_map, instance_seen, instance_known, within_bounds}

-- what is called by a name is one of these
data IsGeneric (e : Context) : Expression ℕ → Bound × Form Note → Type 0 where
  ByName : (n : ℕ) (x : Bytes) (b : Bound) → value_named e x ≡ Some b → (b.generics ≢ []) → IsGeneric e (p.exp n (p.Name x)) (b, p.Name x)
  ByMember : (a : Expression ℕ) (n : ℕ) (x : Bytes) (m : Member) → ((member_bound m).generics ≢ []) → IsGeneric e (p.exp n (p.Member a x)) (member_bound m, p.BuiltIn m)

generic_is : (b : Bound) (f : Form Note) (q : Bound × Form Note) → if_generic b f ≡ Some q → (b.generics ≢ []) × (q ≡ (b, f))
generic_is b f q h = by b.generics refl h where
  by : (gs : List ℕ) → b.generics ≡ gs → if_generic b f ≡ Some q → (b.generics ≢ []) × (q ≡ (b, f))
  by [] e h = absurd (no (subst (λ gs. if_generic (record { type = b.type; mutable = b.mutable; generics = gs }) f ≡ Some q) e h)) where
    no : if_generic (record { type = b.type; mutable = b.mutable; generics = [] }) f ≡ Some q → ⊥
    no h = cc
  by (g ∷ gs) e h =
      let k : if_generic (record { type = b.type; mutable = b.mutable; generics = g ∷ gs }) f ≡ Some q = subst (λ hs. if_generic (record { type = b.type; mutable = b.mutable; generics = hs }) f ≡ Some q) e h in
      let i : Some (record { type = b.type; mutable = b.mutable; generics = g ∷ gs }, f) ≡ Some q = k in
      let j : (record { type = b.type; mutable = b.mutable; generics = g ∷ gs }, f) ≡ q = cc in
      ((λ z. absurd (some (sym z ∙ e))), sym (ap (λ hs. (record { type = b.type; mutable = b.mutable; generics = hs }, f)) e ∙ j))
    where
      some : [] ≡ g ∷ gs → ⊥
      some z = cc

then_some : {X Y : Type 0} (f : X → Option Y) (o : Option X) (y : Y) → option_and_then f o ≡ Some y → (x : X) × (o ≡ Some x) × (f x ≡ Some y)
then_some f None y h = cc
then_some f (Some x) y h = (x, refl, h)

is_generic : (e : Context) (g : Expression ℕ) (q : Bound × Form Note) → polymorphic e g ≡ Some q → IsGeneric e g q
is_generic e (p.exp n (p.Constant l)) q h = cc
is_generic e (p.exp n (p.Name x)) q h =
    let b = then_some (λ b. if_generic b (p.Name x)) (value_named e x) q h in
    let i = generic_is b.0 (p.Name x) q b.2 in
    subst (λ z. IsGeneric e (p.exp n (p.Name x)) z) (sym i.1) (ByName n x b.0 b.1 i.0)
is_generic e (p.exp n (p.Tuple items)) q h = cc
is_generic e (p.exp n (p.Optional a)) q h = cc
is_generic e (p.exp n (p.Tag x)) q h = cc
is_generic e (p.exp n (p.Tagged x a)) q h = cc
is_generic e (p.exp n (p.Array m items)) q h = cc
is_generic e (p.exp n (p.Object fields)) q h = cc
is_generic e (p.exp n (p.Member a x)) q h =
    let m = then_some (λ m. if_generic (member_bound m) (p.BuiltIn m)) (built_in e a x) q h in
    let i = generic_is (member_bound m.0) (p.BuiltIn m.0) q m.2 in
    subst (λ z. IsGeneric e (p.exp n (p.Member a x)) z) (sym i.1) (ByMember a n x m.0 i.0)
is_generic e (p.exp n (p.Projection a i)) q h = cc
is_generic e (p.exp n (p.Index a i)) q h = cc
is_generic e (p.exp n (p.Annotated a t)) q h = cc
is_generic e (p.exp n (p.Negative a)) q h = cc
is_generic e (p.exp n (p.Binary o a b)) q h = cc
is_generic e (p.exp n (p.Not a)) q h = cc
is_generic e (p.exp n (p.Assign r a)) q h = cc
is_generic e (p.exp n (p.AssignBy o r a)) q h = cc
is_generic e (p.exp n (p.Call g types arguments)) q h = cc
is_generic e (p.exp n (p.When c a)) q h = cc
is_generic e (p.exp n (p.If c a b)) q h = cc
is_generic e (p.exp n (p.Switch a cases)) q h = cc
is_generic e (p.exp n (p.Try a r b)) q h = cc
is_generic e (p.exp n (p.While c a)) q h = cc
is_generic e (p.exp n (p.Loop a)) q h = cc
is_generic e (p.exp n (p.LoopWhile a c)) q h = cc
is_generic e (p.exp n (p.For r a b)) q h = cc
is_generic e (p.exp n (p.Label x t a)) q h = cc
is_generic e (p.exp n (p.Break x)) q h = cc
is_generic e (p.exp n (p.BreakWith x a)) q h = cc
is_generic e (p.exp n (p.Continue x)) q h = cc
is_generic e (p.exp n p.Return) q h = cc
is_generic e (p.exp n (p.ReturnWith a)) q h = cc
is_generic e (p.exp n (p.Throw a)) q h = cc
is_generic e (p.exp n (p.Do a)) q h = cc
is_generic e (p.exp n (p.DoOption a)) q h = cc
is_generic e (p.exp n (p.Bang a)) q h = cc
is_generic e (p.exp n (p.Block ds)) q h = cc
is_generic e (p.exp n (p.Function g body)) q h = cc
is_generic e (p.exp n (p.ObjectBlock fields)) q h = cc
is_generic e (p.exp n (p.Assert a)) q h = cc
is_generic e (p.exp n (p.Ignore a)) q h = cc
is_generic e (p.exp n (p.Debug a)) q h = cc
is_generic e (p.exp n (p.ActorReference x)) q h = cc
is_generic e (p.exp n (p.Await a)) q h = cc
is_generic e (p.exp n (p.BuiltIn m)) q h = cc
is_generic e (p.exp n (p.Subsumed a)) q h = cc

module _ (S : Setting) where
  meets_each : {A : Type 0} (us : List Term) (j : Judgement A) (P : A → Type 0) → (Each (λ u. Among u S.terms) us → Yields S.defs S.terms j P) → Yields S.defs S.terms (MeetsEach us j) P
  meets_each [] j P f = f tt
  meets_each (u ∷ us) j P f = λ m. meets_each us j P (λ ms. f (m, ms))

  -- the bounds of arguments, which are met and hold
  bounds_hold : {A : Type 0} (n : ℕ) (all qs : List (ℕ × Term)) (j : Judgement A) (P : A → Type 0) → Each (λ u. Among u S.terms) (bound_terms S.defs all qs)
      → (Each (λ q. Among (with_arguments all (bound_at S.defs.parameters q.0)) S.terms × IsSubtype (head S.defs) q.1 (with_arguments all (bound_at S.defs.parameters q.0))) qs → Yields S.defs S.terms j P)
      → Yields S.defs S.terms (NeedsEach condition.Bound n (bound_questions S.defs all qs) j) P
  bounds_hold n all [] j P m f = f tt
  bounds_hold n all (q ∷ qs) j P m f = (λ h. bounds_hold n all qs j P m.1 (λ k. f ((m.0, h), k)), λ h. tt)

module _ (S : Setting) (A : Place S) where
  abbrev vs : List ℕ
  vs = A.context.parameters

  abbrev E : Context
  E = directly Other A.known

  abbrev AreRead : List TypeNode → List Term → Type 0
  AreRead types us = Each (Known S A) us × (length us ≡ length types)

  reads_each : (types : List TypeNode) → Yields S.defs S.terms (ReadsEach S.defs A.known.types types) (AreRead types)
  reads_each [] = (tt, refl)
  reads_each (a ∷ rest) =
      after S.defs S.terms (Reads S.defs A.known.types a) _ (Known S A) (AreRead (a ∷ rest)) (written S A a) (λ u k.
      after S.defs S.terms (ReadsEach S.defs A.known.types rest) _ (AreRead rest) (AreRead (a ∷ rest)) (reads_each rest) (λ us i. ((k, i.0), ap suc i.1)))

  -- the type of a function at these type arguments
  record IsInstanceOf (b : Bound) (u : Term) : Type 0 where
    pub arguments : List Term
    pub many : length arguments ≡ length b.generics
    pub same : u ≡ with_arguments (zipped b.generics arguments) b.type
    pub known : Each (Known S A) arguments
    pub bounded : Each (λ q. Among (with_arguments (zipped b.generics arguments) (bound_at S.defs.parameters q.0)) S.terms × IsSubtype (head S.defs) q.1 (with_arguments (zipped b.generics arguments) (bound_at S.defs.parameters q.0)))
        (zipped b.generics arguments)

  instance_of : (n : ℕ) (b : Bound) (types : List TypeNode) → Yields S.defs S.terms (Instance S.defs n A.known.types b types) (IsInstanceOf b)
  instance_of n b types =
      tests S.defs S.terms condition.TypeArguments n (nat_eq (length types) (length b.generics)) _ (IsInstanceOf b) (λ many.
      after S.defs S.terms (ReadsEach S.defs A.known.types types) _ (AreRead types) (IsInstanceOf b) (reads_each types) (λ us i.
      let all = zipped b.generics us in
      meets_each S (bound_terms S.defs all all) _ (IsInstanceOf b) (λ met.
      bounds_hold S n all all _ (IsInstanceOf b) met (λ h. record {
        arguments = us;
        many = i.1 ∙ same_number (length types) (length b.generics) many;
        same = refl;
        known = i.0;
        bounded = h;
      }))))

  known_at : (us : List Term) → Each (Known S A) us → (u : Term) → Among u us → Known S A u
  known_at [] k u m = absurd m
  known_at (v ∷ us) k u (inl e) = subst (λ z. Known S A z) e k.0
  known_at (v ∷ us) k u (inr m) = known_at us k.1 u m

  -- ---- what is called

  abbrev Callee : p.Expression Note → Type 0
  Callee g = Value S A (type_of g) (Tree S A g)

  -- a function of the list or of one around it
  name_value : (n : ℕ) (x : Bytes) → Among x A.used → (b : Bound) → value_named E x ≡ Some b → (b.generics ≢ []) → (u : Term) → IsInstanceOf b u → Among u S.terms → Callee (at_type n u (p.Name x))
  name_value n x m b e generic u i there_u =
      let w = A.fits.names x m b e in
      by w.0 w.1 w.2
    where
      by : (w : Want TypeId) → slice_get A.context.names (found A.frame x).index ≡ Some w → StandsFor S.defs S.slots S.terms S.number vs A.known.body b (found A.frame x).cell w → Callee (at_type n u (p.Name x))
      by w at_x (AValue q g c k h) = absurd (generic g)
      by w at_x (ACell q g c k h) = absurd (generic g)
      by w at_x (AFuture q g c a f k h) = absurd (generic g)
      by w at_x (AGeneric q g c k h) =
          let us = i.arguments in
          let met = λ (z : Term) (m : Among z us). (known_at us i.known z m).there in
          let there_put : Among (with_arguments (zipped b.generics us) b.type) S.terms = subst (λ z. Among z S.terms) i.same there_u in
          let known_put = instance_known S b.generics us i.many met vs (λ z m. (known_at us i.known z m).fine.scoped) (λ v q. scoped_in vs S.defs A.fits.bounds (t.Parameter v) q) b.type k (λ z m. (known_at us i.known z m).fine.no_future) there_put in
          let value : Value S A (with_arguments (zipped b.generics us) b.type) (at S.defs S.number (with_arguments (zipped b.generics us) b.type) (F.Name (found A.frame x).index)) =
          a_value S A (with_arguments (zipped b.generics us) b.type) known_put (F.Name (found A.frame x).index) (
            Generic b.generics (S.number b.type),
            at_x ∙ ap (λ z. Some z) h,
            (map S.number us, S.number (with_arguments (zipped b.generics us) b.type), length_map S.number us ∙ i.many, within_bounds S b.generics us i.many met i.bounded, instance_seen S b.generics us i.many met b.type k.there there_put, refl),
          ) in
          subst (λ z. Value S A u (held S.defs S.number u z (at S.defs S.number u (F.Name (found A.frame x).index)))) (sym c)
          (subst (λ z. Value S A z (at S.defs S.number z (F.Name (found A.frame x).index))) (sym i.same) value)

  -- ---- built-in functions with a type parameter

  one_argument : (us : List Term) → length us ≡ 1 → (a : Term) × (us ≡ a ∷ [])
  one_argument [] e = cc
  one_argument (a ∷ []) e = (a, refl)
  one_argument (a ∷ b ∷ us) e = absurd (omega (arith, e))

  function_known : (ps : List Term) (r : Term) → Among (function ps r) S.terms → ((u : Term) → Among u (ps ++ r ∷ []) → Known S A u) → Known S A (function ps r)
  function_known ps r m k = record { there = m; fine = made_fine S.defs vs (function ps r) (node.Func sort.Local ps (r ∷ [])) (function_at S.defs ps r) tt refl (λ u n. (k u n).fine.scoped) }

  part_there : (ps : List Term) (r : Term) → Among (function ps r) S.terms → (u : Term) → Among u (ps ++ r ∷ []) → Among u S.terms
  part_there ps r m u n = parts_there S.defs S.slots S.terms S.number S.graph (function ps r) u m (subst (λ y. Among u (types_in y)) (sym (function_at S.defs ps r)) n)

  built_in_known : (m : Member) (ps : List Term) (r : Term) → Known S A (function ps r) → MemberTyped (head_at S.slots) (built_in_member m) [] (Function (map S.number ps) (S.number r))
      → Value S A (function ps r) (nodes.acts S.defs S.number (function ps r) (action.BuiltIn (built_in_member m)) [])
  built_in_known m ps r k h =
      acts S A (function ps r) k (action.BuiltIn (built_in_member m)) [] [] (S.number (function ps r), refl, subst (λ y. MemberTyped (head_at S.slots) (built_in_member m) [] y) (sym (function_there S A ps r k)) h) tt

  nat_at : Among nat S.terms → head_at S.slots (S.number nat) ≡ node.Number kind.Nat
  nat_at m = there S nat m (node.Number kind.Nat) (number_head S.defs kind.Nat)

  nat_known : Among nat S.terms → Known S A nat
  nat_known m = record { there = m; fine = number_fine S.defs vs kind.Nat }

  array_known : (a : Term) → Known S A a → Among (t.Array a) S.terms → Known S A (t.Array a)
  array_known a k m = record { there = m; fine = made_fine S.defs vs (t.Array a) (node.Array a) (array_head S.defs a) tt refl (only S A a k.fine.scoped) }

  mutable_known : (a : Term) → Known S A a → Among (t.MutableArray a) S.terms → Known S A (t.MutableArray a)
  mutable_known a k m = record { there = m; fine = made_fine S.defs vs (t.MutableArray a) (node.MutArray a) (mutable_array_head S.defs a) tt refl (only S A a k.fine.scoped) }

  array_at : (a : Term) → Among (t.Array a) S.terms → head_at S.slots (S.number (t.Array a)) ≡ node.Array (S.number a)
  array_at a m = there S (t.Array a) m (node.Array a) (array_head S.defs a)

  mutable_at : (a : Term) → Among (t.MutableArray a) S.terms → head_at S.slots (S.number (t.MutableArray a)) ≡ node.MutArray (S.number a)
  mutable_at a m = there S (t.MutableArray a) m (node.MutArray a) (mutable_array_head S.defs a)

  three : (P : Term → Type 0) (x y z : Term) → P x → P y → P z → (u : Term) → Among u (x ∷ y ∷ z ∷ []) → P u
  three P x y z i j k u (inl e) = subst P e i
  three P x y z i j k u (inr (inl e)) = subst P e j
  three P x y z i j k u (inr (inr (inl e))) = subst P e k
  three P x y z i j k u (inr (inr (inr m))) = absurd m

  two : (P : Term → Type 0) (x y : Term) → P x → P y → (u : Term) → Among u (x ∷ y ∷ []) → P u
  two P x y i j u (inl e) = subst P e i
  two P x y i j u (inr (inl e)) = subst P e j
  two P x y i j u (inr (inr m)) = absurd m

  tabulate_value : (a : Term) → Known S A a → let f = function (nat ∷ []) a in Among (function (nat ∷ f ∷ []) (t.Array a)) S.terms
      → Value S A (function (nat ∷ f ∷ []) (t.Array a)) (nodes.acts S.defs S.number (function (nat ∷ f ∷ []) (t.Array a)) (action.BuiltIn (built_in_member library.ArrayTabulate)) [])
  tabulate_value a k m =
      let f = function (nat ∷ []) a in
      let at_part = part_there (nat ∷ f ∷ []) (t.Array a) m in
      let mn = at_part nat (inl refl) in
      let mf = at_part f (inr (inl refl)) in
      let mr = at_part (t.Array a) (inr (inr (inl refl))) in
      let kf = function_known (nat ∷ []) a mf (two (Known S A) nat a (nat_known mn) k) in
      built_in_known library.ArrayTabulate (nat ∷ f ∷ []) (t.Array a) (function_known (nat ∷ f ∷ []) (t.Array a) m (three (Known S A) nat f (t.Array a) (nat_known mn) kf (array_known a k mr)))
      (S.number nat, S.number f, S.number a, refl, nat_at mn, function_there S A (nat ∷ []) a kf, (S.number (t.Array a), refl, array_at a mr))

  init_value : (a : Term) → Known S A a → Among (function (nat ∷ a ∷ []) (t.MutableArray a)) S.terms
      → Value S A (function (nat ∷ a ∷ []) (t.MutableArray a)) (nodes.acts S.defs S.number (function (nat ∷ a ∷ []) (t.MutableArray a)) (action.BuiltIn (built_in_member library.ArrayInit)) [])
  init_value a k m =
      let at_part = part_there (nat ∷ a ∷ []) (t.MutableArray a) m in
      let mn = at_part nat (inl refl) in
      let mr = at_part (t.MutableArray a) (inr (inr (inl refl))) in
      built_in_known library.ArrayInit (nat ∷ a ∷ []) (t.MutableArray a) (function_known (nat ∷ a ∷ []) (t.MutableArray a) m (three (Known S A) nat a (t.MutableArray a) (nat_known mn) k (mutable_known a k mr)))
      (S.number nat, S.number a, refl, nat_at mn, (S.number (t.MutableArray a), refl, mutable_at a mr))

  freeze_value : (a : Term) → Known S A a → Among (function (t.MutableArray a ∷ []) (t.Array a)) S.terms
      → Value S A (function (t.MutableArray a ∷ []) (t.Array a)) (nodes.acts S.defs S.number (function (t.MutableArray a ∷ []) (t.Array a)) (action.BuiltIn (built_in_member library.ArrayFreeze)) [])
  freeze_value a k m =
      let at_part = part_there (t.MutableArray a ∷ []) (t.Array a) m in
      let mp = at_part (t.MutableArray a) (inl refl) in
      let mr = at_part (t.Array a) (inr (inl refl)) in
      built_in_known library.ArrayFreeze (t.MutableArray a ∷ []) (t.Array a) (function_known (t.MutableArray a ∷ []) (t.Array a) m (two (Known S A) (t.MutableArray a) (t.Array a) (mutable_known a k mp) (array_known a k mr)))
      (S.number (t.MutableArray a), S.number a, refl, mutable_at a mp, (S.number (t.Array a), refl, array_at a mr))

  thaw_value : (a : Term) → Known S A a → Among (function (t.Array a ∷ []) (t.MutableArray a)) S.terms
      → Value S A (function (t.Array a ∷ []) (t.MutableArray a)) (nodes.acts S.defs S.number (function (t.Array a ∷ []) (t.MutableArray a)) (action.BuiltIn (built_in_member library.ArrayThaw)) [])
  thaw_value a k m =
      let at_part = part_there (t.Array a ∷ []) (t.MutableArray a) m in
      let mp = at_part (t.Array a) (inl refl) in
      let mr = at_part (t.MutableArray a) (inr (inl refl)) in
      built_in_known library.ArrayThaw (t.Array a ∷ []) (t.MutableArray a) (function_known (t.Array a ∷ []) (t.MutableArray a) m (two (Known S A) (t.Array a) (t.MutableArray a) (array_known a k mp) (mutable_known a k mr)))
      (S.number (t.Array a), S.number a, refl, array_at a mp, (S.number (t.MutableArray a), refl, mutable_at a mr))

  abbrev MemberValue : Member → Term → Type 0
  MemberValue m u = Value S A u (nodes.acts S.defs S.number u (action.BuiltIn (built_in_member m)) [])

  member_value : (m : Member) → ((member_bound m).generics ≢ []) → (u : Term) → IsInstanceOf (member_bound m) u → Among u S.terms → MemberValue m u
  member_value library.DebugPrint g u i k = absurd (g refl)
  member_value library.DebugTrap g u i k = absurd (g refl)
  member_value library.ErrorReject g u i k = absurd (g refl)
  member_value library.ErrorMessage g u i k = absurd (g refl)
  member_value library.ErrorCode g u i k = absurd (g refl)
  member_value library.NatToText g u i k = absurd (g refl)
  member_value library.IntToText g u i k = absurd (g refl)
  member_value library.PrincipalFromActor g u i k = absurd (g refl)
  member_value library.ArrayTabulate g u i k =
      let q = one_argument i.arguments i.many in
      let a = q.0 in
      let e : u ≡ function (nat ∷ function (nat ∷ []) a ∷ []) (t.Array a) = i.same ∙ ap (λ us. with_arguments (zipped (0 ∷ []) us) (member_bound library.ArrayTabulate).type) q.1 in
      subst (λ z. MemberValue library.ArrayTabulate z) (sym e) (tabulate_value a (known_at i.arguments i.known a (subst (λ us. Among a us) (sym q.1) (inl refl))) (subst (λ z. Among z S.terms) e k))
  member_value library.ArrayInit g u i k =
      let q = one_argument i.arguments i.many in
      let a = q.0 in
      let e : u ≡ function (nat ∷ a ∷ []) (t.MutableArray a) = i.same ∙ ap (λ us. with_arguments (zipped (0 ∷ []) us) (member_bound library.ArrayInit).type) q.1 in
      subst (λ z. MemberValue library.ArrayInit z) (sym e) (init_value a (known_at i.arguments i.known a (subst (λ us. Among a us) (sym q.1) (inl refl))) (subst (λ z. Among z S.terms) e k))
  member_value library.ArrayFreeze g u i k =
      let q = one_argument i.arguments i.many in
      let a = q.0 in
      let e : u ≡ function (t.MutableArray a ∷ []) (t.Array a) = i.same ∙ ap (λ us. with_arguments (zipped (0 ∷ []) us) (member_bound library.ArrayFreeze).type) q.1 in
      subst (λ z. MemberValue library.ArrayFreeze z) (sym e) (freeze_value a (known_at i.arguments i.known a (subst (λ us. Among a us) (sym q.1) (inl refl))) (subst (λ z. Among z S.terms) e k))
  member_value library.ArrayThaw g u i k =
      let q = one_argument i.arguments i.many in
      let a = q.0 in
      let e : u ≡ function (t.Array a ∷ []) (t.MutableArray a) = i.same ∙ ap (λ us. with_arguments (zipped (0 ∷ []) us) (member_bound library.ArrayThaw).type) q.1 in
      subst (λ z. MemberValue library.ArrayThaw z) (sym e) (thaw_value a (known_at i.arguments i.known a (subst (λ us. Among a us) (sym q.1) (inl refl))) (subst (λ z. Among z S.terms) e k))

  -- ---- calls

  generic_value : (g : Expression ℕ) (q : Bound × Form Note) → IsGeneric E g q → Within (occurring g) A.used → (u : Term) → IsInstanceOf q.0 u → Among u S.terms → Callee (at_type (place g) u q.1)
  generic_value g q (ByName n x b e generic) within u i m = name_value n x (within x (inl refl)) b e generic u i m
  generic_value g q (ByMember a n x m generic) within u i k = member_value m generic u i k

  -- what is called
  callee : (n : ℕ) (g : Expression ℕ) → IsTypedPart S A g → (types : Option (List TypeNode))
      → Yields S.defs S.terms
      (Case (polymorphic E g) (λ q. Given condition.TypeArguments n types (λ us. Part (Instance S.defs n A.known.types q.0 us) (λ u. Meets u (Gives (at_type (place g) u q.1)))))
      (λ _. Case types (λ us. Tests condition.TypeArguments n (is_empty us) (Judge S.defs E g None)) (λ _. Judge S.defs E g None)))
      Callee
  callee n g j types =
      by_case S.defs S.terms (polymorphic E g) _ _ Callee (λ q e.
      given S.defs S.terms condition.TypeArguments n types _ Callee (λ us h.
      after S.defs S.terms (Instance S.defs n A.known.types q.0 us) _ (IsInstanceOf q.0) Callee (instance_of n q.0 us) (λ u i. λ m. generic_value g q (is_generic E g q e) j.1 u i m))) (λ e.
      by_case S.defs S.terms types _ _ Callee (λ us h. tests S.defs S.terms condition.TypeArguments n (is_empty us) _ Callee (λ z. judged_callee)) (λ h. judged_callee))
    where
      judged_callee : Yields S.defs S.terms (Judge S.defs E g None) Callee
      judged_callee =
          more S.defs S.terms (Judge S.defs E g None) (IsPart S A None) Callee (j.0 E A.frame A.context (part_fits S A g j.1) None tt) (λ b i. value_of S A.known.labels A.frame A.context None b i)

  pub call_typed : (n : ℕ) (g : Expression ℕ) → IsTypedPart S A g → (types : Option (List TypeNode)) (arguments : Expressions ℕ) → EachTyping S A arguments → (w : Option Term) → WantKnown S A w
      → Yields S.defs S.terms (Rule S.defs A.around E n (p.Call g types arguments) w) (Is S A w)
  call_typed n g j types arguments js w k =
      after S.defs S.terms _ _ Callee (Is S A w) (callee n g j types) (λ b h. called_typed S A n b h types arguments js w k)
