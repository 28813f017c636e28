-- Forms with lists of parts: tuples and arrays.
use Rattle.std.proofs.Common.{◌≡◌, inl, inr, ℕ, zero, suc, true, false, List, [], ◌∷◌, length, map, Option, Some, None, refl, sym, ap, ◌∙◌, subst, arith}
use Rattle.std.specs.Prelude.{nat_eq}
use Rattle.std.proofs.lemmas.Bool.{eqb-true}
use Rattle.mo_types.specs.declared.node.Node.TheVariants as node
use Rattle.mo_types.specs.Heads.{array_of, mut_array_of, tuple_of}
use Rattle.mo_types.specs.Sub.{IsSubtype}
use Rattle.mo_types.specs.Values.{copies}
use Rattle.mo_values.specs.declared.operation.Operation.TheVariants as op
use Rattle.subtype_laws.specs.Reached.{Among}
use Rattle.typed_tree.specs.declared.action.Action.TheVariants as action
use Rattle.typed_tree.specs.declared.literal.Literal.TheVariants as literal
use Rattle.typed_tree.specs.declared.expression.Form.TheOpen as F
use Rattle.typed_tree.specs.declared.expression.TypedExpression.{TypedExpression}
use Rattle.typed_tree.specs.Instances.{MentionsOnly}
use Rattle.typed_tree.specs.Typing.{EachGives, Typed}
use Rattle.typed_tree.specs.Wants.{Of, CellOf}
use Rattle.typing_rules.specs.declared.condition.Condition.TheVariants as condition
use Rattle.typing_rules.specs.AbstractSyntax.{Expressions}
use Rattle.typing_rules.specs.AbstractSyntax as p
use Rattle.typing_rules.specs.AsyncPlaces.{Other}
use Rattle.typing_rules.specs.Contexts.{directly}
use Rattle.typing_rules.specs.Ends.{wanted, Greatest}
use Rattle.typing_rules.specs.Expressions.{Judge, Rule, JudgeEach, JudgeAll, some_each, element_of, Elements}
use Rattle.typing_rules.specs.Heads.{head}
use Rattle.typing_rules.specs.Terms.{Term, listed, unlisted}
use Rattle.typing_rules.specs.Terms as t
use Rattle.typing_rules.specs.TypedTrees.{Note, type_of, types_of, count}
use Rattle.desugaring.specs.Expressions.{trees, tuple_of as tuple_tree, or_else, new_cell}
use Rattle.desugaring.specs.Nodes.{operates}
use Rattle.desugaring_laws.specs.Known.{IsFine}
use Rattle.desugaring_laws.specs.Yields.{Yields}
use Rattle.desugaring_laws.proofs.Graph.{below_number}
use Rattle.desugaring_laws.proofs.HeadForms.{is_array, is_mutable_array, is_tuple}
use Rattle.desugaring_laws.proofs.Yielding.{more, tests, by_case, part as after}
use Rattle.expression_laws.proofs.Ending.{Setting, Place, IsTypedPart, part_fits, there, inside, value_of, as_wanted, as_given, Known, WantKnown, Is, IsPart, Value, Made, has, fits, a_value, acts, a_cell}
use Rattle.expression_laws.proofs.Heads.{made_fine, bottom_fine, array_head, mutable_array_head, tuple_head, listed_back}
use Rattle.expression_laws.proofs.Greatest.{IsGreatest, greatest}
use Rattle.expression_laws.proofs.Simple.{only}
use Rattle.expression_laws.proofs.Wanting.{wanted_is}

pub same_number : (m n : ℕ) → nat_eq m n ≡ true → m ≡ n
same_number m n h = eqb-true m n h

module _ (S : Setting) where
  module _ (A : Place S) where
    -- each of a list
    abbrev pub EachTyping : Expressions ℕ → Type 0
    EachTyping p.Nil = Unit {0}
    EachTyping (p.Cons a rest) = IsTypedPart S A a × EachTyping rest

    abbrev pub Trees : Expressions Note → List TypedExpression
    Trees es = trees S.defs S.number A.frame es

    -- expressions that give types of their own
    pub record EachGiven (es : Expressions Note) : Type 0 where
      pub typed : EachGives (Typed S.slots) A.context (Trees es) (map (λ u. Of (S.number u)) (types_of es))
      pub known : (u : Term) → Among u (types_of es) → Known S A u

    -- expressions that give these types
    abbrev pub EachWanted : List Term → Expressions Note → Type 0
    EachWanted us es = EachGives (Typed S.slots) A.context (Trees es) (map (λ u. Of (S.number u)) us)

    known_or : (v : Term) (us : List Term) → Known S A v → ((u : Term) → Among u us → Known S A u) → (u : Term) → Among u (v ∷ us) → Known S A u
    known_or v us k h u (inl e) = subst (λ z. Known S A z) e k
    known_or v us k h u (inr m) = h u m

    pub each_given : (items : Expressions ℕ) → EachTyping items → Yields S.defs S.terms (JudgeEach S.defs (directly Other A.known) items []) EachGiven
    each_given p.Nil j = record { typed = tt; known = λ u m. absurd m }
    each_given (p.Cons a rest) j =
        after S.defs S.terms (Judge S.defs (directly Other A.known) a None) _ (IsPart S A None) EachGiven (j.0.0 (directly Other A.known) A.frame A.context (part_fits S A a j.0.1) None tt) (λ b i.
        after S.defs S.terms (JudgeEach S.defs (directly Other A.known) rest []) _ EachGiven EachGiven (each_given rest j.1) (λ bs h. record {
          typed = (as_given S A.known.labels A.frame A.context None b i, h.typed);
          known = known_or (type_of b) (types_of bs) (value_of S A.known.labels A.frame A.context None b i).known h.known;
        }))

    pub each_wanted : (items : Expressions ℕ) → EachTyping items → (us : List Term) → ((u : Term) → Among u us → Known S A u) → length us ≡ count items
        → Yields S.defs S.terms (JudgeEach S.defs (directly Other A.known) items (some_each us)) (EachWanted us)
    each_wanted p.Nil j [] k e = tt
    each_wanted p.Nil j (u ∷ us) k e = cc
    each_wanted (p.Cons a rest) j [] k e = cc
    each_wanted (p.Cons a rest) j (u ∷ us) k e =
        after S.defs S.terms (Judge S.defs (directly Other A.known) a (Some u)) _ (IsPart S A (Some u)) (EachWanted (u ∷ us)) (j.0.0 (directly Other A.known) A.frame A.context (part_fits S A a j.0.1) (Some u) (k u (inl refl)).fine) (λ b i.
        after S.defs S.terms (JudgeEach S.defs (directly Other A.known) rest (some_each us)) _ (EachWanted us) (EachWanted (u ∷ us)) (each_wanted rest j.1 us (λ v m. k v (inr m)) (less (length us) (count rest) e)) (λ bs h.
        (as_wanted S A.known.labels A.frame A.context u b i, h)))
      where
        less : (n m : ℕ) → suc n ≡ suc m → n ≡ m
        less n m e = omega arith

    pub map_twice : (us : List Term) → map (λ u. Of (S.number u)) us ≡ map (λ t. Of t) (map S.number us)
    map_twice [] = refl
    map_twice (u ∷ us) = ap (λ l. Of (S.number u) ∷ l) (map_twice us)

    -- a tuple of a type with these parts
    tuple_value : (v : Term) → Known S A v → (us : List Term) → head S.defs v ≡ node.Tuple us → (es : List TypedExpression) → EachGives (Typed S.slots) A.context es (map (λ u. Of (S.number u)) us)
        → Value S A v (tuple_tree S.defs S.number v es)
    tuple_value v k [] e [] h = a_value S A v k (F.Constant literal.Unit) (S.number v, refl, there S v k.there (node.Tuple []) e)
    tuple_value v k (u ∷ us) e [] h = absurd h
    tuple_value v k us e (x ∷ es) h =
        acts S A v k (action.Operate op.MakeTuple) (x ∷ es) (map (λ u. Of (S.number u)) us) (S.number v, refl, (map S.number us, there S v k.there (node.Tuple us) e, map_twice us)) h

    each_scoped : (us : List Term) → ((u : Term) → Among u us → Known S A u) → (u : Term) → Among u (listed (unlisted us)) → MentionsOnly (head S.defs) A.context.parameters u
    each_scoped us k u m = (k u (subst (λ l. Among u l) (listed_back us) m)).fine.scoped

    pub tuple_typed : (at : ℕ) (items : Expressions ℕ) → EachTyping items → (w : Option Term) → WantKnown S A w → Yields S.defs S.terms (Rule S.defs A.around (directly Other A.known) at (p.Tuple items) w) (Is S A w)
    tuple_typed at items j w k =
        by_case S.defs S.terms (wanted S.defs tuple_of w) _ _ (Is S A w) (λ q e.
        let r = wanted_is S.defs tuple_of w q e in
        let h : head S.defs q.0 ≡ node.Tuple q.1 = is_tuple (head S.defs q.0) q.1 r.1 in
        let v : Known S A q.0 = subst (λ z. WantKnown S A z) r.0 k in
        tests S.defs S.terms _ at (nat_eq (length q.1) (count items)) _ (Is S A w) (λ many.
        after S.defs S.terms (JudgeEach S.defs (directly Other A.known) items (some_each q.1)) _ (EachWanted q.1) (Is S A w)
        (each_wanted items j q.1 (λ u m. inside S A.context.parameters q.0 u v (node.Tuple q.1) h m) (same_number (length q.1) (count items) many)) (λ es i.
        fits S A at q.0 (p.Tuple es) (λ l. refl) (tuple_value q.0 v q.1 h (Trees es) i) w r.0))) (λ e.
        after S.defs S.terms (JudgeEach S.defs (directly Other A.known) items []) _ EachGiven (Is S A w) (each_given items j) (λ es i.
        let us = types_of es in
        let h : head S.defs (t.Tuple (unlisted us)) ≡ node.Tuple us = tuple_head S.defs (unlisted us) ∙ ap (λ l. node.Tuple l) (listed_back us) in
        has S A at w (t.Tuple (unlisted us)) (p.Tuple es) (λ l. refl) k (λ m.
        tuple_value (t.Tuple (unlisted us)) (record { there = m; fine = made_fine S.defs A.context.parameters (t.Tuple (unlisted us)) (node.Tuple us) h tt refl (λ u n. (i.known u n).fine.scoped) }) us h (Trees es) i.typed)))

    -- ---- arrays

    -- expressions that give values of one type
    abbrev pub AllWanted : Term → Expressions Note → Type 0
    AllWanted u es = EachGives (Typed S.slots) A.context (Trees es) (copies (length (Trees es)) (Of (S.number u)))

    pub all_wanted : (items : Expressions ℕ) → EachTyping items → (u : Term) → IsFine S.defs A.context.parameters u → Yields S.defs S.terms (JudgeAll S.defs (directly Other A.known) items (Some u)) (AllWanted u)
    all_wanted p.Nil j u k = tt
    all_wanted (p.Cons a rest) j u k =
        after S.defs S.terms (Judge S.defs (directly Other A.known) a (Some u)) _ (IsPart S A (Some u)) (AllWanted u) (j.0.0 (directly Other A.known) A.frame A.context (part_fits S A a j.0.1) (Some u) k) (λ b i.
        after S.defs S.terms (JudgeAll S.defs (directly Other A.known) rest (Some u)) _ (AllWanted u) (AllWanted u) (all_wanted rest j.1 u k) (λ bs h. (as_wanted S A.known.labels A.frame A.context u b i, h)))

    -- each at its own type, and at each type above all of them
    pub record AllGiven (es : Expressions Note) : Type 0 where
      pub above : (v : Term) → Known S A v → ((u : Term) → Among u (types_of es) → IsSubtype (head S.defs) u v) → AllWanted v es
      pub known : (u : Term) → Among u (types_of es) → Known S A u

    pub all_given : (items : Expressions ℕ) → EachTyping items → Yields S.defs S.terms (JudgeAll S.defs (directly Other A.known) items None) AllGiven
    all_given p.Nil j = record { above = λ v k h. tt; known = λ u m. absurd m }
    all_given (p.Cons a rest) j =
        after S.defs S.terms (Judge S.defs (directly Other A.known) a None) _ (IsPart S A None) AllGiven (j.0.0 (directly Other A.known) A.frame A.context (part_fits S A a j.0.1) None tt) (λ b i.
        after S.defs S.terms (JudgeAll S.defs (directly Other A.known) rest None) _ AllGiven AllGiven (all_given rest j.1) (λ bs h.
        let y = value_of S A.known.labels A.frame A.context None b i in
        record {
          above = λ v k g. (y.typed (S.number v) (below_number S.defs S.slots S.terms S.number S.graph (type_of b) v y.known.there k.there (g (type_of b) (inl refl))), h.above v k (λ u m. g u (inr m)));
          known = known_or (type_of b) (types_of bs) y.known h.known;
        }))

    length_copies : {X : Type 0} (n : ℕ) (x : X) → copies (length (copies n x)) x ≡ copies n x
    length_copies zero x = refl
    length_copies (suc n) x = ap (λ l. x ∷ l) (length_copies n x)

    array_value : (v u : Term) → Known S A v → head S.defs v ≡ node.Array u → (es : List TypedExpression) → EachGives (Typed S.slots) A.context es (copies (length es) (Of (S.number u)))
        → Value S A v (operates S.defs S.number v op.MakeArray es)
    array_value v u k e es h =
        acts S A v k (action.Operate op.MakeArray) es (copies (length es) (Of (S.number u)))
        (S.number v, refl, (S.number u, inl (there S v k.there (node.Array u) e, sym (length_copies (length es) (Of (S.number u)))))) h

    -- cells of one type
    cells_typed : (u : Term) → Known S A u → (es : List TypedExpression) → EachGives (Typed S.slots) A.context es (copies (length es) (Of (S.number u)))
        → EachGives (Typed S.slots) A.context (map (new_cell S.defs S.number u) es) (copies (length (map (new_cell S.defs S.number u) es)) (CellOf (S.number u)))
    cells_typed u k [] h = tt
    cells_typed u k (x ∷ es) h = (a_cell S A u k action.New (x ∷ []) (Of (S.number u) ∷ []) (S.number u, refl, refl) (h.0, tt), cells_typed u k es h.1)

    mutable_array_value : (v u : Term) → Known S A v → Known S A u → head S.defs v ≡ node.MutArray u → (es : List TypedExpression) → EachGives (Typed S.slots) A.context es (copies (length es) (Of (S.number u)))
        → Value S A v (operates S.defs S.number v op.MakeArray (map (new_cell S.defs S.number u) es))
    mutable_array_value v u k l e es h =
        acts S A v k (action.Operate op.MakeArray) (map (new_cell S.defs S.number u) es) (copies (length (map (new_cell S.defs S.number u) es)) (CellOf (S.number u)))
        (S.number v, refl, (S.number u, inr (there S v k.there (node.MutArray u) e, sym (length_copies (length (map (new_cell S.defs S.number u) es)) (CellOf (S.number u)))))) (cells_typed u l es h)

    abbrev Asked : ℕ → p.Form ℕ → Type 0
    Asked at x = (w : Option Term) → WantKnown S A w → Yields S.defs S.terms (Rule S.defs A.around (directly Other A.known) at x w) (Is S A w)

    pub array_typed : (at : ℕ) (items : Expressions ℕ) → EachTyping items → Asked at (p.Array false items)
    array_typed at items j w k =
        by_case S.defs S.terms (wanted S.defs array_of w) _ _ (Is S A w) (λ q e.
        let r = wanted_is S.defs array_of w q e in
        let h : head S.defs q.0 ≡ node.Array q.1 = is_array (head S.defs q.0) q.1 r.1 in
        let v : Known S A q.0 = subst (λ z. WantKnown S A z) r.0 k in
        after S.defs S.terms (JudgeAll S.defs (directly Other A.known) items (Some q.1)) _ (AllWanted q.1) (Is S A w) (all_wanted items j q.1 (inside S A.context.parameters q.0 q.1 v (node.Array q.1) h (inl refl)).fine) (λ es i.
        fits S A at q.0 (p.Array false es) (λ l. refl) (array_value q.0 q.1 v h (Trees es) i) w r.0)) (λ e.
        after S.defs S.terms (JudgeAll S.defs (directly Other A.known) items None) _ AllGiven (Is S A w) (all_given items j) (λ es i.
        after S.defs S.terms (Elements at (types_of es)) _ (λ u. (IsFine S.defs A.context.parameters u) × ((z : Term) → Among z (types_of es) → IsSubtype (head S.defs) z u)) (Is S A w) (elements at (types_of es) i.known) (λ u h.
        has S A at w (t.Array u) (p.Array false es) (λ l. refl) k (λ m.
        let v : Known S A (t.Array u) = record { there = m; fine = made_fine S.defs A.context.parameters (t.Array u) (node.Array u) (array_head S.defs u) tt refl (only S A u h.0.scoped) } in
        let ku = inside S A.context.parameters (t.Array u) u v (node.Array u) (array_head S.defs u) (inl refl) in
        array_value (t.Array u) u v (array_head S.defs u) (Trees es) (i.above u ku h.1)))))
      where
        elements : (at : ℕ) (us : List Term) → ((u : Term) → Among u us → Known S A u) → Yields S.defs S.terms (Elements at us) (λ u. IsFine S.defs A.context.parameters u × ((z : Term) → Among z us → IsSubtype (head S.defs) z u))
        elements at [] k = (bottom_fine S.defs A.context.parameters, λ z m. absurd m)
        elements at (x ∷ us) k =
            more S.defs S.terms (Greatest condition.Branches at (x ∷ us)) (IsGreatest S.defs S.terms (x ∷ us)) _ (greatest S.defs S.terms condition.Branches at (x ∷ us)) (λ u i. ((k u i.among).fine, i.above))

    pub mutable_array_typed : (at : ℕ) (items : Expressions ℕ) → EachTyping items → Asked at (p.Array true items)
    mutable_array_typed at items j w k =
        by_case S.defs S.terms (wanted S.defs mut_array_of w) _ _ (Is S A w) (λ q e.
        let r = wanted_is S.defs mut_array_of w q e in
        let h : head S.defs q.0 ≡ node.MutArray q.1 = is_mutable_array (head S.defs q.0) q.1 r.1 in
        let v : Known S A q.0 = subst (λ z. WantKnown S A z) r.0 k in
        let ku = inside S A.context.parameters q.0 q.1 v (node.MutArray q.1) h (inl refl) in
        after S.defs S.terms (JudgeAll S.defs (directly Other A.known) items (Some q.1)) _ (AllWanted q.1) (Is S A w) (all_wanted items j q.1 ku.fine) (λ es i.
        fits S A at q.0 (p.Array true es) (λ l. refl) (of_elements q.0 q.1 v ku h es i) w r.0)) (λ e.
        after S.defs S.terms (JudgeAll S.defs (directly Other A.known) items None) _ AllGiven (Is S A w) (all_given items j) (λ es i.
        after S.defs S.terms (Greatest condition.NeedsType at (types_of es)) _ (IsGreatest S.defs S.terms (types_of es)) (Is S A w) (greatest S.defs S.terms condition.NeedsType at (types_of es)) (λ u h.
        has S A at w (t.MutableArray u) (p.Array true es) (λ l. refl) k (λ m.
        let ku = i.known u h.among in
        let v : Known S A (t.MutableArray u) = record { there = m; fine = made_fine S.defs A.context.parameters (t.MutableArray u) (node.MutArray u) (mutable_array_head S.defs u) tt refl (only S A u ku.fine.scoped) } in
        of_elements (t.MutableArray u) u v ku (mutable_array_head S.defs u) es (i.above u ku h.above)))))
      where
        of_elements : (v u : Term) → Known S A v → Known S A u → head S.defs v ≡ node.MutArray u → (es : Expressions Note) → AllWanted u es → Value S A v (Made S A at v (p.Array true es))
        of_elements v u k l e es h =
            subst (λ z. Value S A v (operates S.defs S.number v op.MakeArray (map (new_cell S.defs S.number (or_else t.Bottom (element_of z))) (Trees es)))) (sym e) (mutable_array_value v u k l e (Trees es) h)
