-- Reductions of an actor's declarations, of what they end in, and of the frame around them, keep what fits.
use Rattle.std.proofs.Common.{◌≡◌, inl, inr, ℕ, ◌+◌, List, [], ◌∷◌, Option, Some, None, refl, sym, ap, ◌∙◌, subst, slice_get, arith}
use Rattle.mo_types.specs.declared.node.Node.{Node}
use Rattle.mo_types.specs.declared.node.TypeId.{TypeId}
use Rattle.mo_types.specs.Graph.{Slot, head_at}
use Rattle.mo_values.specs.declared.operation.Operation.{Operation}
use Rattle.mo_values.specs.declared.operation.Operation.TheVariants as op
use Rattle.mo_values.specs.Costs.{Cost, weighing, operation_cost}
use Rattle.mo_values.specs.Operations.{operate}
use Rattle.mo_values.specs.Shapes.{Tuple, Shape, shapes}
use Rattle.mo_values.specs.Shapes as shape
use Rattle.mo_values.specs.Views as answer
use Rattle.typed_tree.specs.declared.action.Action.TheVariants as action
use Rattle.typed_tree.specs.declared.program.Program.{Program}
use Rattle.typed_tree.specs.Language.{Value, Exp, Exps, Functions, Made, Val, Do, Group, Frame, NoExp, AnExp, let_in}
use Rattle.typed_tree.specs.Opening.{Code, shape_of, value_of, shapes_list, slots_of}
use Rattle.typed_tree.specs.Patterns.{Pat, matches}
use Rattle.typed_tree.specs.ProgramView.{program}
use Rattle.typed_tree.specs.Substitution.{put, group_of, group_nodes}
use Rattle.typed_tree.specs.Wants.{Want}
use Rattle.typed_tree.proofs.Opened.{value_shape}
use Rattle.mo_meaning.specs.Acts.{Store, Given, Act, Goes, Prints, Asks, Awaits, Leaves, Throws, Traps, Stuck}
use Rattle.mo_meaning.specs.Actions.{act, answered}
use Rattle.mo_meaning.specs.Jumps.{at_frame}
use Rattle.mo_meaning.specs.Matching.{on_match, trying, fails_to_match}
use Rattle.mo_meaning.specs.Places.{inside, value_or, and_value, all_values, values_or, operands, values_of_list}
use Rattle.mo_meaning.specs.Reduce.{reduce, reduce_operand}
use Rattle.mo_soundness.specs.Keeps.{IsLonger, IsNoValue, KnowsMore, Suits, closed}
use Rattle.mo_soundness.specs.Lawful.{IsLawful}
use Rattle.mo_soundness.specs.RunningPatterns.{BindsAt}
use Rattle.mo_soundness.specs.Running.{Around, AnswerTypes, Typed, FunctionsTyped, StoreTyped, with_names}
use Rattle.mo_soundness.proofs.Calls.{covers_group}
use Rattle.mo_soundness.proofs.Found.{Matched, met}
use Rattle.mo_soundness.proofs.More.{append_nil, longer_self, knows_self}
use Rattle.mo_soundness.proofs.Put.{Covers}
use Rattle.mo_soundness.proofs.Steps.{either, suits_inside, suits_frame, covers_names}
use Rattle.program_soundness.specs.Declared.{ending, roles_of, CellsNamed, Declared, Last, Before}
use Rattle.program_soundness.specs.Exports.{ExportsTyped}
use Rattle.program_soundness.specs.Roles.{unused, RolesTyped}
use Rattle.program_soundness.specs.Runs.{Fitting, KeepsFit, IsKept, Gives}
use Rattle.program_soundness.specs.Starting.{AllSoon, IsExporting, IsFramed, IsInstalling, AreExports}
use Rattle.program_soundness.proofs.Collected.{collected, listed_shapes}
use Rattle.program_soundness.proofs.Declared.{declared_put, declared_grow}
use Rattle.program_soundness.proofs.Exported.{exports_grow}
use Rattle.program_soundness.proofs.Typed.{typed_kept}
use Rattle.program_soundness.specs.Worlds.{running}

-- ---- what is kept inside a construct

pub inside_fits : (types : List Slot) (P R : Fitting Exp) (answers : AnswerTypes) (kinds : List TypeId) (f : Exp → Exp) → ((longer : List TypeId) (e : Exp) → IsLonger kinds longer → P answers longer e → R answers longer (f e))
    → (a : Act) → KeepsFit (running types) P answers kinds a → KeepsFit (running types) R answers kinds (inside f a)
inside_fits types P R answers kinds f g (Goes cost store e) h = (h.0, h.1, h.2, g h.0 e h.1 h.3)
inside_fits types P R answers kinds f g (Prints cost text e) h = (h.0, g kinds e (longer_self kinds) h.1)
inside_fits types P R answers kinds f g (Asks r) h = h
inside_fits types P R answers kinds f g (Awaits n c) h = h
inside_fits types P R answers kinds f g (Leaves l v) h = absurd h
inside_fits types P R answers kinds f g (Throws cost v) h = h
inside_fits types P R answers kinds f g (Traps cost text) h = h
inside_fits types P R answers kinds f g Stuck h = absurd h

pub frame_fits : (types : List Slot) (P R : Fitting Exp) (answers : AnswerTypes) (kinds : List TypeId) (store : Store) (n : ℕ) → ((longer : List TypeId) (e : Exp) → IsLonger kinds longer → P answers longer e → R answers longer (Frame n e))
    → (a : Act) → KeepsFit (running types) P answers kinds a → KeepsFit (running types) R answers kinds (at_frame store n a)
frame_fits types P R answers kinds store n g (Goes cost after e) h = (h.0, h.1, h.2, g h.0 e h.1 h.3)
frame_fits types P R answers kinds store n g (Prints cost text e) h = (h.0, g kinds e (longer_self kinds) h.1)
frame_fits types P R answers kinds store n g (Asks r) h = h
frame_fits types P R answers kinds store n g (Awaits m c) h = h
frame_fits types P R answers kinds store n g (Leaves l v) h = absurd h
frame_fits types P R answers kinds store n g (Throws cost v) h = h
frame_fits types P R answers kinds store n g (Traps cost text) h = h
frame_fits types P R answers kinds store n g Stuck h = absurd h

-- ---- operands that have their values soon

pub all_operands : (us : List Value) → all_values (operands us) ≡ Some us
all_operands [] = refl
all_operands (u ∷ us) = ap (and_value u) (all_operands us)

module _ (head : TypeId → Node TypeId) (given : Option Given) (store : Store) where
  -- an operation on values that gives one
  pub operation_reduces : (o : Operation) (us : List Value) (v : Value) → operate head o (shapes_list us) ≡ answer.Gives (shape_of v) → (cost : Cost) × (reduce head given store (Do (action.Operate o) (operands us)) ≡ Goes cost store (Val v))
  operation_reduces o us v q = (
    operation_cost o (shapes_list us) (operate head o (shapes_list us)),
    ap (λ vs. values_or vs (act head given store (action.Operate o)) (reduce_operand head given store (Do (action.Operate o)) (operands us))) (all_operands us)
        ∙ ap (λ (a : answer.Answer Code). answered store (operation_cost o (shapes_list us) (operate head o (shapes_list us))) a) q
        ∙ ap (λ w. Goes (operation_cost o (shapes_list us) (operate head o (shapes_list us))) store (Val w)) (value_shape v),
  )

  -- the first operand that is no value becomes one
  soon_operand : (es : Exps) (vs : List Value) (f : Exps → Exp) → AllSoon head es vs → all_values es ≡ None
      → (cost : Cost) × (after : Exps) × (reduce_operand head given store f es ≡ Goes cost store (f after)) × AllSoon head after vs
  soon_operand NoExp vs f h q = absurd (let z : Some [] ≡ None = q in cc)
  soon_operand (AnExp e es) [] f h q = absurd h
  soon_operand (AnExp e es) (v ∷ vs) f (inl i, h) q =
      let r = soon_operand es vs (λ rest. f (AnExp (Val v) rest)) h (rest_none v (all_values es) (ap (λ e. value_or e (λ u. and_value u (all_values es)) None) (sym i) ∙ q)) in
      (r.0, AnExp (Val v) r.1, ap (λ e. reduce_operand head given store f (AnExp e es)) i ∙ r.2, (inl refl, r.3))
    where
      rest_none : (v : Value) (o : Option (List Value)) → and_value v o ≡ None → o ≡ None
      rest_none v None k = refl
      rest_none v (Some us) k = absurd (let z : Some (v ∷ us) ≡ None = k in cc)
  soon_operand (AnExp e es) (v ∷ vs) f (inr i, h) q =
      let r = operation_reduces i.0 i.1 v i.3 in (
        r.0,
        AnExp (Val v) es,
        ap (λ e. reduce_operand head given store f (AnExp e es)) i.2 ∙ ap (inside (λ e. f (AnExp e es))) r.1,
        (inl refl, h),
      )

  soon_values : (es : Exps) (vs us : List Value) → AllSoon head es vs → all_values es ≡ Some us → us ≡ vs
  soon_values NoExp [] us h q = let same : [] ≡ us = cc in sym same
  soon_values NoExp (v ∷ vs) us h q = absurd h
  soon_values (AnExp e es) [] us h q = absurd h
  soon_values (AnExp e es) (v ∷ vs) us (inl i, h) q = by (all_values es) refl (ap (λ e. value_or e (λ u. and_value u (all_values es)) None) (sym i) ∙ q) (λ ws k. soon_values es vs ws h k)
    where
      by : (o : Option (List Value)) → all_values es ≡ o → and_value v o ≡ Some us → ((ws : List Value) → all_values es ≡ Some ws → ws ≡ vs) → us ≡ v ∷ vs
      by None k z later = absurd (let y : None ≡ Some us = z in cc)
      by (Some ws) k z later = let same : v ∷ ws ≡ us = cc in sym same ∙ ap (λ xs. v ∷ xs) (later ws k)
  soon_values (AnExp e es) (v ∷ vs) us (inr i, h) q = absurd (let z : None ≡ Some us = ap (λ e. value_or e (λ u. and_value u (all_values es)) None) (sym i.2) ∙ q in cc)

-- ---- declarations and what they end in

module _ (p : Program) (lawful : IsLawful (running p.types).head) where
  abbrev X : Fitting Exp
  X = IsExporting p.types p

  module _ (answers : AnswerTypes) (kinds : List TypeId) (given : Option Given) (store : Store) (st : StoreTyped (running p.types) answers kinds store kinds) where
    abbrev asked : Exp → Act
    asked e = reduce (head_at p.types) None store e

    abbrev reduced : Exp → Act
    reduced e = reduce (head_at p.types) given store e

    abbrev S : Act → Type 0
    S a = Suits (running p.types) answers kinds given a

    abbrev K : Act → Type 0
    K a = KeepsFit (running p.types) X answers kinds a

    abbrev Reduces : Exp → Type 0
    Reduces e = S (asked e) → K (reduced e)

    goes_to : (cost : Cost) (e : Exp) → X answers kinds e → K (Goes cost store e)
    goes_to cost e h = (kinds, longer_self kinds, st, h)

    matched_fits : (cost : Cost) (weight : ℕ) (ns : List (Want TypeId)) (b : Exp) (o : Option (List (Shape Code))) → Matched (running p.types) answers kinds ns o → Declared p.types answers kinds p (with_names ns (closed [])) b
        → K (on_match o (λ s. Goes cost store (put s b)) (fails_to_match weight))
    matched_fits cost weight ns b None m d = tt
    matched_fits cost weight ns b (Some vs) m d =
        goes_to cost (put (slots_of vs) b) (inl (declared_put p.types lawful answers kinds p (with_names ns (closed [])) b (slots_of vs) [] (covers_names (running p.types) lawful answers kinds ns vs m) d))

    let_reduces : (e : Exp) (q : Pat) (a : Want TypeId) (ns : List (Want TypeId)) (b : Exp) → Typed (running p.types) answers kinds (closed []) e a → BindsAt (running p.types).head q a ns → Declared p.types answers kinds p (with_names ns (closed [])) b
        → Reduces (let_in q e b)
    let_reduces e q a ns b t i d =
        either (running p.types) lawful answers kinds (λ x y. S x → K y) e _ _ _ _
        (λ v z j. matched_fits (weighing (1 + trying q v)) (1 + trying q v) ns b (matches q (shape_of v)) (met (running p.types) answers kinds lawful q a ns v i (subst (λ e. Typed (running p.types) answers kinds (closed []) e a) z t)) d)
        (λ active j. inside_fits p.types (Gives (running p.types) a) X answers kinds (λ f. let_in q f b)
        (λ longer f l k. inl (Before (inl (f, q, a, refl, k, i)) (declared_grow p.types answers answers (knows_self answers) kinds longer l p (with_names ns (closed [])) b d)))
        (reduced e) ((typed_kept (running p.types) a lawful).keeps answers kinds given store e active st t (suits_inside (running p.types) lawful answers kinds given (λ f. let_in q f b) (asked e) j)))

    covers_closed : (fns : Functions) (ns : List (Want TypeId)) → FunctionsTyped (running p.types) answers kinds (record { names = ns; labels = [] }) fns ns → Covers (running p.types) answers lawful kinds (group_of fns) ns []
    covers_closed fns ns h = covers_group (running p.types) lawful answers kinds fns ns h (record { names = ns; labels = [] }) fns ns 0 h (λ m. ap (slice_get ns) (omega arith))

    group_reduces : (fns : Functions) (ns : List (Want TypeId)) (b : Exp) → FunctionsTyped (running p.types) answers kinds (with_names ns (closed [])) fns ns → Declared p.types answers kinds p (with_names ns (closed [])) b → Reduces (Group fns b)
    group_reduces fns ns b f d j =
        let g = subst (λ ms. FunctionsTyped (running p.types) answers kinds (record { names = ms; labels = [] }) fns ns) (append_nil ns) f in
        let e = subst (λ ms. Declared p.types answers kinds p (record { names = ms; labels = [] }) b) (append_nil ns) d in
        goes_to (weighing (1 + group_nodes fns)) (put (group_of fns) b) (inl (declared_put p.types lawful answers kinds p (record { names = ns; labels = [] }) b (group_of fns) [] (covers_closed fns ns g) e))

    ends_reduce : (fns : Functions) (cells : Exps) → RolesTyped p.types answers kinds (with_names (unused (roles_of p)) (closed [])) (roles_of p) fns → CellsNamed p.types answers kinds (with_names (unused (roles_of p)) (closed [])) cells p.stable
        → Reduces (Group fns (ending p cells))
    ends_reduce fns cells r c j =
        let g = subst (λ ms. RolesTyped p.types answers kinds (record { names = ms; labels = [] }) (roles_of p) fns) (append_nil (unused (roles_of p))) r in
        let d = subst (λ ms. CellsNamed p.types answers kinds (record { names = ms; labels = [] }) cells p.stable) (append_nil (unused (roles_of p))) c in
        goes_to (weighing (1 + group_nodes fns)) (put (group_of fns) (ending p cells)) (inr (inl (collected p lawful answers kinds fns cells g d)))

    declared_reduces : (c : Around) (e : Exp) → c ≡ closed [] → Declared p.types answers kinds p c e → Reduces e
    declared_reduces c e q (Last h) =
        let r = subst (λ c. RolesTyped p.types answers kinds (with_names (unused (roles_of p)) c) (roles_of p) h.0) q h.3 in
        let d = subst (λ c. CellsNamed p.types answers kinds (with_names (unused (roles_of p)) c) h.1 p.stable) q h.4 in
        subst Reduces (sym h.2) (ends_reduce h.0 h.1 r d)
    declared_reduces c e q (Before {ns = ns} {b = b} (inl o) h) =
        let t = subst (λ c. Typed (running p.types) answers kinds c o.0 o.2) q o.4 in
        let d = subst (λ c. Declared p.types answers kinds p (with_names ns c) b) q h in
        subst Reduces (sym o.3) (let_reduces o.0 o.1 o.2 ns b t o.5 d)
    declared_reduces c e q (Before {ns = ns} {b = b} (inr o) h) =
        let f = subst (λ c. FunctionsTyped (running p.types) answers kinds (with_names ns c) o.0 ns) q o.2 in
        let d = subst (λ c. Declared p.types answers kinds p (with_names ns c) b) q h in
        subst Reduces (sym o.1) (group_reduces o.0 ns b f d)

    tuple_made : (vs : List Value) → value_of (shape.Made Tuple (shapes (shapes_list vs))) ≡ Made Tuple (values_of_list vs)
    tuple_made vs = ap (λ s. value_of (shape.Made Tuple s)) (listed_shapes vs) ∙ value_shape (Made Tuple (values_of_list vs))

    collecting_reduces : (es : Exps) (vs : List Value) → AllSoon (head_at p.types) es vs → ExportsTyped p.types answers kinds (program p) (Made Tuple (values_of_list vs)) → Reduces (Do (action.Operate op.MakeTuple) es)
    collecting_reduces es vs h x j = by (all_values es) refl
      where
        by : (o : Option (List Value)) → all_values es ≡ o → K (values_or o (act (head_at p.types) given store (action.Operate op.MakeTuple)) (reduce_operand (head_at p.types) given store (Do (action.Operate op.MakeTuple)) es))
        by None q =
            let r = soon_operand (head_at p.types) given store es vs (Do (action.Operate op.MakeTuple)) h q in
            subst K (sym r.2) (goes_to r.0 (Do (action.Operate op.MakeTuple) r.1) (inr (inl (r.1, vs, refl, r.3, x))))
        by (Some us) q =
            let same = soon_values (head_at p.types) given store es vs us h q in
            goes_to (operation_cost op.MakeTuple (shapes_list us) (operate (head_at p.types) op.MakeTuple (shapes_list us))) (Val (value_of (shape.Made Tuple (shapes (shapes_list us)))))
            (inr (inr (Made Tuple (values_of_list vs), ap Val (ap (λ ws. value_of (shape.Made Tuple (shapes (shapes_list ws)))) same ∙ tuple_made vs), x)))

    exporting_reduces : (e : Exp) → IsNoValue e → X answers kinds e → Reduces e
    exporting_reduces e active (inl d) = declared_reduces (closed []) e refl d
    exporting_reduces e active (inr (inl h)) = subst Reduces (sym h.2) (collecting_reduces h.0 h.1 h.3 h.4)
    exporting_reduces e active (inr (inr h)) = absurd (subst IsNoValue h.1 active)

  -- ---- growth

  collecting_grows : (answers more : AnswerTypes) (kinds longer : List TypeId) (e : Exp) → KnowsMore answers more → IsLonger kinds longer → X answers kinds e → X more longer e
  collecting_grows answers more kinds longer e k l (inl d) = inl (declared_grow p.types answers more k kinds longer l p (closed []) e d)
  collecting_grows answers more kinds longer e k l (inr (inl h)) = inr (inl (h.0, h.1, h.2, h.3, exports_grow p.types answers more k kinds longer l (program p) (Made Tuple (values_of_list h.1)) h.4))
  collecting_grows answers more kinds longer e k l (inr (inr h)) = inr (inr (h.0, h.1, exports_grow p.types answers more k kinds longer l (program p) h.0 h.2))

  -- a value at which declarations have arrived is what they export
  exported_value : (answers : AnswerTypes) (kinds : List TypeId) (v : Value) → X answers kinds (Val v) → ExportsTyped p.types answers kinds (program p) v
  exported_value answers kinds v (inl d) = no_declared (closed []) (Val v) refl d
    where
      no_declared : (c : Around) (e : Exp) → e ≡ Val v → Declared p.types answers kinds p c e → ExportsTyped p.types answers kinds (program p) v
      no_declared c e q (Last h) = absurd (subst IsNoValue (sym h.2 ∙ q) tt)
      no_declared c e q (Before (inl o) h) = absurd (subst IsNoValue (sym o.3 ∙ q) tt)
      no_declared c e q (Before (inr o) h) = absurd (subst IsNoValue (sym o.1 ∙ q) tt)
  exported_value answers kinds v (inr (inl h)) = absurd (subst IsNoValue (sym h.2) tt)
  exported_value answers kinds v (inr (inr h)) = let same : h.0 ≡ v = cc in subst (ExportsTyped p.types answers kinds (program p)) same h.2

  pub exporting_kept : IsKept (running p.types) X (AreExports p.types p)
  exporting_kept = record {
    value = λ answers kinds v h. exported_value answers kinds v h;
    grows = λ answers more kinds longer e k l h. collecting_grows answers more kinds longer e k l h;
    keeps = λ answers kinds given store e active st h i. exporting_reduces answers kinds given store st e active h i;
  }

  pub exports_kept_grow : (answers more : AnswerTypes) (kinds longer : List TypeId) (v : Value) → KnowsMore answers more → IsLonger kinds longer → AreExports p.types p answers kinds v → AreExports p.types p more longer v
  exports_kept_grow answers more kinds longer v k l h = exports_grow p.types answers more k kinds longer l (program p) v h

-- ---- a frame around what is kept

module _ (types : List Slot) (lawful : IsLawful (running types).head) (P : Fitting Exp) (Q : Fitting Value) (kept : IsKept (running types) P Q)
    (grow : (answers more : AnswerTypes) (kinds longer : List TypeId) (v : Value) → KnowsMore answers more → IsLonger kinds longer → Q answers kinds v → Q more longer v) where
  abbrev I : Fitting Exp
  I = IsFramed P Q

  framed_value : (answers : AnswerTypes) (kinds : List TypeId) (v : Value) → I answers kinds (Val v) → Q answers kinds v
  framed_value answers kinds v (inl h) = absurd (subst IsNoValue (sym h.2) tt)
  framed_value answers kinds v (inr h) = let same : h.0 ≡ v = cc in subst (Q answers kinds) same h.2

  frame_reduces : (answers : AnswerTypes) (kinds : List TypeId) (given : Option Given) (store : Store) (n : ℕ) (e : Exp) → StoreTyped (running types) answers kinds store kinds → P answers kinds e
      → Suits (running types) answers kinds given (reduce (head_at types) None store (Frame n e)) → KeepsFit (running types) I answers kinds (reduce (head_at types) given store (Frame n e))
  frame_reduces answers kinds given store n e st h j =
      either (running types) lawful answers kinds (λ x y. Suits (running types) answers kinds given x → KeepsFit (running types) I answers kinds y) e _ _ _ _
      (λ v q i. (kinds, longer_self kinds, st, inr (v, refl, kept.value answers kinds v (subst (λ e. P answers kinds e) q h))))
      (λ active i. frame_fits types P I answers kinds store n (λ longer f l k. inl (n, f, refl, k)) (reduce (head_at types) given store e)
      (kept.keeps answers kinds given store e active st h (suits_frame (running types) lawful answers kinds given store n (reduce (head_at types) None store e) i))) j

  framed_reduces : (answers : AnswerTypes) (kinds : List TypeId) (given : Option Given) (store : Store) (e : Exp) → IsNoValue e → StoreTyped (running types) answers kinds store kinds → I answers kinds e
      → Suits (running types) answers kinds given (reduce (head_at types) None store e) → KeepsFit (running types) I answers kinds (reduce (head_at types) given store e)
  framed_reduces answers kinds given store e active st (inl h) =
      subst (λ e. Suits (running types) answers kinds given (reduce (head_at types) None store e) → KeepsFit (running types) I answers kinds (reduce (head_at types) given store e)) (sym h.2)
      (frame_reduces answers kinds given store h.0 h.1 st h.3)
  framed_reduces answers kinds given store e active st (inr h) = absurd (subst IsNoValue h.1 active)

  framed_grows : (answers more : AnswerTypes) (kinds longer : List TypeId) (e : Exp) → KnowsMore answers more → IsLonger kinds longer → I answers kinds e → I more longer e
  framed_grows answers more kinds longer e k l (inl h) = inl (h.0, h.1, h.2, kept.grows answers more kinds longer h.1 k l h.3)
  framed_grows answers more kinds longer e k l (inr h) = inr (h.0, h.1, grow answers more kinds longer h.0 k l h.2)

  pub framed_kept : IsKept (running types) I Q
  framed_kept = record {
    value = λ answers kinds v h. framed_value answers kinds v h;
    grows = λ answers more kinds longer e k l h. framed_grows answers more kinds longer e k l h;
    keeps = λ answers kinds given store e active st h i. framed_reduces answers kinds given store e active st h i;
  }

-- ---- the frame of the declarations

pub installing_kept : (p : Program) → IsLawful (running p.types).head → IsKept (running p.types) (IsInstalling p.types p) (AreExports p.types p)
installing_kept p lawful = framed_kept p.types lawful (IsExporting p.types p) (AreExports p.types p) (exporting_kept p lawful) (exports_kept_grow p lawful)
