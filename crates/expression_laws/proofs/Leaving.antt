-- Loops, labels, `do ?`, and what leaves them.
use Rattle.std.proofs.Common.{◌≡◌, inl, ℕ, false, List, [], ◌∷◌, Option, Some, None, refl, sym, ap, ◌∙◌, subst}
use Rattle.std.specs.Prelude.{slice_get}
use Rattle.mo_scopes.specs.Scopes.{named}
use Rattle.mo_types.specs.declared.node.Node.TheVariants as node
use Rattle.mo_types.specs.declared.node.TypeId.{TypeId}
use Rattle.mo_types.specs.Graph.{head_at}
use Rattle.mo_types.specs.Heads.{opt_of}
use Rattle.mo_types.specs.Sub.{IsSomething}
use Rattle.mo_values.specs.declared.operation.Operation.TheVariants as op
use Rattle.subtype_laws.specs.Reached.{Among}
use Rattle.typed_tree.specs.declared.action.Action.TheVariants as action
use Rattle.typed_tree.specs.declared.expression.Form.TheOpen as F
use Rattle.typed_tree.specs.declared.expression.TypedExpression.{TypedExpression}
use Rattle.typed_tree.specs.ActionTypes as typed
use Rattle.typed_tree.specs.Typing.{Typed, with_label}
use Rattle.typed_tree.specs.Wants.{Of}
use Rattle.typing_rules.specs.AbstractSyntax.{Bytes, Expression, TypeNode}
use Rattle.typing_rules.specs.AbstractSyntax as p
use Rattle.typing_rules.specs.AsyncPlaces.{Around, Awaited, Named, Labelled, Other}
use Rattle.typing_rules.specs.Contexts.{Context, Label, directly, in_loop, in_option, first_loops}
use Rattle.typing_rules.specs.Contexts as rules
use Rattle.typing_rules.specs.Ends.{wanted}
use Rattle.typing_rules.specs.Expressions.{Judge, Rule}
use Rattle.typing_rules.specs.Heads.{head}
use Rattle.typing_rules.specs.Terms.{Term, unit}
use Rattle.typing_rules.specs.Terms as t
use Rattle.typing_rules.specs.Types.{ReadsOr}
use Rattle.typing_rules.specs.TypedTrees.{Note, note, type_of}
use Rattle.desugaring.specs.Expressions.{tree as written_out, looped}
use Rattle.desugaring.specs.FreeNames.{occurring}
use Rattle.desugaring.specs.Frames.{Labelled as ALabel, Continued, Optional, Frame, with_exit, exit, is_label, is_continued, is_optional, is_returned}
use Rattle.desugaring.specs.Nodes.{at, acts as acting, operates, unit_value}
use Rattle.desugaring_laws.specs.Yields.{Yields}
use Rattle.desugaring_laws.proofs.HeadForms.{is_option}
use Rattle.desugaring_laws.proofs.Patterns.{unit_fine}
use Rattle.desugaring_laws.proofs.Yielding.{more, given, tests, by_case, part as after}
use Rattle.expression_laws.specs.Fitting.{Fits}
use Rattle.expression_laws.specs.Results.{standing, Gives, Becomes, AreTyped}
use Rattle.expression_laws.proofs.Ending.{Setting, Place, IsTypedPart, part_fits, self, there, inside, settled, value_of, as_wanted, as_given, Known, WantKnown, Is, IsPart, Tree, Value, judged, wanting, has_so, has, fits, a_value, acts, written}
use Rattle.expression_laws.proofs.Exits.{with_option, with_new_label, in_body_of}
use Rattle.expression_laws.proofs.Heads.{boolean_fine, bottom_head, bottom_fine, option_head, made_fine}
use Rattle.expression_laws.proofs.Simple.{boolean_there, unit_there, unit_known, unit_typed, unit_at, option_value, only}
use Rattle.expression_laws.proofs.Trees.{value_node}
use Rattle.expression_laws.proofs.Wanting.{for_all, wanted_is}

module _ (S : Setting) where
  abbrev FitsIn : List Bytes → Context → Frame → typed.Context → Type 0
  FitsIn used e f c = Fits S.defs S.slots S.terms S.number S.scope used e f c

  -- what the body of a loop is written out to
  abbrev pub loop_tree : Around → List (Bytes × Label) → Frame → p.Expression Note → TypedExpression
  loop_tree Labelled (l ∷ ls) f b = at S.defs S.number unit (F.Label (written_out S.defs S.number (with_exit (Continued l.0) f) b))
  loop_tree _ ls f b = written_out S.defs S.number f b

  while_stands : (o : Around) (ls : List (Bytes × Label)) (f : Frame) (n : Note) (c b : p.Expression Note)
      → standing S.defs S.slots S.terms S.number o ls f (p.exp n (p.While c b)) ≡ at S.defs S.number n.type (F.While (written_out S.defs S.number f c) (loop_tree o ls f b))
  while_stands Labelled [] f n c b = refl
  while_stands Labelled (l ∷ ls) f n c b = refl
  while_stands Awaited ls f n c b = refl
  while_stands Named ls f n c b = refl
  while_stands Other ls f n c b = refl

  loop_stands : (o : Around) (ls : List (Bytes × Label)) (f : Frame) (n : Note) (b : p.Expression Note)
      → standing S.defs S.slots S.terms S.number o ls f (p.exp n (p.Loop b)) ≡ at S.defs S.number n.type (F.Loop (loop_tree o ls f b))
  loop_stands Labelled [] f n b = refl
  loop_stands Labelled (l ∷ ls) f n b = refl
  loop_stands Awaited ls f n b = refl
  loop_stands Named ls f n b = refl
  loop_stands Other ls f n b = refl

  repeat_stands : (o : Around) (ls : List (Bytes × Label)) (f : Frame) (n : Note) (c b : p.Expression Note)
      → standing S.defs S.slots S.terms S.number o ls f (p.exp n (p.LoopWhile b c)) ≡ at S.defs S.number n.type (F.Repeat (loop_tree o ls f b) (written_out S.defs S.number f c))
  repeat_stands Labelled [] f n c b = refl
  repeat_stands Labelled (l ∷ ls) f n c b = refl
  repeat_stands Awaited ls f n c b = refl
  repeat_stands Named ls f n c b = refl
  repeat_stands Other ls f n c b = refl

  module _ (e : Context) (f : Frame) (c : typed.Context) (a : Expression ℕ) (fit : FitsIn (occurring a) (directly Other e) f c) (j : AreTyped S.defs S.slots S.terms S.number S.scope a) where
    abbrev pub BodyTyped : Around → List (Bytes × Label) → p.Expression Note → Type 0
    BodyTyped o ls b = Typed S.slots (loop_tree o ls f b) c (Of (S.number unit))

    loop_plain : Yields S.defs S.terms (Judge S.defs (directly Other e) a (Some unit)) (λ b. Typed S.slots (written_out S.defs S.number f b) c (Of (S.number unit)))
    loop_plain =
        more S.defs S.terms (Judge S.defs (directly Other e) a (Some unit)) (Becomes S.defs S.slots S.terms S.number Other e.labels f c (Some unit)) _
        (j (directly Other e) f c fit (Some unit) (unit_fine S.defs c.parameters)) (λ b i. as_wanted S e.labels f c unit b i)

    no_labels : (ls : List (Bytes × Label)) → e.labels ≡ ls → ls ≡ [] → FitsIn (occurring a) (in_loop Labelled (directly Other e)) f c
    no_labels ls h k = record {
      names = fit.names;
      labels = λ y l i. absurd (none y l (sym (ap (λ z. named (first_loops z) y) (h ∙ k)) ∙ i));
      returns = fit.returns;
      options = fit.options;
      body_is = fit.body_is;
      types = fit.types;
      bounds = fit.bounds;
      scope_is = fit.scope_is;
    }
      where
        none : (y : Bytes) (l : Label) → named [] y ≡ Some l → ⊥
        none y l i = cc

    under_label : (ls : List (Bytes × Label)) → e.labels ≡ ls → Yields S.defs S.terms (Judge S.defs (in_loop Labelled (directly Other e)) a (Some unit)) (BodyTyped Labelled ls)
    under_label [] h =
        more S.defs S.terms (Judge S.defs (in_loop Labelled (directly Other e)) a (Some unit)) (Becomes S.defs S.slots S.terms S.number Other (first_loops e.labels) f c (Some unit)) _
        (j (in_loop Labelled (directly Other e)) f c (no_labels [] h refl) (Some unit) (unit_fine S.defs c.parameters)) (λ b i. as_wanted S (first_loops e.labels) f c unit b i)
    under_label (l ∷ ls) h =
        let f' = with_exit (Continued l.0) f in
        let c' = with_label (S.number unit) c in
        more S.defs S.terms (Judge S.defs (in_loop Labelled (directly Other e)) a (Some unit)) (Becomes S.defs S.slots S.terms S.number Other (first_loops e.labels) f' c' (Some unit)) _
        (j (in_loop Labelled (directly Other e)) f' c' (in_body_of S.defs S.slots S.terms S.number S.scope (occurring a) (directly Other e) f c fit l.0 l.1 ls h) (Some unit) (unit_fine S.defs c.parameters)) (λ b i.
        value_node S.defs S.slots S.terms S.number S.graph c unit (unit_known S c.parameters) (F.Label (written_out S.defs S.number f' b)) (S.number unit, refl, as_wanted S (first_loops e.labels) f' c' unit b i)
        (S.number unit) (self S (S.number unit)))

    pub loop_body : (o : Around) → Yields S.defs S.terms (Judge S.defs (in_loop o (directly Other e)) a (Some unit)) (BodyTyped o e.labels)
    loop_body Labelled = under_label e.labels refl
    loop_body Awaited = loop_plain
    loop_body Named = loop_plain
    loop_body Other = loop_plain

  module _ (A : Place S) where
    abbrev Asked : ℕ → p.Form ℕ → Type 0
    Asked n x = (w : Option Term) → WantKnown S A w → Yields S.defs S.terms (Rule S.defs A.around (directly Other A.known) n x w) (Is S A w)

    abbrev Typing : Expression ℕ → Type 0
    Typing a = IsTypedPart S A a

    abbrev Body : p.Expression Note → TypedExpression
    Body b = loop_tree A.around A.known.labels A.frame b

    so : (u : Term) (x y : TypedExpression) → x ≡ y → Value S A u y → Gives S.defs S.slots S.terms S.number A.context A.around u x
    so u x y e h = subst (λ z. Gives S.defs S.slots S.terms S.number A.context A.around u z) (sym e) (inl h)

    pub while_typed : (n : ℕ) (c a : Expression ℕ) → Typing c → Typing a → Asked n (p.While c a)
    while_typed n c a jc ja w k =
        wanting S A c jc t.Boolean (boolean_fine S.defs A.context.parameters) _ (Is S A w) (λ d m i.
        after S.defs S.terms (Judge S.defs (in_loop A.around (directly Other A.known)) a (Some unit)) _ (BodyTyped A.known A.frame A.context a (part_fits S A a ja.1) ja.0 A.around A.known.labels) (Is S A w)
        (loop_body A.known A.frame A.context a (part_fits S A a ja.1) ja.0 A.around) (λ b h.
        has_so S A n w unit (p.While d b) k (λ m'.
        so unit _ _ (while_stands A.around A.known.labels A.frame (note n unit) d b)
        (a_value S A unit (unit_known S A.context.parameters) (F.While (Tree S A d) (Body b))
        (S.number unit, S.number t.Boolean, refl, unit_there S, boolean_there S m, as_wanted S A.known.labels A.frame A.context t.Boolean d i, h)))))

    pub loop_typed : (n : ℕ) (a : Expression ℕ) → Typing a → Asked n (p.Loop a)
    loop_typed n a ja w k =
        after S.defs S.terms (Judge S.defs (in_loop A.around (directly Other A.known)) a (Some unit)) _ (BodyTyped A.known A.frame A.context a (part_fits S A a ja.1) ja.0 A.around A.known.labels) (Is S A w)
        (loop_body A.known A.frame A.context a (part_fits S A a ja.1) ja.0 A.around) (λ b h.
        has_so S A n w t.Bottom (p.Loop b) k (λ m.
        so t.Bottom _ _ (loop_stands A.around A.known.labels A.frame (note n t.Bottom) b)
        (a_value S A t.Bottom (record { there = m; fine = bottom_fine S.defs A.context.parameters }) (F.Loop (Body b))
        (S.number t.Bottom, S.number unit, refl, there S t.Bottom m node.Bottom (bottom_head S.defs), unit_there S, h))))

    pub repeat_typed : (n : ℕ) (a c : Expression ℕ) → Typing a → Typing c → Asked n (p.LoopWhile a c)
    repeat_typed n a c ja jc w k =
        after S.defs S.terms (Judge S.defs (in_loop A.around (directly Other A.known)) a (Some unit)) _ (BodyTyped A.known A.frame A.context a (part_fits S A a ja.1) ja.0 A.around A.known.labels) (Is S A w)
        (loop_body A.known A.frame A.context a (part_fits S A a ja.1) ja.0 A.around) (λ b h.
        wanting S A c jc t.Boolean (boolean_fine S.defs A.context.parameters) _ (Is S A w) (λ d m i.
        has_so S A n w unit (p.LoopWhile b d) k (λ m'.
        so unit _ _ (repeat_stands A.around A.known.labels A.frame (note n unit) d b)
        (a_value S A unit (unit_known S A.context.parameters) (F.Repeat (Body b) (Tree S A d))
        (S.number unit, S.number t.Boolean, refl, unit_there S, boolean_there S m, h, as_wanted S A.known.labels A.frame A.context t.Boolean d i)))))

    -- ---- labels

    pub reads_or : (a : Option TypeNode) (u : Term) → Known S A u → Yields S.defs S.terms (ReadsOr S.defs A.known.types a u) (Known S A)
    reads_or None u k = k
    reads_or (Some a) u k = (written S A) a

    pub label_typed : (n : ℕ) (x : Bytes) (u : Option TypeNode) (a : Expression ℕ) → Typing a → Asked n (p.Label x u a)
    label_typed n x u a j w k =
        after S.defs S.terms (ReadsOr S.defs A.known.types u unit) _ (Known S A) (Is S A w) (reads_or u unit (unit_known S A.context.parameters)) (λ v kv.
        let e' = directly Labelled (rules.with_label x (record { type = v; loop = false }) (directly Other A.known)) in
        let f' = with_exit (ALabel x) A.frame in
        let c' = with_label (S.number v) A.context in
        after S.defs S.terms (Judge S.defs e' a (Some v)) _ (Becomes S.defs S.slots S.terms S.number Labelled e'.labels f' c' (Some v)) (Is S A w)
        (j.0 e' f' c' (with_new_label S.defs S.slots S.terms S.number S.scope (occurring a) (directly Other A.known) A.frame A.context (part_fits S A a j.1) x v kv) (Some v) kv.fine) (λ b i.
        has S A n w v (p.Label x u b) (λ l. refl) k (λ m.
        a_value S A v kv (F.Label (looped S.defs S.number f' x b)) (S.number v, refl, (settled S Labelled (λ z. z) c' (type_of b) _ i.gives).typed (S.number v) i.below))))

    -- leaves what is left with this type
    leaves : Among t.Bottom S.terms → (l : ℕ) (v : Term) → slice_get A.context.labels l ≡ Some (S.number v) → (x : TypedExpression) → Typed S.slots x A.context (Of (S.number v))
        → Value S A t.Bottom (acting S.defs S.number t.Bottom (action.Break l) (x ∷ []))
    leaves m l v e x h =
        acts S A t.Bottom (record { there = m; fine = bottom_fine S.defs A.context.parameters }) (action.Break l) (x ∷ []) (Of (S.number v) ∷ [])
        (S.number v, e, refl, (S.number t.Bottom, refl, there S t.Bottom m node.Bottom (bottom_head S.defs))) (h, tt)

    pub break_typed : (n : ℕ) (x : Bytes) → Asked n (p.Break x)
    break_typed n x w k =
        given S.defs S.terms _ n (named A.known.labels x) _ (Is S A w) (λ l e.
        let i = A.fits.labels x l e in
        λ m. (λ b. has S A n w t.Bottom (p.Break x) (λ l. refl) k (λ m'. leaves m' (exit A.frame (is_label x)) l.type i.left (unit_value S.defs S.number) (unit_at S A l.type i.known b)), λ z. tt))

    pub break_with_typed : (n : ℕ) (x : Bytes) (a : Expression ℕ) → Typing a → Asked n (p.BreakWith x a)
    break_with_typed n x a j w k =
        given S.defs S.terms _ n (named A.known.labels x) _ (Is S A w) (λ l e.
        let i = A.fits.labels x l e in
        judged S A a j (Some l.type) i.known.fine _ (Is S A w) (λ b h.
        has S A n w t.Bottom (p.BreakWith x b) (λ l. refl) k (λ m. leaves m (exit A.frame (is_label x)) l.type i.left (Tree S A b) (as_wanted S A.known.labels A.frame A.context l.type b h))))

    pub continue_typed : (n : ℕ) (x : Bytes) → Asked n (p.Continue x)
    continue_typed n x w k =
        given S.defs S.terms _ n (named A.known.labels x) _ (Is S A w) (λ l e.
        tests S.defs S.terms _ n l.loop _ (Is S A w) (λ loops.
        has S A n w t.Bottom (p.Continue x) (λ l. refl) k (λ m.
        leaves m (exit A.frame (is_continued x)) unit ((A.fits.labels x l e).continued loops) (unit_value S.defs S.number) (unit_typed S A))))

    pub return_typed : (n : ℕ) → Asked n p.Return
    return_typed n w k =
        given S.defs S.terms _ n A.known.returns _ (Is S A w) (λ u e.
        let i = A.fits.returns u e in
        λ m. (λ b. has S A n w t.Bottom p.Return (λ l. refl) k (λ m'. leaves m' (exit A.frame is_returned) u i.left (unit_value S.defs S.number) (unit_at S A u i.known b)), λ z. tt))

    pub return_with_typed : (n : ℕ) (a : Expression ℕ) → Typing a → Asked n (p.ReturnWith a)
    return_with_typed n a j w k =
        given S.defs S.terms _ n A.known.returns _ (Is S A w) (λ u e.
        let i = A.fits.returns u e in
        judged S A a j (Some u) i.known.fine _ (Is S A w) (λ b h.
        has S A n w t.Bottom (p.ReturnWith b) (λ l. refl) k (λ m. leaves m (exit A.frame is_returned) u i.left (Tree S A b) (as_wanted S A.known.labels A.frame A.context u b h))))

    -- ---- `do ?`

    -- a label of an option
    abbrev OptionLabel : Type 0
    OptionLabel = (t : TypeId) × IsSomething (opt_of (head_at S.slots t))

    abbrev label_of : (v u : Term) → Among v S.terms → head S.defs v ≡ node.Opt u → OptionLabel
    label_of v u m e = (S.number v, subst (λ y. IsSomething (opt_of y)) (sym (there S v m (node.Opt u) e)) tt)

    -- inside of a `do ?` with this label
    abbrev inside_option : OptionLabel → Place S
    inside_option q = record {
      around = Other;
      known = in_option A.known;
      frame = with_exit Optional A.frame;
      context = with_label q.0 A.context;
      used = A.used;
      fits = with_option S.defs S.slots S.terms S.number S.scope A.used (directly Other A.known) A.frame A.context A.fits q.0 q.1;
    }

    abbrev inner : p.Expression Note → TypedExpression
    inner b = written_out S.defs S.number (with_exit Optional A.frame) b

    option_made : (v u : Term) (k : Known S A v) (e : head S.defs v ≡ node.Opt u) (b : p.Expression Note) → Typed S.slots (inner b) (with_label (S.number v) A.context) (Of (S.number u))
        → Value S A v (at S.defs S.number v (F.Label (operates S.defs S.number v op.MakeOption (inner b ∷ []))))
    option_made v u k e b h =
        a_value S A v k (F.Label (operates S.defs S.number v op.MakeOption (inner b ∷ [])))
        (S.number v, refl, (option_value S (inside_option (label_of v u k.there e)) v u k e (inner b) h).typed (S.number v) (self S (S.number v)))

    pub do_option_typed : (n : ℕ) (a : Expression ℕ) → Typing a → Asked n (p.DoOption a)
    do_option_typed n a j w k =
        by_case S.defs S.terms (wanted S.defs opt_of w) _ _ (Is S A w) (λ q e.
        let r = wanted_is S.defs opt_of w q e in
        let h : head S.defs q.0 ≡ node.Opt q.1 = is_option (head S.defs q.0) q.1 r.1 in
        let v : Known S A q.0 = subst (λ z. WantKnown S A z) r.0 k in
        let l = label_of q.0 q.1 v.there h in
        judged S (inside_option l) a j (Some q.1) (inside S A.context.parameters q.0 q.1 v (node.Opt q.1) h (inl refl)).fine _ (Is S A w) (λ b i.
        fits S A n q.0 (p.DoOption b) (λ l. refl) (option_made q.0 q.1 v h b (as_wanted S A.known.labels (with_exit Optional A.frame) (with_label l.0 A.context) q.1 b i)) w r.0)) (λ e.
        after S.defs S.terms (Judge S.defs (directly Other (in_option A.known)) a None) _ (λ b. (q : OptionLabel) → IsPart S (inside_option q) None b) (Is S A w)
        (for_all S.defs S.terms (Judge S.defs (directly Other (in_option A.known)) a None) (λ q b. IsPart S (inside_option q) None b)
        (λ q. j.0 (directly Other (in_option A.known)) (with_exit Optional A.frame) (with_label q.0 A.context) (part_fits S (inside_option q) a j.1) None tt)) (λ b i.
        let u = type_of b in
        has S A n w (t.Optional u) (p.DoOption b) (λ l. refl) k (λ m.
        let h = option_head S.defs u in
        let l = label_of (t.Optional u) u m h in
        let given = value_of S A.known.labels (with_exit Optional A.frame) (with_label l.0 A.context) None b (i l) in
        option_made (t.Optional u) u (record { there = m; fine = made_fine S.defs A.context.parameters (t.Optional u) (node.Opt u) h tt refl (only S A u given.known.fine.scoped) }) h b
        (given.typed (S.number u) (self S (S.number u))))))

    pub bang_typed : (n : ℕ) (a : Expression ℕ) → Typing a → Asked n (p.Bang a)
    bang_typed n a j w k =
        tests S.defs S.terms _ n A.known.ends _ (Is S A w) (λ ends.
        judged S A a j None tt _ (Is S A w) (λ b i.
        given S.defs S.terms _ n (opt_of (head S.defs (type_of b))) _ (Is S A w) (λ u e.
        let h : head S.defs (type_of b) ≡ node.Opt u = is_option (head S.defs (type_of b)) u e in
        let kb = (value_of S A.known.labels A.frame A.context None b i).known in
        let o = A.fits.options ends in
        has S A n w u (p.Bang b) (λ l. refl) k (λ m.
        acts S A u (inside S A.context.parameters (type_of b) u kb (node.Opt u) h (inl refl)) (action.Unwrap (exit A.frame is_optional)) (Tree S A b ∷ []) (Of (S.number (type_of b)) ∷ [])
        (o.0, S.number (type_of b), S.number u, o.1, o.2, refl, there S (type_of b) kb.there (node.Opt u) h, refl) (as_given S A.known.labels A.frame A.context None b i, tt)))))
