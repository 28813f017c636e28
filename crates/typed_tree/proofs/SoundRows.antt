-- Operations give values of their types, and are never stuck on operands of theirs.
use Rattle.std.proofs.Common.{◌≡◌, ℕ, zero, suc, ◌<◌, ◌≤◌, ◌^◌, Bool, true, false, List, [], ◌∷◌, length, Option, Some, None, Result, Ok, Err, pos, negsuc, codes, arith, inl, inr, refl, sym, ap, ◌∙◌, subst, ℤ, ◌≤ℤ◌}
use Rattle.std.specs.Prelude.{◌⊎◌, ◌&&◌, int_le, if◌then◌else◌, nat_eq}
use Rattle.std.specs.Cmp.Lexicographic.{pointwise}
use Rattle.std.specs.Str.{is_utf8, chars}
use Rattle.std.proofs.lemmas.Bool.{eq-eqb}
use Rattle.std.proofs.lemmas.Int.{ints}
use Rattle.mo_num.specs.declared.kind.Kind.{Kind}
use Rattle.mo_num.specs.declared.kind.Kind.TheVariants as kind
use Rattle.mo_num.specs.declared.operator.Operator.{Operator}
use Rattle.mo_num.specs.declared.operator.Operator.TheVariants as operator
use Rattle.mo_num.specs.declared.operator.NumTrap.{NumTrap}
use Rattle.mo_num.specs.declared.operator.NumTrap.TheVariants as trap
use Rattle.mo_num.specs.Arith.{Arith, Negation, within, divided}
use Rattle.mo_num.specs.Kinds.{InRange, least, greatest}
use Rattle.mo_types.specs.declared.datum.Datum.{Datum}
use Rattle.mo_types.specs.declared.datum.Datum.TheVariants as part
use Rattle.mo_types.specs.declared.node.Field.{Field}
use Rattle.mo_types.specs.declared.node.Node.{Node}
use Rattle.mo_types.specs.declared.node.Node.TheVariants as node
use Rattle.mo_types.specs.declared.node.TypeId.{TypeId}
use Rattle.mo_types.specs.Sub.{IsSomething, find}
use Rattle.mo_types.specs.Values.{copies, is_method_name}
use Rattle.mo_values.specs.declared.error_code.ErrorCode.{ErrorCode}
use Rattle.mo_values.specs.declared.error_code.ErrorCode.TheVariants as error
use Rattle.mo_values.specs.declared.operation.Operation.{Operation}
use Rattle.mo_values.specs.declared.operation.Operation.TheVariants as op
use Rattle.mo_values.specs.Messages.{only_if, count}
use Rattle.mo_values.specs.Operations.{operate, number, counted, asserted, code_shape}
use Rattle.mo_values.specs.Shapes.{Bytes, Leaf, Present, Tuple, Array, Object, Tag, Error, Shape, Shapes, Made, NoShape, AShape, listed, shapes, leaf, unit}
use Rattle.mo_values.specs.Views.{Answer, given, message_in, code_of, array_of}
use Rattle.mo_values.proofs.Wrapped.{is_wrapped}
use Rattle.typed_tree.specs.Has.{IsCode, Judgements, wants, tag_want, by_mutability, field_want, Fits, Has, HasEach}
use Rattle.typed_tree.specs.MemberTypes.{IsUnit, IsNumber, IsText, IsTag, IsRefusal, IsErrorCode}
use Rattle.typed_tree.specs.OperationTypes.{IsBool}
use Rattle.typed_tree.specs.Shareable.{IsSharedFunction}
use Rattle.typed_tree.specs.Soundness.{AllHave, AnswerHas, IsSound}
use Rattle.typed_tree.specs.Wants.{Want, Of, CellOf}
use Rattle.typed_tree.proofs.ScopedTrees.{length_map}
use Rattle.typed_tree.proofs.Leaves.{gives_leaf, scalar_seen, number_seen, flag_seen, text_seen, actor_seen, error_seen, array_seen}

-- ---- results of arithmetic are in range, or trap

abbrev InRangeResult : Kind → Result ℤ NumTrap → Type 0
InRangeResult k (Ok n) = InRange k n
InRangeResult k (Err t) = Unit {0}

le_of : (a b : ℤ) → int_le a b ≡ true → a ≤ℤ b
le_of a b e = omega (arith, ints)

both : (a b : Bool) → (a && b) ≡ true → (a ≡ true) × (b ≡ true)
both true true e = (refl, refl)
both true false e = cc
both false b e = cc

within_ok : (k : Kind) (t : NumTrap) (n : ℤ) → InRangeResult k (within k t n)
within_ok k t n = by (int_le (least k) n && int_le n (greatest k)) refl
  where
    by : (b : Bool) → (int_le (least k) n && int_le n (greatest k)) ≡ b → InRangeResult k (if b then Ok n else Err t)
    by true e = let h : (int_le (least k) n ≡ true) × (int_le n (greatest k) ≡ true) = both (int_le (least k) n) (int_le n (greatest k)) e in (le_of (least k) n h.0, le_of n (greatest k) h.1)
    by false e = tt

divided_ok : (k : Kind) (b : ℤ) (r : Result ℤ NumTrap) → InRangeResult k r → InRangeResult k (divided b r)
divided_ok k (pos zero) r h = tt
divided_ok k (pos (suc n)) r h = h
divided_ok k (negsuc n) r h = h

arith_ok : (o : Operator) (k : Kind) (a b : ℤ) → InRangeResult k (Arith o k a b)
arith_ok operator.Add k a b = within_ok k _ _
arith_ok operator.Sub k a b = within_ok k _ _
arith_ok operator.Mul k a b = within_ok k _ _
arith_ok operator.Div k a b = divided_ok k b _ (within_ok k _ _)
arith_ok operator.Rem k a b = divided_ok k b _ (within_ok k _ _)
arith_ok operator.Pow k a (pos n) = within_ok k _ _
arith_ok operator.Pow k a (negsuc n) = tt

module _ {F : Type 0} (head : TypeId → Node TypeId) (known : Judgements TypeId F) (kinds : List TypeId) where
  abbrev Sound : Operation → Type 0
  Sound o = IsSound head known kinds o

  abbrev H : Want TypeId → Shape F → Type 0
  H w v = Has head known kinds w v

  abbrev Answers : Want TypeId → Answer F → Type 0
  Answers w a = AnswerHas head known kinds w a

  -- ---- operands

  pub one : (t : TypeId) (ws : List (Want TypeId)) (vs : List (Shape F)) → ws ≡ Of t ∷ [] → AllHave head known kinds ws vs → (v : Shape F) × (vs ≡ v ∷ []) × H (Of t) v
  one t ws vs e h = by vs (subst (λ us. AllHave head known kinds us vs) e h)
    where
      by : (us : List (Shape F)) → AllHave head known kinds (Of t ∷ []) us → (v : Shape F) × (us ≡ v ∷ []) × H (Of t) v
      by [] k = absurd k
      by (v ∷ []) k = (v, refl, k.0)
      by (v ∷ u ∷ us) k = absurd k.1

  pub two : (t : TypeId) (ws : List (Want TypeId)) (vs : List (Shape F)) → ws ≡ Of t ∷ Of t ∷ [] → AllHave head known kinds ws vs → (v u : Shape F) × (vs ≡ v ∷ u ∷ []) × H (Of t) v × H (Of t) u
  two t ws vs e h = by vs (subst (λ us. AllHave head known kinds us vs) e h)
    where
      by : (us : List (Shape F)) → AllHave head known kinds (Of t ∷ Of t ∷ []) us → (v u : Shape F) × (us ≡ v ∷ u ∷ []) × H (Of t) v × H (Of t) u
      by [] k = absurd k
      by (v ∷ []) k = absurd k.1
      by (v ∷ u ∷ []) k = (v, u, refl, k.0, k.1.0)
      by (v ∷ u ∷ x ∷ us) k = absurd k.1.1

  none : (ws : List (Want TypeId)) (vs : List (Shape F)) → ws ≡ [] → AllHave head known kinds ws vs → vs ≡ []
  none ws vs e h = by vs (subst (λ us. AllHave head known kinds us vs) e h)
    where
      by : (us : List (Shape F)) → AllHave head known kinds [] us → us ≡ []
      by [] k = refl
      by (u ∷ us) k = absurd k

  -- what an operation gives for what it sees
  pub seen : {V : Type 0} (w : Want TypeId) (o : Option V) (x : V) (f : V → Answer F) → o ≡ Some x → Answers w (f x) → Answers w (given o f)
  seen w o x f e h = subst (λ q. Answers w (given q f)) (sym e) h

  -- at operands and a want that are known
  pub moved : (o : Operation) (t : TypeId) (w : Want TypeId) (vs us : List (Shape F)) → w ≡ Of t → vs ≡ us → Answers (Of t) (operate head o us) → Answers w (operate head o vs)
  moved o t w vs us e f h = subst (λ x. Answers x (operate head o vs)) (sym e) (subst (λ xs. Answers (Of t) (operate head o xs)) (sym f) h)

  -- ---- leaves

  gives_number : (k : Kind) (t : TypeId) → IsNumber head k t → (r : Result ℤ NumTrap) → InRangeResult k r → Answers (Of t) (number r)
  gives_number k t e (Ok n) h = gives_leaf head known kinds t (node.Number k) (part.Number n) e refl tt h
  gives_number k t e (Err x) h = tt

  pub gives_flag : (t : TypeId) → IsBool head t → (b : Bool) → H (Of t) (leaf (part.Flag b))
  gives_flag t e b = gives_leaf head known kinds t node.Bool (part.Flag b) e refl tt tt

  pub gives_text : (t : TypeId) → IsText head t → (x : Bytes) → is_utf8 x ≡ true → H (Of t) (leaf (part.Text x))
  gives_text t e x h = gives_leaf head known kinds t node.Text (part.Text x) e refl tt h

  gives_unit : (t : TypeId) → IsUnit head t → H (Of t) unit
  gives_unit t e = (subst (λ x. Fits head known kinds x Tuple NoShape) (sym e) tt, subst (λ x. HasEach head known kinds (wants Tuple x 0) NoShape) (sym e) tt)

  -- ---- numbers and truth values

  pub arithmetic : (o : Operator) (k : Kind) → Sound (op.Arithmetic o k)
  arithmetic o k ws w vs t h =
      let vu : (v u : Shape F) × (vs ≡ v ∷ u ∷ []) × H (Of t.0) v × H (Of t.0) u = two t.0 ws vs t.2 h in
      let a : (n : ℤ) × (_ ≡ Some n) × InRange k n = number_seen head known kinds k t.0 t.1 vu.0 vu.3 in
      let b : (n : ℤ) × (_ ≡ Some n) × InRange k n = number_seen head known kinds k t.0 t.1 vu.1 vu.4 in
      moved (op.Arithmetic o k) t.0 w vs (vu.0 ∷ vu.1 ∷ []) t.3 vu.2
      (seen (Of t.0) _ a.0 _ a.1 (seen (Of t.0) _ b.0 _ b.1 (gives_number k t.0 t.1 (Arith o k a.0 b.0) (arith_ok o k a.0 b.0))))

  pub wrapping : (o : _) (k : Kind) → Sound (op.Wrap o k)
  wrapping o k ws w vs t h =
      let vu : (v u : Shape F) × (vs ≡ v ∷ u ∷ []) × H (Of t.0) v × H (Of t.0) u = two t.0 ws vs t.3 h in
      let a : (n : ℤ) × (_ ≡ Some n) × InRange k n = number_seen head known kinds k t.0 t.2 vu.0 vu.3 in
      let b : (n : ℤ) × (_ ≡ Some n) × InRange k n = number_seen head known kinds k t.0 t.2 vu.1 vu.4 in
      moved (op.Wrap o k) t.0 w vs (vu.0 ∷ vu.1 ∷ []) t.4 vu.2
      (seen (Of t.0) _ k _ (ap (λ y. only_if y k) t.1) (seen (Of t.0) _ a.0 _ a.1 (seen (Of t.0) _ b.0 _ b.1
      (gives_leaf head known kinds t.0 (node.Number k) _ t.2 refl tt (is_wrapped k _).in_range))))

  pub negation : (k : Kind) → Sound (op.Negate k)
  negation k ws w vs t h =
      let v : (v : Shape F) × (vs ≡ v ∷ []) × H (Of t.0) v = one t.0 ws vs t.2 h in
      let a : (n : ℤ) × (_ ≡ Some n) × InRange k n = number_seen head known kinds k t.0 t.1 v.0 v.2 in
      moved (op.Negate k) t.0 w vs (v.0 ∷ []) t.3 v.1 (seen (Of t.0) _ a.0 _ a.1 (gives_number k t.0 t.1 (Negation k a.0) (within_ok k _ _)))

  pub same : (s : _) → Sound (op.Same s)
  same s ws w vs t h =
      let vu : (v u : Shape F) × (vs ≡ v ∷ u ∷ []) × H (Of t.0) v × H (Of t.0) u = two t.0 ws vs t.2 h in
      let a : (p : Datum) × (_ ≡ Some p) × _ = scalar_seen head known kinds s t.0 t.1 vu.0 vu.3 in
      let b : (p : Datum) × (_ ≡ Some p) × _ = scalar_seen head known kinds s t.0 t.1 vu.1 vu.4 in
      moved (op.Same s) t.3.0 w vs (vu.0 ∷ vu.1 ∷ []) t.3.1 vu.2 (seen (Of t.3.0) _ a.0 _ a.1 (seen (Of t.3.0) _ b.0 _ b.1 (gives_flag t.3.0 t.3.2 _)))

  pub negated : Sound op.Not
  negated ws w vs t h =
      let v : (v : Shape F) × (vs ≡ v ∷ []) × H (Of t.0.0) v = one t.0.0 ws vs t.0.1 h in
      let b : (b : Bool) × (_ ≡ Some b) = flag_seen head known kinds t.0.0 t.0.2 v.0 v.2 in
      moved op.Not t.1.0 w vs (v.0 ∷ []) t.1.1 v.1 (seen (Of t.1.0) _ b.0 _ b.1 (gives_flag t.1.0 t.1.2 _))

  pub assertion : Sound op.Assert
  assertion ws w vs t h =
      let v : (v : Shape F) × (vs ≡ v ∷ []) × H (Of t.0.0) v = one t.0.0 ws vs t.0.1 h in
      let b : (b : Bool) × (_ ≡ Some b) = flag_seen head known kinds t.0.0 t.0.2 v.0 v.2 in
      moved op.Assert t.1.0 w vs (v.0 ∷ []) t.1.1 v.1 (seen (Of t.1.0) _ b.0 _ b.1 (by b.0))
    where
      by : (b : Bool) → Answers (Of t.1.0) (asserted b)
      by true = gives_unit t.1.0 t.1.2
      by false = tt

  -- ---- sizes

  gives_size : (t : TypeId) → IsNumber head kind.Nat t → (n : ℕ) → Answers (Of t) (counted n)
  gives_size t e n = gives_number kind.Nat t e (within kind.Nat trap.Overflow (pos n)) (within_ok kind.Nat trap.Overflow (pos n))

  pub text_size : Sound op.TextSize
  text_size ws w vs t h =
      let v : (v : Shape F) × (vs ≡ v ∷ []) × H (Of t.0.0) v = one t.0.0 ws vs t.0.1 h in
      let x : (x : Bytes) × (_ ≡ Some x) × (is_utf8 x ≡ true) = text_seen head known kinds t.0.0 t.0.2 v.0 v.2 in
      moved op.TextSize t.1.0 w vs (v.0 ∷ []) t.1.1 v.1 (seen (Of t.1.0) _ x.0 _ x.1 (gives_size t.1.0 t.1.2 (length (chars x.0))))

  pub array_size : Sound op.ArraySize
  array_size ws w vs t h =
      let v : (v : Shape F) × (vs ≡ v ∷ []) × H (Of t.0.0) v = one t.0.0 ws vs t.0.1 h in
      let a : (inside : Shapes F) × (v.0 ≡ Made Array inside) = array_seen head known kinds t.0.0 t.0.2.0 t.0.2.1 v.0 v.2 in
      moved op.ArraySize t.1.0 w vs (v.0 ∷ []) t.1.1 v.1 (seen (Of t.1.0) (array_of v.0) (listed a.0) _ (ap array_of a.1) (gives_size t.1.0 t.1.2 (length (listed a.0))))

  -- ---- actors

  shared_fits : (x : Node TypeId) (q l : Bytes) → IsSharedFunction x → length q ≤ 29 → is_method_name l ≡ true → Fits head known kinds x (Leaf (part.Method q l)) NoShape
  shared_fits (node.Func s ps rs) q l h i j = (tt, (h, i, j))
  shared_fits _ q l h i j = absurd h

  pub method : (l : Bytes) → Sound (op.Method l)
  method l ws w vs t h =
      let v : (v : Shape F) × (vs ≡ v ∷ []) × H (Of t.0) v = one t.0 ws vs t.1 h in
      let q : (q : Bytes) × (_ ≡ Some q) × (length q ≤ 29) = actor_seen head known kinds t.0 t.2.0 t.2.3 v.0 v.2 in
      moved (op.Method l) t.2.1.part w vs (v.0 ∷ []) t.2.6 v.1 (seen (Of t.2.1.part) _ q.0 _ q.1 (shared_fits (head t.2.1.part) q.0 l t.2.5 q.2 t.2.2, tt))

  pub principal : Sound op.PrincipalOf
  principal ws w vs t h =
      let v : (v : Shape F) × (vs ≡ v ∷ []) × H (Of t.0.0) v = one t.0.0 ws vs t.0.1 h in
      let q : (q : Bytes) × (_ ≡ Some q) × (length q ≤ 29) = actor_seen head known kinds t.0.0 t.0.2.0 t.0.2.1 v.0 v.2 in
      moved op.PrincipalOf t.1.0 w vs (v.0 ∷ []) t.1.1 v.1 (seen (Of t.1.0) _ q.0 _ q.1 (gives_leaf head known kinds t.1.0 node.Principal (part.Principal q.0) t.1.2 refl tt q.2))

  -- ---- errors

  pub rejection : Sound op.RejectError
  rejection ws w vs t h =
      let v : (v : Shape F) × (vs ≡ v ∷ []) × H (Of t.0.0) v = one t.0.0 ws vs t.0.1 h in
      let x : (x : Bytes) × (_ ≡ Some x) × (is_utf8 x ≡ true) = text_seen head known kinds t.0.0 t.0.2 v.0 v.2 in
      moved op.RejectError t.1.0 w vs (v.0 ∷ []) t.1.1 v.1 (seen (Of t.1.0) _ x.0 _ x.1
      (subst (λ y. Fits head known kinds y (Error error.CanisterReject x.0) NoShape) (sym t.1.2) (refl, tt, x.2), tt))

  pub message : Sound op.Message
  message ws w vs t h =
      let v : (v : Shape F) × (vs ≡ v ∷ []) × H (Of t.0.0) v = one t.0.0 ws vs t.0.1 h in
      let x : (c : ErrorCode) × (m : Bytes) × (v.0 ≡ Made (Error c m) NoShape) × IsCode c × (is_utf8 m ≡ true) = error_seen head known kinds t.0.0 t.0.2 v.0 v.2 in
      moved op.Message t.1.0 w vs (v.0 ∷ []) t.1.1 v.1 (seen (Of t.1.0) (message_in v.0) x.1 _ (ap message_in x.2) (gives_text t.1.0 t.1.2 x.1 x.4))

  -- a tag of a variant, with a value of its type
  tagged : (t : TypeId) (fs : List (Field TypeId)) (f : Field TypeId) (l : Bytes) (v : Shape F) → head t ≡ node.Variant fs → find l fs ≡ Some f → H (Of f.part) v → H (Of t) (Made (Tag l) (AShape v NoShape))
  tagged t fs f l v e i h = (
    subst (λ x. Fits head known kinds x (Tag l) (AShape v NoShape)) (sym e) (subst (λ o. IsSomething o) (sym i) tt),
    subst (λ x. HasEach head known kinds (wants (Tag l) x 1) (AShape v NoShape)) (sym e) (subst (λ o. HasEach head known kinds (tag_want o ∷ []) (AShape v NoShape)) (sym i) (h, tt)),
  )

  tagged_by : (t : TypeId) (fs : List (Field TypeId)) (l : Bytes) (P : TypeId → Type 0) (v : Shape F) → head t ≡ node.Variant fs → IsTag head fs l P → ((u : TypeId) → P u → H (Of u) v) → H (Of t) (Made (Tag l) (AShape v NoShape))
  tagged_by t fs l P v e g h = tagged t fs g.1.0 l v e g.1.1 (subst (λ u. H (Of u) v) (sym g.1.3) (h g.0 g.2))

  number_32 : (n : ℕ) → n < 2 ^ 32 → (t : TypeId) → IsNumber head kind.Nat32 t → H (Of t) (leaf (part.Number (pos n)))
  number_32 n h t e = gives_leaf head known kinds t (node.Number kind.Nat32) (part.Number (pos n)) e refl tt (omega (arith, ints), omega (arith, ints))

  refusal : (n : ℕ) → n < 2 ^ 32 → (t : TypeId) → IsRefusal head t → H (Of t) (Made (Object (codes "err_code" ∷ [])) (AShape (leaf (part.Number (pos n))) NoShape))
  refusal n h t r =
      let f : Field TypeId = r.0 in
      let i : find (codes "err_code") (f ∷ []) ≡ Some f = ap (λ l. if pointwise nat_eq l (codes "err_code") then Some f else None) r.2 in (
        subst (λ x. Fits head known kinds x (Object (codes "err_code" ∷ [])) (AShape (leaf (part.Number (pos n))) NoShape)) (sym r.1) (inl r.2, tt),
        subst (λ x. HasEach head known kinds (wants (Object (codes "err_code" ∷ [])) x 1) (AShape (leaf (part.Number (pos n))) NoShape)) (sym r.1)
            (subst (λ o. HasEach head known kinds (field_want o ∷ []) (AShape (leaf (part.Number (pos n))) NoShape)) (sym i)
            (subst (λ b. HasEach head known kinds (by_mutability b f.part ∷ []) (AShape (leaf (part.Number (pos n))) NoShape)) (sym r.3) (number_32 n h f.part r.4, tt))),
      )

  code_has : (c : ErrorCode) → IsCode c → (t : TypeId) → IsErrorCode head t → H (Of t) (code_shape c)
  code_has error.SystemFatal h t r = tagged_by t r.0 _ (IsUnit head) _ r.1 r.2 gives_unit
  code_has error.SystemTransient h t r = tagged_by t r.0 _ (IsUnit head) _ r.1 r.3 gives_unit
  code_has error.DestinationInvalid h t r = tagged_by t r.0 _ (IsUnit head) _ r.1 r.4 gives_unit
  code_has error.CanisterReject h t r = tagged_by t r.0 _ (IsUnit head) _ r.1 r.5 gives_unit
  code_has error.CanisterError h t r = tagged_by t r.0 _ (IsUnit head) _ r.1 r.6 gives_unit
  code_has (error.Future n) h t r = tagged_by t r.0 _ (IsNumber head kind.Nat32) _ r.1 r.7 (number_32 n h)
  code_has (error.CallError n) h t r = tagged_by t r.0 _ (IsRefusal head) _ r.1 r.8 (refusal n h)

  pub code : Sound op.Code
  code ws w vs t h =
      let v : (v : Shape F) × (vs ≡ v ∷ []) × H (Of t.0.0) v = one t.0.0 ws vs t.0.1 h in
      let x : (c : ErrorCode) × (m : Bytes) × (v.0 ≡ Made (Error c m) NoShape) × IsCode c × (is_utf8 m ≡ true) = error_seen head known kinds t.0.0 t.0.2 v.0 v.2 in
      moved op.Code t.1.0 w vs (v.0 ∷ []) t.1.1 v.1 (seen (Of t.1.0) (code_of v.0) x.0 _ (ap code_of x.2) (code_has x.0 x.3 t.1.0 t.1.2))

  -- ---- parts

  counts : (ws : List (Want TypeId)) (vs : List (Shape F)) → AllHave head known kinds ws vs → length vs ≡ length ws
  counts [] [] h = refl
  counts [] (v ∷ vs) h = absurd h
  counts (w ∷ ws) [] h = absurd h
  counts (w ∷ ws) (v ∷ vs) h = ap suc (counts ws vs h.1)

  each_has : (ws : List (Want TypeId)) (vs : List (Shape F)) → AllHave head known kinds ws vs → HasEach head known kinds ws (shapes vs)
  each_has [] [] h = tt
  each_has [] (v ∷ vs) h = absurd h
  each_has (w ∷ ws) [] h = absurd h
  each_has (w ∷ ws) (v ∷ vs) h = (h.0, each_has ws vs h.1)

  pub tuple : Sound op.MakeTuple
  tuple ws w vs t h = subst (λ x. H x (Made Tuple (shapes vs))) (sym t.1) (
    subst (λ x. Fits head known kinds x Tuple (shapes vs)) (sym t.2.1) tt,
    subst (λ x. HasEach head known kinds (wants Tuple x (count (shapes vs))) (shapes vs)) (sym t.2.1) (subst (λ us. HasEach head known kinds us (shapes vs)) t.2.2 (each_has ws vs h)),
  )

  pub option : Sound op.MakeOption
  option ws w vs t h =
      let v : (v : Shape F) × (vs ≡ v ∷ []) × H (Of t.2.0) v = one t.2.0 ws vs t.2.2 h in
      moved op.MakeOption t.0 w vs (v.0 ∷ []) t.1 v.1
      (subst (λ x. Fits head known kinds x Present (AShape v.0 NoShape)) (sym t.2.1) tt, subst (λ x. HasEach head known kinds (wants Present x 1) (AShape v.0 NoShape)) (sym t.2.1) (v.2, tt))

  pub tag : (l : Bytes) → Sound (op.MakeTag l)
  tag l ws w vs t h =
      let v : (v : Shape F) × (vs ≡ v ∷ []) × H (Of t.2.1.part) v = one t.2.1.part ws vs t.2.4 h in
      moved (op.MakeTag l) t.0 w vs (v.0 ∷ []) t.1 v.1 (tagged t.0 t.2.0 t.2.1 l v.0 t.2.2 t.2.3 v.2)

  count_shapes : (vs : List (Shape F)) → count (shapes vs) ≡ length vs
  count_shapes [] = refl
  count_shapes (v ∷ vs) = ap suc (count_shapes vs)

  pub array : Sound op.MakeArray
  array ws w vs t h = subst (λ x. H x (Made Array (shapes vs))) (sym t.1) (by t.2.1)
    where
      same_length : length ws ≡ count (shapes vs)
      same_length = sym (counts ws vs h) ∙ sym (count_shapes vs)

      by : ((head t.0 ≡ node.Array t.2.0) × (ws ≡ copies (length ws) (Of t.2.0))) ⊎ ((head t.0 ≡ node.MutArray t.2.0) × (ws ≡ copies (length ws) (CellOf t.2.0))) → H (Of t.0) (Made Array (shapes vs))
      by (inl e) = (
        subst (λ x. Fits head known kinds x Array (shapes vs)) (sym e.0) (inl tt),
        subst (λ x. HasEach head known kinds (wants Array x (count (shapes vs))) (shapes vs)) (sym e.0)
            (subst (λ n. HasEach head known kinds (copies n (Of t.2.0)) (shapes vs)) same_length (subst (λ us. HasEach head known kinds us (shapes vs)) e.1 (each_has ws vs h))),
      )
      by (inr e) = (
        subst (λ x. Fits head known kinds x Array (shapes vs)) (sym e.0) (inr tt),
        subst (λ x. HasEach head known kinds (wants Array x (count (shapes vs))) (shapes vs)) (sym e.0)
            (subst (λ n. HasEach head known kinds (copies n (CellOf t.2.0)) (shapes vs)) same_length (subst (λ us. HasEach head known kinds us (shapes vs)) e.1 (each_has ws vs h))),
      )

  pub object : (ls : List Bytes) → Sound (op.MakeObject ls)
  object ls ws w vs t h =
      let fs : List (Field TypeId) = t.2.0 in
      let n : length vs ≡ length ls = counts ws vs h ∙ (ap length t.2.4 ∙ length_map (λ l. field_want (find l fs)) ls) in
      seen w (only_if (nat_eq (length vs) (length ls)) ls) ls _ (ap (λ b. only_if b ls) (eq-eqb (length vs) (length ls) n))
      (subst (λ x. H x (Made (Object ls) (shapes vs))) (sym t.1) (
        subst (λ x. Fits head known kinds x (Object ls) (shapes vs)) (sym t.2.1) t.2.3,
        subst (λ x. HasEach head known kinds (wants (Object ls) x (count (shapes vs))) (shapes vs)) (sym t.2.1) (subst (λ us. HasEach head known kinds us (shapes vs)) t.2.4 (each_has ws vs h)),
      ))

  -- ---- traps

  pub traps : Sound op.Trap
  traps ws w vs t h =
      let v : (v : Shape F) × (vs ≡ v ∷ []) × H (Of t.0.0) v = one t.0.0 ws vs t.0.1 h in
      let x : (x : Bytes) × (_ ≡ Some x) × (is_utf8 x ≡ true) = text_seen head known kinds t.0.0 t.0.2 v.0 v.2 in
      moved op.Trap t.1.0 w vs (v.0 ∷ []) t.1.1 v.1 (seen (Of t.1.0) _ x.0 _ x.1 tt)

  pub fails : (text : Bytes) → Sound (op.Fail text)
  fails text ws w vs t h = subst (λ us. Answers w (operate head (op.Fail text) us)) (sym (none ws vs t.0 h)) tt
