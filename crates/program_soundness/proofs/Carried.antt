-- Types whose values go into messages have the same values where a program runs as they have in its graph.
use Rattle.std.proofs.Common.{◌≡◌, ◌≤◌, inl, inr, ℕ, zero, suc, List, [], ◌∷◌, map, length, Bool, true, false, refl, sym, subst, arith, Some}
use Rattle.std.specs.Prelude.{nat_eq, nat_lt, if◌then◌else◌}
use Rattle.std.specs.Cmp.Lexicographic.{pointwise}
use Rattle.std.proofs.lemmas.Bool.{ltb-true}
use Rattle.mo_types.specs.declared.datum.Datum.{Datum}
use Rattle.mo_types.specs.declared.datum.Datum.TheVariants as part
use Rattle.mo_types.specs.declared.node.Field.{Field}
use Rattle.mo_types.specs.declared.node.Node.{Node}
use Rattle.mo_types.specs.declared.node.Node.TheVariants as node
use Rattle.mo_types.specs.declared.node.Sort.TheVariants as sort
use Rattle.mo_types.specs.declared.node.TypeId.{TypeId}
use Rattle.mo_types.specs.Graph.{Slot, head_at}
use Rattle.mo_types.specs.Sub.{Each, find}
use Rattle.mo_types.specs.Values.{IsPartOf, copies}
use Rattle.mo_values.specs.Messages.{count}
use Rattle.mo_values.specs.Shapes.{Bytes, Head, Leaf, Present, Tuple, Array, Object, Tag, Error, Cell, Future}
use Rattle.typed_tree.specs.Has.{RootOf, wants, field_want, tag_want, by_mutability}
use Rattle.typed_tree.specs.Instances.{types_in, field_types}
use Rattle.typed_tree.specs.Language.{Value, Values, Made, Function, BuiltIn, NoValue, AValue}
use Rattle.typed_tree.specs.Opening.{Closed, BuiltInCode, shapes_of}
use Rattle.typed_tree.specs.Shareable.{HasShareableForm, Shares, IsShareable}
use Rattle.typed_tree.specs.Types.{AreLawful}
use Rattle.typed_tree.specs.Wants.{Want, Anything, Of, CellOf, FutureOf, KeptOf, Generic}
use Rattle.closed_rules.proofs.Constants.{stays, parts_constant, head_stays}
use Rattle.closed_rules.proofs.Equality.{beyond}
use Rattle.mo_soundness.specs.Keeps.{HasEach}
use Rattle.mo_soundness.specs.Running.{AnswerTypes, Callable, plain, Fits, HasValue, HaveValues, FunctionOf}
use Rattle.mo_soundness.specs.Worlds.{World, plain_world}
use Rattle.program_soundness.specs.Worlds.{running, IsCarried, kept_type}

-- ---- what fits a form that goes into messages does so whatever types futures have

module _ (answers : AnswerTypes) (a b : TypeId → Node TypeId) where
  future_over : (x : Node TypeId) (call : ℕ) → HasShareableForm x → RootOf a (plain a answers) [] x (Future call) → RootOf b (plain b answers) [] x (Future call)
  future_over (node.Async t) call s r = absurd s
  future_over x call s r = absurd r

  root_over : (x : Node TypeId) (h : Head) → HasShareableForm x → RootOf a (plain a answers) [] x h → RootOf b (plain b answers) [] x h
  root_over x (Leaf p) s r = r
  root_over x Present s r = r
  root_over x Tuple s r = r
  root_over x Array s r = r
  root_over x (Object ls) s r = r
  root_over x (Tag l) s r = r
  root_over x (Error c m) s r = r
  root_over x (Cell at) s r = r
  root_over x (Future call) s r = future_over x call s r

  fits_over : (x : Node TypeId) (h : Head) → HasShareableForm x → Fits a answers x h → Fits b answers x h
  fits_over node.Any h s f = f
  fits_over (node.Variable v t) h s f = absurd f
  fits_over x h s f = root_over x h s f

callable_over : (x : Node TypeId) (P Q : Type 0) → HasShareableForm x → Callable x P → Callable x Q
callable_over node.Any P Q s c = tt
callable_over (node.Func sort.Local ps rs) P Q s c = absurd (s refl)
callable_over x P Q s c = absurd c

-- ---- what is asked of the values inside

module _ (types : List Slot) where
  abbrev WantCarried : Want TypeId → Type 0
  WantCarried Anything = Unit {0}
  WantCarried (Of t) = IsCarried types t
  WantCarried w = ⊥

  any_copies : (n : ℕ) → Each WantCarried (copies n Anything)
  any_copies zero = tt
  any_copies (suc n) = (tt, any_copies n)

  type_copies : (n : ℕ) (t : TypeId) → IsCarried types t → Each WantCarried (copies n (Of t))
  type_copies zero t c = tt
  type_copies (suc n) t c = (c, type_copies n t c)

  types_carried : (ts : List TypeId) → Each (IsCarried types) ts → Each WantCarried (map (λ t. Of t) ts)
  types_carried [] h = tt
  types_carried (t ∷ ts) h = (h.0, types_carried ts h.1)

  any_labels : (ls : List Bytes) → Each WantCarried (map (λ l. Anything) ls)
  any_labels [] = tt
  any_labels (l ∷ ls) = (tt, any_labels ls)

  field_carried : (l : Bytes) (fs : List (Field TypeId)) → Each (λ f. f.mutable ≡ false) fs → Each (IsCarried types) (field_types fs) → WantCarried (field_want (find l fs))
  field_carried l [] m h = tt
  field_carried l (f ∷ fs) m h = by (pointwise nat_eq f.label l) (field_carried l fs m.1 h.1) where
    by : (b : Bool) → WantCarried (field_want (find l fs)) → WantCarried (field_want (if b then Some f else find l fs))
    by true k = subst (λ b. WantCarried (by_mutability b f.part)) (sym m.0) h.0
    by false k = k

  fields_carried : (ls : List Bytes) (fs : List (Field TypeId)) → Each (λ f. f.mutable ≡ false) fs → Each (IsCarried types) (field_types fs) → Each WantCarried (map (λ l. field_want (find l fs)) ls)
  fields_carried [] fs m h = tt
  fields_carried (l ∷ ls) fs m h = (field_carried l fs m h, fields_carried ls fs m h)

  tag_carried : (l : Bytes) (fs : List (Field TypeId)) → Each (IsCarried types) (field_types fs) → WantCarried (tag_want (find l fs))
  tag_carried l [] h = tt
  tag_carried l (f ∷ fs) h = by (pointwise nat_eq f.label l) (tag_carried l fs h.1) where
    by : (b : Bool) → WantCarried (tag_want (find l fs)) → WantCarried (tag_want (if b then Some f else find l fs))
    by true k = h.0
    by false k = k

  wants_carried : (x : Node TypeId) (h : Head) (n : ℕ) → HasShareableForm x → Each (IsCarried types) (types_in x) → Each WantCarried (wants h x n)
  wants_carried (node.Opt a) Present n s c = (c.0, tt)
  wants_carried x Present n s c = (tt, tt)
  wants_carried (node.Tuple ts) Tuple n s c = types_carried ts c
  wants_carried x Tuple n s c = any_copies n
  wants_carried (node.Array a) Array n s c = type_copies n a c.0
  wants_carried (node.MutArray a) Array n s c = absurd s
  wants_carried x Array n s c = any_copies n
  wants_carried (node.Object fs) (Object ls) n s c = fields_carried ls fs s c
  wants_carried x (Object ls) n s c = any_labels ls
  wants_carried (node.Variant fs) (Tag l) n s c = (tag_carried l fs c, tt)
  wants_carried x (Tag l) n s c = (tt, tt)
  wants_carried x (Leaf p) n s c = tt
  wants_carried x (Error code m) n s c = tt
  wants_carried x (Cell at) n s c = tt
  wants_carried x (Future call) n s c = tt

  pub all_shareable : (ts : List TypeId) → Each (IsCarried types) ts → Each (IsShareable (head_at types)) ts
  all_shareable [] h = tt
  all_shareable (t ∷ ts) h = (h.0.0, all_shareable ts h.1)

-- ---- the whole value

pub self_most : (n : ℕ) → n ≤ n
self_most n = omega arith

module _ (types : List Slot) (graph : AreLawful types) (answers : AnswerTypes) (kinds : List TypeId) where
  abbrev there : World
  there = plain_world (head_at types)

  form_of : (t : TypeId) → IsShareable (head_at types) t → HasShareableForm (head_at types t)
  unfolding Shares
  form_of t s = (s.by 1).0

  same_head : (t : TypeId) → IsCarried types t → (running types).head t ≡ head_at types t
  same_head t c = head_stays types (length types) (self_most (length types)) graph t c

  parts_of : (t : TypeId) → IsCarried types t → Each (IsCarried types) (types_in (head_at types t))
  parts_of t c = parts_constant types (length types) (self_most (length types)) graph t c

  mutual
    out : (v : Value) (w : Want TypeId) → WantCarried types w → HasValue (running types) answers kinds w v → HasValue there answers kinds w v
    out v Anything c h = tt
    out (Made k inner) (Of t) c h =
        let g = subst (λ (x : Node TypeId). Fits (running types).head answers x k × HaveValues (running types) answers kinds (wants k x (count (shapes_of inner))) inner) (same_head t c) h in
        let s = form_of t c.0 in
        (fits_over answers (running types).head (head_at types) (head_at types t) k s g.0, outs inner (wants k (head_at types t) (count (shapes_of inner))) (wants_carried types (head_at types t) k (count (shapes_of inner)) s (parts_of t c)) g.1)
    out (Function group which) (Of t) c h =
        callable_over (head_at types t) (FunctionOf (running types) answers kinds (Closed group which) t) (FunctionOf there answers kinds (Closed group which) t) (form_of t c.0)
        (subst (λ (x : Node TypeId). Callable x (FunctionOf (running types) answers kinds (Closed group which) t)) (same_head t c) h)
    out (BuiltIn m holds) (Of t) c h =
        callable_over (head_at types t) (FunctionOf (running types) answers kinds (BuiltInCode m holds) t) (FunctionOf there answers kinds (BuiltInCode m holds) t) (form_of t c.0)
        (subst (λ (x : Node TypeId). Callable x (FunctionOf (running types) answers kinds (BuiltInCode m holds) t)) (same_head t c) h)
    out v (CellOf t) c h = absurd c
    out v (FutureOf t) c h = absurd c
    out v (KeptOf t) c h = absurd c
    out v (Generic vs t) c h = absurd c

    outs : (vs : Values) (ws : List (Want TypeId)) → Each (WantCarried types) ws → HaveValues (running types) answers kinds ws vs → HaveValues there answers kinds ws vs
    outs NoValue [] c h = tt
    outs NoValue (w ∷ ws) c h = absurd h
    outs (AValue v vs) [] c h = absurd h
    outs (AValue v vs) (w ∷ ws) c h = (out v w c.0 h.0, outs vs ws c.1 h.1)

  mutual
    back : (v : Value) (w : Want TypeId) → WantCarried types w → HasValue there answers kinds w v → HasValue (running types) answers kinds w v
    back v Anything c h = tt
    back (Made k inner) (Of t) c h =
        let s = form_of t c.0 in
        subst (λ (x : Node TypeId). Fits (running types).head answers x k × HaveValues (running types) answers kinds (wants k x (count (shapes_of inner))) inner) (sym (same_head t c))
        (fits_over answers (head_at types) (running types).head (head_at types t) k s h.0, backs inner (wants k (head_at types t) (count (shapes_of inner))) (wants_carried types (head_at types t) k (count (shapes_of inner)) s (parts_of t c)) h.1)
    back (Function group which) (Of t) c h =
        subst (λ (x : Node TypeId). Callable x (FunctionOf (running types) answers kinds (Closed group which) t)) (sym (same_head t c))
        (callable_over (head_at types t) (FunctionOf there answers kinds (Closed group which) t) (FunctionOf (running types) answers kinds (Closed group which) t) (form_of t c.0) h)
    back (BuiltIn m holds) (Of t) c h =
        subst (λ (x : Node TypeId). Callable x (FunctionOf (running types) answers kinds (BuiltInCode m holds) t)) (sym (same_head t c))
        (callable_over (head_at types t) (FunctionOf there answers kinds (BuiltInCode m holds) t) (FunctionOf (running types) answers kinds (BuiltInCode m holds) t) (form_of t c.0) h)
    back v (CellOf t) c h = absurd c
    back v (FutureOf t) c h = absurd c
    back v (KeptOf t) c h = absurd c
    back v (Generic vs t) c h = absurd c

    backs : (vs : Values) (ws : List (Want TypeId)) → Each (WantCarried types) ws → HaveValues there answers kinds ws vs → HaveValues (running types) answers kinds ws vs
    backs NoValue [] c h = tt
    backs NoValue (w ∷ ws) c h = absurd h
    backs (AValue v vs) [] c h = absurd h
    backs (AValue v vs) (w ∷ ws) c h = (back v w c.0 h.0, backs vs ws c.1 h.1)

  pub out_each : (ts : List TypeId) (vs : List Value) → Each (IsCarried types) ts → HasEach (running types) answers kinds (map (λ t. Of t) ts) vs → HasEach there answers kinds (map (λ t. Of t) ts) vs
  out_each [] [] c h = tt
  out_each [] (v ∷ vs) c h = absurd h
  out_each (t ∷ ts) [] c h = absurd h
  out_each (t ∷ ts) (v ∷ vs) c h = (out v (Of t) c.0 h.0, out_each ts vs c.1 h.1)

  pub back_each : (ts : List TypeId) (vs : List Value) → Each (IsCarried types) ts → HasEach there answers kinds (map (λ t. Of t) ts) vs → HasEach (running types) answers kinds (map (λ t. Of t) ts) vs
  back_each [] [] c h = tt
  back_each [] (v ∷ vs) c h = absurd h
  back_each (t ∷ ts) [] c h = absurd h
  back_each (t ∷ ts) (v ∷ vs) c h = (back v (Of t) c.0 h.0, back_each ts vs c.1 h.1)

  -- ---- stable variables

  no_leaf : (p : Datum) → IsPartOf {A = TypeId} node.Bottom p → ⊥
  no_leaf part.Null h = h
  no_leaf p h = h

  none_fits : (head : TypeId → Node TypeId) (k : Head) → Fits head answers node.Bottom k → ⊥
  none_fits head (Leaf p) f = no_leaf p f.1
  none_fits head Array (inl f) = f
  none_fits head Array (inr f) = f
  none_fits head (Error c m) f = let z : false ≡ true = f.0 in absurd cc
  none_fits head k f = f

  -- None has no values
  none_has : (world : World) (t : TypeId) (v : Value) → world.head t ≡ node.Bottom → HasValue world answers kinds (Of t) v → ⊥
  none_has world t (Made k inner) e h = none_fits world.head k (subst (λ (x : Node TypeId). Fits world.head answers x k) e h.0)
  none_has world t (Function group which) e h = subst (λ (x : Node TypeId). Callable x (FunctionOf world answers kinds (Closed group which) t)) e h
  none_has world t (BuiltIn m holds) e h = subst (λ (x : Node TypeId). Callable x (FunctionOf world answers kinds (BuiltInCode m holds) t)) e h

  kept_same : (t : TypeId) → IsCarried types t → kept_type types t ≡ t
  kept_same t c = stays types (length types) (self_most (length types)) graph t c

  pub kept_out : (t : TypeId) (v : Value) → IsShareable (head_at types) t → HasValue (running types) answers kinds (Of (kept_type types t)) v → HasValue there answers kinds (Of t) v
  kept_out t v s h = by (nat_lt t.index (length types)) refl where
    by : (b : Bool) → nat_lt t.index (length types) ≡ b → HasValue there answers kinds (Of t) v
    by true e = let c : IsCarried types t = (s, ltb-true t.index (length types) e) in out v (Of t) c (subst (λ u. HasValue (running types) answers kinds (Of u) v) (kept_same t c) h)
    by false e = absurd (none_has (running types) (kept_type types t) v (beyond types (length types) (self_most (length types)) graph t e).1 h)

  pub kept_back : (t : TypeId) (v : Value) → IsShareable (head_at types) t → HasValue there answers kinds (Of t) v → HasValue (running types) answers kinds (Of (kept_type types t)) v
  kept_back t v s h = by (nat_lt t.index (length types)) refl where
    by : (b : Bool) → nat_lt t.index (length types) ≡ b → HasValue (running types) answers kinds (Of (kept_type types t)) v
    by true e = let c : IsCarried types t = (s, ltb-true t.index (length types) e) in subst (λ u. HasValue (running types) answers kinds (Of u) v) (sym (kept_same t c)) (back v (Of t) c h)
    by false e = absurd (none_has there t v (beyond types (length types) (self_most (length types)) graph t e).0 h)
