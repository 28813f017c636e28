-- What code has to do for a stack, and that writes to free slots leave it as it is.
use Rattle.std.proofs.Common.{◌≡◌, ℕ, zero, suc, ◌+◌, ◌<◌, ◌≤◌, ◌⊎◌, inl, inr, refl, sym, ap, ◌∙◌, subst, List, [], ◌∷◌, ◌++◌, Option, Some, None, arith as arithmetic}
use Rattle.std.specs.Prelude.{slice_get}
use Rattle.mo_values.specs.Shapes.{unit}
use Rattle.core_ir.specs.declared.code.Operand.{Operand}
use Rattle.core_ir.specs.declared.code.Operand.TheVariants.{Slot, Captured, Member, Global, Constant}
use Rattle.core_ir.specs.Choices.{nth, filled}
use Rattle.core_ir.specs.Values.{Value}
use Rattle.core_ir.specs.Expressions.{Exp}
use Rattle.core_ir.specs.CoreMachine as core
use Rattle.core_ir.specs.CoreMachine.{Arguments, Looping, Labelled, Trying, Join, Eval, Give}
use Rattle.core_ir.specs.Code.{Code, Stop, Branch, Leave, Return}
use Rattle.core_ir.specs.CodeMachine as code
use Rattle.core_ir.specs.CodeMachine.{Around, Within, Again, Place, settle, value, values, put, branch, onto, by_way, raise}
use Rattle.core_laws.specs.Around.{Kind, Other, LabelHere, LabelAt, HandlerHere, HandlerAt, AllFar}
use Rattle.core_laws.specs.Slots.{operands, count, slot}
use Rattle.core_laws.specs.Splits.{Splits, SplitsAll, SplitsGoal}

-- where a value is wanted: in a slot, in none, or where an operand reads it
pub data Dest : Type 0 where
  To : (t : Option ℕ) → Dest
  Via : (a : Operand) → Dest

abbrev pub At : Dest → Operand → Type 0
At (To None) o = ⊥
At (To (Some t)) o = o ≡ Slot t
At (Via a) o = o ≡ a

-- an operand that does not read this slot, or that reads slots below
abbrev pub Apart : ℕ → Operand → Type 0
Apart u (Slot x) = x ≡ u → ⊥
Apart u (Captured x) = Unit {0}
Apart u (Member m) = Unit {0}
Apart u (Global i) = Unit {0}
Apart u (Constant l) = Unit {0}

abbrev pub Below : ℕ → Operand → Type 0
Below h (Slot x) = x < h
Below h (Captured x) = Unit {0}
Below h (Member m) = Unit {0}
Below h (Global i) = Unit {0}
Below h (Constant l) = Unit {0}

abbrev pub ApartL : ℕ → List Operand → Type 0
ApartL u [] = Unit {0}
ApartL u (x ∷ xs) = Apart u x × ApartL u xs

abbrev pub BelowL : ℕ → List Operand → Type 0
BelowL h [] = Unit {0}
BelowL h (x ∷ xs) = Below h x × BelowL h xs

pub apart_of : (h u : ℕ) (a : Operand) → h ≤ u → Below h a → Apart u a
apart_of h u (Slot x) l b = λ e. absurd (omega (arithmetic, e, l, b))
apart_of h u (Captured x) l b = tt
apart_of h u (Member m) l b = tt
apart_of h u (Global i) l b = tt
apart_of h u (Constant k) l b = tt

pub apart_all : (h u : ℕ) (xs : List Operand) → h ≤ u → BelowL h xs → ApartL u xs
apart_all h u [] l b = tt
apart_all h u (x ∷ xs) l b = (apart_of h u x l (b.0), apart_all h u xs l (b.1))

pub fill_other : (d : Value) (s : List Value) (u x : ℕ) (v : Value) → (x ≡ u → ⊥) → nth d (filled d s u v) x ≡ nth d s x
fill_other d [] zero zero v h = absurd (h refl)
fill_other d [] zero (suc x) v h = refl
fill_other d [] (suc u) zero v h = refl
fill_other d [] (suc u) (suc x) v h = fill_other d [] u x v (λ e. h (ap suc e))
fill_other d (y ∷ s) zero zero v h = absurd (h refl)
fill_other d (y ∷ s) zero (suc x) v h = refl
fill_other d (y ∷ s) (suc u) zero v h = refl
fill_other d (y ∷ s) (suc u) (suc x) v h = fill_other d s u x v (λ e. h (ap suc e))

pub fill_same : (d : Value) (s : List Value) (u : ℕ) (v : Value) → nth d (filled d s u v) u ≡ v
fill_same d [] zero v = refl
fill_same d [] (suc u) v = fill_same d [] u v
fill_same d (y ∷ s) zero v = refl
fill_same d (y ∷ s) (suc u) v = fill_same d s u v

module _ (sizes : ℕ → ℕ) (globals : List Value) (nodes : ℕ) where
  pub value_put : (f : code.Frame) (u : ℕ) (v : Value) (a : Operand) → Apart u a → value globals (put f u v) a ≡ value globals f a
  value_put f u v (Slot x) h = fill_other unit f.slots u x v h
  value_put f u v (Captured x) h = refl
  value_put f u v (Member m) h = refl
  value_put f u v (Global i) h = refl
  value_put f u v (Constant l) h = refl

  pub values_put : (f : code.Frame) (u : ℕ) (v : Value) (xs : List Operand) → ApartL u xs → values globals (put f u v) xs ≡ values globals f xs
  values_put f u v [] h = refl
  values_put f u v (x ∷ xs) h = cc (value_put f u v x (h.0), values_put f u v xs (h.1))

  -- the slot that takes the result is none of those that are read
  abbrev pub Clear : Option ℕ → ℕ → List Operand → Type 0
  Clear t h ns = (u : ℕ) → t ≡ Some u → (u < h) × ApartL u ns

  -- what is whole is ended by its last instruction; what is cut goes on in a segment
  module _ (segs : List Code) (ls : List Kind) (c : Code) (ks : List Around) (kinds : List Kind) (around : List Around) (n : Code) where
    abbrev pub LoopKind : Code → Type 0
    LoopKind m = (record { here : ls ≡ Other ∷ kinds; is : c ≡ Branch 0; within : ks ≡ Again m n ∷ around }) ⊎ (record { j : ℕ; here : ls ≡ kinds; is : c ≡ Leave j; at : slice_get segs j ≡ Some m; far : AllFar kinds })

    abbrev pub LabelKind : Option ℕ → ℕ → ℕ → Type 0
    LabelKind t r q = (record { here : ls ≡ LabelHere t ∷ kinds; is : c ≡ Stop; within : ks ≡ Within n ∷ around; less : r ≤ q }) ⊎ (record { j : ℕ; here : ls ≡ LabelAt j t ∷ kinds; is : c ≡ Leave j; at : slice_get segs j ≡ Some n; far : AllFar kinds; less : suc r ≤ q })

    abbrev pub JoinKind : ℕ → ℕ → Type 0
    JoinKind r q = (record { here : ls ≡ Other ∷ kinds; is : c ≡ Stop; within : ks ≡ Within n ∷ around; less : r ≤ q }) ⊎ (record { j : ℕ; here : ls ≡ kinds; is : c ≡ Leave j; at : slice_get segs j ≡ Some n; far : AllFar kinds; less : suc r ≤ q })

    abbrev pub TryKind : Exp → Option ℕ → ℕ → List Operand → Code → Type 0
    TryKind b t s ns m = (record { here : ls ≡ HandlerHere s ∷ Other ∷ kinds; is : c ≡ Branch 1; within : ks ≡ Within m ∷ Within n ∷ around; caught : Splits sizes segs b t (suc s) (Slot s ∷ ns) (Other ∷ kinds) Stop m }) ⊎ (record { j : ℕ; i : ℕ; here : ls ≡ HandlerAt i s ∷ kinds; is : c ≡ Leave j; at : slice_get segs j ≡ Some n; there : slice_get segs i ≡ Some m; far : AllFar kinds; caught : Splits sizes segs b t (suc s) (Slot s ∷ ns) kinds (Leave j) m })

    label_more : (t : Option ℕ) (r q q' : ℕ) → q ≤ q' → LabelKind t r q → LabelKind t r q'
    label_more t r q q' b (inl y) = let l = y.less in inl (record { here = y.here; is = y.is; within = y.within; less = omega (arithmetic, b, l) })
    label_more t r q q' b (inr y) = let l = y.less in inr (record { j = y.j; here = y.here; is = y.is; at = y.at; far = y.far; less = omega (arithmetic, b, l) })

    join_more : (r q q' : ℕ) → q ≤ q' → JoinKind r q → JoinKind r q'
    join_more r q q' b (inl y) = let l = y.less in inl (record { here = y.here; is = y.is; within = y.within; less = omega (arithmetic, b, l) })
    join_more r q q' b (inr y) = let l = y.less in inr (record { j = y.j; here = y.here; is = y.is; at = y.at; far = y.far; less = omega (arithmetic, b, l) })

  module _ (segs : List Code) (ls : List Kind) (c : Code) (ks ks' : List Around) (kinds : List Kind) (around : List Around) (n : Code) (a : AllFar ls) where
    loop_far : (m : Code) → LoopKind segs ls c ks kinds around n m → LoopKind segs ls c ks' kinds around n m
    loop_far m (inl y) = absurd (subst AllFar y.here a)
    loop_far m (inr y) = inr y

    label_far : (t : Option ℕ) (r q : ℕ) → LabelKind segs ls c ks kinds around n t r q → LabelKind segs ls c ks' kinds around n t r q
    label_far t r q (inl y) = absurd (subst AllFar y.here a)
    label_far t r q (inr y) = inr y

    join_far : (r q : ℕ) → JoinKind segs ls c ks kinds around n r q → JoinKind segs ls c ks' kinds around n r q
    join_far r q (inl y) = absurd (subst AllFar y.here a)
    join_far r q (inr y) = inr y

    try_far : (b : Exp) (t : Option ℕ) (s : ℕ) (ns : List Operand) (m : Code) → TryKind segs ls c ks kinds around n b t s ns m → TryKind segs ls c ks' kinds around n b t s ns m
    try_far b t s ns m (inl y) = absurd (subst AllFar y.here a)
    try_far b t s ns m (inr y) = inr y

  -- c, with these constructs around, does with the value what the stack has to do; slots from h on are free, and the weight
  -- q is held for the jumps that leave what was cut
  abbrev pub Cont : List core.Frame → Dest → ℕ → List Kind → Code → List Around → code.Frame → List code.Caller → ℕ → Type 0
  Cont [] D h ls c ks f cs q = record { o : Operand; at : At D o; is : c ≡ Return o; outer : cs ≡ []; top : ls ≡ []; deep : f.body.nodes ≡ nodes }
  Cont (core.Caller n gt ∷ k) D h ls c ks f [] q = ⊥
  Cont (core.Caller n gt ∷ k) D h ls c ks f (l ∷ cs) q =
      record { o : Operand; at : At D o; is : c ≡ Return o; deep : f.body.nodes ≡ n; same : l.gathering ≡ gt; t : Option ℕ; free : ℕ; to : l.to ≡ slot t free; kinds : List Kind; r : ℕ; less : r ≤ q; outer : Cont k (To t) free kinds l.rest l.around l.frame cs r }
  Cont (Arguments goal done es env ∷ k) D h ls c ks f cs q =
      record { base : ℕ; here : ℕ; g : ℕ; ns : List Operand; xs : List Operand; o : Operand; t : Option ℕ; m : Code; n : Code; at : At D o; low : base ≤ here; room : suc here + count es ≤ g; free : suc here ≤ h; mine : (u : ℕ) → D ≡ To (Some u) → u ≡ here; small : Below (suc here) o; scope : values globals f ns ≡ env; below : BelowL base ns; ready : values globals f xs ≡ done; before : BelowL here xs; clear : Clear t base ns; apart : (u : ℕ) → t ≡ Some u → ApartL u (xs ++ o ∷ []); goal_is : SplitsGoal sizes f.body.segments goal (xs ++ o ∷ operands ns es (suc here)) t g ns ls n m; rest_is : SplitsAll sizes f.body.segments es (suc here) ns ls m c; r : ℕ; less : r ≤ q; outer : Cont k (To t) base ls n ks f cs r }
  Cont (Looping b env ∷ k) D h ls c ks f cs q =
      record { none : D ≡ To None; base : ℕ; ns : List Operand; low : base ≤ h; scope : values globals f ns ≡ env; below : BelowL base ns; t : Option ℕ; kinds : List Kind; around : List Around; n : Code; m : Code; body : Splits sizes f.body.segments b None base ns ls c m; r : ℕ; less : r ≤ q; outer : Cont k (To t) base kinds n around f cs r; kind : LoopKind f.body.segments ls c ks kinds around n m }
  Cont (Labelled ∷ k) D h ls c ks f cs q =
      record { t : Option ℕ; some : D ≡ To t; base : ℕ; low : base ≤ h; kinds : List Kind; around : List Around; n : Code; r : ℕ; outer : Cont k (To t) base kinds n around f cs r; kind : LabelKind f.body.segments ls c ks kinds around n t r q }
  Cont (Trying b env ∷ k) D h ls c ks f cs q =
      record { t : Option ℕ; some : D ≡ To t; base : ℕ; s : ℕ; low : base ≤ s; free : suc s ≤ h; ns : List Operand; scope : values globals f ns ≡ env; below : BelowL base ns; clear : Clear t base ns; kinds : List Kind; around : List Around; n : Code; m : Code; r : ℕ; less : r ≤ q; outer : Cont k (To t) base kinds n around f cs r; kind : TryKind f.body.segments ls c ks kinds around n b t s ns m }
  Cont (Join ∷ k) D h ls c ks f cs q =
      record { t : Option ℕ; some : D ≡ To t; base : ℕ; low : base ≤ h; kinds : List Kind; around : List Around; n : Code; r : ℕ; outer : Cont k (To t) base kinds n around f cs r; kind : JoinKind f.body.segments ls c ks kinds around n r q }

  abbrev pub Free : ℕ → Dest → ℕ → Type 0
  Free u D h = (h ≤ u) ⊎ (D ≡ To (Some u))

  pass : (D : Dest) (h u : ℕ) (t : Option ℕ) (base : ℕ) → D ≡ To t → base ≤ h → Free u D h → Free u (To t) base
  pass D h u t base e b (inl l) = inl (omega (arithmetic, l, b))
  pass D h u t base e b (inr i) = inr (sym e ∙ i)

  on_arg : (D : Dest) (h u here : ℕ) → Free u D h → suc here ≤ h → ((u : ℕ) → D ≡ To (Some u) → u ≡ here) → here ≤ u
  on_arg D h u here (inl l) a b = omega (arithmetic, l, a)
  on_arg D h u here (inr e) a b = let z = b u e in omega (arithmetic, z)

  on_none : (D : Dest) (h u base : ℕ) → Free u D h → D ≡ To None → base ≤ h → base ≤ u
  on_none D h u base (inl l) e b = omega (arithmetic, l, b)
  on_none D h u base (inr i) e b = absurd (let z : To (Some u) ≡ To None = sym i ∙ e in cc)

  away : (D : Dest) (h u : ℕ) (t : Option ℕ) (base s : ℕ) (ns : List Operand) → D ≡ To t → base ≤ s → suc s ≤ h → BelowL base ns → Clear t base ns → Free u D h → ApartL u ns
  away D h u t base y ns e b s n a (inl l) = apart_all base u ns (omega (arithmetic, l, b, s)) n
  away D h u t base y ns e b s n a (inr i) = (a u (let z : To t ≡ To (Some u) = sym e ∙ i in cc)).1

  -- a write to a free slot, or to the one that is to take the value, changes nothing
  pub stable : (k : List core.Frame) (D : Dest) (h : ℕ) (ls : List Kind) (c : Code) (ks : List Around) (f : code.Frame) (cs : List code.Caller) (q : ℕ) (u : ℕ) (v : Value) → Free u D h → Cont k D h ls c ks f cs q → Cont k D h ls c ks (put f u v) cs q
  stable [] D h ls c ks f cs q u v w x = x
  stable (core.Caller n gt ∷ k) D h ls c ks f [] q u v w x = absurd x
  stable (core.Caller n gt ∷ k) D h ls c ks f (l ∷ cs) q u v w x = x
  stable (Arguments goal done es env ∷ k) D h ls c ks f cs q u v w x =
      let l = x.low in
      let above : x.here ≤ u = on_arg D h u x.here w (x.free) (x.mine) in
      let over : x.base ≤ u = omega (arithmetic, above, l) in
      record { base = x.base; here = x.here; g = x.g; ns = x.ns; xs = x.xs; o = x.o; t = x.t; m = x.m; n = x.n; at = x.at; low = x.low; room = x.room; free = x.free; mine = x.mine; small = x.small; scope = values_put f u v x.ns (apart_all x.base u x.ns over x.below) ∙ x.scope; below = x.below; ready = values_put f u v x.xs (apart_all x.here u x.xs above x.before) ∙ x.ready; before = x.before; clear = x.clear; apart = x.apart; goal_is = x.goal_is; rest_is = x.rest_is; r = x.r; less = x.less; outer = stable k (To x.t) x.base ls x.n ks f cs x.r u v (inl over) x.outer }
  stable (Looping b env ∷ k) D h ls c ks f cs q u v w x =
      let above : x.base ≤ u = on_none D h u x.base w x.none x.low in
      record { none = x.none; base = x.base; ns = x.ns; low = x.low; scope = values_put f u v x.ns (apart_all x.base u x.ns above x.below) ∙ x.scope; below = x.below; t = x.t; kinds = x.kinds; around = x.around; n = x.n; m = x.m; body = x.body; r = x.r; less = x.less; outer = stable k (To x.t) x.base x.kinds x.n x.around f cs x.r u v (inl above) x.outer; kind = x.kind }
  stable (Labelled ∷ k) D h ls c ks f cs q u v w x =
      record { t = x.t; some = x.some; base = x.base; low = x.low; kinds = x.kinds; around = x.around; n = x.n; r = x.r; outer = stable k (To x.t) x.base x.kinds x.n x.around f cs x.r u v (pass D h u x.t x.base x.some x.low w) x.outer; kind = x.kind }
  stable (Join ∷ k) D h ls c ks f cs q u v w x =
      record { t = x.t; some = x.some; base = x.base; low = x.low; kinds = x.kinds; around = x.around; n = x.n; r = x.r; outer = stable k (To x.t) x.base x.kinds x.n x.around f cs x.r u v (pass D h u x.t x.base x.some x.low w) x.outer; kind = x.kind }
  stable (Trying b env ∷ k) D h ls c ks f cs q u v w x =
      let l = x.low in
      let i = x.free in
      record { t = x.t; some = x.some; base = x.base; s = x.s; low = x.low; free = x.free; ns = x.ns; scope = values_put f u v x.ns (away D h u x.t x.base x.s x.ns x.some x.low x.free x.below x.clear w) ∙ x.scope; below = x.below; clear = x.clear; kinds = x.kinds; around = x.around; n = x.n; m = x.m; r = x.r; less = x.less; outer = stable k (To x.t) x.base x.kinds x.n x.around f cs x.r u v (pass D h u x.t x.base x.some (omega (arithmetic, l, i)) w) x.outer; kind = x.kind }

  -- more slots are taken, more weight is held
  pub weaken : (k : List core.Frame) (D : Dest) (h h' : ℕ) (ls : List Kind) (c : Code) (ks : List Around) (f : code.Frame) (cs : List code.Caller) (q q' : ℕ) → h ≤ h' → q ≤ q' → Cont k D h ls c ks f cs q → Cont k D h' ls c ks f cs q'
  weaken [] D h h' ls c ks f cs q q' a b x = x
  weaken (core.Caller n gt ∷ k) D h h' ls c ks f [] q q' a b x = absurd x
  weaken (core.Caller n gt ∷ k) D h h' ls c ks f (l ∷ cs) q q' a b x = let y = x.less in record { o = x.o; at = x.at; is = x.is; deep = x.deep; same = x.same; t = x.t; free = x.free; to = x.to; kinds = x.kinds; r = x.r; less = omega (arithmetic, b, y); outer = x.outer }
  weaken (Arguments goal done es env ∷ k) D h h' ls c ks f cs q q' a b x =
      let y = x.less in
      let z = x.free in
      record { base = x.base; here = x.here; g = x.g; ns = x.ns; xs = x.xs; o = x.o; t = x.t; m = x.m; n = x.n; at = x.at; low = x.low; room = x.room; free = omega (arithmetic, a, z); mine = x.mine; small = x.small; scope = x.scope; below = x.below; ready = x.ready; before = x.before; clear = x.clear; apart = x.apart; goal_is = x.goal_is; rest_is = x.rest_is; r = x.r; less = omega (arithmetic, b, y); outer = x.outer }
  weaken (Looping e env ∷ k) D h h' ls c ks f cs q q' a b x =
      let y = x.less in
      let z = x.low in
      record { none = x.none; base = x.base; ns = x.ns; low = omega (arithmetic, a, z); scope = x.scope; below = x.below; t = x.t; kinds = x.kinds; around = x.around; n = x.n; m = x.m; body = x.body; r = x.r; less = omega (arithmetic, b, y); outer = x.outer; kind = x.kind }
  weaken (Labelled ∷ k) D h h' ls c ks f cs q q' a b x =
      let z = x.low in
      record { t = x.t; some = x.some; base = x.base; low = omega (arithmetic, a, z); kinds = x.kinds; around = x.around; n = x.n; r = x.r; outer = x.outer; kind = label_more f.body.segments ls c ks x.kinds x.around x.n x.t x.r q q' b x.kind }
  weaken (Join ∷ k) D h h' ls c ks f cs q q' a b x =
      let z = x.low in
      record { t = x.t; some = x.some; base = x.base; low = omega (arithmetic, a, z); kinds = x.kinds; around = x.around; n = x.n; r = x.r; outer = x.outer; kind = join_more f.body.segments ls c ks x.kinds x.around x.n x.r q q' b x.kind }
  weaken (Trying e env ∷ k) D h h' ls c ks f cs q q' a b x =
      let y = x.less in
      let z = x.free in
      record { t = x.t; some = x.some; base = x.base; s = x.s; low = x.low; free = omega (arithmetic, a, z); ns = x.ns; scope = x.scope; below = x.below; clear = x.clear; kinds = x.kinds; around = x.around; n = x.n; m = x.m; r = x.r; less = omega (arithmetic, b, y); outer = x.outer; kind = x.kind }

  -- where nothing of this segment stands around, what the machine has around does not matter
  pub far_any : (k : List core.Frame) (D : Dest) (h : ℕ) (ls : List Kind) (c : Code) (ks ks' : List Around) (f : code.Frame) (cs : List code.Caller) (q : ℕ) → AllFar ls → Cont k D h ls c ks f cs q → Cont k D h ls c ks' f cs q
  far_any [] D h ls c ks ks' f cs q a x = x
  far_any (core.Caller n gt ∷ k) D h ls c ks ks' f [] q a x = absurd x
  far_any (core.Caller n gt ∷ k) D h ls c ks ks' f (l ∷ cs) q a x = x
  far_any (Arguments goal done es env ∷ k) D h ls c ks ks' f cs q a x = record { base = x.base; here = x.here; g = x.g; ns = x.ns; xs = x.xs; o = x.o; t = x.t; m = x.m; n = x.n; at = x.at; low = x.low; room = x.room; free = x.free; mine = x.mine; small = x.small; scope = x.scope; below = x.below; ready = x.ready; before = x.before; clear = x.clear; apart = x.apart; goal_is = x.goal_is; rest_is = x.rest_is; r = x.r; less = x.less; outer = far_any k (To x.t) x.base ls x.n ks ks' f cs x.r a x.outer }
  far_any (Looping b env ∷ k) D h ls c ks ks' f cs q a x =
      record { none = x.none; base = x.base; ns = x.ns; low = x.low; scope = x.scope; below = x.below; t = x.t; kinds = x.kinds; around = x.around; n = x.n; m = x.m; body = x.body; r = x.r; less = x.less; outer = x.outer; kind = loop_far f.body.segments ls c ks ks' x.kinds x.around x.n a x.m x.kind }
  far_any (Labelled ∷ k) D h ls c ks ks' f cs q a x =
      record { t = x.t; some = x.some; base = x.base; low = x.low; kinds = x.kinds; around = x.around; n = x.n; r = x.r; outer = x.outer; kind = label_far f.body.segments ls c ks ks' x.kinds x.around x.n a x.t x.r q x.kind }
  far_any (Trying b env ∷ k) D h ls c ks ks' f cs q a x =
      record { t = x.t; some = x.some; base = x.base; s = x.s; low = x.low; free = x.free; ns = x.ns; scope = x.scope; below = x.below; clear = x.clear; kinds = x.kinds; around = x.around; n = x.n; m = x.m; r = x.r; less = x.less; outer = x.outer; kind = try_far f.body.segments ls c ks ks' x.kinds x.around x.n a b x.t x.s x.ns x.m x.kind }
  far_any (Join ∷ k) D h ls c ks ks' f cs q a x =
      record { t = x.t; some = x.some; base = x.base; low = x.low; kinds = x.kinds; around = x.around; n = x.n; r = x.r; outer = x.outer; kind = join_far f.body.segments ls c ks ks' x.kinds x.around x.n a x.r q x.kind }

  -- the frames of both are as deep
  pub as_deep : (k : List core.Frame) (D : Dest) (h : ℕ) (ls : List Kind) (c : Code) (ks : List Around) (f : code.Frame) (cs : List code.Caller) (q : ℕ) → Cont k D h ls c ks f cs q → f.body.nodes + code.depth_of cs ≡ nodes + core.depth_of k
  as_deep [] D h ls c ks f cs q x = cc (x.deep, x.outer)
  as_deep (core.Caller n gt ∷ k) D h ls c ks f [] q x = absurd x
  as_deep (core.Caller n gt ∷ k) D h ls c ks f (l ∷ cs) q x =
      let y = as_deep k (To x.t) x.free x.kinds l.rest l.around l.frame cs x.r x.outer in
      let z = x.deep in
      omega (arithmetic, y, z)
  as_deep (Arguments goal done es env ∷ k) D h ls c ks f cs q x = as_deep k (To x.t) x.base ls x.n ks f cs x.r x.outer
  as_deep (Looping b env ∷ k) D h ls c ks f cs q x = as_deep k (To x.t) x.base x.kinds x.n x.around f cs x.r x.outer
  as_deep (Labelled ∷ k) D h ls c ks f cs q x = as_deep k (To x.t) x.base x.kinds x.n x.around f cs x.r x.outer
  as_deep (Trying b env ∷ k) D h ls c ks f cs q x = as_deep k (To x.t) x.base x.kinds x.n x.around f cs x.r x.outer
  as_deep (Join ∷ k) D h ls c ks f cs q x = as_deep k (To x.t) x.base x.kinds x.n x.around f cs x.r x.outer
