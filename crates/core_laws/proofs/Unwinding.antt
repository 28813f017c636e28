-- What becomes of an error, a break and a return: by recursion on the stack.
use Rattle.std.proofs.Common.{◌≡◌, ℕ, zero, suc, ◌+◌, ◌≤◌, ◌⊎◌, inl, inr, refl, ap, ◌∙◌, List, [], ◌∷◌, Option, Some, None, arith as arithmetic}
use Rattle.std.specs.Prelude.{slice_get}
use Rattle.mo_values.specs.Costs.{weighing}
use Rattle.mo_values.specs.Shapes.{unit}
use Rattle.core_ir.specs.declared.code.Operand.{Operand}
use Rattle.core_ir.specs.declared.code.Operand.TheVariants.{Slot, Captured, Member, Global, Constant}
use Rattle.core_ir.specs.declared.code.Way.{Way}
use Rattle.core_ir.specs.declared.code.Way.TheVariants.{Near, Far}
use Rattle.core_ir.specs.declared.code.Handler.{Handler}
use Rattle.core_ir.specs.Choices.{on_some}
use Rattle.core_ir.specs.Values.{Value}
use Rattle.core_ir.specs.Worlds.{World, Context}
use Rattle.core_ir.specs.Executions.{Replies, Rejects, Ends}
use Rattle.core_ir.specs.Gatherings.{Gathering}
use Rattle.core_ir.specs.Expressions as exp
use Rattle.core_ir.specs.Expressions.{Exp, Constant?, Name, Do, Exps, NoExp, AnExp, Goal, Core}
use Rattle.core_ir.specs.CoreMachine as core
use Rattle.core_ir.specs.CoreMachine.{Arguments, Looping, Labelled, Trying, Join, Eval, Give}
use Rattle.core_ir.specs.Code.{Code, Stop, Leave}
use Rattle.core_ir.specs.CodeMachine as code
use Rattle.core_ir.specs.CodeMachine.{Around, Within, Again, Place, settle, value, values, put, branch, onto, by_way, raise}
use Rattle.core_laws.specs.Around.{Kind, Other, LabelHere, HandlerHere, way, target, handler, farther, out_by, AllFar}
use Rattle.core_laws.specs.Slots.{slot}
use Rattle.core_laws.specs.Splits.{Splits}
use Rattle.core_laws.proofs.Continuations.{Dest, To, Below, BelowL, Clear, Cont, LoopKind, LabelKind, JoinKind, TryKind, stable, far_any, values_put, fill_same, apart_all}

abbrev pub slots_at : code.Frame → List Value → code.Frame
slots_at f sl = record { body = f.body; group = f.group; seen = f.seen; slots = sl }

-- a further construct around
by_out : (world : World) (w : Way) (k : Around) (ks : List Around) (f : code.Frame) (cs : List code.Caller) → by_way world (out_by w) (k ∷ ks) f cs ≡ by_way world w ks f cs
by_out world (Near n) k ks f cs = refl
by_out world (Far j) k ks f cs = refl

raise_out : (world : World) (v : Value) (h : Option Handler) (k : Around) (ks : List Around) (f : code.Frame) (cs : List code.Caller) → raise world v (farther h) (k ∷ ks) f cs ≡ raise world v h ks f cs
raise_out world v None k ks f cs = refl
raise_out world v (Some h) k ks f cs = by_out world h.way k ks (put f h.slot v) cs

pub on_there : (world : World) (j : ℕ) (c : Code) (f : code.Frame) (cs : List code.Caller) → slice_get f.body.segments j ≡ Some c → onto world j f cs ≡ code.go 1 world c [] f cs
on_there world j c f cs e = ap (λ o. on_some (code.stuck world) o (λ c. code.go 1 world c [] f cs)) e

module _ (sizes : ℕ → ℕ) (context : Context) (nodes : ℕ) (source : Core) where
  abbrev C : List core.Frame → Dest → ℕ → List Kind → Code → List Around → code.Frame → List code.Caller → ℕ → Type 0
  C = Cont sizes context.globals nodes

  abbrev pub Clr : Option ℕ → ℕ → List Operand → Type 0
  Clr = Clear sizes context.globals nodes

  abbrev pub stuck' : World → core.Did
  stuck' world = core.stuck source context nodes world

  abbrev pub go' : ℕ → World → core.Focus → List core.Frame → core.Did
  go' w world f k = core.go source context nodes w world f k

  -- what a break comes to
  abbrev pub Lands : World → ℕ → Value → List core.Frame → List Kind → List Around → code.Frame → List code.Caller → ℕ → Type 0
  Lands world l v k ls ks f cs q =
      (core.left source context nodes world l v k ≡ stuck' world) ⊎ record { to : List core.Frame; t : Option ℕ; base : ℕ; kinds : List Kind; n : Code; around : List Around; r : ℕ; is : core.left source context nodes world l v k ≡ go' 1 world (Give v) to; cont : C to (To t) base kinds n around f cs r; less : r ≤ q; slot_is : target ls l ≡ t; comes : (sl : List Value) → by_way world (way ls l) ks (slots_at f sl) cs ≡ code.go 1 world n around (slots_at f sl) cs }

  -- the same landing, seen from further in
  lands : (world : World) (l l' : ℕ) (v : Value) (k k' : List core.Frame) (ls ls' : List Kind) (ks ks' : List Around) (f : code.Frame) (cs : List code.Caller) (q q' : ℕ) → core.left source context nodes world l' v k' ≡ core.left source context nodes world l v k → q ≤ q' → target ls' l' ≡ target ls l → ((sl : List Value) → by_way world (way ls' l') ks' (slots_at f sl) cs ≡ by_way world (way ls l) ks (slots_at f sl) cs) → Lands world l v k ls ks f cs q → Lands world l' v k' ls' ks' f cs q'
  lands world l l' v k k' ls ls' ks ks' f cs q q' e le t w (inl s) = inl (e ∙ s)
  lands world l l' v k k' ls ls' ks ks' f cs q q' e le t w (inr x) =
      let y = x.less in
      inr (record { to = x.to; t = x.t; base = x.base; kinds = x.kinds; n = x.n; around = x.around; r = x.r; is = e ∙ x.is; cont = x.cont; less = omega (arithmetic, le, y); slot_is = t ∙ x.slot_is; comes = λ sl. w sl ∙ x.comes sl })

  abbrev IH : World → Value → List core.Frame → Type 0
  IH world v k =
      (l : ℕ) (D : Dest) (h : ℕ) (ls : List Kind) (c : Code) (ks : List Around) (f : code.Frame) (cs : List code.Caller) (q : ℕ) → C k D h ls c ks f cs q → Lands world l v k ls ks f cs q

  pub less_of : (r q : ℕ) → suc r ≤ q → r ≤ q
  less_of r q a = omega (arithmetic, a)

  module _ (world : World) (v : Value) (k : List core.Frame) (l l' : ℕ) (k' : List core.Frame) (e : core.left source context nodes world l' v k' ≡ core.left source context nodes world l v k) (ls : List Kind) (ks : List Around) (f : code.Frame) (cs : List code.Caller) (q r base : ℕ) (t : Option ℕ) (kinds : List Kind) (around : List Around) (n : Code) (le : r ≤ q) (outer : C k (To t) base kinds n around f cs r) (ih : IH world v k) where
    -- a construct that is whole
    whole : (x : Kind) (y : Around) → ls ≡ x ∷ kinds → ks ≡ y ∷ around → target (x ∷ kinds) l' ≡ target kinds l → way (x ∷ kinds) l' ≡ out_by (way kinds l) → Lands world l' v k' ls ks f cs q
    whole x y a b c d =
        lands world l l' v k k' kinds ls around ks f cs r q e le (ap (λ ls. target ls l') a ∙ c) (λ sl. (let z : by_way world (way ls l') ks (slots_at f sl) cs ≡ by_way world (out_by (way kinds l)) (y ∷ around) (slots_at f sl) cs = cc (a, b, d) in z) ∙ by_out world (way kinds l) y around (slots_at f sl) cs) (ih l (To t) base kinds n around f cs r outer)

    whole_two : (x x' : Kind) (y y' : Around) → ls ≡ x ∷ x' ∷ kinds → ks ≡ y ∷ y' ∷ around → target (x ∷ x' ∷ kinds) l' ≡ target kinds l → way (x ∷ x' ∷ kinds) l' ≡ out_by (out_by (way kinds l)) → Lands world l' v k' ls ks f cs q
    whole_two x x' y y' a b c d =
        lands world l l' v k k' kinds ls around ks f cs r q e le (ap (λ ls. target ls l') a ∙ c) (λ sl. (let z : by_way world (way ls l') ks (slots_at f sl) cs ≡ by_way world (out_by (out_by (way kinds l))) (y ∷ y' ∷ around) (slots_at f sl) cs = cc (a, b, d) in z) ∙ by_out world (out_by (way kinds l)) y (y' ∷ around) (slots_at f sl) cs ∙ by_out world (way kinds l) y' around (slots_at f sl) cs) (ih l (To t) base kinds n around f cs r outer)

    -- one that is cut
    cut : AllFar kinds → target ls l' ≡ target kinds l → way ls l' ≡ way kinds l → Lands world l' v k' ls ks f cs q
    cut far c d =
        lands world l l' v k k' kinds ls ks ks f cs r q e le c (λ sl. ap (λ w. by_way world w ks (slots_at f sl) cs) d) (ih l (To t) base kinds n ks f cs r (far_any sizes context.globals nodes k (To t) base kinds n around ks f cs r far outer))

  module _ (world : World) (v : Value) (k : List core.Frame) (l : ℕ) (k' : List core.Frame) (e : core.left source context nodes world l v k' ≡ core.left source context nodes world l v k) (ls : List Kind) (c : Code) (ks : List Around) (f : code.Frame) (cs : List code.Caller) (q r base : ℕ) (t : Option ℕ) (kinds : List Kind) (around : List Around) (n : Code) (outer : C k (To t) base kinds n around f cs r) (ih : IH world v k) where
    loop_lands : (m : Code) → r ≤ q → LoopKind sizes context.globals nodes f.body.segments ls c ks kinds around n m → Lands world l v k' ls ks f cs q
    loop_lands m le (inl y) = whole world v k l l k' e ls ks f cs q r base t kinds around n le outer ih Other (Again m n) y.here y.within refl refl
    loop_lands m le (inr y) = cut world v k l l k' e ls ks f cs q r base t kinds around n le outer ih y.far (ap (λ ls. target ls l) y.here) (ap (λ ls. way ls l) y.here)

    join_lands : JoinKind sizes context.globals nodes f.body.segments ls c ks kinds around n r q → Lands world l v k' ls ks f cs q
    join_lands (inl y) = whole world v k l l k' e ls ks f cs q r base t kinds around n y.less outer ih Other (Within n) y.here y.within refl refl
    join_lands (inr y) = cut world v k l l k' e ls ks f cs q r base t kinds around n (less_of r q y.less) outer ih y.far (ap (λ ls. target ls l) y.here) (ap (λ ls. way ls l) y.here)

    try_lands : (b : Exp) (s : ℕ) (ns : List Operand) (m : Code) → r ≤ q → TryKind sizes context.globals nodes f.body.segments ls c ks kinds around n b t s ns m → Lands world l v k' ls ks f cs q
    try_lands b s ns m le (inl y) = whole_two world v k l l k' e ls ks f cs q r base t kinds around n le outer ih (HandlerHere s) Other (Within m) (Within n) y.here y.within refl refl
    try_lands b s ns m le (inr y) = cut world v k l l k' e ls ks f cs q r base t kinds around n le outer ih y.far (ap (λ ls. target ls l) y.here) (ap (λ ls. way ls l) y.here)

  -- past a label
  label_lands : (world : World) (v : Value) (k : List core.Frame) (l : ℕ) (ls : List Kind) (c : Code) (ks : List Around) (f : code.Frame) (cs : List code.Caller) (q r base : ℕ) (t : Option ℕ) (kinds : List Kind) (around : List Around) (n : Code) → C k (To t) base kinds n around f cs r → IH world v k → LabelKind sizes context.globals nodes f.body.segments ls c ks kinds around n t r q → Lands world (suc l) v (Labelled ∷ k) ls ks f cs q
  label_lands world v k l ls c ks f cs q r base t kinds around n outer ih (inl y) = whole world v k l (suc l) (Labelled ∷ k) refl ls ks f cs q r base t kinds around n y.less outer ih (LabelHere t) (Within n) y.here y.within refl refl
  label_lands world v k l ls c ks f cs q r base t kinds around n outer ih (inr y) = cut world v k l (suc l) (Labelled ∷ k) refl ls ks f cs q r base t kinds around n (less_of r q y.less) outer ih y.far (ap (λ ls. target ls (suc l)) y.here) (ap (λ ls. way ls (suc l)) y.here)

  -- to a label
  here_lands : (world : World) (v : Value) (k : List core.Frame) (ls : List Kind) (c : Code) (ks : List Around) (f : code.Frame) (cs : List code.Caller) (q r base : ℕ) (t : Option ℕ) (kinds : List Kind) (around : List Around) (n : Code) → C k (To t) base kinds n around f cs r → LabelKind sizes context.globals nodes f.body.segments ls c ks kinds around n t r q → Lands world 0 v (Labelled ∷ k) ls ks f cs q
  here_lands world v k ls c ks f cs q r base t kinds around n outer (inl y) =
      inr (record { to = k; t = t; base = base; kinds = kinds; n = n; around = around; r = r; is = refl; cont = outer; less = y.less; slot_is = ap (λ ls. target ls 0) y.here; comes = λ sl. let z = y.here in let w = y.within in let g : by_way world (way ls 0) ks (slots_at f sl) cs ≡ by_way world (way (LabelHere t ∷ kinds) 0) (Within n ∷ around) (slots_at f sl) cs = cc (z, w) in g })
  here_lands world v k ls c ks f cs q r base t kinds around n outer (inr y) =
      inr (record { to = k; t = t; base = base; kinds = kinds; n = n; around = []; r = r; is = refl; cont = far_any sizes context.globals nodes k (To t) base kinds n around [] f cs r y.far outer; less = less_of r q y.less; slot_is = ap (λ ls. target ls 0) y.here; comes = λ sl. ap (λ ls. by_way world (way ls 0) ks (slots_at f sl) cs) y.here ∙ on_there world y.j n (slots_at f sl) cs y.at })

  pub left_lands : (world : World) (v : Value) (k : List core.Frame) (l : ℕ) (D : Dest) (h : ℕ) (ls : List Kind) (c : Code) (ks : List Around) (f : code.Frame) (cs : List code.Caller) (q : ℕ) → C k D h ls c ks f cs q → Lands world l v k ls ks f cs q
  left_lands world v [] l D h ls c ks f cs q x = inl refl
  left_lands world v (core.Caller n gt ∷ k) zero D h ls c ks f cs q x = inl refl
  left_lands world v (core.Caller n gt ∷ k) (suc l) D h ls c ks f cs q x = inl refl
  left_lands world v (Arguments goal done es env ∷ k) zero D h ls c ks f cs q x =
      lands world 0 0 v k (Arguments goal done es env ∷ k) ls ls ks ks f cs x.r q refl x.less refl (λ sl. refl) (left_lands world v k 0 (To x.t) x.base ls x.n ks f cs x.r x.outer)
  left_lands world v (Arguments goal done es env ∷ k) (suc l) D h ls c ks f cs q x =
      lands world (suc l) (suc l) v k (Arguments goal done es env ∷ k) ls ls ks ks f cs x.r q refl x.less refl (λ sl. refl) (left_lands world v k (suc l) (To x.t) x.base ls x.n ks f cs x.r x.outer)
  left_lands world v (Looping b env ∷ k) zero D h ls c ks f cs q x = loop_lands world v k zero (Looping b env ∷ k) refl ls c ks f cs q x.r x.base x.t x.kinds x.around x.n x.outer (left_lands world v k) x.m x.less x.kind
  left_lands world v (Looping b env ∷ k) (suc l) D h ls c ks f cs q x = loop_lands world v k (suc l) (Looping b env ∷ k) refl ls c ks f cs q x.r x.base x.t x.kinds x.around x.n x.outer (left_lands world v k) x.m x.less x.kind
  left_lands world v (Join ∷ k) zero D h ls c ks f cs q x = join_lands world v k zero (Join ∷ k) refl ls c ks f cs q x.r x.base x.t x.kinds x.around x.n x.outer (left_lands world v k) x.kind
  left_lands world v (Join ∷ k) (suc l) D h ls c ks f cs q x = join_lands world v k (suc l) (Join ∷ k) refl ls c ks f cs q x.r x.base x.t x.kinds x.around x.n x.outer (left_lands world v k) x.kind
  left_lands world v (Trying b env ∷ k) zero D h ls c ks f cs q x = try_lands world v k zero (Trying b env ∷ k) refl ls c ks f cs q x.r x.base x.t x.kinds x.around x.n x.outer (left_lands world v k) b x.s x.ns x.m x.less x.kind
  left_lands world v (Trying b env ∷ k) (suc l) D h ls c ks f cs q x = try_lands world v k (suc l) (Trying b env ∷ k) refl ls c ks f cs q x.r x.base x.t x.kinds x.around x.n x.outer (left_lands world v k) b x.s x.ns x.m x.less x.kind
  left_lands world v (Labelled ∷ k) zero D h ls c ks f cs q x = here_lands world v k ls c ks f cs q x.r x.base x.t x.kinds x.around x.n x.outer x.kind
  left_lands world v (Labelled ∷ k) (suc l) D h ls c ks f cs q x = label_lands world v k l ls c ks f cs q x.r x.base x.t x.kinds x.around x.n x.outer (left_lands world v k) x.kind

  -- the weight that is held for a copy of an atom into its slot
  abbrev pub atom : Exp → ℕ
  atom (Constant? l) = 1
  atom (Name x) = 1
  atom (exp.Global i) = 1
  atom e = 0

  abbrev pub on_trying : List core.Frame → ℕ → ℕ
  on_trying (Trying b env ∷ k) n = 0
  on_trying k n = n

  abbrev pub on_leave : Code → ℕ → ℕ
  on_leave (Leave j) n = 0
  on_leave c n = n

  abbrev pub need : Exp → Option ℕ → List core.Frame → Code → ℕ
  need e None k c = 0
  need e (Some t) k c = on_leave c (on_trying k (atom e))

  atom_le : (e : Exp) → atom e ≤ 1
  atom_le (Constant? l) = omega arithmetic
  atom_le (Name x) = omega arithmetic
  atom_le (exp.Global i) = omega arithmetic
  atom_le e = omega arithmetic

  trying_le : (k : List core.Frame) (n : ℕ) → n ≤ 1 → on_trying k n ≤ 1
  trying_le (Trying b env ∷ k) n h = omega arithmetic
  trying_le k n h = h

  leave_le : (c : Code) (n : ℕ) → n ≤ 1 → on_leave c n ≤ 1
  leave_le (Leave j) n h = omega arithmetic
  leave_le c n h = h

  pub need_le : (e : Exp) (t : Option ℕ) (k : List core.Frame) (c : Code) → need e t k c ≤ 1
  need_le e None k c = omega arithmetic
  need_le e (Some t) k c = leave_le c (on_trying k (atom e)) (trying_le k (atom e) (atom_le e))

  pub need_leave : (e : Exp) (t : Option ℕ) (k : List core.Frame) (j : ℕ) → need e t k (Leave j) ≡ 0
  need_leave e None k j = refl
  need_leave e (Some t) k j = refl

  -- an expression is about to be computed into slot t by code m
  abbrev pub Ready : Exp → List Value → List core.Frame → Option ℕ → ℕ → List Operand → List Kind → Code → Code → List Around → code.Frame → List code.Caller → ℕ → Type 0
  Ready e env k t h ns ls c m ks f cs q =
      record { splits : Splits sizes f.body.segments e t h ns ls c m; cont : C k (To t) h ls c ks f cs q; scope : values context.globals f ns ≡ env; below : BelowL h ns; clear : Clr t h ns }

  below_more : (h h' : ℕ) (a : Operand) → h ≤ h' → Below h a → Below h' a
  below_more h h' (Slot x) l b = omega (arithmetic, l, b)
  below_more h h' (Captured x) l b = tt
  below_more h h' (Member m) l b = tt
  below_more h h' (Global i) l b = tt
  below_more h h' (Constant k) l b = tt

  pub below_all : (h h' : ℕ) (xs : List Operand) → h ≤ h' → BelowL h xs → BelowL h' xs
  below_all h h' [] l b = tt
  below_all h h' (x ∷ xs) l b = (below_more h h' x l (b.0), below_all h h' xs l (b.1))

  pub clear_more : (t : Option ℕ) (h h' : ℕ) (ns : List Operand) → h ≤ h' → Clr t h ns → Clr t h' ns
  clear_more t h h' ns l c = λ u e. let a = (c u e).0 in (omega (arithmetic, a, l), (c u e).1)

  -- a new name in a slot
  pub clear_slot : (t : Option ℕ) (h s : ℕ) (ns : List Operand) → h ≤ s → Clr t h ns → Clr t (suc s) (Slot s ∷ ns)
  clear_slot t h s ns l c = λ u e. let a = (c u e).0 in (omega (arithmetic, a, l), ((λ i. omega (arithmetic, a, l, i)), (c u e).1))

  pub below_slot : (h s : ℕ) (ns : List Operand) → h ≤ s → BelowL h ns → BelowL (suc s) (Slot s ∷ ns)
  below_slot h s ns l b = (omega arithmetic, below_all h (suc s) ns (omega (arithmetic, l)) b)

  pub scope_slot : (f : code.Frame) (h s : ℕ) (ns : List Operand) (env : List Value) (v : Value) → h ≤ s → BelowL h ns → values context.globals f ns ≡ env → values context.globals (put f s v) (Slot s ∷ ns) ≡ v ∷ env
  scope_slot f h s ns env v l b e =
      let a = fill_same unit f.slots s v in
      let d : values context.globals (put f s v) ns ≡ env = values_put sizes context.globals nodes f s v ns (apart_all h s ns l b) ∙ e in
      cc (a, d)

  -- what an error comes to
  abbrev pub Caught : World → Value → List core.Frame → List Kind → List Around → code.Frame → List code.Caller → ℕ → Type 0
  Caught world v k ls ks f cs q =
      record { to : List core.Frame; b : Exp; env : List Value; s : ℕ; t : Option ℕ; h : ℕ; ns : List Operand; kinds : List Kind; c : Code; m : Code; around : List Around; r : ℕ; is : core.thrown source context nodes world v k ≡ go' 1 world (Eval b env) to; ready : Ready b env to t h ns kinds c m around (put f s v) cs r; paid : r + need b t to c ≤ suc q; comes : raise world v (handler ls) ks f cs ≡ code.go 1 world m around (put f s v) cs }

  abbrev pub Thrown : World → Value → List core.Frame → List Kind → List Around → code.Frame → List code.Caller → ℕ → Type 0
  Thrown world v k ls ks f cs q =
      ((core.thrown source context nodes world v k ≡ stuck' world) ⊎ ((core.thrown source context nodes world v k ≡ Ends (weighing 1) [] world (Rejects v)) × (raise world v (handler ls) ks f cs ≡ Ends (weighing 1) [] world (Rejects v)))) ⊎ Caught world v k ls ks f cs q

  throws : (world : World) (v : Value) (k k' : List core.Frame) (ls ls' : List Kind) (ks ks' : List Around) (f : code.Frame) (cs : List code.Caller) (q q' : ℕ) → core.thrown source context nodes world v k' ≡ core.thrown source context nodes world v k → q ≤ q' → raise world v (handler ls') ks' f cs ≡ raise world v (handler ls) ks f cs → Thrown world v k ls ks f cs q → Thrown world v k' ls' ks' f cs q'
  throws world v k k' ls ls' ks ks' f cs q q' e le w (inl (inl a)) = inl (inl (e ∙ a))
  throws world v k k' ls ls' ks ks' f cs q q' e le w (inl (inr a)) = inl (inr (e ∙ a.0, w ∙ a.1))
  throws world v k k' ls ls' ks ks' f cs q q' e le w (inr x) =
      let y = x.paid in
      inr (record { to = x.to; b = x.b; env = x.env; s = x.s; t = x.t; h = x.h; ns = x.ns; kinds = x.kinds; c = x.c; m = x.m; around = x.around; r = x.r; is = e ∙ x.is; ready = x.ready; paid = omega (arithmetic, le, y); comes = w ∙ x.comes })

  module _ (world : World) (v : Value) (k : List core.Frame) (k' : List core.Frame) (e : core.thrown source context nodes world v k' ≡ core.thrown source context nodes world v k) (ls : List Kind) (c : Code) (ks : List Around) (f : code.Frame) (cs : List code.Caller) (q r base : ℕ) (t : Option ℕ) (kinds : List Kind) (around : List Around) (n : Code) (outer : C k (To t) base kinds n around f cs r) (ih : (D : Dest) (h : ℕ) (ls : List Kind) (c : Code) (ks : List Around) (f : code.Frame) (cs : List code.Caller) (q : ℕ) → C k D h ls c ks f cs q → Thrown world v k ls ks f cs q) where
    thrown_whole : (x : Kind) (y : Around) → r ≤ q → ls ≡ x ∷ kinds → ks ≡ y ∷ around → handler (x ∷ kinds) ≡ farther (handler kinds) → Thrown world v k' ls ks f cs q
    thrown_whole x y le a b d =
        throws world v k k' kinds ls around ks f cs r q e le ((let z : raise world v (handler ls) ks f cs ≡ raise world v (farther (handler kinds)) (y ∷ around) f cs = cc (a, b, d) in z) ∙ raise_out world v (handler kinds) y around f cs) (ih (To t) base kinds n around f cs r outer)

    thrown_cut : AllFar kinds → r ≤ q → handler ls ≡ handler kinds → Thrown world v k' ls ks f cs q
    thrown_cut far le a =
        throws world v k k' kinds ls ks ks f cs r q e le (ap (λ h. raise world v h ks f cs) a) (ih (To t) base kinds n ks f cs r (far_any sizes context.globals nodes k (To t) base kinds n around ks f cs r far outer))

    loop_thrown : (m : Code) → r ≤ q → LoopKind sizes context.globals nodes f.body.segments ls c ks kinds around n m → Thrown world v k' ls ks f cs q
    loop_thrown m le (inl y) = thrown_whole Other (Again m n) le y.here y.within refl
    loop_thrown m le (inr y) = thrown_cut y.far le (ap handler y.here)

    join_thrown : JoinKind sizes context.globals nodes f.body.segments ls c ks kinds around n r q → Thrown world v k' ls ks f cs q
    join_thrown (inl y) = thrown_whole Other (Within n) y.less y.here y.within refl
    join_thrown (inr y) = thrown_cut y.far (less_of r q y.less) (ap handler y.here)

    label_thrown : LabelKind sizes context.globals nodes f.body.segments ls c ks kinds around n t r q → Thrown world v k' ls ks f cs q
    label_thrown (inl y) = thrown_whole (LabelHere t) (Within n) y.less y.here y.within refl
    label_thrown (inr y) = thrown_cut y.far (less_of r q y.less) (ap handler y.here)

  -- the handler
  catches : (world : World) (v : Value) (k : List core.Frame) (b : Exp) (env : List Value) (ls : List Kind) (c : Code) (ks : List Around) (f : code.Frame) (cs : List code.Caller) (q r base s : ℕ) (ns : List Operand) (t : Option ℕ) (kinds : List Kind) (around : List Around) (n m : Code) → C k (To t) base kinds n around f cs r → base ≤ s → values context.globals f ns ≡ env → BelowL base ns → Clr t base ns → r ≤ q → TryKind sizes context.globals nodes f.body.segments ls c ks kinds around n b t s ns m → Thrown world v (Trying b env ∷ k) ls ks f cs q
  catches world v k b env ls c ks f cs q r base s ns t kinds around n m outer low scope below clear le (inl y) =
      inr (record { to = Join ∷ k; b = b; env = v ∷ env; s = s; t = t; h = suc s; ns = Slot s ∷ ns; kinds = Other ∷ kinds; c = Stop; m = m; around = Within n ∷ around; r = r; is = refl; ready = record { splits = y.caught; cont = record { t = t; some = refl; base = base; low = omega (arithmetic, low); kinds = kinds; around = around; n = n; r = r; outer = stable sizes context.globals nodes k (To t) base kinds n around f cs r s v (inl low) outer; kind = inl (record { here = refl; is = refl; within = refl; less = omega arithmetic }) }; scope = scope_slot f base s ns env v low below scope; below = below_slot base s ns low below; clear = clear_slot t base s ns low clear }; paid = (let z = need_le b t (Join ∷ k) Stop in omega (arithmetic, z, le)); comes = (let a = y.here in let d = y.within in let z : raise world v (handler ls) ks f cs ≡ raise world v (handler (HandlerHere s ∷ Other ∷ kinds)) (Within m ∷ Within n ∷ around) f cs = cc (a, d) in z) })
  catches world v k b env ls c ks f cs q r base s ns t kinds around n m outer low scope below clear le (inr y) =
      inr (record { to = Join ∷ k; b = b; env = v ∷ env; s = s; t = t; h = suc s; ns = Slot s ∷ ns; kinds = kinds; c = Leave y.j; m = m; around = []; r = suc r; is = refl; ready = record { splits = y.caught; cont = record { t = t; some = refl; base = base; low = omega (arithmetic, low); kinds = kinds; around = around; n = n; r = r; outer = stable sizes context.globals nodes k (To t) base kinds n around f cs r s v (inl low) outer; kind = inr (record { j = y.j; here = refl; is = refl; at = y.at; far = y.far; less = omega arithmetic }) }; scope = scope_slot f base s ns env v low below scope; below = below_slot base s ns low below; clear = clear_slot t base s ns low clear }; paid = (let z = need_leave b t (Join ∷ k) y.j in omega (arithmetic, z, le)); comes = ap (λ ls. raise world v (handler ls) ks f cs) y.here ∙ on_there world y.i m (put f s v) cs y.there })

  pub thrown_throws : (world : World) (v : Value) (k : List core.Frame) (D : Dest) (h : ℕ) (ls : List Kind) (c : Code) (ks : List Around) (f : code.Frame) (cs : List code.Caller) (q : ℕ) → C k D h ls c ks f cs q → Thrown world v k ls ks f cs q
  thrown_throws world v [] D h ls c ks f cs q x = inl (inr (refl, let a = x.top in let b = x.outer in let z : raise world v (handler ls) ks f cs ≡ raise world v None ks f [] = cc (a, b) in z))
  thrown_throws world v (core.Caller n gt ∷ k) D h ls c ks f cs q x = inl (inl refl)
  thrown_throws world v (Arguments goal done es env ∷ k) D h ls c ks f cs q x =
      throws world v k (Arguments goal done es env ∷ k) ls ls ks ks f cs x.r q refl x.less refl (thrown_throws world v k (To x.t) x.base ls x.n ks f cs x.r x.outer)
  thrown_throws world v (Looping b env ∷ k) D h ls c ks f cs q x = loop_thrown world v k (Looping b env ∷ k) refl ls c ks f cs q x.r x.base x.t x.kinds x.around x.n x.outer (thrown_throws world v k) x.m x.less x.kind
  thrown_throws world v (Join ∷ k) D h ls c ks f cs q x = join_thrown world v k (Join ∷ k) refl ls c ks f cs q x.r x.base x.t x.kinds x.around x.n x.outer (thrown_throws world v k) x.kind
  thrown_throws world v (Labelled ∷ k) D h ls c ks f cs q x = label_thrown world v k (Labelled ∷ k) refl ls c ks f cs q x.r x.base x.t x.kinds x.around x.n x.outer (thrown_throws world v k) x.kind
  thrown_throws world v (Trying b env ∷ k) D h ls c ks f cs q x =
      catches world v k b env ls c ks f cs q x.r x.base x.s x.ns x.t x.kinds x.around x.n x.m x.outer x.low x.scope x.below x.clear x.less x.kind

  -- what a return comes to
  abbrev pub Returned : World → Value → List core.Frame → List code.Caller → ℕ → Type 0
  Returned world v k cs q =
      ((core.returned source context nodes world v k ≡ Ends (weighing 1) [] world (Replies v)) × (cs ≡ [])) ⊎ record { to : List core.Frame; l : code.Caller; callers : List code.Caller; t : Option ℕ; free : ℕ; kinds : List Kind; r : ℕ; gt : Option Gathering; same : l.gathering ≡ gt; is : core.returned source context nodes world v k ≡ core.handed source context nodes world v gt to; cs_is : cs ≡ l ∷ callers; slot_is : l.to ≡ slot t free; cont : C to (To t) free kinds l.rest l.around l.frame callers r; less : r ≤ q }

  more_returns : (world : World) (v : Value) (k k' : List core.Frame) → core.returned source context nodes world v k' ≡ core.returned source context nodes world v k → (cs : List code.Caller) (q q' : ℕ) → q ≤ q' → Returned world v k cs q → Returned world v k' cs q'
  more_returns world v k k' e cs q q' le (inl a) = inl (e ∙ a.0, a.1)
  more_returns world v k k' e cs q q' le (inr x) =
      let y = x.less in
      inr (record { to = x.to; l = x.l; callers = x.callers; t = x.t; free = x.free; kinds = x.kinds; r = x.r; gt = x.gt; same = x.same; is = e ∙ x.is; cs_is = x.cs_is; slot_is = x.slot_is; cont = x.cont; less = omega (arithmetic, le, y) })

  pub label_less : (segs : List Code) (ls : List Kind) (c : Code) (ks : List Around) (kinds : List Kind) (around : List Around) (n : Code) (t : Option ℕ) (r q : ℕ) → LabelKind sizes context.globals nodes segs ls c ks kinds around n t r q → r ≤ q
  label_less segs ls c ks kinds around n t r q (inl y) = y.less
  label_less segs ls c ks kinds around n t r q (inr y) = less_of r q y.less

  pub join_less : (segs : List Code) (ls : List Kind) (c : Code) (ks : List Around) (kinds : List Kind) (around : List Around) (n : Code) (r q : ℕ) → JoinKind sizes context.globals nodes segs ls c ks kinds around n r q → r ≤ q
  join_less segs ls c ks kinds around n r q (inl y) = y.less
  join_less segs ls c ks kinds around n r q (inr y) = less_of r q y.less

  pub returned_returns : (world : World) (v : Value) (k : List core.Frame) (D : Dest) (h : ℕ) (ls : List Kind) (c : Code) (ks : List Around) (f : code.Frame) (cs : List code.Caller) (q : ℕ) → C k D h ls c ks f cs q → Returned world v k cs q
  returned_returns world v [] D h ls c ks f cs q x = inl (refl, x.outer)
  returned_returns world v (core.Caller n gt ∷ k) D h ls c ks f [] q x = absurd x
  returned_returns world v (core.Caller n gt ∷ k) D h ls c ks f (l ∷ cs) q x =
      inr (record { to = k; l = l; callers = cs; t = x.t; free = x.free; kinds = x.kinds; r = x.r; gt = gt; same = x.same; is = refl; cs_is = refl; slot_is = x.to; cont = x.outer; less = x.less })
  returned_returns world v (Arguments goal done es env ∷ k) D h ls c ks f cs q x = more_returns world v k (Arguments goal done es env ∷ k) refl cs x.r q x.less (returned_returns world v k (To x.t) x.base ls x.n ks f cs x.r x.outer)
  returned_returns world v (Looping b env ∷ k) D h ls c ks f cs q x = more_returns world v k (Looping b env ∷ k) refl cs x.r q x.less (returned_returns world v k (To x.t) x.base x.kinds x.n x.around f cs x.r x.outer)
  returned_returns world v (Trying b env ∷ k) D h ls c ks f cs q x = more_returns world v k (Trying b env ∷ k) refl cs x.r q x.less (returned_returns world v k (To x.t) x.base x.kinds x.n x.around f cs x.r x.outer)
  returned_returns world v (Labelled ∷ k) D h ls c ks f cs q x = more_returns world v k (Labelled ∷ k) refl cs x.r q (label_less f.body.segments ls c ks x.kinds x.around x.n x.t x.r q x.kind) (returned_returns world v k (To x.t) x.base x.kinds x.n x.around f cs x.r x.outer)
  returned_returns world v (Join ∷ k) D h ls c ks f cs q x = more_returns world v k (Join ∷ k) refl cs x.r q (join_less f.body.segments ls c ks x.kinds x.around x.n x.r q x.kind) (returned_returns world v k (To x.t) x.base x.kinds x.n x.around f cs x.r x.outer)
