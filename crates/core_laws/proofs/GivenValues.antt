-- Values that are given are matched by the code of their frame.
use Rattle.std.proofs.Common.{◌≡◌, ℕ, suc, ◌+◌, ◌*◌, ◌<◌, ◌≤◌, ◌⊎◌, inl, inr, refl, sym, ap, ◌∙◌, subst, List, [], ◌∷◌, ◌++◌, Option, Some, None, arith as arithmetic}
use Rattle.std.specs.Prelude.{slice_get}
use Rattle.mo_values.specs.Costs.{weighing}
use Rattle.core_ir.specs.declared.code.Operand.{Operand}
use Rattle.core_ir.specs.Values.{Value}
use Rattle.core_ir.specs.Worlds.{World, Context}
use Rattle.core_ir.specs.Executions.{Replies, Go}
use Rattle.core_ir.specs.Gatherings.{Gathering}
use Rattle.core_ir.specs.Expressions.{Exp, Exps, NoExp, AnExp, Goal, Core}
use Rattle.core_ir.specs.CoreMachine as core
use Rattle.core_ir.specs.CoreMachine.{Arguments, Looping, Labelled, Trying, Join, Eval, Give}
use Rattle.core_ir.specs.Code.{Code, Stop, Loop, Branch, Leave, Return, CodeProgram}
use Rattle.core_ir.specs.CodeMachine as code
use Rattle.core_ir.specs.CodeMachine.{Around, Within, Again, Place, settle, value, values, put, branch, onto, by_way, raise}
use Rattle.core_laws.specs.Around.{Kind, AllFar}
use Rattle.core_laws.specs.Slots.{operands, operand, place}
use Rattle.core_laws.specs.Splits.{SplitsGoal}
use Rattle.core_ir.specs.declared.primitive.Primitive.{Primitive}
use Rattle.core_ir.specs.Primitives.{perform}
use Rattle.core_ir.specs.CodeMachine.{put_all}
use Rattle.core_laws.specs.Slots.{others}
use Rattle.core_laws.specs.Splits.{SplitsProgram}
use Rattle.core_laws.proofs.Continuations.{Dest, To, Via, At, ApartL, LoopKind, LabelKind, JoinKind, TryKind, far_any}
use Rattle.core_laws.proofs.Unwinding.{need, Ready, Returned, returned_returns, below_all, on_there}
use Rattle.core_laws.proofs.EnteredBodies.{arg, arg_apart, below_append, values_append}
use Rattle.core_laws.proofs.Related.{place_at, settled, Pos, runs_at, leaves_at, Has, slack, slack_le, Giving, stack_size, matches_both}
use Rattle.core_laws.proofs.Given.{Heavy, Ct, s_at, Mt, ready_rel, at_place}
use Rattle.core_laws.proofs.CalledFunctions.{handed_both}
use Rattle.core_laws.proofs.Goals.{acted}

append_mid : (xs : List Operand) (o : Operand) (ys : List Operand) → xs ++ o ∷ ys ≡ (xs ++ o ∷ []) ++ ys
append_mid [] o ys = refl
append_mid (x ∷ xs) o ys = ap (λ l. x ∷ l) (append_mid xs o ys)

pub apart_append : (u : ℕ) (xs ys : List Operand) → ApartL u xs → ApartL u ys → ApartL u (xs ++ ys)
apart_append u [] ys a b = b
apart_append u (x ∷ xs) ys a b = (a.0, apart_append u xs ys (a.1) b)

module _ (sizes : ℕ → ℕ) (context : Context) (nodes : ℕ) (source : Core) (program : CodeProgram) where
  abbrev pub H : Dest → code.Frame → Value → Type 0
  H = Has sizes context nodes source program

  at_has : (D : Dest) (o : Operand) (f : code.Frame) (v : Value) → At D o → Has sizes context nodes source program D f v → value context.globals f o ≡ v
  at_has (To None) o f v a h = absurd a
  at_has (To (Some t)) o f v a h = ap (value context.globals f) a ∙ h
  at_has (Via x) o f v a h = ap (value context.globals f) a ∙ h

  module _ (p b m : ℕ) (world : World) (s : code.State) (shallow : code.depth s ≤ m) where
    abbrev f : code.Frame
    f = s.frame

    abbrev cs : List code.Caller
    cs = s.callers

    abbrev pl : Place
    pl = settle s.around s.code

    abbrev M : ℕ → core.Did → Type 0
    M n = Mt sizes context nodes source program p b n m world s

    -- code that leaves, before a value
    leave_give_any : (n w : ℕ) (v : Value) (k : List core.Frame) (t : Option ℕ) (base : ℕ) (kinds : List Kind) (r : Code) (around ks : List Around) (q j : ℕ) → Ct sizes context nodes source program k (To t) base kinds r around f cs q → AllFar kinds → H (To t) f v → Pos b (Leave j) ks f pl → slice_get f.body.segments j ≡ Some r → q + 2 ≤ 2 * w + p + b → M n (Go (weighing w) [] world (s_at sizes context nodes source program (Give v) k))
    leave_give_any n w v k t base kinds r around ks q j ct far h ps at e = on (leaves_at b j ks f pl r ps at)
      where
        bare : Ct sizes context nodes source program k (To t) base kinds r [] f cs q
        bare = far_any sizes context.globals nodes k (To t) base kinds r around [] f cs q far ct

        sl : slack sizes context nodes source program k ≤ 1
        sl = slack_le sizes context nodes source program k

        on : ((b ≡ 0) × (pl ≡ place_at (Leave j) ks)) ⊎ ((b ≡ 1) × (pl ≡ place_at r [])) → M n (Go (weighing w) [] world (s_at sizes context nodes source program (Give v) k))
        on (inl y) =
            let z = y.0 in
            inr (record { cost' = weighing 1; flat = omega arithmetic; u = code.at r [] f cs; does = inl (at_place sizes context nodes source program world s (Leave j) ks y.1 ∙ on_there world j r f cs at, shallow); p' = q + 1; b' = 0; pays = omega (arithmetic, e, z); rel = (refl, record { D = To t; h = base; ls = kinds; c = r; ks = []; q = q; cont = bare; has = h; pos = inl (refl, refl); enough = omega (arithmetic, sl) }) })
        on (inr y) =
            let z = y.0 in
            inl (record { none = refl; same = refl; p' = q + 1; b' = 0; pays = omega (arithmetic, e, z); smaller = inl (omega (arithmetic, z)); rel = (refl, record { D = To t; h = base; ls = kinds; c = r; ks = []; q = q; cont = bare; has = h; pos = inl (refl, y.1); enough = omega (arithmetic, sl) }) })

    -- the same before an expression
    pub leave_eval : (n w : ℕ) (e : Exp) (env : List Value) (k : List core.Frame) (t : Option ℕ) (h : ℕ) (ns : List Operand) (ls : List Kind) (c r : Code) (ks : List Around) (q j : ℕ) → Ready sizes context nodes source e env k t h ns ls c r [] f cs q → Pos b (Leave j) ks f pl → slice_get f.body.segments j ≡ Some r → q + 2 + need sizes context nodes source e t k c ≤ 2 * w + p + b → M n (Go (weighing w) [] world (s_at sizes context nodes source program (Eval e env) k))
    leave_eval n w e env k t h ns ls c r ks q j x ps at i = on (leaves_at b j ks f pl r ps at)
      where
        on : ((b ≡ 0) × (pl ≡ place_at (Leave j) ks)) ⊎ ((b ≡ 1) × (pl ≡ place_at r [])) → M n (Go (weighing w) [] world (s_at sizes context nodes source program (Eval e env) k))
        on (inl y) =
            let z = y.0 in
            inr (record { cost' = weighing 1; flat = omega arithmetic; u = code.at r [] f cs; does = inl (at_place sizes context nodes source program world s (Leave j) ks y.1 ∙ on_there world j r f cs at, shallow); p' = q + 1 + need sizes context nodes source e t k c; b' = 0; pays = omega (arithmetic, i, z); rel = ready_rel sizes context nodes source program (q + 1 + need sizes context nodes source e t k c) e env k t h ns ls c r [] f cs q x (omega arithmetic) })
        on (inr y) =
            let z = y.0 in
            inl (record { none = refl; same = refl; p' = q + 1 + need sizes context nodes source e t k c; b' = 0; pays = omega (arithmetic, i, z); smaller = inl (omega (arithmetic, z)); rel = (refl, record { t = t; D = To t; h = h; ns = ns; ls = ls; c = c; d = r; ks = []; q = q; splits = x.splits; cont = x.cont; scope = x.scope; below = x.below; clear = x.clear; aim = inl refl; pos = inl (refl, y.1); enough = omega arithmetic }) })

    -- the value goes into code that goes on at once
    same_give : (n w : ℕ) (v : Value) (k : List core.Frame) (t : Option ℕ) (base : ℕ) (kinds : List Kind) (r : Code) (around : List Around) (q : ℕ) → Ct sizes context nodes source program k (To t) base kinds r around f cs q → H (To t) f v → (b ≡ 0) × (pl ≡ settle around r) → q + 1 ≤ 2 * w + p → stack_size sizes context nodes source program k < n → M n (Go (weighing w) [] world (s_at sizes context nodes source program (Give v) k))
    same_give n w v k t base kinds r around q ct h ps e sm =
        let sl = slack_le sizes context nodes source program k in
        let z = ps.0 in
        inl (record { none = refl; same = refl; p' = q + 1; b' = 0; pays = omega (arithmetic, e); smaller = inr (omega (arithmetic, z), sm); rel = (refl, record { D = To t; h = base; ls = kinds; c = r; ks = around; q = q; cont = ct; has = h; pos = inl (refl, ps.1); enough = omega (arithmetic, sl) }) })

    -- a step comes to code that takes the value
    step_give : (n w w' : ℕ) (v : Value) (k : List core.Frame) (t : Option ℕ) (base : ℕ) (kinds : List Kind) (r : Code) (around : List Around) (q : ℕ) → Ct sizes context nodes source program k (To t) base kinds r around f cs q → H (To t) f v → code.step program context world s ≡ code.go w' world r around f cs → q + 1 + w' ≤ 2 * w + p → M n (Go (weighing w) [] world (s_at sizes context nodes source program (Give v) k))
    step_give n w w' v k t base kinds r around q ct h st e =
        let sl = slack_le sizes context nodes source program k in
        inr (record { cost' = weighing w'; flat = omega arithmetic; u = code.at r around f cs; does = inl (st, shallow); p' = q + 1; b' = 0; pays = omega (arithmetic, e); rel = (refl, record { D = To t; h = base; ls = kinds; c = r; ks = around; q = q; cont = ct; has = h; pos = inl (refl, refl); enough = omega (arithmetic, sl) }) })

    has_to : (D : Dest) (t : Option ℕ) (v : Value) → D ≡ To t → H D f v → H (To t) f v
    has_to D t v e h = subst (λ D. H D f v) e h

    stop_pos : (c : Code) (ks around : List Around) (r : Code) → Pos b c ks f pl → c ≡ Stop → ks ≡ Within r ∷ around → (b ≡ 0) × (pl ≡ settle around r)
    stop_pos c ks around r (inl y) i w = (y.0, y.1 ∙ (let z : settle ks c ≡ settle (Within r ∷ around) Stop = cc (i, w) in z))
    stop_pos c ks around r (inr y) i w = absurd (let z : Leave y.j ≡ Stop = sym y.is ∙ i in cc)

    at_code' : (c d : Code) (ks : List Around) → c ≡ d → Pos b c ks f pl → Pos b d ks f pl
    at_code' c d ks e ps = subst (λ d. Pos b d ks f pl) e ps

    -- the end of a branch
    joins : (v : Value) (k : List core.Frame) (D : Dest) (h : ℕ) (ls : List Kind) (c : Code) (ks : List Around) (q : ℕ) → Ct sizes context nodes source program (Join ∷ k) D h ls c ks f cs q → H D f v → Pos b c ks f pl → q + 1 ≤ p + b → M (suc (stack_size sizes context nodes source program k)) (Go (weighing 0) [] world (s_at sizes context nodes source program (Give v) k))
    joins v k D h ls c ks q x hv ps e = on x.kind
      where
        on : JoinKind sizes context.globals nodes f.body.segments ls c ks x.kinds x.around x.n x.r q → M (suc (stack_size sizes context nodes source program k)) (Go (weighing 0) [] world (s_at sizes context nodes source program (Give v) k))
        on (inl y) =
            let l = y.less in
            let ss = stop_pos c ks x.around x.n ps y.is y.within in
            let z = ss.0 in
            same_give _ 0 v k x.t x.base x.kinds x.n x.around x.r x.outer (has_to D x.t v x.some hv) ss (omega (arithmetic, e, l, z)) (omega arithmetic)
        on (inr y) =
            let l = y.less in
            leave_give_any _ 0 v k x.t x.base x.kinds x.n x.around ks x.r y.j x.outer y.far (has_to D x.t v x.some hv) (at_code' c (Leave y.j) ks y.is ps) y.at (omega (arithmetic, e, l))

    -- the end of a label's body
    labels : (v : Value) (k : List core.Frame) (D : Dest) (h : ℕ) (ls : List Kind) (c : Code) (ks : List Around) (q : ℕ) → Ct sizes context nodes source program (Labelled ∷ k) D h ls c ks f cs q → H D f v → Pos b c ks f pl → q + 1 ≤ p + b → M (suc (stack_size sizes context nodes source program k)) (Go (weighing 0) [] world (s_at sizes context nodes source program (Give v) k))
    labels v k D h ls c ks q x hv ps e = on x.kind
      where
        on : LabelKind sizes context.globals nodes f.body.segments ls c ks x.kinds x.around x.n x.t x.r q → M (suc (stack_size sizes context nodes source program k)) (Go (weighing 0) [] world (s_at sizes context nodes source program (Give v) k))
        on (inl y) =
            let l = y.less in
            let ss = stop_pos c ks x.around x.n ps y.is y.within in
            let z = ss.0 in
            same_give _ 0 v k x.t x.base x.kinds x.n x.around x.r x.outer (has_to D x.t v x.some hv) ss (omega (arithmetic, e, l, z)) (omega arithmetic)
        on (inr y) =
            let l = y.less in
            leave_give_any _ 0 v k x.t x.base x.kinds x.n x.around ks x.r y.j x.outer y.far (has_to D x.t v x.some hv) (at_code' c (Leave y.j) ks y.is ps) y.at (omega (arithmetic, e, l))

    -- the end of what was tried
    tries : (v : Value) (e' : Exp) (env : List Value) (k : List core.Frame) (D : Dest) (h : ℕ) (ls : List Kind) (c : Code) (ks : List Around) (q n : ℕ) → Ct sizes context nodes source program (Trying e' env ∷ k) D h ls c ks f cs q → H D f v → Pos b c ks f pl → q + 0 ≤ p + b → M n (Go (weighing 1) [] world (s_at sizes context nodes source program (Give v) k))
    tries v e' env k D h ls c ks q n x hv ps e = on x.kind
      where
        on : TryKind sizes context.globals nodes f.body.segments ls c ks x.kinds x.around x.n e' x.t x.s x.ns x.m → M n (Go (weighing 1) [] world (s_at sizes context nodes source program (Give v) k))
        on (inl y) =
            let l = x.less in
            let r = runs_at b (Branch 1) ks f pl (at_code' c (Branch 1) ks y.is ps) tt in
            let z = r.0 in
            step_give n 1 1 v k x.t x.base x.kinds x.n x.around x.r x.outer (has_to D x.t v x.some hv) (at_place sizes context nodes source program world s (Branch 1) ks r.1 ∙ ap (λ ks. code.branch world 1 ks f cs) y.within) (omega (arithmetic, e, l, z))
        on (inr y) =
            let l = x.less in
            leave_give_any n 1 v k x.t x.base x.kinds x.n x.around ks x.r y.j x.outer y.far (has_to D x.t v x.some hv) (at_code' c (Leave y.j) ks y.is ps) y.at (omega (arithmetic, e, l))

    -- a further turn of a loop
    turns : (v : Value) (e' : Exp) (env : List Value) (k : List core.Frame) (D : Dest) (h : ℕ) (ls : List Kind) (c : Code) (ks : List Around) (q n : ℕ) → Ct sizes context nodes source program (Looping e' env ∷ k) D h ls c ks f cs q → Pos b c ks f pl → q + 1 ≤ p + b → M n (Go (weighing 1) [] world (s_at sizes context nodes source program (Eval e' env) (Looping e' env ∷ k)))
    turns v e' env k D h ls c ks q n x ps e = on x.kind
      where
        again : (ks' : List Around) → LoopKind sizes context.globals nodes f.body.segments ls c ks' x.kinds x.around x.n x.m → Ready sizes context nodes source e' env (Looping e' env ∷ k) None x.base x.ns ls c x.m ks' f cs x.r
        again ks' kd =
            record { splits = x.body; cont = record { none = refl; base = x.base; ns = x.ns; low = omega arithmetic; scope = x.scope; below = x.below; t = x.t; kinds = x.kinds; around = x.around; n = x.n; m = x.m; body = x.body; r = x.r; less = omega arithmetic; outer = x.outer; kind = kd }; scope = x.scope; below = x.below; clear = λ u i. absurd (let z : None ≡ Some u = i in cc) }

        on : LoopKind sizes context.globals nodes f.body.segments ls c ks x.kinds x.around x.n x.m → M n (Go (weighing 1) [] world (s_at sizes context nodes source program (Eval e' env) (Looping e' env ∷ k)))
        on (inl y) =
            let l = x.less in
            let r = runs_at b (Branch 0) ks f pl (at_code' c (Branch 0) ks y.is ps) tt in
            let z = r.0 in
            let u1 = code.at (Loop x.m x.n) x.around f cs in
            let s1 : code.step program context world s ≡ code.go 1 world (Loop x.m x.n) x.around f cs = at_place sizes context nodes source program world s (Branch 0) ks r.1 ∙ ap (λ ks. code.branch world 0 ks f cs) y.within in
            let s2 : code.step program context world u1 ≡ code.go 1 world x.m (Again x.m x.n ∷ x.around) f cs = at_place sizes context nodes source program world u1 (Loop x.m x.n) x.around (settled x.around (Loop x.m x.n) tt) in
            inr (record { cost' = weighing 2; flat = omega arithmetic; u = code.at x.m (Again x.m x.n ∷ x.around) f cs; does = inr (record { w = 1; u = u1; e = code.go 1 world x.m (Again x.m x.n ∷ x.around) f cs; first = s1; low = shallow; then = s2; low_too = shallow; is = refl; cost2 = weighing 1; world2 = world; v = code.at x.m (Again x.m x.n ∷ x.around) f cs; silent = refl }); p' = p; b' = 0; pays = omega arithmetic; rel = ready_rel sizes context nodes source program p e' env (Looping e' env ∷ k) None x.base x.ns ls c x.m (Again x.m x.n ∷ x.around) f cs x.r (again (Again x.m x.n ∷ x.around) (inl (record { here = y.here; is = y.is; within = refl }))) (omega (arithmetic, e, l, z)) })
        on (inr y) =
            let l = x.less in
            leave_eval n 1 e' env (Looping e' env ∷ k) None x.base x.ns ls c x.m ks x.r y.j (again [] (inr y)) (at_code' c (Leave y.j) ks y.is ps) y.at (omega (arithmetic, e, l))

    -- the end of a body
    ret_of : (n' : ℕ) (gt : Option Gathering) (k : List core.Frame) (D : Dest) (h : ℕ) (ls : List Kind) (c : Code) (ks : List Around) (cs : List code.Caller) (q : ℕ) → Ct sizes context nodes source program (core.Caller n' gt ∷ k) D h ls c ks f cs q → (o : Operand) × At D o × (c ≡ Return o)
    ret_of n' gt k D h ls c ks [] q x = absurd x
    ret_of n' gt k D h ls c ks (l ∷ others) q x = (x.o, x.at, x.is)

    module _ (fits : SplitsProgram sizes source program) where
      rets : (v : Value) (k : List core.Frame) (D : Dest) (h : ℕ) (ls : List Kind) (c : Code) (ks : List Around) (q n : ℕ) (o : Operand) → Ct sizes context nodes source program k D h ls c ks f cs q → At D o → c ≡ Return o → H D f v → Pos b c ks f pl → q + 1 ≤ p + b
          → M n (core.returned source context nodes world v k)
      rets v k D h ls c ks q n o x a i hv ps e = on (returned_returns sizes context nodes source world v k D h ls c ks f cs q x)
        where
          r : (b ≡ 0) × (pl ≡ place_at (Return o) ks)
          r = runs_at b (Return o) ks f pl (at_code' c (Return o) ks i ps) tt

          st : code.step program context world s ≡ code.back program context world v cs
          st = at_place sizes context nodes source program world s (Return o) ks ((runs_at b (Return o) ks f pl (at_code' c (Return o) ks i ps) tt).1) ∙ ap (λ v. code.back program context world v cs) (at_has D o f v a hv)

          on : Returned sizes context nodes source world v k cs q → M n (core.returned source context nodes world v k)
          on (inl y) =
              subst (M n) (sym (y.0)) (record { cost' = weighing 1; r' = Replies v; does = inl (st ∙ ap (code.back program context world v) (y.1), shallow); flat = omega arithmetic; pays = omega arithmetic; fits = refl })
          on (inr y) =
              let le = y.less in
              let z = r.0 in
              subst (M n) (sym y.is)
              (matches_both sizes context nodes source program b n m world s shallow p _ _ (st ∙ ap (code.back program context world v) y.cs_is ∙ ap (λ gt. code.handed program context world v gt y.l y.callers) y.same)
              (handed_both sizes context nodes source program fits p y.r world y.to y.t y.free y.kinds y.l y.callers y.slot_is y.cont (omega (arithmetic, le, e, z)) v y.gt))

    -- the next argument
    next_arg : (v : Value) (goal : Goal) (done : List Value) (e' : Exp) (es : Exps) (env : List Value) (k : List core.Frame) (D : Dest) (h : ℕ) (ls : List Kind) (c : Code) (ks : List Around) (q : ℕ) → Ct sizes context nodes source program (Arguments goal done (AnExp e' es) env ∷ k) D h ls c ks f cs q → H D f v → Pos b c ks f pl → q + 1 ≤ p + b → M (stack_size sizes context nodes source program (Arguments goal done (AnExp e' es) env ∷ k)) (Go (weighing 0) [] world (s_at sizes context nodes source program (Eval e' env) (Arguments goal (done ++ v ∷ []) es env ∷ k)))
    next_arg v goal done e' es env k D h ls c ks q x hv ps e =
        let low = x.low in
        let room = x.room in
        let y = x.rest_is in
        let here' = suc x.here in
        let a = arg sizes context nodes source program e' here' x.base x.ns (Arguments goal (done ++ v ∷ []) es env ∷ k) (y.0) (omega (arithmetic, low)) x.below in
        let fr = a.free in
        let o' = operand x.ns e' here' in
        let vo : value context.globals f x.o ≡ v = at_has D x.o f v x.at hv in
        let rd : values context.globals f (x.xs ++ x.o ∷ []) ≡ done ++ v ∷ [] = values_append sizes context nodes source program f x.xs (x.o ∷ []) ∙ (let i = x.ready in cc (i, vo)) in
        inl (record { none = refl; same = refl; p' = p; b' = b; pays = omega arithmetic; smaller = inr (refl, omega arithmetic); rel = (refl, record { t = place e' here'; D = a.D; h = suc here'; ns = x.ns; ls = ls; c = y.0; d = c; ks = ks; q = q; splits = y.2; cont = record { base = x.base; here = here'; g = x.g; ns = x.ns; xs = x.xs ++ x.o ∷ []; o = o'; t = x.t; m = x.m; n = x.n; at = a.at; low = omega (arithmetic, low); room = omega (arithmetic, room); free = omega arithmetic; mine = a.mine; small = a.small; scope = x.scope; below = x.below; ready = rd; before = below_append sizes context nodes source program here' x.xs (x.o ∷ []) (below_all sizes context nodes source x.here here' x.xs (omega arithmetic) x.before) (x.small, tt); clear = x.clear; apart = λ u i. apart_append u (x.xs ++ x.o ∷ []) (o' ∷ []) (x.apart u i) (arg_apart sizes context nodes source program e' here' x.base u x.ns (omega (arithmetic, low)) ((x.clear u i).0) ((x.clear u i).1), tt); goal_is = subst (λ l. SplitsGoal sizes f.body.segments goal l x.t x.g x.ns ls x.n x.m) (append_mid x.xs x.o (o' ∷ operands x.ns es (suc here'))) x.goal_is; rest_is = y.1; r = x.r; less = x.less; outer = x.outer }; scope = x.scope; below = below_all sizes context nodes source x.base (suc here') x.ns (omega (arithmetic, low)) x.below; clear = a.clear; aim = a.aim; pos = ps; enough = omega (arithmetic, e, fr) }) })

    module _ (fits : SplitsProgram sizes source program) (heavy : (o : Primitive) (vs : List Value) → Heavy (perform context.head world.store o vs)) where
      -- the last argument
      last_arg : (v : Value) (goal : Goal) (done : List Value) (env : List Value) (k : List core.Frame) (D : Dest) (h : ℕ) (ls : List Kind) (c : Code) (ks : List Around) (q : ℕ) → Ct sizes context nodes source program (Arguments goal done NoExp env ∷ k) D h ls c ks f cs q → H D f v → Pos b c ks f pl → q + 1 ≤ p + b → M (stack_size sizes context nodes source program (Arguments goal done NoExp env ∷ k)) (core.act source context nodes world goal (done ++ v ∷ []) env k)
      last_arg v goal done env k D h ls c ks q x hv ps e =
          let low = x.low in
          let room = x.room in
          let le = x.less in
          let vo : value context.globals f x.o ≡ v = at_has D x.o f v x.at hv in
          let xs' = x.xs ++ x.o ∷ [] in
          let rd : values context.globals f xs' ≡ done ++ v ∷ [] = values_append sizes context nodes source program f x.xs (x.o ∷ []) ∙ (let i = x.ready in cc (i, vo)) in
          let n = stack_size sizes context nodes source program (Arguments goal done NoExp env ∷ k) in
          let a = acted sizes context nodes source program p b n m world s k x.t x.base x.g x.ns ls x.n ks x.r x.outer (omega (arithmetic, low, room)) x.below x.clear (omega (arithmetic, e, le)) shallow fits heavy goal xs' x.m x.goal_is (below_append sizes context nodes source program x.g x.xs (x.o ∷ []) (below_all sizes context nodes source x.here x.g x.xs (omega (arithmetic, room)) x.before) (below_all sizes context nodes source (suc x.here) x.g (x.o ∷ []) (omega (arithmetic, room)) (x.small, tt))) x.apart (subst (λ d. Pos b d ks f pl) x.rest_is ps) (omega arithmetic) in
          subst (λ env. M n (core.act source context nodes world goal (done ++ v ∷ []) env k)) x.scope (subst (λ vs. M n (core.act source context nodes world goal vs (values context.globals f x.ns) k)) rd a)

      -- a value is given
      pub given : (v : Value) (k : List core.Frame) → Giving sizes context nodes source program p b v k f cs pl → M (stack_size sizes context nodes source program k) (core.give source context nodes world v k)
      given v [] x = rets fits v [] x.D x.h x.ls x.c x.ks x.q 0 x.cont.o x.cont x.cont.at x.cont.is x.has x.pos x.enough
      given v (core.Caller n' gt ∷ k) x =
          let r = ret_of n' gt k x.D x.h x.ls x.c x.ks cs x.q x.cont in
          rets fits v (core.Caller n' gt ∷ k) x.D x.h x.ls x.c x.ks x.q (stack_size sizes context nodes source program k) r.0 x.cont r.1 r.2 x.has x.pos x.enough
      given v (Arguments goal done NoExp env ∷ k) x = last_arg v goal done env k x.D x.h x.ls x.c x.ks x.q x.cont x.has x.pos x.enough
      given v (Arguments goal done (AnExp e es) env ∷ k) x = next_arg v goal done e es env k x.D x.h x.ls x.c x.ks x.q x.cont x.has x.pos x.enough
      given v (Looping e env ∷ k) x = turns v e env k x.D x.h x.ls x.c x.ks x.q (stack_size sizes context nodes source program k) x.cont x.pos x.enough
      given v (Labelled ∷ k) x = labels v k x.D x.h x.ls x.c x.ks x.q x.cont x.has x.pos x.enough
      given v (Trying e env ∷ k) x = tries v e env k x.D x.h x.ls x.c x.ks x.q (stack_size sizes context nodes source program k) x.cont x.has x.pos x.enough
      given v (Join ∷ k) x = joins v k x.D x.h x.ls x.c x.ks x.q x.cont x.has x.pos x.enough
