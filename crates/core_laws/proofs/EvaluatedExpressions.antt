-- Expressions that are evaluated are matched by their code; so each step is.
use Rattle.std.proofs.Common.{◌≡◌, ℕ, zero, suc, ◌+◌, ◌<◌, ◌≤◌, ◌⊎◌, inl, inr, refl, sym, ap, ◌∙◌, subst, List, [], ◌∷◌, ◌++◌, length, Option, Some, None, arith as arithmetic}
use Rattle.std.specs.Prelude.{slice_get}
use Rattle.mo_values.specs.Costs.{weighing}
use Rattle.mo_values.specs.Shapes.{unit}
use Rattle.core_ir.specs.declared.code.Operand.{Operand}
use Rattle.core_ir.specs.Choices.{on_some, nth, filled}
use Rattle.core_ir.specs.Values.{Value, constant_value}
use Rattle.core_ir.specs.Programs.{Group}
use Rattle.core_ir.specs.Worlds.{World, Context}
use Rattle.core_ir.specs.Executions.{Go}
use Rattle.core_ir.specs.Expressions as exp
use Rattle.core_ir.specs.Expressions.{Exp, Constant?, Name, Do, Exps, NoExp, AnExp, Goal, Core}
use Rattle.core_ir.specs.CoreMachine as core
use Rattle.core_ir.specs.CoreMachine.{Arguments, Looping, Labelled, Trying, Join, Eval, Give}
use Rattle.core_ir.specs.Code as instr
use Rattle.core_ir.specs.Code.{Code, Stop, Let, If, Match, Loop, Label, Branch, Leave, Pass, Make, Call, Tabulate, Send, Wait, Raise, Return, CodeProgram}
use Rattle.core_ir.specs.CodeMachine as code
use Rattle.core_ir.specs.CodeMachine.{Around, Within, Again, Place, settle, value, values, put, branch, onto, by_way, raise}
use Rattle.core_laws.specs.Around.{Kind, Other, LabelHere, LabelAt, HandlerHere, HandlerAt}
use Rattle.core_laws.specs.Slots.{operands, operand, place, count, slots_from}
use Rattle.core_laws.specs.Splits.{Splits, SplitsAll, SplitsGoal}
use Rattle.core_ir.specs.declared.primitive.Primitive.{Primitive}
use Rattle.core_ir.specs.declared.primitive.Primitive.TheVariants as primitive
use Rattle.core_ir.specs.Primitives.{perform}
use Rattle.core_ir.specs.Worlds.{with_group}
use Rattle.core_ir.specs.Values.{members}
use Rattle.core_ir.specs.Expressions.{Functions, Try, Operate, Choose, Bind, Throw, Await, Break}
use Rattle.core_ir.specs.CodeMachine.{put_all}
use Rattle.core_laws.specs.Slots.{move, into, name_at}
use Rattle.core_laws.specs.Splits.{Here, SplitsProgram}
use Rattle.core_laws.proofs.ConvertedStates.{filled_all, put_all_is}
use Rattle.core_laws.proofs.Continuations.{Dest, To, Via, ApartL, BelowL, Clear, stable, weaken, values_put, fill_same, fill_other, apart_all, as_deep}
use Rattle.core_laws.proofs.Unwinding.{slots_at, need, need_le, need_leave, on_leave, on_trying, atom, below_all, clear_more, on_there}
use Rattle.core_laws.proofs.EnteredBodies.{arg, arg_apart, below_append, values_append, slots_below}
use Rattle.core_laws.proofs.Related.{settled, Pos, runs_at, slack, slack_le, Atomic, Aim, Evaluating, RelF, Rel, exp_size, stack_size, pot, Matches}
use Rattle.core_laws.proofs.Given.{Heavy, Ct, s_at, Mt, ready_rel, at_place, shallow_of}
use Rattle.core_laws.proofs.Goals.{acted}
use Rattle.core_laws.proofs.GivenValues.{H, given, leave_eval, apart_append}

into_cases : (u : ℕ) (o : Operand) (c : Code) → (record { j : ℕ; is : c ≡ Leave j; code_is : into u o c ≡ Pass u o j }) ⊎ ((into u o c ≡ Let u primitive.Copy (o ∷ []) c) × ((x : ℕ → ℕ) → x 0 ≡ x 0))
into_cases u o (Leave j) = inl (record { j = j; is = refl; code_is = refl })
into_cases u o c = inr (refl, λ x. refl)

fill_below : (sl : List Value) (u t : ℕ) (vs : List Value) → u < t → nth unit (filled_all sl t vs) u ≡ nth unit sl u
fill_below sl u t [] l = refl
fill_below sl u t (v ∷ vs) l =
    fill_below (filled unit sl t v) u (suc t) vs (omega (arithmetic, l)) ∙ fill_other unit sl t u v (λ e. omega (arithmetic, e, l))

members_length : (g n m : ℕ) → length (members g n m) ≡ m
members_length g n zero = refl
members_length g n (suc m) = ap suc (members_length g (suc n) m)

slots_apart : (u h n : ℕ) → u < h → ApartL u (slots_from h n)
slots_apart u h zero l = tt
slots_apart u h (suc n) l = ((λ e. omega (arithmetic, e, l)), slots_apart u (suc h) n (omega (arithmetic, l)))

module _ (sizes : ℕ → ℕ) (context : Context) (nodes : ℕ) (source : Core) (program : CodeProgram) where
  read_all : (f : code.Frame) (sl : List Value) (t : ℕ) (vs : List Value) → values context.globals (slots_at f (filled_all sl t vs)) (slots_from t (length vs)) ≡ vs
  read_all f sl t [] = refl
  read_all f sl t (v ∷ vs) =
      let a : nth unit (filled_all (filled unit sl t v) (suc t) vs) t ≡ v = fill_below (filled unit sl t v) t (suc t) vs (omega arithmetic) ∙ fill_same unit sl t v in
      let i = read_all f (filled unit sl t v) (suc t) vs in
      cc (a, i)

  values_all : (f : code.Frame) (sl : List Value) (h t : ℕ) (vs : List Value) (ns : List Operand) → h ≤ t → BelowL h ns → values context.globals (slots_at f (filled_all sl t vs)) ns ≡ values context.globals (slots_at f sl) ns
  values_all f sl h t [] ns l b = refl
  values_all f sl h t (v ∷ vs) ns l b =
      values_all f (filled unit sl t v) h (suc t) vs ns (omega (arithmetic, l)) b ∙ values_put sizes context.globals nodes (slots_at f sl) t v ns (apart_all h t ns l b)

  stable_all : (k : List core.Frame) (D : Dest) (h : ℕ) (ls : List Kind) (c : Code) (ks : List Around) (f : code.Frame) (cs : List code.Caller) (q : ℕ) (sl : List Value) (t : ℕ) (vs : List Value) → h ≤ t → Ct sizes context nodes source program k D h ls c ks (slots_at f sl) cs q → Ct sizes context nodes source program k D h ls c ks (slots_at f (filled_all sl t vs)) cs q
  stable_all k D h ls c ks f cs q sl t [] l x = x
  stable_all k D h ls c ks f cs q sl t (v ∷ vs) l x =
      stable_all k D h ls c ks f cs q (filled unit sl t v) (suc t) vs (omega (arithmetic, l)) (stable sizes context.globals nodes k D h ls c ks (slots_at f sl) cs q t v (inl l) x)

  need_try : (e : Exp) (t : Option ℕ) (e' : Exp) (env : List Value) (k : List core.Frame) (l : ℕ) → need sizes context nodes source e t (Trying e' env ∷ k) (Branch l) ≡ 0
  need_try e None e' env k l = refl
  need_try e (Some t) e' env k l = refl

  slack_need : (k : List core.Frame) → on_trying sizes context nodes source k 1 ≡ slack sizes context nodes source program k
  slack_need (Trying e env ∷ k) = refl
  slack_need k = refl

  leave_need : (c : Code) (n : ℕ) → (record { j : ℕ; is : c ≡ Leave j }) ⊎ (on_leave sizes context nodes source c n ≡ n)
  leave_need (Leave j) n = inl (record { j = j; is = refl })
  leave_need c n = inr refl

  module _ (p b m : ℕ) (world : World) (s : code.State) (shallow : code.depth s ≤ m) where
    abbrev f : code.Frame
    f = s.frame

    abbrev cs : List code.Caller
    cs = s.callers

    abbrev pl : Place
    pl = settle s.around s.code

    abbrev M : ℕ → core.Did → Type 0
    M n = Mt sizes context nodes source program p b n m world s

    -- a name or a constant_value
    copies : (e : Exp) (v : Value) (k : List core.Frame) (o : Operand) (n u h : ℕ) (ls : List Kind) (c : Code) (ks : List Around) (q : ℕ) → Ct sizes context nodes source program k (To (Some u)) h ls c ks f cs q → Here sizes f.body.segments c → value context.globals f o ≡ v → Pos b (into u o c) ks f pl → q + 1 + on_leave sizes context nodes source c (on_trying sizes context nodes source k 1) ≤ p + b → M n (Go (weighing 0) [] world (s_at sizes context nodes source program (Give v) k))
    copies e v k o n u h ls (Leave j) ks q ct here vo ps en =
        let r = runs_at b (Pass u o j) ks f pl ps tt in
        let z = r.0 in
        let sl = slack_le sizes context nodes source program k in
        inr (record { cost' = weighing 1; flat = omega arithmetic; u = code.at (here.0) [] (put f u v) cs; does = inl (at_place sizes context nodes source program world s (Pass u o j) ks r.1 ∙ ap (λ v. onto world j (put f u v) cs) vo ∙ on_there world j (here.0) (put f u v) cs (here.1), shallow); p' = q; b' = 1; pays = omega (arithmetic, en, z); rel = (refl, record { D = To (Some u); h = h; ls = ls; c = Leave j; ks = ks; q = q; cont = stable sizes context.globals nodes k (To (Some u)) h ls (Leave j) ks f cs q u v (inr refl) ct; has = fill_same unit f.slots u v; pos = inr (record { one = refl; j = j; is = refl; c = here.0; at = here.1; here = refl }); enough = omega (arithmetic, sl) }) })
    copies e v k o n u h ls c ks q ct here vo ps en =
        let r = runs_at b (Let u primitive.Copy (o ∷ []) c) ks f pl ps tt in
        let z = r.0 in
        let sn = slack_need k in
        inr (record { cost' = weighing 1; flat = omega arithmetic; u = code.at c ks (put f u v) cs; does = inl (at_place sizes context nodes source program world s (Let u primitive.Copy (o ∷ []) c) ks r.1 ∙ ap (λ v. code.go 1 world c ks (put f u v) cs) vo, shallow); p' = q + slack sizes context nodes source program k; b' = 0; pays = omega (arithmetic, en, z, sn); rel = (refl, record { D = To (Some u); h = h; ls = ls; c = c; ks = ks; q = q; cont = stable sizes context.globals nodes k (To (Some u)) h ls c ks f cs q u v (inr refl) ct; has = fill_same unit f.slots u v; pos = inl (refl, refl); enough = omega arithmetic }) })

    reads : (e : Exp) (v : Value) (k : List core.Frame) (D : Dest) (n h : ℕ) (ls : List Kind) (c : Code) (ks : List Around) (q : ℕ) → Ct sizes context nodes source program k D h ls c ks f cs q → H sizes context nodes source program D f v → Pos b c ks f pl → q + 1 ≤ p + b → stack_size sizes context nodes source program k < n → M n (Go (weighing 0) [] world (s_at sizes context nodes source program (Give v) k))
    reads e v k D n h ls c ks q ct hv ps en sm =
        let sl = slack_le sizes context nodes source program k in
        inl (record { none = refl; same = refl; p' = p; b' = b; pays = omega arithmetic; smaller = inr (refl, sm); rel = (refl, record { D = D; h = h; ls = ls; c = c; ks = ks; q = q; cont = ct; has = hv; pos = ps; enough = omega (arithmetic, en, sl) }) })

    atoms : (e : Exp) (v : Value) (k : List core.Frame) (o : Operand) (n : ℕ) (t : Option ℕ) (D : Dest) (h : ℕ) (ls : List Kind) (c d : Code) (ks : List Around) (q : ℕ) → Ct sizes context nodes source program k D h ls c ks f cs q → (D ≡ To t) ⊎ ((t ≡ None) × (D ≡ Via o)) → d ≡ move t o c → Here sizes f.body.segments c → value context.globals f o ≡ v → Pos b d ks f pl → atom sizes context nodes source e ≡ 1 → q + 1 + need sizes context nodes source e t k c ≤ p + b → stack_size sizes context nodes source program k < n → M n (Go (weighing 0) [] world (s_at sizes context nodes source program (Give v) k))
    atoms e v k o n None D h ls c d ks q ct (inl i) di here vo ps at en sm =
        reads e v k D n h ls c ks q ct (subst (λ D. H sizes context nodes source program D f v) (sym i) tt) (subst (λ d. Pos b d ks f pl) di ps) (omega (arithmetic, en)) sm
    atoms e v k o n None D h ls c d ks q ct (inr i) di here vo ps at en sm =
        reads e v k D n h ls c ks q ct (subst (λ D. H sizes context nodes source program D f v) (sym (i.1)) vo) (subst (λ d. Pos b d ks f pl) di ps) (omega (arithmetic, en)) sm
    atoms e v k o n (Some u) D h ls c d ks q ct (inr i) di here vo ps at en sm = absurd (let z : Some u ≡ None = i.0 in cc)
    atoms e v k o n (Some u) D h ls c d ks q ct (inl i) di here vo ps at en sm =
        copies e v k o n u h ls c ks q (subst (λ D. Ct sizes context nodes source program k D h ls c ks f cs q) i ct) here vo (subst (λ d. Pos b d ks f pl) di ps) (subst (λ x. q + 1 + on_leave sizes context nodes source c (on_trying sizes context nodes source k x) ≤ p + b) at en)

    aim_to : (e : Exp) (t : Option ℕ) (ns : List Operand) (D : Dest) → (Atomic sizes context nodes source program e → ⊥) → Aim sizes context nodes source program e t ns D → D ≡ To t
    aim_to e t ns D h (inl i) = i
    aim_to e t ns D h (inr i) = absurd (h (i.1))

    nth_env : (ns : List Operand) (x : ℕ) (v : Value) → slice_get (values context.globals f ns) x ≡ Some v → value context.globals f (name_at ns x) ≡ v
    nth_env [] x v e = absurd (let z : None ≡ Some v = e in cc)
    nth_env (n ∷ ns) zero v e = let z : value context.globals f n ≡ v = cc in z
    nth_env (n ∷ ns) (suc x) v e = nth_env ns x v e

    nth_global : (gs : List Value) (x : ℕ) (v : Value) → slice_get gs x ≡ Some v → nth unit gs x ≡ v
    nth_global [] x v e = absurd (let z : None ≡ Some v = e in cc)
    nth_global (g ∷ gs) zero v e = let z : g ≡ v = cc in z
    nth_global (g ∷ gs) (suc x) v e = nth_global gs x v e

    -- an expression for its slot
    module _ (t : Option ℕ) (h : ℕ) (ns : List Operand) (ls : List Kind) (c d : Code) (ks : List Around) (q : ℕ) (env : List Value) (k : List core.Frame) (cont : Ct sizes context nodes source program k (To t) h ls c ks f cs q) (scope : values context.globals f ns ≡ env) (below : BelowL h ns) (clear : Clear sizes context.globals nodes t h ns) (pos : Pos b d ks f pl) (enough : q + 1 ≤ p + b) where
      pos_at : (d' : Code) → d ≡ d' → Pos b d' ks f pl
      pos_at d' e = subst (λ d. Pos b d ks f pl) e pos

      none_clear : Clear sizes context.globals nodes None h ns
      none_clear = λ u i. absurd (let z : None ≡ Some u = i in cc)

      -- the first argument
      first_arg : (goal : Goal) (e' : Exp) (es : Exps) (m2 : Code) → SplitsGoal sizes f.body.segments goal (operands ns (AnExp e' es) h) t (h + count (AnExp e' es)) ns ls c m2 → SplitsAll sizes f.body.segments (AnExp e' es) h ns ls m2 d → M (exp_size sizes context nodes source program (Do goal (AnExp e' es)) + stack_size sizes context nodes source program k) (Go (weighing 0) [] world (s_at sizes context nodes source program (Eval e' env) (Arguments goal [] es env ∷ k)))
      first_arg goal e' es m2 sg y =
          let a = arg sizes context nodes source program e' h h ns (Arguments goal [] es env ∷ k) (y.0) (omega arithmetic) below in
          let fr = a.free in
          inl (record { none = refl; same = refl; p' = p; b' = b; pays = omega arithmetic; smaller = inr (refl, omega arithmetic); rel = (refl, record { t = place e' h; D = a.D; h = suc h; ns = ns; ls = ls; c = y.0; d = d; ks = ks; q = q; splits = y.2; cont = record { base = h; here = h; g = h + count (AnExp e' es); ns = ns; xs = []; o = operand ns e' h; t = t; m = m2; n = c; at = a.at; low = omega arithmetic; room = omega arithmetic; free = omega arithmetic; mine = a.mine; small = a.small; scope = scope; below = below; ready = refl; before = tt; clear = clear; apart = λ u i. (arg_apart sizes context nodes source program e' h h u ns (omega arithmetic) ((clear u i).0) ((clear u i).1), tt); goal_is = sg; rest_is = y.1; r = q; less = omega arithmetic; outer = cont }; scope = scope; below = below_all sizes context nodes source h (suc h) ns (omega arithmetic) below; clear = a.clear; aim = a.aim; pos = pos; enough = omega (arithmetic, enough, fr) }) })

      -- a loop begins
      loops : (e : Exp) (n : ℕ) → Splits sizes f.body.segments (exp.Loop e) t h ns ls c d → M n (Go (weighing 1) [] world (s_at sizes context nodes source program (Eval e env) (Looping e env ∷ k)))
      loops e n (inl y) =
          let r = runs_at b (Loop y.m c) ks f pl (pos_at _ y.is) tt in
          let z = r.0 in
          inr (record { cost' = weighing 1; flat = omega arithmetic; u = code.at y.m (Again y.m c ∷ ks) f cs; does = inl (at_place sizes context nodes source program world s (Loop y.m c) ks r.1, shallow); p' = 1 + p; b' = 0; pays = omega arithmetic; rel = ready_rel sizes context nodes source program (1 + p) e env (Looping e env ∷ k) None h ns (Other ∷ ls) (Branch 0) y.m (Again y.m c ∷ ks) f cs q (record { splits = y.body; cont = record { none = refl; base = h; ns = ns; low = omega arithmetic; scope = scope; below = below; t = t; kinds = ls; around = ks; n = c; m = y.m; body = y.body; r = q; less = omega arithmetic; outer = cont; kind = inl (record { here = refl; is = refl; within = refl }) }; scope = scope; below = below; clear = none_clear }) (omega (arithmetic, enough, z)) })
      loops e n (inr y) =
          leave_eval sizes context nodes source program p b m world s shallow n 1 e env (Looping e env ∷ k) None h ns ls (Leave y.j) y.m ks q y.j (record { splits = y.body; cont = record { none = refl; base = h; ns = ns; low = omega arithmetic; scope = scope; below = below; t = t; kinds = ls; around = ks; n = c; m = y.m; body = y.body; r = q; less = omega arithmetic; outer = cont; kind = inr (record { j = y.j; here = refl; is = refl; at = y.here; far = y.far }) }; scope = scope; below = below; clear = none_clear }) (pos_at _ y.is) y.here (omega (arithmetic, enough))

      -- a label begins
      labels_in : (e : Exp) → Splits sizes f.body.segments (exp.Label e) t h ns ls c d → M (exp_size sizes context nodes source program (exp.Label e) + stack_size sizes context nodes source program k) (Go (weighing 1) [] world (s_at sizes context nodes source program (Eval e env) (Labelled ∷ k)))
      labels_in e (inl y) =
          let r = runs_at b (Label y.m c) ks f pl (pos_at _ y.is) tt in
          let z = r.0 in
          let nd = need_le sizes context nodes source e t (Labelled ∷ k) Stop in
          inr (record { cost' = weighing 1; flat = omega arithmetic; u = code.at y.m (Within c ∷ ks) f cs; does = inl (at_place sizes context nodes source program world s (Label y.m c) ks r.1, shallow); p' = 1 + p; b' = 0; pays = omega arithmetic; rel = ready_rel sizes context nodes source program (1 + p) e env (Labelled ∷ k) t h ns (LabelHere t ∷ ls) Stop y.m (Within c ∷ ks) f cs q (record { splits = y.body; cont = record { t = t; some = refl; base = h; low = omega arithmetic; kinds = ls; around = ks; n = c; r = q; outer = cont; kind = inl (record { here = refl; is = refl; within = refl; less = omega arithmetic }) }; scope = scope; below = below; clear = clear }) (omega (arithmetic, enough, z, nd)) })
      labels_in e (inr y) =
          let nd = need_leave sizes context nodes source e t (Labelled ∷ k) y.j in
          inl (record { none = refl; same = refl; p' = 2 + p; b' = b; pays = omega arithmetic; smaller = inr (refl, omega arithmetic); rel = (refl, record { t = t; D = To t; h = h; ns = ns; ls = LabelAt y.j t ∷ ls; c = Leave y.j; d = d; ks = ks; q = suc q; splits = y.body; cont = record { t = t; some = refl; base = h; low = omega arithmetic; kinds = ls; around = ks; n = c; r = q; outer = cont; kind = inr (record { j = y.j; here = refl; is = refl; at = y.here; far = y.far; less = omega arithmetic }) }; scope = scope; below = below; clear = clear; aim = inl refl; pos = pos; enough = omega (arithmetic, enough, nd) }) })

      -- a try begins
      tries_in : (a e : Exp) → Splits sizes f.body.segments (Try a e) t h ns ls c d → M (exp_size sizes context nodes source program (Try a e) + stack_size sizes context nodes source program k) (Go (weighing 1) [] world (s_at sizes context nodes source program (Eval a env) (Trying e env ∷ k)))
      tries_in a e (inl y) =
          let r = runs_at b (Label (Label y.m y.n) c) ks f pl (pos_at _ y.is) tt in
          let z = r.0 in
          let nd = need_try a t e env k 1 in
          let u1 = code.at (Label y.m y.n) (Within c ∷ ks) f cs in
          inr (record { cost' = weighing 2; flat = omega arithmetic; u = code.at y.m (Within y.n ∷ Within c ∷ ks) f cs; does = inr (record { w = 1; u = u1; e = code.go 1 world y.m (Within y.n ∷ Within c ∷ ks) f cs; first = at_place sizes context nodes source program world s (Label (Label y.m y.n) c) ks r.1; low = shallow; then = at_place sizes context nodes source program world u1 (Label y.m y.n) (Within c ∷ ks) (settled (Within c ∷ ks) (Label y.m y.n) tt); low_too = shallow; is = refl; cost2 = weighing 1; world2 = world; v = code.at y.m (Within y.n ∷ Within c ∷ ks) f cs; silent = refl }); p' = p; b' = 0; pays = omega arithmetic; rel = ready_rel sizes context nodes source program p a env (Trying e env ∷ k) t (suc h) ns (HandlerHere h ∷ Other ∷ ls) (Branch 1) y.m (Within y.n ∷ Within c ∷ ks) f cs q (record { splits = y.body; cont = record { t = t; some = refl; base = h; s = h; low = omega arithmetic; free = omega arithmetic; ns = ns; scope = scope; below = below; clear = clear; kinds = ls; around = ks; n = c; m = y.n; r = q; less = omega arithmetic; outer = cont; kind = inl (record { here = refl; is = refl; within = refl; caught = y.caught }) }; scope = scope; below = below_all sizes context nodes source h (suc h) ns (omega arithmetic) below; clear = clear_more sizes context nodes source t h (suc h) ns (omega arithmetic) clear }) (omega (arithmetic, enough, z, nd)) })
      tries_in a e (inr y) =
          let nd = need_leave sizes context nodes source a t (Trying e env ∷ k) y.j in
          inl (record { none = refl; same = refl; p' = 2 + p; b' = b; pays = omega arithmetic; smaller = inr (refl, omega arithmetic); rel = (refl, record { t = t; D = To t; h = suc h; ns = ns; ls = HandlerAt y.i h ∷ ls; c = Leave y.j; d = d; ks = ks; q = q; splits = y.body; cont = record { t = t; some = refl; base = h; s = h; low = omega arithmetic; free = omega arithmetic; ns = ns; scope = scope; below = below; clear = clear; kinds = ls; around = ks; n = c; m = y.n; r = q; less = omega arithmetic; outer = cont; kind = inr (record { j = y.j; i = y.i; here = refl; is = refl; at = y.here; there = y.there; far = y.far; caught = y.caught }) }; scope = scope; below = below_all sizes context nodes source h (suc h) ns (omega arithmetic) below; clear = clear_more sizes context nodes source t h (suc h) ns (omega arithmetic) clear; aim = inl refl; pos = pos; enough = omega (arithmetic, enough, nd) }) })

      module _ (fits : SplitsProgram sizes source program) where
        -- a group of functions is made
        makes : (j : ℕ) (e : Exp) (n : ℕ) → Splits sizes f.body.segments (Functions j e) t h ns ls c d → (g : (Group exp.Body)) → slice_get source.groups j ≡ Some g → M n (core.grouped source context nodes world j e env k g.bodies)
        makes j e n y g gi =
            let gg = fits.groups j g gi in
            let sg = gg.2 in
            let ci = fits.sizes j g gi in
            let i = Make h ns j (y.0) in
            let r = runs_at b i ks f pl (pos_at _ (y.2)) tt in
            let z = r.0 in
            let ms = members (length world.groups) 0 (length g.bodies) in
            let ml : length ms ≡ sizes j = members_length (length world.groups) 0 (length g.bodies) ∙ sym ci in
            let fr = slots_at f (filled_all f.slots h ms) in
            let nd = need_le sizes context nodes source e t k c in
            let nn = sg.nodes in
            let w = 1 + instr.nodes_of (gg.0).bodies in
            let st : code.step program context world s ≡ code.go w (with_group world j env) (y.0) ks fr cs = at_place sizes context nodes source program world s i ks r.1 ∙ ap (λ o. on_some (code.stuck world) o (λ (group : Group instr.Body). code.made_in program context world h (values context.globals f ns) j (y.0) ks f cs group.bodies)) (gg.1) ∙ ap (λ sn. code.go w (with_group world j sn) (y.0) ks (put_all f h (members (length world.groups) 0 (length (gg.0).bodies))) cs) scope ∙ ap (λ x. code.go w (with_group world j env) (y.0) ks (put_all f h (members (length world.groups) 0 x)) cs) sg.same ∙ ap (λ fr. code.go w (with_group world j env) (y.0) ks fr cs) (put_all_is f h ms) in
            let ra : values context.globals fr (slots_from h (sizes j)) ≡ ms = ap (λ x. values context.globals fr (slots_from h x)) (sym ml) ∙ read_all f f.slots h ms in
            let va : values context.globals fr ns ≡ env = values_all f f.slots h h ms ns (omega arithmetic) below ∙ scope in
            inr (record { cost' = weighing w; flat = omega arithmetic; u = code.at (y.0) ks fr cs; does = inl (st, shallow); p' = 1 + p; b' = 0; pays = omega (arithmetic, nn); rel = ready_rel sizes context nodes source program (1 + p) e (ms ++ env) k t (h + sizes j) (slots_from h (sizes j) ++ ns) ls c (y.0) ks fr cs q (record { splits = y.1; cont = weaken sizes context.globals nodes k (To t) h (h + sizes j) ls c ks fr cs q q (omega arithmetic) (omega arithmetic) (stable_all k (To t) h ls c ks f cs q f.slots h ms (omega arithmetic) cont); scope = values_append sizes context nodes source program fr (slots_from h (sizes j)) ns ∙ cc (ra, va); below = below_append sizes context nodes source program (h + sizes j) (slots_from h (sizes j)) ns (slots_below sizes context nodes source program (h + sizes j) (sizes j) h (omega arithmetic)) (below_all sizes context nodes source h (h + sizes j) ns (omega arithmetic) below); clear = λ u x. let a = (clear u x).0 in (omega (arithmetic, a), apart_append u (slots_from h (sizes j)) ns (slots_apart u h (sizes j) a) ((clear u x).1)) }) (omega (arithmetic, enough, z, nd)) })

    module _ (fits : SplitsProgram sizes source program) (heavy : (o : Primitive) (vs : List Value) → Heavy (perform context.head world.store o vs)) where
      abbrev E : Exp → List Value → List core.Frame → Type 0
      E e env k = Evaluating sizes context nodes source program p b e env k f cs pl

      abbrev N : Exp → List core.Frame → ℕ
      N e k = exp_size sizes context nodes source program e + stack_size sizes context nodes source program k

      enough_of : (q n : ℕ) → q + 1 + n ≤ p + b → q + 1 ≤ p + b
      enough_of q n a = omega (arithmetic, a)

      cont_to : (e : Exp) (env : List Value) (k : List core.Frame) (x : E e env k) → (Atomic sizes context nodes source program e → ⊥) → Ct sizes context nodes source program k (To x.t) x.h x.ls x.c x.ks f cs x.q
      cont_to e env k x h = subst (λ D. Ct sizes context nodes source program k D x.h x.ls x.c x.ks f cs x.q) (aim_to e x.t x.ns x.D h x.aim) x.cont

      aim_atom : (e : Exp) (t : Option ℕ) (ns : List Operand) (D : Dest) → Aim sizes context nodes source program e t ns D → (D ≡ To t) ⊎ ((t ≡ None) × (D ≡ Via (operand ns e 0)))
      aim_atom e t ns D (inl i) = inl i
      aim_atom e t ns D (inr i) = inr (i.0, i.2)

      named : (x : ℕ) (env : List Value) (k : List core.Frame) (y : E (Name x) env k) → (o : Option Value) → slice_get env x ≡ o → M (N (Name x) k) (on_some (core.stuck source context nodes world) o (λ v. core.move source context nodes world (Give v) k))
      named x env k y None e = tt
      named x env k y (Some v) e =
          atoms (Name x) v k (operand y.ns (Name x) 0) (N (Name x) k) y.t y.D y.h y.ls y.c y.d y.ks y.q y.cont (aim_atom (Name x) y.t y.ns y.D y.aim) (y.splits.0) (y.splits.1) (nth_env y.ns x v (ap (λ env. slice_get env x) y.scope ∙ e)) y.pos refl y.enough (omega arithmetic)

      globals : (x : ℕ) (env : List Value) (k : List core.Frame) (y : E (exp.Global x) env k) → (o : Option Value) → slice_get context.globals x ≡ o → M (N (exp.Global x) k) (on_some (core.stuck source context nodes world) o (λ v. core.move source context nodes world (Give v) k))
      globals x env k y None e = tt
      globals x env k y (Some v) e =
          atoms (exp.Global x) v k (operand y.ns (exp.Global x) 0) (N (exp.Global x) k) y.t y.D y.h y.ls y.c y.d y.ks y.q y.cont (aim_atom (exp.Global x) y.t y.ns y.D y.aim) (y.splits.0) (y.splits.1) (nth_global context.globals x v e) y.pos refl y.enough (omega arithmetic)

      made : (j : ℕ) (e : Exp) (env : List Value) (k : List core.Frame) (x : E (Functions j e) env k) → (o : Option (Group exp.Body)) → slice_get source.groups j ≡ o → M (N (Functions j e) k) (on_some (core.stuck source context nodes world) o (λ g. core.grouped source context nodes world j e env k g.bodies))
      made j e env k x None i = tt
      made j e env k x (Some g) i =
          makes x.t x.h x.ns x.ls x.c x.d x.ks x.q env k (cont_to (Functions j e) env k x (λ z. z)) x.scope x.below x.clear x.pos (enough_of x.q _ x.enough) fits j e (N (Functions j e) k) x.splits g i

      no_args : (goal : Goal) (env : List Value) (k : List core.Frame) (x : E (Do goal NoExp) env k) → M (N (Do goal NoExp) k) (core.act source context nodes world goal [] env k)
      no_args goal env k x =
          let y = x.splits in
          subst (λ env. M (N (Do goal NoExp) k) (core.act source context nodes world goal [] env k)) x.scope (acted sizes context nodes source program p b (N (Do goal NoExp) k) m world s k x.t x.h (x.h + count NoExp) x.ns x.ls x.c x.ks x.q (cont_to (Do goal NoExp) env k x (λ z. z)) (omega arithmetic) x.below x.clear (enough_of x.q _ x.enough) shallow fits heavy goal [] (y.0) (y.1) tt (λ u i. tt) (subst (λ d. Pos b d x.ks f pl) (y.2) x.pos) (omega arithmetic))

      -- an expression is evaluated
      pub evaluated : (e : Exp) (env : List Value) (k : List core.Frame) → E e env k → M (N e k) (core.eval source context nodes world e env k)
      evaluated (Constant? l) env k x =
          atoms (Constant? l) (constant_value l) k (operand x.ns (Constant? l) 0) (N (Constant? l) k) x.t x.D x.h x.ls x.c x.d x.ks x.q x.cont (aim_atom (Constant? l) x.t x.ns x.D x.aim) (x.splits.0) (x.splits.1) refl x.pos refl x.enough (omega arithmetic)
      evaluated (Name n) env k x = named n env k x (slice_get env n) refl
      evaluated (exp.Global i) env k x = globals i env k x (slice_get context.globals i) refl
      evaluated (Do goal NoExp) env k x = no_args goal env k x
      evaluated (Do goal (AnExp e es)) env k x =
          first_arg x.t x.h x.ns x.ls x.c x.d x.ks x.q env k (cont_to (Do goal (AnExp e es)) env k x (λ z. z)) x.scope x.below x.clear x.pos (enough_of x.q _ x.enough) goal e es (x.splits.0) (x.splits.1) (x.splits.2)
      evaluated (Functions j e) env k x = made j e env k x (slice_get source.groups j) refl
      evaluated (exp.Loop e) env k x =
          loops x.t x.h x.ns x.ls x.c x.d x.ks x.q env k (cont_to (exp.Loop e) env k x (λ z. z)) x.scope x.below x.clear x.pos (enough_of x.q _ x.enough) e (N (exp.Loop e) k) x.splits
      evaluated (exp.Label e) env k x =
          labels_in x.t x.h x.ns x.ls x.c x.d x.ks x.q env k (cont_to (exp.Label e) env k x (λ z. z)) x.scope x.below x.clear x.pos (enough_of x.q _ x.enough) e x.splits
      evaluated (Try a e) env k x =
          tries_in x.t x.h x.ns x.ls x.c x.d x.ks x.q env k (cont_to (Try a e) env k x (λ z. z)) x.scope x.below x.clear x.pos (enough_of x.q _ x.enough) a e x.splits

  -- Each step is matched: by none of the code while a measure falls, or by one or two with the same output, the same world,
  -- no greater depth, and a weight that is paid.
  module _ (fits : SplitsProgram sizes source program) (heavy : (world : World) (o : Primitive) (vs : List Value) → Heavy (perform context.head world.store o vs)) where
    focused : (p b : ℕ) (world : World) (t : code.State) (fc : core.Focus) (k : List core.Frame) → RelF sizes context nodes source program p b fc k t → Matches sizes context nodes source program p b (pot sizes context nodes source program fc k) (16 + nodes + core.depth_of k) world t (core.focused source context nodes world fc k)
    focused p b world t (Eval e env) k r =
        evaluated p b _ world t (shallow_of sizes context nodes source program t k _ (as_deep sizes context.globals nodes k r.D r.h r.ls r.c r.ks t.frame t.callers r.q r.cont) (omega arithmetic)) fits (heavy world) e env k r
    focused p b world t (Give v) k r =
        given sizes context nodes source program p b _ world t (shallow_of sizes context nodes source program t k _ (as_deep sizes context.globals nodes k r.D r.h r.ls r.c r.ks t.frame t.callers r.q r.cont) (omega arithmetic)) fits (heavy world) v k r

    pub simulates : (p b : ℕ) (world : World) (s : core.State) (t : code.State) → Rel sizes context nodes source program p b s t → Matches sizes context nodes source program p b (pot sizes context nodes source program s.focus s.stack) (core.depth s) world t (core.step source context world s)
    simulates p b world s t r =
        subst (λ n. Matches sizes context nodes source program p b (pot sizes context nodes source program s.focus s.stack) (16 + n + core.depth_of s.stack) world t (core.focused source context n world s.focus s.stack)) (sym (r.0)) (focused p b world t s.focus s.stack (r.1))
