-- Each entry begins alike, and what waits goes on alike.
use Rattle.std.proofs.Common.{◌≡◌, ℕ, suc, ◌+◌, ◌*◌, ◌<◌, ◌≤◌, inl, inr, refl, sym, ap, ◌∙◌, subst, List, [], ◌∷◌, length, Option, Bool, true, false, arith as arithmetic, append-nil}
use Rattle.std.specs.Prelude.{nat_eq, cond}
use Rattle.std.proofs.lemmas.Bool.{eqb-true}
use Rattle.mo_values.specs.Costs.{Cost, weighing}
use Rattle.core_ir.specs.Choices.{on_some}
use Rattle.core_ir.specs.Values.{Value}
use Rattle.core_ir.specs.Worlds.{Given, Gets, Throws, World, Context}
use Rattle.core_ir.specs.Executions.{End, Rejects, Breaks, Go, Ends, Resumes, heavier, costing}
use Rattle.core_ir.specs.Expressions as exp
use Rattle.core_ir.specs.Expressions.{Exp, Constant?, Name, Do, Exps, NoExp, AnExp, Goal, Core}
use Rattle.core_ir.specs.CoreMachine as core
use Rattle.core_ir.specs.CoreMachine.{Arguments, Looping, Labelled, Trying, Join, Eval, Give}
use Rattle.core_ir.specs.Code as instr
use Rattle.core_ir.specs.Code.{Code, Stop, Let, If, Match, Loop, Label, Branch, Leave, Pass, Make, Call, Tabulate, Send, Wait, Raise, Return, CodeProgram}
use Rattle.core_ir.specs.CodeMachine as code
use Rattle.core_ir.specs.CodeMachine.{Around, Within, Again, Place, settle, value, values, put, branch, onto, by_way, raise}
use Rattle.core_laws.specs.Around.{Kind, handler}
use Rattle.core_laws.specs.Slots.{slot}
use Rattle.core_laws.specs.Splits.{SplitsBody}
use Rattle.core_laws.proofs.Continuations.{Dest, To, Cont, LabelKind, JoinKind}
use Rattle.core_laws.proofs.Unwinding.{Thrown, thrown_throws}
use Rattle.core_laws.proofs.EnteredBodies.{body_rel}
use Rattle.core_laws.proofs.Related.{slack_le, Rel, Suspended, EndFit}
use Rattle.core_laws.proofs.Given.{given_rel, ready_rel}
use Rattle.core_laws.proofs.Room.{joined}

module _ (sizes : ℕ → ℕ) (context : Context) (source : Core) (program : CodeProgram) where
  -- an entry comes to states that belong together, or ends alike
  abbrev pub Enters : ℕ → core.Did → code.Did → Type 0
  Enters nodes (Go cost o world s) d =
      record { cost' : Cost; t : code.State; p : ℕ; b : ℕ; is : d ≡ Go cost' o world t; flat : cost'.levels ≤ cost.levels; weight : cost'.weight + p ≤ 2 * cost.weight; rel : Rel sizes context nodes source program p b s t }
  Enters nodes (Ends w o world Breaks) d = Unit {0}
  Enters nodes (Ends cost o world e) d =
      record { cost' : Cost; e' : End code.Waiting; is : d ≡ Ends cost' o world e'; flat : cost'.levels ≤ cost.levels; weight : cost'.weight ≤ 2 * cost.weight; fits : EndFit sizes context nodes source program e e' }

  pub begins_alike : (world : World) (paid : ℕ) (f : exp.Body) (x : instr.Body) → SplitsBody sizes 0 0 f x → (vs : List Value) → Enters f.nodes (core.begins source context world paid f vs) (code.begins program context world paid x vs)
  begins_alike world paid f x sp vs = on (nat_eq (length vs) f.parameters) refl
    where
      on : (b : Bool) → nat_eq (length vs) f.parameters ≡ b
          → Enters f.nodes (cond b (core.go source context f.nodes (paid + (1 + f.nodes)) world (Eval f.expression vs) []) (core.stuck source context 0 world)) (code.begins program context world paid x vs)
      on false e = tt
      on true e =
          let lv = eqb-true (length vs) f.parameters e in
          let pe = sp.parameters in
          let ne = sp.nodes in
          let ok : nat_eq (length vs) x.parameters ≡ true = ap (nat_eq (length vs)) pe ∙ e in
          record {
            cost' = weighing (paid + (1 + x.nodes));
            t = code.at (code.first_of x.segments) [] (code.frame_of x 0 [] vs) [];
            p = paid + (1 + f.nodes);
            b = 0;
            is = ap (λ b. cond b (code.go (paid + (1 + x.nodes)) world (code.first_of x.segments) [] (code.frame_of x 0 [] vs) []) (code.stuck world)) ok;
            flat = omega arithmetic;
            weight = omega (arithmetic, ne);
            rel = subst (λ env. Rel sizes context f.nodes source program (paid + (1 + f.nodes)) 0 (core.at source context f.nodes (Eval f.expression env) []) (code.at (code.first_of x.segments) [] (code.frame_of x 0 [] vs) [])) (append-nil vs)
                (body_rel sizes context f.nodes source program f x 0 0 sp 0 vs [] lv refl [] [] (paid + (1 + f.nodes)) 0 (λ D o at. record { o = o; at = at; is = refl; outer = refl; top = refl; deep = ne }) (omega arithmetic));
          }

  module _ (nodes : ℕ) where
    -- the function that waits is the one that was entered
    own : (k : List core.Frame) (D : Dest) (h : ℕ) (ls : List Kind) (c : Code) (ks : List Around) (f : code.Frame) (q : ℕ) → Cont sizes context.globals nodes k D h ls c ks f [] q → f.body.nodes ≡ nodes
    own [] D h ls c ks f q x = x.deep
    own (core.Caller n gt ∷ k) D h ls c ks f q x = absurd x
    own (Arguments goal done es env ∷ k) D h ls c ks f q x = own k (To x.t) x.base ls x.n ks f x.r x.outer
    own (Looping b env ∷ k) D h ls c ks f q x = own k (To x.t) x.base x.kinds x.n x.around f x.r x.outer
    own (Labelled ∷ k) D h ls c ks f q x = own k (To x.t) x.base x.kinds x.n x.around f x.r x.outer
    own (Trying b env ∷ k) D h ls c ks f q x = own k (To x.t) x.base x.kinds x.n x.around f x.r x.outer
    own (Join ∷ k) D h ls c ks f q x = own k (To x.t) x.base x.kinds x.n x.around f x.r x.outer

    -- how many jumps may be due when what waits goes on
    abbrev pub joins : List core.Frame → ℕ
    joins = joined

    label_tight : (segs : List Code) (ls : List Kind) (c : Code) (ks : List Around) (kinds : List Kind) (around : List Around) (n : Code) (t : Option ℕ) (r q j : ℕ) → LabelKind sizes context.globals nodes segs ls c ks kinds around n t r q → LabelKind sizes context.globals nodes segs ls c ks kinds around n t j (suc j)
    label_tight segs ls c ks kinds around n t r q j (inl y) = inl (record { here = y.here; is = y.is; within = y.within; less = omega arithmetic })
    label_tight segs ls c ks kinds around n t r q j (inr y) = inr (record { j = y.j; here = y.here; is = y.is; at = y.at; far = y.far; less = omega arithmetic })

    join_tight : (segs : List Code) (ls : List Kind) (c : Code) (ks : List Around) (kinds : List Kind) (around : List Around) (n : Code) (r q j : ℕ) → JoinKind sizes context.globals nodes segs ls c ks kinds around n r q → JoinKind sizes context.globals nodes segs ls c ks kinds around n j (suc j)
    join_tight segs ls c ks kinds around n r q j (inl y) = inl (record { here = y.here; is = y.is; within = y.within; less = omega arithmetic })
    join_tight segs ls c ks kinds around n r q j (inr y) = inr (record { j = y.j; here = y.here; is = y.is; at = y.at; far = y.far; less = omega arithmetic })

    -- no more weight has to be held
    tight : (k : List core.Frame) (D : Dest) (h : ℕ) (ls : List Kind) (c : Code) (ks : List Around) (f : code.Frame) (q : ℕ) → Cont sizes context.globals nodes k D h ls c ks f [] q → Cont sizes context.globals nodes k D h ls c ks f [] (joins k)
    tight [] D h ls c ks f q x = x
    tight (core.Caller n gt ∷ k) D h ls c ks f q x = absurd x
    tight (Arguments goal done es env ∷ k) D h ls c ks f q x =
        record { base = x.base; here = x.here; g = x.g; ns = x.ns; xs = x.xs; o = x.o; t = x.t; m = x.m; n = x.n; at = x.at; low = x.low; room = x.room; free = x.free; mine = x.mine; small = x.small; scope = x.scope; below = x.below; ready = x.ready; before = x.before; clear = x.clear; apart = x.apart; goal_is = x.goal_is; rest_is = x.rest_is; r = joins k; less = omega arithmetic; outer = tight k (To x.t) x.base ls x.n ks f x.r x.outer }
    tight (Looping b env ∷ k) D h ls c ks f q x =
        record { none = x.none; base = x.base; ns = x.ns; low = x.low; scope = x.scope; below = x.below; t = x.t; kinds = x.kinds; around = x.around; n = x.n; m = x.m; body = x.body; r = joins k; less = omega arithmetic; outer = tight k (To x.t) x.base x.kinds x.n x.around f x.r x.outer; kind = x.kind }
    tight (Trying b env ∷ k) D h ls c ks f q x =
        record { t = x.t; some = x.some; base = x.base; s = x.s; low = x.low; free = x.free; ns = x.ns; scope = x.scope; below = x.below; clear = x.clear; kinds = x.kinds; around = x.around; n = x.n; m = x.m; r = joins k; less = omega arithmetic; outer = tight k (To x.t) x.base x.kinds x.n x.around f x.r x.outer; kind = x.kind }
    tight (Labelled ∷ k) D h ls c ks f q x =
        record { t = x.t; some = x.some; base = x.base; low = x.low; kinds = x.kinds; around = x.around; n = x.n; r = joins k; outer = tight k (To x.t) x.base x.kinds x.n x.around f x.r x.outer; kind = label_tight f.body.segments ls c ks x.kinds x.around x.n x.t x.r q (joins k) x.kind }
    tight (Join ∷ k) D h ls c ks f q x =
        record { t = x.t; some = x.some; base = x.base; low = x.low; kinds = x.kinds; around = x.around; n = x.n; r = joins k; outer = tight k (To x.t) x.base x.kinds x.n x.around f x.r x.outer; kind = join_tight f.body.segments ls c ks x.kinds x.around x.n x.r q (joins k) x.kind }

    pub goes_on : (world : World) (k : List core.Frame) (w : code.Waiting) → Suspended sizes context nodes source program k w → joins k < nodes → (o : Given)
        → Enters nodes (core.enters source context world (Resumes (record { stack = k; nodes = nodes }) o)) (code.enters program context world (Resumes w o))
    goes_on world k w x le (Gets v) =
        let n = own k (To x.t) x.base x.ls x.c [] w.frame x.q x.cont in
        let sl = slack_le sizes context nodes source program k in
        record {
          cost' = weighing (1 + w.frame.body.nodes);
          t = code.at x.c [] (put w.frame (slot x.t x.g) v) [];
          p = 1 + nodes;
          b = 0;
          is = ap (λ o. on_some (code.stuck world) o (λ c. code.go (1 + w.frame.body.nodes) world c [] (put w.frame w.to v) [])) x.at
              ∙ ap (λ i. code.go (1 + w.frame.body.nodes) world x.c [] (put w.frame i v) []) x.to;
          flat = omega arithmetic;
          weight = omega (arithmetic, n);
          rel = given_rel sizes context nodes source program (1 + nodes) v k x.t x.base x.g x.ls x.c [] w.frame [] (joins k) (tight k (To x.t) x.base x.ls x.c [] w.frame x.q x.cont) x.low (omega (arithmetic, le, sl));
        }
    goes_on world k w x le (Throws e) =
        failed (thrown_throws sizes context nodes source world e k (To x.t) x.base x.ls x.c [] w.frame [] (joins k) (tight k (To x.t) x.base x.ls x.c [] w.frame x.q x.cont))
      where
        n : w.frame.body.nodes ≡ nodes
        n = own k (To x.t) x.base x.ls x.c [] w.frame x.q x.cont

        d_is : code.enters program context world (Resumes w (Throws e)) ≡ heavier w.frame.body.nodes (raise world e (handler x.ls) [] w.frame [])
        d_is = ap (λ h. heavier w.frame.body.nodes (raise world e h [] w.frame [])) x.handler_is

        failed : Thrown sizes context nodes source world e k x.ls [] w.frame [] (joins k) → Enters nodes (heavier nodes (core.thrown source context nodes world e k)) (code.enters program context world (Resumes w (Throws e)))
        failed (inl (inl a)) = subst (λ y. Enters nodes (heavier nodes y) (code.enters program context world (Resumes w (Throws e)))) (sym a) tt
        failed (inl (inr a)) =
            let i = n in
            subst (λ y. Enters nodes (heavier nodes y) (code.enters program context world (Resumes w (Throws e)))) (sym (a.0))
            (record { cost' = costing w.frame.body.nodes (weighing 1); e' = Rejects e; is = d_is ∙ ap (heavier w.frame.body.nodes) (a.1); flat = omega arithmetic; weight = omega (arithmetic, i); fits = refl })
        failed (inr y) =
            let i = n in
            let pd = y.paid in
            subst (λ z. Enters nodes (heavier nodes z) (code.enters program context world (Resumes w (Throws e)))) (sym y.is)
            (record {
              cost' = costing w.frame.body.nodes (weighing 1);
              t = code.at y.m y.around (put w.frame y.s e) [];
              p = nodes + 1;
              b = 0;
              is = d_is ∙ ap (heavier w.frame.body.nodes) y.comes;
              flat = omega arithmetic;
              weight = omega (arithmetic, i);
              rel = ready_rel sizes context nodes source program (nodes + 1) y.b y.env y.to y.t y.h y.ns y.kinds y.c y.m y.around (put w.frame y.s e) [] y.r y.ready (omega (arithmetic, pd, le));
            })
