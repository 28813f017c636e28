-- Functions that are called, and their values that are handed back, are matched one to one.
use Rattle.std.proofs.Common.{◌≡◌, ℕ, zero, suc, ◌+◌, ◌≤◌, refl, sym, ap, ◌∙◌, subst, List, [], ◌∷◌, ◌++◌, length, Option, Some, None, Bool, true, false, arith as arithmetic}
use Rattle.std.specs.Prelude.{slice_get, nat_eq, cond}
use Rattle.std.proofs.lemmas.Bool.{eqb-true}
use Rattle.mo_values.specs.Costs.{weighing}
use Rattle.core_ir.specs.Choices.{on_some}
use Rattle.core_ir.specs.Values.{Value}
use Rattle.core_ir.specs.Programs.{Group}
use Rattle.core_ir.specs.Worlds.{World, Context}
use Rattle.core_ir.specs.Gatherings.{Gathering}
use Rattle.core_ir.specs.Expressions as exp
use Rattle.core_ir.specs.Expressions.{Exp, Constant?, Name, Do, Exps, NoExp, AnExp, Goal, Core}
use Rattle.core_ir.specs.CoreMachine as core
use Rattle.core_ir.specs.CoreMachine.{Arguments, Looping, Labelled, Trying, Join, Eval, Give}
use Rattle.core_ir.specs.Code as instr
use Rattle.core_ir.specs.Code.{Code, Stop, Let, If, Match, Loop, Label, Branch, Leave, Pass, Make, Call, Tabulate, Send, Wait, Raise, Return, CodeProgram}
use Rattle.core_ir.specs.CodeMachine as code
use Rattle.core_ir.specs.CodeMachine.{Around, Within, Again, Place, settle, value, values, put, branch, onto, by_way, raise}
use Rattle.core_laws.specs.Around.{Kind}
use Rattle.core_laws.specs.Slots.{slot}
use Rattle.core_laws.specs.Splits.{SplitsBody}
use Rattle.core_ir.specs.Values.{Handle, members, number, array, handle_of}
use Rattle.core_ir.specs.Worlds.{MadeGroup}
use Rattle.core_laws.specs.Splits.{SplitsGroup, SplitsProgram}
use Rattle.core_laws.proofs.Continuations.{To}
use Rattle.core_laws.proofs.EnteredBodies.{body_rel}
use Rattle.core_laws.proofs.Related.{slack_le, Both, heavier_both}
use Rattle.core_laws.proofs.Given.{Ct, Rl, s_at, given_rel}

module _ (sizes : ℕ → ℕ) (context : Context) (nodes : ℕ) (source : Core) (program : CodeProgram) (fits : SplitsProgram sizes source program) where
  abbrev B : ℕ → core.Did → code.Did → Type 0
  B = Both sizes context nodes source program

  -- the caller l stands for the frames k, and hands the value on as gt says
  module _ (p q : ℕ) (world : World) (gt : Option Gathering) (k : List core.Frame) (l : code.Caller) (cs : List code.Caller) (t : Option ℕ) (free : ℕ) (kinds : List Kind)
      (to : l.to ≡ slot t free) (same : l.gathering ≡ gt) (cont : Ct sizes context nodes source program k (To t) free kinds l.rest l.around l.frame cs q) (enough : q + 1 ≤ p) where
    entered_both : (b : exp.Body) (x : instr.Body) (n sees g : ℕ) (vs env : List Value) → SplitsBody sizes n sees b x → length vs ≡ b.parameters → length env ≡ sees
        → B p (core.go source context nodes (1 + b.nodes) world (Eval b.expression (vs ++ (members g 0 n ++ env))) (core.Caller b.nodes gt ∷ k))
        (code.go (1 + x.nodes) world (code.first_of x.segments) [] (code.frame_of x g env vs) (l ∷ cs))
    entered_both b x n sees g vs env sp lv le =
        let nd = sp.nodes in
        record {
          cost' = weighing (1 + x.nodes);
          u = code.at (code.first_of x.segments) [] (code.frame_of x g env vs) (l ∷ cs);
          is = refl;
          flat = omega arithmetic;
          p' = p;
          b' = 0;
          pays = omega (arithmetic, nd);
          rel = body_rel sizes context nodes source program b x n sees sp g vs env lv le (core.Caller b.nodes gt ∷ k) (l ∷ cs) p q
              (λ D o at. record { o = o; at = at; is = refl; deep = nd; same = same; t = t; free = free; to = to; kinds = kinds; r = q; less = omega arithmetic; outer = cont }) enough;
        }

    -- as many arguments as parameters
    with_arguments : (b : exp.Body) (x : instr.Body) (n sees g : ℕ) (vs env : List Value) → SplitsBody sizes n sees b x → length env ≡ sees → (e : Bool) → nat_eq (length vs) b.parameters ≡ e
        → B p (cond e (core.go source context nodes (1 + b.nodes) world (Eval b.expression (vs ++ (members g 0 n ++ env))) (core.Caller b.nodes gt ∷ k)) (core.stuck source context nodes world))
        (cond (nat_eq (length vs) x.parameters) (code.go (1 + x.nodes) world (code.first_of x.segments) [] (code.frame_of x g env vs) (l ∷ cs)) (code.stuck world))
    with_arguments b x n sees g vs env sp le false i = tt
    with_arguments b x n sees g vs env sp le true i =
        let pe = sp.parameters in
        let ok : nat_eq (length vs) x.parameters ≡ true = ap (nat_eq (length vs)) pe ∙ i in
        subst (λ e. B p (core.go source context nodes (1 + b.nodes) world (Eval b.expression (vs ++ (members g 0 n ++ env))) (core.Caller b.nodes gt ∷ k))
        (cond e (code.go (1 + x.nodes) world (code.first_of x.segments) [] (code.frame_of x g env vs) (l ∷ cs)) (code.stuck world))) (sym ok)
        (entered_both b x n sees g vs env sp (eqb-true (length vs) b.parameters i) le)

    member_both : (gr : Group exp.Body) (y : Group instr.Body) → SplitsGroup sizes gr y → (g m : ℕ) (vs env : List Value) → length env ≡ gr.sees → (o : Option exp.Body) → slice_get gr.bodies m ≡ o
        → B p (on_some (core.stuck source context nodes world) o
        (λ b. cond (nat_eq (length vs) b.parameters) (core.go source context nodes (1 + b.nodes) world (Eval b.expression (vs ++ (members g 0 (length gr.bodies) ++ env))) (core.Caller b.nodes gt ∷ k)) (core.stuck source context nodes world)))
        (code.entered program context world g vs env l cs y.bodies m)
    member_both gr y sg g m vs env le None e = tt
    member_both gr y sg g m vs env le (Some b) e =
        let z = sg.bodies m b e in
        subst (λ o. B p (cond (nat_eq (length vs) b.parameters) (core.go source context nodes (1 + b.nodes) world (Eval b.expression (vs ++ (members g 0 (length gr.bodies) ++ env))) (core.Caller b.nodes gt ∷ k)) (core.stuck source context nodes world))
        (on_some (code.stuck world) o (λ x. cond (nat_eq (length vs) x.parameters) (code.go (1 + x.nodes) world (code.first_of x.segments) [] (code.frame_of x g env vs) (l ∷ cs)) (code.stuck world)))) (sym (z.1))
        (with_arguments b (z.0) (length gr.bodies) gr.sees g vs env (z.2) le (nat_eq (length vs) b.parameters) refl)

    seeing_both : (gr : Group exp.Body) (y : Group instr.Body) → SplitsGroup sizes gr y → (h : Handle) (vs env : List Value) → (e : Bool) → nat_eq (length env) gr.sees ≡ e
        → B p (cond e (core.entered source context nodes world h.group vs env gt k gr.bodies h.member) (core.stuck source context nodes world)) (code.entered program context world h.group vs env l cs y.bodies h.member)
    seeing_both gr y sg h vs env false i = tt
    seeing_both gr y sg h vs env true i = member_both gr y sg h.group h.member vs env (eqb-true (length env) gr.sees i) (slice_get gr.bodies h.member) refl

    group_both : (h : Handle) (vs : List Value) (made : MadeGroup) (o : Option (Group exp.Body)) → slice_get source.groups made.code ≡ o
        → B p (on_some (core.stuck source context nodes world) o (λ gr. cond (nat_eq (length made.seen) gr.sees) (core.entered source context nodes world h.group vs made.seen gt k gr.bodies h.member) (core.stuck source context nodes world)))
        (on_some (code.stuck world) (slice_get program.groups made.code) (λ y. code.entered program context world h.group vs made.seen l cs y.bodies h.member))
    group_both h vs made None e = tt
    group_both h vs made (Some gr) e =
        let z = fits.groups made.code gr e in
        subst (λ o. B p (cond (nat_eq (length made.seen) gr.sees) (core.entered source context nodes world h.group vs made.seen gt k gr.bodies h.member) (core.stuck source context nodes world))
        (on_some (code.stuck world) o (λ y. code.entered program context world h.group vs made.seen l cs y.bodies h.member))) (sym (z.1))
        (seeing_both gr (z.0) (z.2) h vs made.seen (nat_eq (length made.seen) gr.sees) refl)

    made_both : (h : Handle) (vs : List Value) (o : Option MadeGroup)
        → B p (on_some (core.stuck source context nodes world) o (λ made. on_some (core.stuck source context nodes world) (slice_get source.groups made.code)
        (λ gr. cond (nat_eq (length made.seen) gr.sees) (core.entered source context nodes world h.group vs made.seen gt k gr.bodies h.member) (core.stuck source context nodes world))))
        (on_some (code.stuck world) o (λ made. on_some (code.stuck world) (slice_get program.groups made.code) (λ y. code.entered program context world h.group vs made.seen l cs y.bodies h.member)))
    made_both h vs None = tt
    made_both h vs (Some made) = group_both h vs made (slice_get source.groups made.code) refl

    handle_both : (vs : List Value) (o : Option Handle)
        → B p (on_some (core.stuck source context nodes world) o (λ h. on_some (core.stuck source context nodes world) (slice_get world.groups h.group)
        (λ made. on_some (core.stuck source context nodes world) (slice_get source.groups made.code)
        (λ gr. cond (nat_eq (length made.seen) gr.sees) (core.entered source context nodes world h.group vs made.seen gt k gr.bodies h.member) (core.stuck source context nodes world)))))
        (on_some (code.stuck world) o (λ h. on_some (code.stuck world) (slice_get world.groups h.group)
        (λ made. on_some (code.stuck world) (slice_get program.groups made.code) (λ y. code.entered program context world h.group vs made.seen l cs y.bodies h.member))))
    handle_both vs None = tt
    handle_both vs (Some h) = made_both h vs (slice_get world.groups h.group)

    pub called_both : (v : Value) (vs : List Value) → B p (core.called source context nodes world v vs gt k) (code.called program context world v vs l cs)
    called_both v vs = handle_both vs (handle_of v)

  module _ (p q : ℕ) (world : World) (k : List core.Frame) (t : Option ℕ) (free to : ℕ) (kinds : List Kind) (c : Code) (ks : List Around) (f : code.Frame) (cs : List code.Caller)
      (to_is : to ≡ slot t free) (cont : Ct sizes context nodes source program k (To t) free kinds c ks f cs q) (enough : q + 1 ≤ p) where
    given_both : (w : ℕ) (v : Value) → B p (core.go source context nodes w world (Give v) k) (code.go w world c ks (put f to v) cs)
    given_both w v =
        let sl = slack_le sizes context nodes source program k in
        record {
          cost' = weighing w;
          u = code.at c ks (put f to v) cs;
          is = refl;
          flat = omega arithmetic;
          p' = p;
          b' = 0;
          pays = omega arithmetic;
          rel = subst (λ i. Rl sizes context nodes source program p 0 (s_at sizes context nodes source program (Give v) k) (code.at c ks (put f i v) cs)) (sym to_is)
              (given_rel sizes context nodes source program p v k t free free kinds c ks f cs q cont (omega arithmetic) (omega (arithmetic, enough, sl)));
        }

    -- an array in progress
    pub gather_both : (v : Value) (next left : ℕ) (vs : List Value) → B p (core.gather source context nodes world v next left vs k) (code.gather program context world v next left vs to c ks f cs)
    gather_both v next zero vs = given_both (2 + length vs) (array vs)
    gather_both v next (suc left) vs =
        called_both p q world (Some (record { function = v; next = suc next; remaining = left; done = vs })) k
        (code.caller_with program context to c ks f (Some (record { function = v; next = suc next; remaining = left; done = vs }))) cs t free kinds to_is refl cont enough v (number next ∷ [])
    -- a function's value is handed back to the caller l

  pub handed_both : (p q : ℕ) (world : World) (k : List core.Frame) (t : Option ℕ) (free : ℕ) (kinds : List Kind) (l : code.Caller) (cs : List code.Caller) → l.to ≡ slot t free
      → Ct sizes context nodes source program k (To t) free kinds l.rest l.around l.frame cs q → q + 1 ≤ p → (v : Value) (gt : Option Gathering)
      → B p (core.handed source context nodes world v gt k) (code.handed program context world v gt l cs)
  handed_both p q world k t free kinds l cs to cont enough v None = given_both p q world k t free l.to kinds l.rest l.around l.frame cs to cont enough 1 v
  handed_both p q world k t free kinds l cs to cont enough v (Some g) =
      heavier_both sizes context nodes source program 1 p _ _
      (gather_both p q world k t free l.to kinds l.rest l.around l.frame cs to cont enough g.function g.next g.remaining (g.done ++ v ∷ []))
