-- What is done with values is matched by the code of its goal.
use Rattle.std.proofs.Common.{◌≡◌, ℕ, suc, ◌+◌, ◌≤◌, ◌⊎◌, inl, inr, refl, sym, ap, ◌∙◌, subst, List, [], ◌∷◌, Option, Some, None, Bool, true, false, arith as arithmetic}
use Rattle.std.specs.Prelude.{slice_get, cond}
use Rattle.mo_values.specs.Costs.{Cost, weighing}
use Rattle.mo_values.specs.Shapes.{Bytes, unit}
use Rattle.core_ir.specs.declared.code.Operand.{Operand}
use Rattle.core_ir.specs.declared.code.Operand.TheVariants.{Slot}
use Rattle.core_ir.specs.declared.code.Way.{Way}
use Rattle.core_ir.specs.declared.code.Way.TheVariants.{Near, Far}
use Rattle.core_ir.specs.Choices.{on_some, filled}
use Rattle.core_ir.specs.Values.{Value}
use Rattle.core_ir.specs.Worlds.{World, Context}
use Rattle.core_ir.specs.Executions.{Replies, Rejects, Waits, Traps, Go, Ends}
use Rattle.core_ir.specs.Expressions as exp
use Rattle.core_ir.specs.Expressions.{Exp, Constant?, Name, Do, Exps, NoExp, AnExp, Goal, Core}
use Rattle.core_ir.specs.CoreMachine as core
use Rattle.core_ir.specs.CoreMachine.{Arguments, Looping, Labelled, Trying, Join, Eval, Give}
use Rattle.core_ir.specs.Code.{Code, Stop, Let, If, Match, Branch, Leave, Pass, Call, Tabulate, Send, Wait, Raise, Return, CodeProgram}
use Rattle.core_ir.specs.CodeMachine as code
use Rattle.core_ir.specs.CodeMachine.{Around, Within, Again, Place, settle, value, values, put, branch, onto, by_way, raise}
use Rattle.core_laws.specs.Around.{Kind, Other, way, target, handler, AllFar}
use Rattle.core_laws.specs.Slots.{slot}
use Rattle.core_laws.specs.Splits.{Splits, SplitsGoal}
use Rattle.core_ir.specs.declared.primitive.Primitive.{Primitive}
use Rattle.core_ir.specs.declared.primitive.Primitive.TheVariants as primitive
use Rattle.mo_values.specs.Views.{flag_of, natural_of}
use Rattle.core_ir.specs.Choices.{choose}
use Rattle.core_ir.specs.Primitives as done
use Rattle.core_ir.specs.Primitives.{Done, Gives, Prints, Fails, perform}
use Rattle.core_ir.specs.Worlds.{with_store}
use Rattle.core_ir.specs.Executions.{heavier}
use Rattle.core_ir.specs.Calls.{refusal, Sent, Sends, Refused, TooLong, NoCall, sent, Awaited, Suspends, NoRoom, NoFuture, awaited}
use Rattle.core_ir.specs.Openings.{Opened, Inside, Otherwise, NotOne, opened}
use Rattle.core_ir.specs.Expressions.{Operate, Choose, Bind, Throw, Await, Break}
use Rattle.core_laws.specs.Slots.{move, jump}
use Rattle.core_laws.specs.Splits.{Here, SplitsProgram}
use Rattle.core_laws.proofs.Continuations.{Dest, To, Apart, Below, ApartL, BelowL, Clear, stable, weaken, far_any, fill_same}
use Rattle.core_laws.proofs.Unwinding.{slots_at, need, need_le, need_leave, Ready, Lands, left_lands, Thrown, thrown_throws, Returned, returned_returns, below_all, clear_more, clear_slot, below_slot, scope_slot, on_there}
use Rattle.core_laws.proofs.Related.{place_at, settled, Pos, runs_at, leaves_at, Has, slack, slack_le, Both, matches_both, heavier_both, exp_size, goal_size, stack_size}
use Rattle.core_laws.proofs.Given.{Heavy, Ct, Rl, s_at, Mt, given_rel, ready_rel, at_place}
use Rattle.core_laws.proofs.CalledFunctions.{called_both, gather_both, handed_both}

module _ (sizes : ℕ → ℕ) (context : Context) (nodes : ℕ) (source : Core) (program : CodeProgram) where
  module _ (p b n m : ℕ) (world : World) (s : code.State) (k : List core.Frame) (t : Option ℕ) (base g : ℕ) (ns : List Operand) (ls : List Kind) (c : Code) (ks : List Around) (q : ℕ) (cont : Ct sizes context nodes source program k (To t) base ls c ks s.frame s.callers q) (low : base ≤ g) (below : BelowL base ns) (clear : Clear sizes context.globals nodes t base ns) (enough : q + 1 ≤ p + b) (shallow : code.depth s ≤ m) where
    abbrev f : code.Frame
    f = s.frame

    abbrev cs : List code.Caller
    cs = s.callers

    abbrev env : List Value
    env = values context.globals f ns

    abbrev place_now : Place
    place_now = settle s.around s.code

    abbrev M : core.Did → Type 0
    M = Mt sizes context nodes source program p b n m world s

    is_stuck : (d : core.Did) → d ≡ core.stuck source context nodes world → M d
    is_stuck d e = subst M (sym e) tt

    if_m : (x : Bool) (d : core.Did) → (x ≡ true → M d) → M (cond x d (core.stuck source context nodes world))
    if_m true d h = h refl
    if_m false d h = tt

    one_m : (vs : List Value) (kf : Value → core.Did) → ((v : Value) → vs ≡ v ∷ [] → M (kf v)) → M (core.on_one source context nodes world vs kf)
    one_m [] kf h = tt
    one_m (v ∷ []) kf h = h v refl
    one_m (v ∷ w ∷ vs) kf h = tt

    enough_now : b ≡ 0 → (x : ℕ) → x ≤ 1 → q + x ≤ p + 0
    enough_now e x l = let a = enough in omega (arithmetic, a, e, l)

    -- one step that gives a value
    gave : (cost : Cost) (o : List Bytes) (world' : World) (v : Value) → b ≡ 0 → code.step program context world s ≡ Go cost o world' (code.at c ks (put f (slot t g) v) cs)
        → M (Go cost o world' (s_at sizes context nodes source program (Give v) k))
    gave cost o world' v z e =
        inr (record {
          cost' = cost;
          u = code.at c ks (put f (slot t g) v) cs;
          does = inl (e, shallow);
          flat = omega arithmetic;
          p' = p;
          b' = 0;
          pays = omega arithmetic;
          rel = given_rel sizes context nodes source program p v k t base g ls c ks f cs q cont low (enough_now z (slack sizes context nodes source program k) (slack_le sizes context nodes source program k));
        })

    -- one step that ends
    fell : (cost : Cost) (o : List Bytes) (world' : World) (text : Bytes) → code.step program context world s ≡ Ends cost o world' (Traps text) → M (Ends cost o world' (Traps text))
    fell cost o world' text e = record { cost' = cost; r' = Traps text; does = inl (e, shallow); flat = omega arithmetic; pays = omega arithmetic; fits = refl }

    operated_m : (d : Done) → b ≡ 0 → code.step program context world s ≡ code.operated world (slot t g) c ks f cs d → M (core.operated source context nodes world k d)
    operated_m (Gives cost v store) z e = gave cost [] (with_store world store) v z e
    operated_m (Prints cost text) z e = gave cost (text ∷ []) world unit z e
    operated_m (Fails cost text) z e = fell cost [] world text e
    operated_m done.Stuck z e = tt

    -- an error
    threw : (v : Value) → b ≡ 0 → code.step program context world s ≡ raise world v (handler ls) ks f cs → Thrown sizes context nodes source world v k ls ks f cs q → M (core.thrown source context nodes world v k)
    threw v z e (inl (inl a)) = is_stuck _ a
    threw v z e (inl (inr a)) =
        subst M (sym (a.0)) (record { cost' = weighing 1; r' = Rejects v; does = inl (e ∙ a.1, shallow); flat = omega arithmetic; pays = omega arithmetic; fits = refl })
    threw v z e (inr x) =
        let y = x.paid in
        let a = enough in
        subst M (sym x.is) (inr (record {
          cost' = weighing 1;
          u = code.at x.m x.around (put f x.s v) cs;
          does = inl (e ∙ x.comes, shallow);
          flat = omega arithmetic;
          p' = 1 + p;
          b' = 0;
          pays = omega arithmetic;
          rel = ready_rel sizes context nodes source program (1 + p) x.b x.env x.to x.t x.h x.ns x.kinds x.c x.m x.around (put f x.s v) cs x.r x.ready (omega (arithmetic, y, a, z));
        }))

    thrown_m : (v : Value) → b ≡ 0 → code.step program context world s ≡ raise world v (handler ls) ks f cs → M (core.thrown source context nodes world v k)
    thrown_m v z e = threw v z e (thrown_throws sizes context nodes source world v k (To t) base ls c ks f cs q cont)

    -- an expression is next, after one step
    goes : (cost : Cost) (wd : World) (e : Exp) (env' : List Value) (k' : List core.Frame) (t' : Option ℕ) (h : ℕ) (ns' : List Operand) (ls' : List Kind) (c' d : Code) (ks' : List Around) (f' : code.Frame) (cs' : List code.Caller) (q' : ℕ)
        → Ready sizes context nodes source e env' k' t' h ns' ls' c' d ks' f' cs' q' → q' + need sizes context nodes source e t' k' c' ≤ suc q → 1 ≤ cost.weight → b ≡ 0
        → code.step program context world s ≡ Go cost [] wd (code.at d ks' f' cs') → M (Go cost [] wd (s_at sizes context nodes source program (Eval e env') k'))
    goes cost wd e env' k' t' h ns' ls' c' d ks' f' cs' q' r i one z st =
        let a = enough in
        inr (record {
          cost' = cost;
          u = code.at d ks' f' cs';
          does = inl (st, shallow);
          flat = omega arithmetic;
          p' = cost.weight + p;
          b' = 0;
          pays = omega arithmetic;
          rel = ready_rel sizes context nodes source program (cost.weight + p) e env' k' t' h ns' ls' c' d ks' f' cs' q' r (omega (arithmetic, a, i, one, z));
        })

    join_whole : (f' : code.Frame) (e : Exp) (env' : List Value) (h : ℕ) (ns' : List Operand) (d : Code) → Splits sizes f'.body.segments e t h ns' (Other ∷ ls) Stop d → Ct sizes context nodes source program k (To t) base ls c ks f' cs q → base ≤ h → values context.globals f' ns' ≡ env' → BelowL h ns' → Clear sizes context.globals nodes t h ns' → Ready sizes context nodes source e env' (Join ∷ k) t h ns' (Other ∷ ls) Stop d (Within c ∷ ks) f' cs q
    join_whole f' e env' h ns' d sp ct lo sc be cl =
        record { splits = sp; cont = record { t = t; some = refl; base = base; low = lo; kinds = ls; around = ks; n = c; r = q; outer = ct; kind = inl (record { here = refl; is = refl; within = refl; less = omega arithmetic }) }; scope = sc; below = be; clear = cl }

    join_cut : (f' : code.Frame) (j : ℕ) → slice_get f'.body.segments j ≡ Some c → AllFar ls → (ks' : List Around) (e : Exp) (env' : List Value) (h : ℕ) (ns' : List Operand) (d : Code) → Splits sizes f'.body.segments e t h ns' ls (Leave j) d → Ct sizes context nodes source program k (To t) base ls c ks f' cs q → base ≤ h → values context.globals f' ns' ≡ env' → BelowL h ns' → Clear sizes context.globals nodes t h ns' → Ready sizes context nodes source e env' (Join ∷ k) t h ns' ls (Leave j) d ks' f' cs (suc q)
    join_cut f' j at far ks' e env' h ns' d sp ct lo sc be cl =
        record { splits = sp; cont = record { t = t; some = refl; base = base; low = lo; kinds = ls; around = ks; n = c; r = q; outer = ct; kind = inr (record { j = j; here = refl; is = refl; at = at; far = far; less = omega arithmetic }) }; scope = sc; below = be; clear = cl }

    pays_whole : (e : Exp) → q + need sizes context nodes source e t (Join ∷ k) Stop ≤ suc q
    pays_whole e = let a = need_le sizes context nodes source e t (Join ∷ k) Stop in omega (arithmetic, a)

    pays_cut : (e : Exp) (j : ℕ) → suc q + need sizes context nodes source e t (Join ∷ k) (Leave j) ≤ suc q
    pays_cut e j = let a = need_leave sizes context nodes source e t (Join ∷ k) j in omega (arithmetic, a)

    flag_m : (v : Value) (kf : Bool → core.Did) → ((x : Bool) → flag_of v ≡ Some x → M (kf x)) → M (on_some (core.stuck source context nodes world) (flag_of v) kf)
    flag_m v kf h = by (flag_of v) h
      where
        by : (o : Option Bool) → ((x : Bool) → o ≡ Some x → M (kf x)) → M (on_some (core.stuck source context nodes world) o kf)
        by None h = tt
        by (Some x) h = h x refl

    below_g : BelowL g ns
    below_g = below_all sizes context nodes source base g ns low below

    clear_g : Clear sizes context.globals nodes t g ns
    clear_g = clear_more sizes context nodes source t base g ns low clear

    -- a branch on a truth value
    chosen_whole : (a e : Exp) (y nay : Code) → Splits sizes f.body.segments a t g ns (Other ∷ ls) Stop y → Splits sizes f.body.segments e t g ns (Other ∷ ls) Stop nay → (ans : Done) → Heavy ans → b ≡ 0 → code.step program context world s ≡ code.chosen world y nay c ks f cs ans → M (core.chosen source context nodes world a e env k ans)
    chosen_whole a e y nay sy sn (Gives cost v store) hv z st = flag_m v _ pick
      where
        on_it : (x : Bool) → flag_of v ≡ Some x → code.step program context world s ≡ Go cost [] (with_store world store) (code.at (choose x y nay) (Within c ∷ ks) f cs)
        on_it x i = st ∙ ap (λ o. on_some (code.stuck world) o (λ x. Go cost [] (with_store world store) (code.at (choose x y nay) (Within c ∷ ks) f cs))) i

        pick : (x : Bool) → flag_of v ≡ Some x → M (Go cost [] (with_store world store) (s_at sizes context nodes source program (Eval (choose x a e) env) (Join ∷ k)))
        pick true i = goes cost (with_store world store) a env (Join ∷ k) t g ns (Other ∷ ls) Stop y (Within c ∷ ks) f cs q (join_whole f a env g ns y sy cont low refl below_g clear_g) (pays_whole a) hv z (on_it true i)
        pick false i = goes cost (with_store world store) e env (Join ∷ k) t g ns (Other ∷ ls) Stop nay (Within c ∷ ks) f cs q (join_whole f e env g ns nay sn cont low refl below_g clear_g) (pays_whole e) hv z (on_it false i)
    chosen_whole a e y nay sy sn (Prints cost text) hv z st = tt
    chosen_whole a e y nay sy sn (Fails cost text) hv z st = fell cost [] world text st
    chosen_whole a e y nay sy sn done.Stuck hv z st = tt

    chosen_cut : (j : ℕ) → slice_get f.body.segments j ≡ Some c → AllFar ls → (a e : Exp) (y nay : Code) → Splits sizes f.body.segments a t g ns ls (Leave j) y → Splits sizes f.body.segments e t g ns ls (Leave j) nay → (ans : Done) → Heavy ans → b ≡ 0 → code.step program context world s ≡ code.chosen world y nay (Leave j) ks f cs ans → M (core.chosen source context nodes world a e env k ans)
    chosen_cut j at far a e y nay sy sn (Gives cost v store) hv z st = flag_m v _ pick
      where
        on_it : (x : Bool) → flag_of v ≡ Some x → code.step program context world s ≡ Go cost [] (with_store world store) (code.at (choose x y nay) (Within (Leave j) ∷ ks) f cs)
        on_it x i = st ∙ ap (λ o. on_some (code.stuck world) o (λ x. Go cost [] (with_store world store) (code.at (choose x y nay) (Within (Leave j) ∷ ks) f cs))) i

        pick : (x : Bool) → flag_of v ≡ Some x → M (Go cost [] (with_store world store) (s_at sizes context nodes source program (Eval (choose x a e) env) (Join ∷ k)))
        pick true i = goes cost (with_store world store) a env (Join ∷ k) t g ns ls (Leave j) y (Within (Leave j) ∷ ks) f cs (suc q) (join_cut f j at far (Within (Leave j) ∷ ks) a env g ns y sy cont low refl below_g clear_g) (pays_cut a j) hv z (on_it true i)
        pick false i = goes cost (with_store world store) e env (Join ∷ k) t g ns ls (Leave j) nay (Within (Leave j) ∷ ks) f cs (suc q) (join_cut f j at far (Within (Leave j) ∷ ks) e env g ns nay sn cont low refl below_g clear_g) (pays_cut e j) hv z (on_it false i)
    chosen_cut j at far a e y nay sy sn (Prints cost text) hv z st = tt
    chosen_cut j at far a e y nay sy sn (Fails cost text) hv z st = fell cost [] world text st
    chosen_cut j at far a e y nay sy sn done.Stuck hv z st = tt

    -- a branch on a shape
    cont_put : (v : Value) → Ct sizes context nodes source program k (To t) base ls c ks (put f g v) cs q
    cont_put v = stable sizes context.globals nodes k (To t) base ls c ks f cs q g v (inl low) cont

    scope_put : (v : Value) → values context.globals (put f g v) (Slot g ∷ ns) ≡ v ∷ env
    scope_put v = scope_slot sizes context nodes source f base g ns env v low below refl

    below_put : BelowL (suc g) (Slot g ∷ ns)
    below_put = below_slot sizes context nodes source base g ns low below

    clear_put : Clear sizes context.globals nodes t (suc g) (Slot g ∷ ns)
    clear_put = clear_slot sizes context nodes source t base g ns low clear

    low_s : base ≤ suc g
    low_s = let a = low in omega (arithmetic, a)

    matched_whole : (a e : Exp) (y nay : Code) → Splits sizes f.body.segments a t (suc g) (Slot g ∷ ns) (Other ∷ ls) Stop y → Splits sizes f.body.segments e t (suc g) ns (Other ∷ ls) Stop nay → (o : Opened) → b ≡ 0 → code.step program context world s ≡ code.matched world g y nay c ks f cs o → M (core.matched source context nodes world a e env k o)
    matched_whole a e y nay sy sn (Inside v) z st = goes (weighing 1) world a (v ∷ env) (Join ∷ k) t (suc g) (Slot g ∷ ns) (Other ∷ ls) Stop y (Within c ∷ ks) (put f g v) cs q (join_whole (put f g v) a (v ∷ env) (suc g) (Slot g ∷ ns) y sy (cont_put v) low_s (scope_put v) below_put clear_put) (pays_whole a) (omega arithmetic) z st
    matched_whole a e y nay sy sn Otherwise z st = goes (weighing 1) world e env (Join ∷ k) t (suc g) ns (Other ∷ ls) Stop nay (Within c ∷ ks) f cs q (join_whole f e env (suc g) ns nay sn cont low_s refl (below_all sizes context nodes source base (suc g) ns low_s below) (clear_more sizes context nodes source t base (suc g) ns low_s clear)) (pays_whole e) (omega arithmetic) z st
    matched_whole a e y nay sy sn NotOne z st = tt

    matched_cut : (j : ℕ) → slice_get f.body.segments j ≡ Some c → AllFar ls → (a e : Exp) (y nay : Code) → Splits sizes f.body.segments a t (suc g) (Slot g ∷ ns) ls (Leave j) y → Splits sizes f.body.segments e t (suc g) ns ls (Leave j) nay → (o : Opened) → b ≡ 0 → code.step program context world s ≡ code.matched world g y nay (Leave j) ks f cs o → M (core.matched source context nodes world a e env k o)
    matched_cut j at far a e y nay sy sn (Inside v) z st = goes (weighing 1) world a (v ∷ env) (Join ∷ k) t (suc g) (Slot g ∷ ns) ls (Leave j) y (Within (Leave j) ∷ ks) (put f g v) cs (suc q) (join_cut (put f g v) j at far (Within (Leave j) ∷ ks) a (v ∷ env) (suc g) (Slot g ∷ ns) y sy (cont_put v) low_s (scope_put v) below_put clear_put) (pays_cut a j) (omega arithmetic) z st
    matched_cut j at far a e y nay sy sn Otherwise z st = goes (weighing 1) world e env (Join ∷ k) t (suc g) ns ls (Leave j) nay (Within (Leave j) ∷ ks) f cs (suc q) (join_cut f j at far (Within (Leave j) ∷ ks) e env (suc g) ns nay sn cont low_s refl (below_all sizes context nodes source base (suc g) ns low_s below) (clear_more sizes context nodes source t base (suc g) ns low_s clear)) (pays_cut e j) (omega arithmetic) z st
    matched_cut j at far a e y nay sy sn NotOne z st = tt

    lone_callers : (k : List core.Frame) (D : Dest) (h : ℕ) (ls : List Kind) (c : Code) (ks : List Around) (f : code.Frame) (cs : List code.Caller) (q : ℕ) → core.is_lone k ≡ true → Ct sizes context nodes source program k D h ls c ks f cs q → cs ≡ []
    lone_callers [] D h ls c ks f cs q e x = x.outer
    lone_callers (core.Caller n gt ∷ k) D h ls c ks f cs q e x = absurd (let z : false ≡ true = e in cc)
    lone_callers (Arguments goal done es env ∷ k) D h ls c ks f cs q e x = lone_callers k (To x.t) x.base ls x.n ks f cs x.r e x.outer
    lone_callers (Looping b env ∷ k) D h ls c ks f cs q e x = lone_callers k (To x.t) x.base x.kinds x.n x.around f cs x.r e x.outer
    lone_callers (Labelled ∷ k) D h ls c ks f cs q e x = lone_callers k (To x.t) x.base x.kinds x.n x.around f cs x.r e x.outer
    lone_callers (Trying b env ∷ k) D h ls c ks f cs q e x = lone_callers k (To x.t) x.base x.kinds x.n x.around f cs x.r e x.outer
    lone_callers (Join ∷ k) D h ls c ks f cs q e x = lone_callers k (To x.t) x.base x.kinds x.n x.around f cs x.r e x.outer

    -- a call of a shared function
    asked_m : (x : Sent) → b ≡ 0 → code.step program context world s ≡ code.asked world (slot t g) (handler ls) c ks f cs x → M (core.asked source context nodes world k x)
    asked_m (Sends cost world' future) z st = gave cost [] world' future z st
    asked_m Refused z st = thrown_m refusal z st
    asked_m (TooLong cost) z st = fell cost [] world _ st
    asked_m NoCall z st = tt

    -- an await, of the body that was entered
    waits_m : core.is_lone k ≡ true → (j : ℕ) → slice_get f.body.segments j ≡ Some c → AllFar ls → (x : Awaited) → b ≡ 0 → code.step program context world s ≡ code.waits world (slot t g) (handler ls) j ks f cs x
        → M (core.waits source context nodes world k x)
    waits_m e j at far (Suspends cost world' on) z st =
        let none = lone_callers k (To t) base ls c ks f cs q e cont in
        let w : code.Waiting = record { frame = f; to = slot t g; handler = handler ls; segment = j } in
        record {
          cost' = cost;
          r' = Waits on w;
          does = inl (st ∙ ap (code.suspended world' cost on w) none, shallow);
          flat = omega arithmetic;
          pays = omega arithmetic;
          fits = (
            w,
            refl,
            refl,
            record {
              t = t;
              base = base;
              g = g;
              ls = ls;
              c = c;
              q = q;
              low = low;
              to = refl;
              handler_is = refl;
              at = at;
              cont = subst (λ cs. Ct sizes context nodes source program k (To t) base ls c [] f cs q) none (far_any sizes context.globals nodes k (To t) base ls c ks [] f cs q far cont);
            },
          );
        }
    waits_m e j at far NoRoom z st = thrown_m refusal z st
    waits_m e j at far NoFuture z st = tt

    lone_nodes : (k : List core.Frame) (D : Dest) (h : ℕ) (ls : List Kind) (c : Code) (ks : List Around) (f : code.Frame) (cs : List code.Caller) (q : ℕ) → core.is_lone k ≡ true → Ct sizes context nodes source program k D h ls c ks f cs q → f.body.nodes ≡ nodes
    lone_nodes [] D h ls c ks f cs q e x = x.deep
    lone_nodes (core.Caller n gt ∷ k) D h ls c ks f cs q e x = absurd (let z : false ≡ true = e in cc)
    lone_nodes (Arguments goal done es env ∷ k) D h ls c ks f cs q e x = lone_nodes k (To x.t) x.base ls x.n ks f cs x.r e x.outer
    lone_nodes (Looping b env ∷ k) D h ls c ks f cs q e x = lone_nodes k (To x.t) x.base x.kinds x.n x.around f cs x.r e x.outer
    lone_nodes (Labelled ∷ k) D h ls c ks f cs q e x = lone_nodes k (To x.t) x.base x.kinds x.n x.around f cs x.r e x.outer
    lone_nodes (Trying b env ∷ k) D h ls c ks f cs q e x = lone_nodes k (To x.t) x.base x.kinds x.n x.around f cs x.r e x.outer
    lone_nodes (Join ∷ k) D h ls c ks f cs q e x = lone_nodes k (To x.t) x.base x.kinds x.n x.around f cs x.r e x.outer

    -- a break
    copied : (v : Value) (i : Option ℕ) (y : Option ℕ) → y ≡ i → (f' : code.Frame) → Has sizes context nodes source program (To i) f' v → Has sizes context nodes source program (To y) f' v
    copied v i y e f' h = subst (λ y. Has sizes context nodes source program (To y) f' v) (sym e) h

    nothing : (v : Value) (f' : code.Frame) → Has sizes context nodes source program (To None) f' v
    nothing v f' = tt

    -- it has landed
    landed : (v : Value) (p' : ℕ) (to : List core.Frame) (t' : Option ℕ) (base' : ℕ) (kinds : List Kind) (n' : Code) (around : List Around) (r : ℕ) (f' : code.Frame) → Ct sizes context nodes source program to (To t') base' kinds n' around f' cs r → Has sizes context nodes source program (To t') f' v → r + 1 ≤ p' → Rl sizes context nodes source program p' 0 (s_at sizes context nodes source program (Give v) to) (code.at n' around f' cs)
    landed v p' to t' base' kinds n' around r f' ct h e =
        let a = slack_le sizes context nodes source program to in
        (refl, record { D = To t'; h = base'; ls = kinds; c = n'; ks = around; q = r; cont = ct; has = h; pos = inl (refl, refl); enough = omega (arithmetic, a, e) })

    -- in one step, whatever is written first
    breaks_one : (v : Value) (l : ℕ) (i : Option ℕ) → (y : Lands sizes context nodes source world l v k ls ks f cs q) → (sl : List Value) → target ls l ≡ i → Has sizes context nodes source program (To i) (slots_at f sl) v → ((to : List core.Frame) (t' : Option ℕ) (base' : ℕ) (kinds : List Kind) (n' : Code) (around : List Around) (r : ℕ) → t' ≡ i → Ct sizes context nodes source program to (To t') base' kinds n' around f cs r → Ct sizes context nodes source program to (To t') base' kinds n' around (slots_at f sl) cs r) → b ≡ 0 → code.step program context world s ≡ by_way world (way ls l) ks (slots_at f sl) cs → M (core.left source context nodes world l v k)
    breaks_one v l i (inl e) sl ti h keep z st = is_stuck _ e
    breaks_one v l i (inr y) sl ti h keep z st =
        let a = enough in
        let e = y.less in
        let ii : y.t ≡ i = sym y.slot_is ∙ ti in
        subst M (sym y.is) (inr (record { cost' = weighing 1; flat = omega arithmetic; u = code.at y.n y.around (slots_at f sl) cs; does = inl (st ∙ y.comes sl, shallow); p' = 1 + p; b' = 0; pays = omega arithmetic; rel = landed v (1 + p) y.to y.t y.base y.kinds y.n y.around y.r (slots_at f sl) (keep y.to y.t y.base y.kinds y.n y.around y.r ii y.cont) (copied v i y.t ii (slots_at f sl) h) (omega (arithmetic, a, e, z)) }))

    breaks_two : (v : Value) (l u n' : ℕ) (x : Operand) → v ≡ value context.globals f x → (y : Lands sizes context nodes source world l v k ls ks f cs q) → target ls l ≡ Some u → way ls l ≡ Near n' → b ≡ 0 → place_now ≡ place_at (Let u primitive.Copy (x ∷ []) (Branch n')) ks → M (core.left source context nodes world l v k)
    breaks_two v l u n' x vi (inl e) ti wi z st = is_stuck _ e
    breaks_two v l u n' x vi (inr y) ti wi z st =
        let a = enough in
        let e = y.less in
        let ii : y.t ≡ Some u = sym y.slot_is ∙ ti in
        let f' = put f u v in
        let u1 = code.at (Branch n') ks f' cs in
        let s1 : code.step program context world s ≡ code.go 1 world (Branch n') ks f' cs = at_place sizes context nodes source program world s (Let u primitive.Copy (x ∷ []) (Branch n')) ks st ∙ ap (λ v. code.go 1 world (Branch n') ks (put f u v) cs) (sym vi) in
        let s2 : code.step program context world u1 ≡ code.go 1 world y.n y.around f' cs = at_place sizes context nodes source program world u1 (Branch n') ks (settled ks (Branch n') tt) ∙ (ap (λ w. by_way world w ks f' cs) (sym wi) ∙ y.comes f'.slots) in
        subst M (sym y.is) (inr (record { cost' = weighing 2; flat = omega arithmetic; u = code.at y.n y.around f' cs; does = inr (record { w = 1; u = u1; e = code.go 1 world y.n y.around f' cs; first = s1; low = shallow; then = s2; low_too = shallow; is = refl; cost2 = weighing 1; world2 = world; v = code.at y.n y.around f' cs; silent = refl }); p' = p; b' = 0; pays = omega arithmetic; rel = landed v p y.to y.t y.base y.kinds y.n y.around y.r f' (stable sizes context.globals nodes y.to (To y.t) y.base y.kinds y.n y.around f cs y.r u v (inr (ap To ii)) y.cont) (copied v (Some u) y.t ii f' (fill_same unit f.slots u v)) (omega (arithmetic, a, e, z)) }))

    go_inj : (c d : Code) (ks ks' : List Around) (f : code.Frame) (cs : List code.Caller) → code.go 1 world c ks f cs ≡ code.go 1 world d ks' f cs → settle ks c ≡ settle ks' d
    go_inj c d ks ks' f cs e =
        let a : code.at c ks f cs ≡ code.at d ks' f cs = cc in
        ap (λ (x : code.State). settle x.around x.code) a

    -- the jump was made already
    breaks_none : (v : Value) (l j : ℕ) (c' : Code) (y : Lands sizes context nodes source world l v k ls ks f cs q) → target ls l ≡ None → way ls l ≡ Far j → slice_get f.body.segments j ≡ Some c' → b ≡ 1 → place_now ≡ place_at c' [] → M (core.left source context nodes world l v k)
    breaks_none v l j c' (inl e) ti wi at z st = is_stuck _ e
    breaks_none v l j c' (inr y) ti wi at z st =
        let a = enough in
        let e = y.less in
        let sl = slack_le sizes context nodes source program y.to in
        let ii : y.t ≡ None = sym y.slot_is ∙ ti in
        let i : code.go 1 world c' [] f cs ≡ code.go 1 world y.n y.around f cs = sym (on_there world j c' f cs at) ∙ ap (λ w. by_way world w ks f cs) (sym wi) ∙ y.comes f.slots in
        subst M (sym y.is) (inl (record { none = refl; same = refl; p' = 1 + p; b' = 0; pays = omega arithmetic; smaller = inl (omega (arithmetic, z)); rel = (refl, record { D = To y.t; h = y.base; ls = y.kinds; c = y.n; ks = y.around; q = y.r; cont = y.cont; has = copied v None y.t ii f tt; pos = inl (refl, st ∙ go_inj c' y.n [] y.around f cs i); enough = omega (arithmetic, a, e, z, sl) }) }))

    keep_as : (to : List core.Frame) (t' : Option ℕ) (base' : ℕ) (kinds : List Kind) (n' : Code) (around : List Around) (r : ℕ) (i : Option ℕ) → t' ≡ i → Ct sizes context nodes source program to (To t') base' kinds n' around f cs r → Ct sizes context nodes source program to (To t') base' kinds n' around f cs r
    keep_as to t' base' kinds n' around r i e ct = ct

    breaks : (x : Operand) (l : ℕ) (i : Option ℕ) (w : Way) → target ls l ≡ i → way ls l ≡ w → Here sizes f.body.segments (jump w) → Pos b (move i x (jump w)) ks f place_now → Lands sizes context nodes source world l (value context.globals f x) k ls ks f cs q → M (core.left source context nodes world l (value context.globals f x) k)
    breaks x l None (Near j) ti wi here ps y =
        let r = runs_at b (Branch j) ks f place_now ps tt in
        breaks_one (value context.globals f x) l None y f.slots ti tt (λ to t' base' kinds n' around r e ct. ct) r.0 (at_place sizes context nodes source program world s (Branch j) ks r.1 ∙ ap (λ w. by_way world w ks f cs) (sym wi))
    breaks x l (Some u) (Near j) ti wi here ps y =
        let r = runs_at b (Let u primitive.Copy (x ∷ []) (Branch j)) ks f place_now ps tt in
        breaks_two (value context.globals f x) l u j x refl y ti wi r.0 r.1
    breaks x l (Some u) (Far j) ti wi here ps y =
        let r = runs_at b (Pass u x j) ks f place_now ps tt in
        let v = value context.globals f x in
        breaks_one v l (Some u) y (filled unit f.slots u v) ti (fill_same unit f.slots u v) (λ to t' base' kinds n' around r e ct. stable sizes context.globals nodes to (To t') base' kinds n' around f cs r u v (inr (ap To e)) ct) r.0 (at_place sizes context nodes source program world s (Pass u x j) ks r.1 ∙ ap (λ w. by_way world w ks (put f u v) cs) (sym wi))
    breaks x l None (Far j) ti wi here ps y = on (leaves_at b j ks f place_now here.0 ps here.1)
      where
        on : ((b ≡ 0) × (place_now ≡ place_at (Leave j) ks)) ⊎ ((b ≡ 1) × (place_now ≡ place_at here.0 [])) → M (core.left source context nodes world l (value context.globals f x) k)
        on (inl r) = breaks_one (value context.globals f x) l None y f.slots ti tt (λ to t' base' kinds n' around r e ct. ct) r.0 (at_place sizes context nodes source program world s (Leave j) ks r.1 ∙ ap (λ w. by_way world w ks f cs) (sym wi))
        on (inr r) = breaks_none (value context.globals f x) l j here.0 y ti wi here.1 r.0 r.1

    -- the value is a name
    binds : (e : Exp) (x : Operand) (d : Code) → Splits sizes f.body.segments e t g (x ∷ ns) ls c d → Below g x → ((u : ℕ) → t ≡ Some u → Apart u x) → Pos b d ks f place_now → suc (exp_size sizes context nodes source program e) + stack_size sizes context nodes source program k ≤ n → M (Go (weighing 1) [] world (s_at sizes context nodes source program (Eval e (value context.globals f x ∷ env)) k))
    binds e x d sp be ap' ps sm =
        let a = enough in
        let i = need_le sizes context nodes source e t k c in
        inl (record { none = refl; same = refl; p' = 2 + p; b' = b; pays = omega arithmetic; smaller = inr (refl, omega (arithmetic, sm)); rel = (refl, record { t = t; D = To t; h = g; ns = x ∷ ns; ls = ls; c = c; d = d; ks = ks; q = q; splits = sp; cont = weaken sizes context.globals nodes k (To t) base g ls c ks f cs q q low (omega arithmetic) cont; scope = refl; below = (be, below_g); clear = λ u e. ((clear_g u e).0, (ap' u e, (clear_g u e).1)); aim = inl refl; pos = ps; enough = omega (arithmetic, a, i) }) })

    -- ---- calls and returns

    module _ (fits : SplitsProgram sizes source program) where
      -- a step that is matched by this one
      by_one : (d : core.Did) (e : code.Did) → code.step program context world s ≡ e → Both sizes context nodes source program p d e → M d
      by_one d e i h = matches_both sizes context nodes source program b n m world s shallow p d e i h

      held : b ≡ 0 → q + 1 ≤ p
      held z = let a = enough in omega (arithmetic, a, z)

      -- the frames of this body, with the free slot for the result
      cont_g : Ct sizes context nodes source program k (To t) g ls c ks f cs q
      cont_g = weaken sizes context.globals nodes k (To t) base g ls c ks f cs q q low (omega arithmetic) cont

      calls : (x : Operand) (xs : List Operand) → b ≡ 0 → place_now ≡ place_at (Call (slot t g) x xs c) ks → M (core.called source context nodes world (value context.globals f x) (values context.globals f xs) None k)
      calls x xs z st =
          by_one _ _ (at_place sizes context nodes source program world s (Call (slot t g) x xs c) ks st)
          (called_both sizes context nodes source program fits p q world None k (code.caller_with program context (slot t g) c ks f None) cs t g ls refl refl cont_g (held z) (value context.globals f x) (values context.globals f xs))

      tabulates : (x y : Operand) → b ≡ 0 → place_now ≡ place_at (Tabulate (slot t g) x y c) ks → M (core.tabulated source context nodes world k (value context.globals f x) (value context.globals f y))
      tabulates x y z st = by (natural_of (value context.globals f x)) refl
        where
          by : (o : Option ℕ) → natural_of (value context.globals f x) ≡ o → M (on_some (core.stuck source context nodes world) o (λ i. heavier 1 (core.gather source context nodes world (value context.globals f y) 0 i [] k)))
          by None e = tt
          by (Some i) e =
              by_one _ _ (at_place sizes context nodes source program world s (Tabulate (slot t g) x y c) ks st ∙ ap (λ o. on_some (code.stuck world) o (λ i. heavier 1 (code.gather program context world (value context.globals f y) 0 i [] (slot t g) c ks f cs))) e)
              (heavier_both sizes context nodes source program 1 p _ _ (gather_both sizes context nodes source program fits p q world k t g (slot t g) ls c ks f cs refl cont_g (held z) (value context.globals f y) 0 i []))

      -- a return
      returns : (v : Value) → b ≡ 0 → code.step program context world s ≡ code.back program context world v cs → Returned sizes context nodes source world v k cs q → M (core.returned source context nodes world v k)
      returns v z e (inl a) =
          subst M (sym (a.0)) (record { cost' = weighing 1; r' = Replies v; does = inl (e ∙ ap (code.back program context world v) (a.1), shallow); flat = omega arithmetic; pays = omega arithmetic; fits = refl })
      returns v z e (inr x) =
          let y = x.less in
          let a = enough in
          subst M (sym x.is)
          (by_one _ _ (e ∙ ap (code.back program context world v) x.cs_is ∙ ap (λ gt. code.handed program context world v gt x.l x.callers) x.same)
          (handed_both sizes context nodes source program fits p x.r world x.to x.t x.free x.kinds x.l x.callers x.slot_is x.cont (omega (arithmetic, y, a, z)) v x.gt))

      module _ (heavy : (o : Primitive) (vs : List Value) → Heavy (perform context.head world.store o vs)) where
        at_code : (d d' : Code) → d ≡ d' → Pos b d ks f place_now → Pos b d' ks f place_now
        at_code d d' e ps = subst (λ d. Pos b d ks f place_now) e ps

        -- what is done with values
        pub acted : (goal : Goal) (xs : List Operand) (d : Code) → SplitsGoal sizes f.body.segments goal xs t g ns ls c d → BelowL g xs → ((u : ℕ) → t ≡ Some u → ApartL u xs) → Pos b d ks f place_now
            → suc (goal_size sizes context nodes source program goal) + stack_size sizes context nodes source program k ≤ n → M (core.act source context nodes world goal (values context.globals f xs) env k)
        acted (Operate o) xs d e be aps ps sm =
            let r = runs_at b (Let (slot t g) o xs c) ks f place_now (at_code d _ e ps) tt in
            operated_m (perform context.head world.store o (values context.globals f xs)) r.0 (at_place sizes context nodes source program world s (Let (slot t g) o xs c) ks r.1)
        acted (Choose o a e') xs d (inl y) be aps ps sm =
            let r = runs_at b (If o xs y.m y.n c) ks f place_now (at_code d _ y.is ps) tt in
            chosen_whole a e' y.m y.n y.yes y.no (perform context.head world.store o (values context.globals f xs)) (heavy o (values context.globals f xs)) r.0 (at_place sizes context nodes source program world s (If o xs y.m y.n c) ks r.1)
        acted (Choose o a e') xs d (inr y) be aps ps sm =
            let r = runs_at b (If o xs y.m y.n (Leave y.j)) ks f place_now (at_code d _ y.is ps) tt in
            chosen_cut y.j y.here y.far a e' y.m y.n y.yes y.no (perform context.head world.store o (values context.globals f xs)) (heavy o (values context.globals f xs)) r.0 (at_place sizes context nodes source program world s (If o xs y.m y.n (Leave y.j)) ks r.1)
        acted (exp.Match sh a e') [] d y be aps ps sm = tt
        acted (exp.Match sh a e') (x ∷ []) d (inl y) be aps ps sm =
            let r = runs_at b (Match g sh x y.m y.n c) ks f place_now (at_code d _ y.is ps) tt in
            matched_whole a e' y.m y.n y.yes y.no (opened sh (value context.globals f x)) r.0 (at_place sizes context nodes source program world s (Match g sh x y.m y.n c) ks r.1)
        acted (exp.Match sh a e') (x ∷ []) d (inr y) be aps ps sm =
            let r = runs_at b (Match g sh x y.m y.n (Leave y.j)) ks f place_now (at_code d _ y.is ps) tt in
            matched_cut y.j y.here y.far a e' y.m y.n y.yes y.no (opened sh (value context.globals f x)) r.0 (at_place sizes context nodes source program world s (Match g sh x y.m y.n (Leave y.j)) ks r.1)
        acted (exp.Match sh a e') (x ∷ w ∷ xs) d y be aps ps sm = tt
        acted (Bind e') [] d y be aps ps sm = tt
        acted (Bind e') (x ∷ []) d y be aps ps sm = binds e' x d y (be.0) (λ u i. (aps u i).0) ps sm
        acted (Bind e') (x ∷ w ∷ xs) d y be aps ps sm = tt
        acted exp.Call [] d y be aps ps sm = tt
        acted exp.Call (x ∷ xs) d y be aps ps sm =
            let r = runs_at b (Call (slot t g) x xs c) ks f place_now (at_code d _ y ps) tt in
            calls x xs r.0 r.1
        acted exp.Tabulate [] d y be aps ps sm = tt
        acted exp.Tabulate (x ∷ []) d y be aps ps sm = tt
        acted exp.Tabulate (x ∷ w ∷ []) d y be aps ps sm =
            let r = runs_at b (Tabulate (slot t g) x w c) ks f place_now (at_code d _ y ps) tt in
            tabulates x w r.0 r.1
        acted exp.Tabulate (x ∷ w ∷ v ∷ xs) d y be aps ps sm = tt
        acted (exp.Send sg) [] d y be aps ps sm = tt
        acted (exp.Send sg) (x ∷ xs) d y be aps ps sm =
            let i = Send (slot t g) sg x xs (handler ls) c in
            let r = runs_at b i ks f place_now (at_code d _ y ps) tt in
            asked_m (sent context world sg (value context.globals f x) (values context.globals f xs)) r.0 (at_place sizes context nodes source program world s i ks r.1)
        acted Throw [] d y be aps ps sm = tt
        acted Throw (x ∷ []) d y be aps ps sm =
            let r = runs_at b (Raise x (handler ls)) ks f place_now (at_code d _ y ps) tt in
            thrown_m (value context.globals f x) r.0 (at_place sizes context nodes source program world s (Raise x (handler ls)) ks r.1)
        acted Throw (x ∷ w ∷ xs) d y be aps ps sm = tt
        acted Await [] d y be aps ps sm = if_m (core.is_lone k) _ (λ e. tt)
        acted Await (x ∷ []) d y be aps ps sm =
            let i = Wait (slot t g) x (handler ls) y.j in
            let r = runs_at b i ks f place_now (at_code d _ y.is ps) tt in
            if_m (core.is_lone k) _
            (λ e. subst (λ i. M (core.waits source context nodes world k (awaited context world i (value context.globals f x)))) (lone_nodes k (To t) base ls c ks f cs q e cont)
            (waits_m e y.j y.here y.far (awaited context world f.body.nodes (value context.globals f x)) r.0 (at_place sizes context nodes source program world s i ks r.1)))
        acted Await (x ∷ z ∷ xs) d y be aps ps sm = if_m (core.is_lone k) _ (λ e. tt)
        acted (Break l) [] d y be aps ps sm = tt
        acted (Break l) (x ∷ []) d y be aps ps sm =
            breaks x l (target ls l) (way ls l) refl refl (y.1) (at_code d _ (y.0) ps) (left_lands sizes context nodes source world (value context.globals f x) k l (To t) base ls c ks f cs q cont)
        acted (Break l) (x ∷ z ∷ xs) d y be aps ps sm = tt
        acted exp.Return [] d y be aps ps sm = tt
        acted exp.Return (x ∷ []) d y be aps ps sm =
            let r = runs_at b (Return x) ks f place_now (at_code d _ y ps) tt in
            returns (value context.globals f x) r.0 (at_place sizes context nodes source program world s (Return x) ks r.1) (returned_returns sizes context nodes source world (value context.globals f x) k (To t) base ls c ks f cs q cont)
        acted exp.Return (x ∷ z ∷ xs) d y be aps ps sm = tt
