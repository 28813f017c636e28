-- What waits has fewer branches and labels around it than the body has nodes: so the entry that goes on pays for their jumps.
use Rattle.std.proofs.Common.{◌≡◌, ℕ, zero, suc, ◌+◌, ◌<◌, ◌≤◌, refl, sym, subst, List, [], ◌∷◌, ◌++◌, length, Option, Some, None, Bool, true, false, arith as arithmetic}
use Rattle.std.specs.Prelude.{max, cond, slice_get, nat_eq}
use Rattle.mo_values.specs.Shapes.{Bytes}
use Rattle.core_ir.specs.Choices.{on_some}
use Rattle.core_ir.specs.Values.{Value, handle_of, number}
use Rattle.core_ir.specs.Programs.{Group}
use Rattle.core_ir.specs.Worlds.{Given, Gets, Throws, World, Context, with_store}
use Rattle.core_ir.specs.Executions.{Replies, Rejects, Waits, Traps, Breaks, Go, Ends, Stand, Still, Over, Resumes, after_step, run, heavier, deep_with}
use Rattle.core_ir.specs.Gatherings.{Gathering}
use Rattle.core_ir.specs.Expressions as exp
use Rattle.core_ir.specs.Expressions.{Exp, Constant?, Name, Do, Exps, NoExp, AnExp, Goal, Core}
use Rattle.core_ir.specs.CoreMachine as core
use Rattle.core_ir.specs.CoreMachine.{Arguments, Looping, Labelled, Trying, Join, Eval, Give}
use Rattle.mo_values.specs.Views.{flag_of, natural_of}
use Rattle.core_ir.specs.Choices.{choose}
use Rattle.core_ir.specs.Primitives as done
use Rattle.core_ir.specs.Primitives.{Done, Gives, Prints, Fails, perform}
use Rattle.core_ir.specs.Calls.{refusal, Sent, Sends, Refused, TooLong, NoCall, sent, Awaited, Suspends, NoRoom, NoFuture, awaited}
use Rattle.core_ir.specs.Openings.{Opened, Inside, Otherwise, NotOne, opened}
use Rattle.core_ir.specs.Expressions.{Functions, Try, Operate, Choose, Bind, Throw, Await, Break}
use Rattle.core_ir.specs.FormedExpressions.{nest, nest_all, nest_goal}

abbrev pub joined : List core.Frame → ℕ
joined [] = 0
joined (Labelled ∷ k) = suc (joined k)
joined (Join ∷ k) = suc (joined k)
joined (f ∷ k) = joined k

module _ (nodes : ℕ) where
  -- there is room for x more
  abbrev pub Room : List core.Frame → ℕ → Type 0
  Room [] x = x ≤ nodes
  Room (Arguments goal done es env ∷ k) x = Room k (max x (max (nest_goal goal) (nest_all es)))
  Room (Looping b env ∷ k) x = (x ≤ nest b) × Room k (nest b)
  Room (Labelled ∷ k) x = Room k (suc x)
  Room (Trying b env ∷ k) x = Room k (max x (suc (nest b)))
  -- nothing waits in what this body has called
  Room (core.Caller n gt ∷ k) x = Room k 0
  Room (Join ∷ k) x = Room k (suc x)

  fewer : (k : List core.Frame) (x y : ℕ) → y ≤ x → Room k x → Room k y
  fewer [] x y l r = omega (arithmetic, l, r)
  fewer (Arguments goal done es env ∷ k) x y l r = fewer k _ _ (omega (arithmetic, l)) r
  fewer (Looping b env ∷ k) x y l r = let a = r.0 in (omega (arithmetic, l, a), r.1)
  fewer (Labelled ∷ k) x y l r = fewer k _ _ (omega (arithmetic, l)) r
  fewer (Trying b env ∷ k) x y l r = fewer k _ _ (omega (arithmetic, l)) r
  fewer (core.Caller n gt ∷ k) x y l r = r
  fewer (Join ∷ k) x y l r = fewer k _ _ (omega (arithmetic, l)) r

  abbrev pub room_of : core.Focus → ℕ
  room_of (Eval e env) = nest e
  room_of (Give v) = 0

  -- in the body itself
  room_joined : (k : List core.Frame) (x : ℕ) → core.is_lone k ≡ true → Room k x → joined k + x ≤ nodes
  room_joined [] x e r = omega (arithmetic, r)
  room_joined (core.Caller n gt ∷ k) x e r = absurd (let z : false ≡ true = e in cc)
  room_joined (Arguments goal done es env ∷ k) x e r = let i = room_joined k _ e r in omega (arithmetic, i)
  room_joined (Looping b env ∷ k) x e r = let i = room_joined k _ e (r.1) in let a = r.0 in omega (arithmetic, i, a)
  room_joined (Labelled ∷ k) x e r = let i = room_joined k _ e r in omega (arithmetic, i)
  room_joined (Trying b env ∷ k) x e r = let i = room_joined k _ e r in omega (arithmetic, i)
  room_joined (Join ∷ k) x e r = let i = room_joined k _ e r in omega (arithmetic, i)

  -- how a step keeps it
  abbrev pub Kept : core.Did → Type 0
  Kept (Go w o world s) = (s.nodes ≡ nodes) × Room s.stack (room_of s.focus)
  Kept (Ends w o world (Waits on s)) = (s.nodes ≡ nodes) × (joined s.stack < nodes) × Room s.stack 0
  Kept (Ends w o world e) = Unit {0}

  module _ (source : Core) (context : Context) (world : World) where
    abbrev st : core.Did
    st = core.stuck source context nodes world

    on_some_k : {A : Type 0} (o : Option A) (kf : A → core.Did) → ((a : A) → o ≡ Some a → Kept (kf a)) → Kept (on_some st o kf)
    on_some_k None kf h = tt
    on_some_k (Some a) kf h = h a refl

    if_k : (b : Bool) (d : core.Did) → Kept d → Kept (cond b d st)
    if_k true d h = h
    if_k false d h = tt

    one_k : (vs : List Value) (kf : Value → core.Did) → ((v : Value) → Kept (kf v)) → Kept (core.on_one source context nodes world vs kf)
    one_k [] kf h = tt
    one_k (v ∷ []) kf h = h v
    one_k (v ∷ w ∷ vs) kf h = tt

    two_k : (vs : List Value) (kf : Value → Value → core.Did) → ((v w : Value) → Kept (kf v w)) → Kept (core.on_two source context nodes world vs kf)
    two_k [] kf h = tt
    two_k (v ∷ []) kf h = tt
    two_k (v ∷ w ∷ []) kf h = h v w
    two_k (v ∷ w ∷ u ∷ vs) kf h = tt

    first_k : (vs : List Value) (kf : Value → List Value → core.Did) → ((v : Value) (vs : List Value) → Kept (kf v vs)) → Kept (core.on_first source context nodes world vs kf)
    first_k [] kf h = tt
    first_k (v ∷ vs) kf h = h v vs

    heavier_k : (n : ℕ) (x : core.Did) → Kept x → Kept (heavier n x)
    heavier_k n (Go cost o world s) h = h
    heavier_k n (Ends cost o world (Waits on s)) h = h
    heavier_k n (Ends cost o world (Replies v)) h = tt
    heavier_k n (Ends cost o world (Rejects v)) h = tt
    heavier_k n (Ends cost o world (Traps v)) h = tt
    heavier_k n (Ends cost o world Breaks) h = tt

    gives_k : (k : List core.Frame) (x : ℕ) → Room k x → Room k 0
    gives_k k x r = fewer k x 0 (omega arithmetic) r

    called_k : (f : Value) (vs : List Value) (gt : Option Gathering) (k : List core.Frame) (x : ℕ) → Room k x → Kept (core.called source context nodes world f vs gt k)
    called_k f vs gt k x r =
        on_some_k (handle_of f) _ (λ h e0. on_some_k (slice_get world.groups h.group) _ (λ made e1. on_some_k (slice_get source.groups made.code) _
        (λ g e2. if_k (nat_eq (length made.seen) g.sees) _
        (on_some_k (slice_get g.bodies h.member) _ (λ fun e3. if_k (nat_eq (length vs) fun.parameters) _ (refl, gives_k k x r))))))

    gather_k : (f : Value) (next left : ℕ) (vs : List Value) (k : List core.Frame) (x : ℕ) → Room k x → Kept (core.gather source context nodes world f next left vs k)
    gather_k f next zero vs k x r = (refl, gives_k k x r)
    gather_k f next (suc left) vs k x r = called_k f (number next ∷ []) _ k x r

    handed_k : (v : Value) (gt : Option Gathering) (k : List core.Frame) (x : ℕ) → Room k x → Kept (core.handed source context nodes world v gt k)
    handed_k v None k x r = (refl, gives_k k x r)
    handed_k v (Some g) k x r = heavier_k 1 _ (gather_k g.function g.next g.remaining (g.done ++ v ∷ []) k x r)

    thrown_k : (v : Value) (k : List core.Frame) (x : ℕ) → Room k x → Kept (core.thrown source context nodes world v k)
    thrown_k v [] x r = tt
    thrown_k v (Trying b env ∷ k) x r = (refl, fewer k _ _ (omega arithmetic) r)
    thrown_k v (core.Caller n gt ∷ k) x r = tt
    thrown_k v (Arguments goal done es env ∷ k) x r = thrown_k v k _ r
    thrown_k v (Looping b env ∷ k) x r = thrown_k v k _ (r.1)
    thrown_k v (Labelled ∷ k) x r = thrown_k v k _ r
    thrown_k v (Join ∷ k) x r = thrown_k v k _ r

    left_k : (l : ℕ) (v : Value) (k : List core.Frame) (x : ℕ) → Room k x → Kept (core.left source context nodes world l v k)
    left_k l v [] x r = tt
    left_k zero v (Labelled ∷ k) x r = (refl, fewer k _ _ (omega arithmetic) r)
    left_k (suc l) v (Labelled ∷ k) x r = left_k l v k _ r
    left_k zero v (core.Caller n gt ∷ k) x r = tt
    left_k (suc l) v (core.Caller n gt ∷ k) x r = tt
    left_k zero v (Arguments goal done es env ∷ k) x r = left_k zero v k _ r
    left_k (suc l) v (Arguments goal done es env ∷ k) x r = left_k (suc l) v k _ r
    left_k zero v (Looping b env ∷ k) x r = left_k zero v k _ (r.1)
    left_k (suc l) v (Looping b env ∷ k) x r = left_k (suc l) v k _ (r.1)
    left_k zero v (Trying b env ∷ k) x r = left_k zero v k _ r
    left_k (suc l) v (Trying b env ∷ k) x r = left_k (suc l) v k _ r
    left_k zero v (Join ∷ k) x r = left_k zero v k _ r
    left_k (suc l) v (Join ∷ k) x r = left_k (suc l) v k _ r

    returned_k : (v : Value) (k : List core.Frame) (x : ℕ) → Room k x → Kept (core.returned source context nodes world v k)
    returned_k v [] x r = tt
    returned_k v (core.Caller n gt ∷ k) x r = handed_k v gt k 0 r
    returned_k v (Arguments goal done es env ∷ k) x r = returned_k v k _ r
    returned_k v (Looping b env ∷ k) x r = returned_k v k _ (r.1)
    returned_k v (Labelled ∷ k) x r = returned_k v k _ r
    returned_k v (Trying b env ∷ k) x r = returned_k v k _ r
    returned_k v (Join ∷ k) x r = returned_k v k _ r

    operated_k : (k : List core.Frame) (x : ℕ) → Room k x → (a : Done) → Kept (core.operated source context nodes world k a)
    operated_k k x r (Gives cost v store) = (refl, gives_k k x r)
    operated_k k x r (Prints cost text) = (refl, gives_k k x r)
    operated_k k x r (Fails cost text) = tt
    operated_k k x r done.Stuck = tt

    chosen_k : (o : _) (a b : Exp) (env : List Value) (k : List core.Frame) → Room k (nest_goal (Choose o a b)) → (x : Done) → Kept (core.chosen source context nodes world a b env k x)
    chosen_k o a b env k r (Gives cost v store) = on_some_k (flag_of v) _ pick
      where
        pick : (c : Bool) → flag_of v ≡ Some c → Kept (Go cost [] (with_store world store) (core.at source context nodes (Eval (choose c a b) env) (Join ∷ k)))
        pick true e = (refl, fewer k _ _ (omega arithmetic) r)
        pick false e = (refl, fewer k _ _ (omega arithmetic) r)
    chosen_k o a b env k r (Prints cost text) = tt
    chosen_k o a b env k r (Fails cost text) = tt
    chosen_k o a b env k r done.Stuck = tt

    matched_k : (s : _) (a b : Exp) (env : List Value) (k : List core.Frame) → Room k (nest_goal (exp.Match s a b)) → (x : Opened) → Kept (core.matched source context nodes world a b env k x)
    matched_k s a b env k r (Inside v) = (refl, fewer k _ _ (omega arithmetic) r)
    matched_k s a b env k r Otherwise = (refl, fewer k _ _ (omega arithmetic) r)
    matched_k s a b env k r NotOne = tt

    asked_k : (k : List core.Frame) (x : ℕ) → Room k x → (s : Sent) → Kept (core.asked source context nodes world k s)
    asked_k k x r (Sends cost world' future) = (refl, gives_k k x r)
    asked_k k x r Refused = thrown_k refusal k x r
    asked_k k x r (TooLong cost) = tt
    asked_k k x r NoCall = tt

    waits_k : (k : List core.Frame) → core.is_lone k ≡ true → Room k 1 → (x : Awaited) → Kept (core.waits source context nodes world k x)
    waits_k k e r (Suspends cost world' on) = let i = room_joined k 1 e r in (refl, omega (arithmetic, i), gives_k k 1 r)
    waits_k k e r NoRoom = thrown_k refusal k 1 r
    waits_k k e r NoFuture = tt

    lone_k : (k : List core.Frame) (d : core.Did) → (core.is_lone k ≡ true → Kept d) → (b : Bool) → core.is_lone k ≡ b → Kept (cond b d st)
    lone_k k d h true e = h e
    lone_k k d h false e = tt

    act_k : (goal : Goal) (vs env : List Value) (k : List core.Frame) → Room k (nest_goal goal) → Kept (core.act source context nodes world goal vs env k)
    act_k (Operate o) vs env k r = operated_k k _ r (perform context.head world.store o vs)
    act_k (Choose o a b) vs env k r = chosen_k o a b env k r (perform context.head world.store o vs)
    act_k (exp.Match s a b) vs env k r = one_k vs _ (λ v. matched_k s a b env k r (opened s v))
    act_k (Bind b) vs env k r = one_k vs _ (λ v. (refl, r))
    act_k exp.Call vs env k r = first_k vs _ (λ f vs. called_k f vs None k _ r)
    act_k exp.Tabulate vs env k r = two_k vs _ (λ n f. on_some_k (natural_of n) _ (λ n e. heavier_k 1 _ (gather_k f 0 n [] k _ r)))
    act_k (exp.Send s) vs env k r = first_k vs _ (λ f vs. asked_k k _ r (sent context world s f vs))
    act_k Throw vs env k r = one_k vs _ (λ v. thrown_k v k _ r)
    act_k Await vs env k r = lone_k k _ (λ e. one_k vs _ (λ v. waits_k k e r (awaited context world nodes v))) (core.is_lone k) refl
    act_k (Break l) vs env k r = one_k vs _ (λ v. left_k l v k _ r)
    act_k exp.Return vs env k r = one_k vs _ (λ v. returned_k v k _ r)

    eval_k : (e : Exp) (env : List Value) (k : List core.Frame) → Room k (nest e) → Kept (core.eval source context nodes world e env k)
    eval_k (Constant? l) env k r = (refl, r)
    eval_k (Name x) env k r = on_some_k (slice_get env x) _ (λ v e. (refl, r))
    eval_k (exp.Global i) env k r = on_some_k (slice_get context.globals i) _ (λ v e. (refl, r))
    eval_k (Do goal NoExp) env k r = act_k goal [] env k (fewer k _ _ (omega arithmetic) r)
    eval_k (Do goal (AnExp e es)) env k r = (refl, fewer k _ _ (omega arithmetic) r)
    eval_k (Functions j b) env k r = on_some_k (slice_get source.groups j) _ (λ g e. (refl, r))
    eval_k (exp.Loop b) env k r = (refl, (omega arithmetic, r))
    eval_k (exp.Label b) env k r = (refl, r)
    eval_k (Try a b) env k r = (refl, r)

    give_k : (v : Value) (k : List core.Frame) → Room k 0 → Kept (core.give source context nodes world v k)
    give_k v [] r = tt
    give_k v (Arguments goal done NoExp env ∷ k) r = act_k goal (done ++ v ∷ []) env k (fewer k _ _ (omega arithmetic) r)
    give_k v (Arguments goal done (AnExp e es) env ∷ k) r = (refl, fewer k _ _ (omega arithmetic) r)
    give_k v (Looping b env ∷ k) r = (refl, (omega arithmetic, r.1))
    give_k v (Labelled ∷ k) r = (refl, gives_k k _ r)
    give_k v (Trying b env ∷ k) r = (refl, gives_k k _ r)
    give_k v (core.Caller n gt ∷ k) r = handed_k v gt k 0 r
    give_k v (Join ∷ k) r = (refl, gives_k k _ r)

    focused_k : (f : core.Focus) (k : List core.Frame) → Room k (room_of f) → Kept (core.focused source context nodes world f k)
    focused_k (Eval e env) k r = eval_k e env k r
    focused_k (Give v) k r = give_k v k r

    pub step_k : (s : core.State) → s.nodes ≡ nodes → Room s.stack (room_of s.focus) → Kept (core.step source context world s)
    step_k s e r = subst (λ n. Kept (core.focused source context n world s.focus s.stack)) (sym e) (focused_k s.focus s.stack r)

  module _ (source : Core) (context : Context) where
    -- what a run comes to
    abbrev pub Roomy : Stand core.State core.Waiting → Type 0
    Roomy (Still w d out world s) = (s.nodes ≡ nodes) × Room s.stack (room_of s.focus)
    Roomy (Over w d out world (Waits on s)) = (s.nodes ≡ nodes) × (joined s.stack < nodes) × Room s.stack 0
    Roomy (Over w d out world e) = Unit {0}

    abbrev pub RunsRoomy : ℕ → Type 0
    RunsRoomy n = (w d : ℕ) (out : List Bytes) (world : World) (s : core.State) → s.nodes ≡ nodes → Room s.stack (room_of s.focus) → Roomy (run (core.core_machine source) context n w d out world s)

    pub after_k : (n bodies w d : ℕ) (out : List Bytes) (x : core.Did) → Kept x → RunsRoomy n → Roomy (after_step (run (core.core_machine source) context n) bodies w d out x)
    after_k n bodies w d out (Go cost o world' s') h f = f (w + cost.weight) (max d (deep_with bodies cost)) (out ++ o) world' s' (h.0) (h.1)
    after_k n bodies w d out (Ends cost o world' (Waits i s')) h f = h
    after_k n bodies w d out (Ends cost o world' (Replies x)) h f = tt
    after_k n bodies w d out (Ends cost o world' (Rejects x)) h f = tt
    after_k n bodies w d out (Ends cost o world' (Traps x)) h f = tt
    after_k n bodies w d out (Ends cost o world' Breaks) h f = tt

    pub run_k : (n : ℕ) → RunsRoomy n
    run_k zero w d out world s e r = (e, r)
    run_k (suc n) w d out world s e r = after_k n (core.depth s) w d out (core.step source context world s) (step_k source context world s e r) (run_k n)

    -- what waits goes on
    pub answer_k : (world : World) (k : List core.Frame) (o : Given) → Room k 0 → Kept (core.enters source context world (Resumes (record { stack = k; nodes = nodes }) o))
    answer_k world k (Gets v) r = (refl, r)
    answer_k world k (Throws e) r = heavier_k source context world nodes (core.thrown source context nodes world e k) (thrown_k source context world e k 0 r)

    pub begins_k : (world : World) (paid : ℕ) (f : exp.Body) (vs : List Value) → f.nodes ≡ nodes → nest f.expression ≤ f.nodes → Kept (core.begins source context world paid f vs)
    begins_k world paid f vs e l = by (nat_eq (length vs) f.parameters)
      where
        by : (b : Bool) → Kept (cond b (core.go source context f.nodes (paid + (1 + f.nodes)) world (Eval f.expression vs) []) (core.stuck source context 0 world))
        by true = (e, omega (arithmetic, e, l))
        by false = tt
