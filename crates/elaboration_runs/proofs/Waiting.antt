-- An `await` waits alike.
use Rattle.std.proofs.Common.{◌≡◌, inl, ℕ, suc, ◌+◌, ◌*◌, ◌≤◌, Bool, true, false, List, [], ◌∷◌, ◌++◌, length, Option, Some, None, refl, sym, ap, ap₂, ◌∙◌, subst, arith}
use Rattle.std.specs.Prelude.{max, nat_lt, cond}
use Rattle.mo_types.specs.Calls.{State, Open, Answered, Lost, call_at, state_of, next_number}
use Rattle.mo_values.specs.Costs.{Cost, weighing}
use Rattle.mo_values.specs.Shapes.{Bytes, Future, NoShape, AShape}
use Rattle.mo_values.specs.Shapes as shape
use Rattle.core_ir.specs.Choices.{on_some}
use Rattle.core_ir.specs.Programs as programs
use Rattle.core_ir.specs.Values as core_value
use Rattle.core_ir.specs.Worlds as worlds
use Rattle.core_ir.specs.Worlds.{Request, World, Context}
use Rattle.core_ir.specs.Calls as core_calls
use Rattle.core_ir.specs.Calls.{NoRoom, NoFuture, awaited_in, resumed_by, resume_request, refusal}
use Rattle.core_ir.specs.Executions as execution
use Rattle.core_ir.specs.Executions.{End, Waits, Over, Ends, after_step, deep_with}
use Rattle.core_ir.specs.Expressions as core
use Rattle.core_ir.specs.Expressions.{Core}
use Rattle.core_ir.specs.CoreMachine as core_machine
use Rattle.core_ir.specs.CoreMachine.{Frame, Arguments, Looping, Caller, Join, Focus, Waiting, focused, at, act, waits, stuck, is_lone, depth_of}
use Rattle.typed_tree.specs.declared.action.Action.TheVariants as action
use Rattle.mo_meaning.specs.Acts.{Given}
use Rattle.mo_meaning.specs.Configurations.{Surroundings}
use Rattle.mo_meaning.specs.Turns.{most_calls, resume_name, refused}
use Rattle.mo_machine.specs.Values.{Value, Made, NoValue, load}
use Rattle.mo_machine.specs.Configurations.{Configuration, live_on, live_state, open_now, next_call, state_now}
use Rattle.mo_machine.specs.Frames.{Stack, Ready}
use Rattle.mo_machine.specs.Acts.{Goes}
use Rattle.mo_machine.specs.Moves.{Moved, Reduces}
use Rattle.mo_machine.specs.Reductions.{reduces}
use Rattle.mo_machine.specs.Jumps.{throw, nodes_around}
use Rattle.mo_machine.specs.Measure.{left_on}
use Rattle.mo_machine.specs.Turns.{message, resume_call}
use Rattle.elaboration.specs.Meeting as meeting
use Rattle.elaboration.specs.Meeting.{Joins, Comes, There}
use Rattle.elaboration_values.specs.Belonging.{Known, Belongs, EachBelongs}
use Rattle.elaboration_steps.specs.Stacks.{Passed, Labels, StackBelongs, Bottom, InFunction, InGathering, InOperands, InMaking, InCalling, InHolding, InChoosing, InLet, InSwitch, InLabel, InTesting, InTurning, InRepeating, InRetesting, InTry, InUpdating, InGoing, InTurn, InBody, InBranch, InCase, StateBelongs, AtAction, AtInner, AtTurned, AtLeft, Later, LaterBy, WorldBelongs, Around, InEndless}
use Rattle.elaboration_steps.specs.Follows.{start, rank, owed, HandlerMeets, Leads, Plainly}
use Rattle.elaboration_steps.specs.Follows as follows
use Rattle.elaboration_steps.specs.Running.{least, Runs}
use Rattle.elaboration_steps.proofs.Depth.{as_deep}
use Rattle.elaboration_steps.proofs.Paths.{acts_behind}
use Rattle.elaboration_steps.proofs.Rows.{row_goal}
use Rattle.elaboration_steps.proofs.Running.{ways}
use Rattle.elaboration_steps.proofs.Standing.{IsOutside, here_alone}
use Rattle.elaboration_steps.proofs.Throwing.{throws}
use Rattle.elaboration_runs.specs.Together.{Together, ActTurns}
use Rattle.elaboration_runs.specs.Calling.{SameCall, Surrounded}
use Rattle.elaboration_runs.specs.Waiting.{SameState, Accounted, Suspended, waiting, resuming, AwaitFollows, AwaitsFollow}
use Rattle.elaboration_runs.proofs.Calling.{no_passing}
use Rattle.elaboration_steps.proofs.StateDepth.{comes_level}
use Rattle.elaboration_runs.proofs.Turning.{act_turns}

-- ---- only the body that was entered waits

joins_lone : (s k : List Frame) → Joins s → is_lone (s ++ k) ≡ is_lone k
joins_lone [] k h = refl
joins_lone (Join ∷ s) k h = joins_lone s k h
joins_lone (Arguments g d r e ∷ s) k h = absurd h
joins_lone (Looping b e ∷ s) k h = absurd h
joins_lone (core_machine.Labelled ∷ s) k h = absurd h
joins_lone (core_machine.Trying b e ∷ s) k h = absurd h
joins_lone (Caller n g ∷ s) k h = absurd h

skips_lone : (s k : List Frame) → Passed s → is_lone (s ++ k) ≡ is_lone k
skips_lone [] k h = refl
skips_lone (Join ∷ s) k h = skips_lone s k h
skips_lone (Arguments g d r e ∷ s) k h = skips_lone s k h
skips_lone (Looping b e ∷ s) k h = absurd h
skips_lone (core_machine.Labelled ∷ s) k h = absurd h
skips_lone (core_machine.Trying b e ∷ s) k h = absurd h
skips_lone (Caller n g ∷ s) k h = absurd h

module _ (table : List (programs.Group core.Body)) (known : List Known) (globals : List core_value.Value) (nodes : ℕ) where
  lone : (b : Bool) (l : Labels) (held : ℕ) (k : Stack) (ck : List Frame) → StackBelongs table known globals nodes b l held k ck → b ≡ true → is_lone ck ≡ true
  lone b l held k ck (Bottom c h js i) e = joins_lone js [] i
  lone b l held k ck (InFunction n c m h j js cj i r) e = absurd (let z : false ≡ true = e in cc)
  lone b l held k ck (InGathering n c m h f g done before next left j js cj i v d r) e = absurd (let z : false ≡ true = e in cc)
  lone b l held k ck (InOperands x m h a done rest env j before later vals cj g e d r) same = lone x m h j cj r same
  lone b l held k ck (InMaking x m h i a done rest args env j before later arguments vals cj row e d f r) same = lone x m h j cj r same
  lone b l held k ck (InCalling x m h i a holds done rest env j before later vals cj row e d r) same = lone x m h j cj r same
  lone b l held k ck (InHolding x m h i done env j n levels vals cj e d r) same = lone x m h j cj r same
  lone b l held k ck (InChoosing x m h y z env j c d vals cj p q r) same = lone x m h j cj r same
  lone b l held k ck (InLet x m h p e env j c vals cj q r) same = lone x m h j cj r same
  lone b l held k ck (InSwitch x m h cs env j c vals cj q r) same = lone x m h j cj r same
  lone b l held k ck (InLabel x m h j cj r) same = lone x m h j cj r same
  lone b l held k ck (InTesting x m h y z env j c d vals cj p q r) same = lone x m h j cj r same
  lone b l held k ck (InTurning x m h y z env j c d vals cj p q r) same = lone x m h j cj r same
  lone b l held k ck (InEndless x m h y env j d vals cj q r) same = lone x m h j cj r same
  lone b l held k ck (InRepeating x m h y z env j d c vals cj p q r) same = lone x m h j cj r same
  lone b l held k ck (InRetesting x m h y z env j d c v vals cj p q r) same = lone x m h j cj r same
  lone b l held k ck (InTry m h p e env j c vals cj q r) same = lone true m h j cj r refl
  lone b l held k ck (InUpdating x m h o e env j c vals cj q r) same = lone x m h j cj r same
  lone b l held k ck (InGoing x m h p e env j c vals cj d r) same = lone x m h j cj r same
  lone b l held k ck (InTurn x m h p e env v j c w vals cj i d r) same = lone x m h j cj r same
  lone b l held k ck (InBody x m h p e env inner v j c w vals js cj a i d r) same = joins_lone js _ a ∙ lone x m h j cj r same
  lone b l held k ck (InBranch x m h j js cj q r) same = joins_lone js cj q ∙ lone x m h j cj r same
  lone b l held k ck (InCase x m h less j vals skips cj q p r) same = skips_lone skips _ q ∙ lone x m less j cj r same

  -- the nodes of the bodies around are those of that
  nodes_alone : (b : Bool) (l : Labels) (held : ℕ) (k : Stack) (ck : List Frame) → StackBelongs table known globals nodes b l held k ck → b ≡ true → (n : ℕ) → nodes_around n k ≡ nodes + n
  nodes_alone b l held k ck (Bottom c h js i) e n = refl
  nodes_alone b l held k ck (InFunction i c m h j js cj q r) e n = absurd (let z : false ≡ true = e in cc)
  nodes_alone b l held k ck (InGathering i c m h f g done before next left j js cj q v d r) e n = absurd (let z : false ≡ true = e in cc)
  nodes_alone b l held k ck (InOperands x m h a done rest env j before later vals cj g e d r) same n = nodes_alone x m h j cj r same n
  nodes_alone b l held k ck (InMaking x m h i a done rest args env j before later arguments vals cj row e d f r) same n = nodes_alone x m h j cj r same n
  nodes_alone b l held k ck (InCalling x m h i a holds done rest env j before later vals cj row e d r) same n = nodes_alone x m h j cj r same n
  nodes_alone b l held k ck (InHolding x m h i done env j number levels vals cj e d r) same n = nodes_alone x m h j cj r same n
  nodes_alone b l held k ck (InChoosing x m h y z env j c d vals cj p q r) same n = nodes_alone x m h j cj r same n
  nodes_alone b l held k ck (InLet x m h p e env j c vals cj q r) same n = nodes_alone x m h j cj r same n
  nodes_alone b l held k ck (InSwitch x m h cs env j c vals cj q r) same n = nodes_alone x m h j cj r same n
  nodes_alone b l held k ck (InLabel x m h j cj r) same n = nodes_alone x m h j cj r same n
  nodes_alone b l held k ck (InTesting x m h y z env j c d vals cj p q r) same n = nodes_alone x m h j cj r same n
  nodes_alone b l held k ck (InTurning x m h y z env j c d vals cj p q r) same n = nodes_alone x m h j cj r same n
  nodes_alone b l held k ck (InEndless x m h y env j d vals cj q r) same n = nodes_alone x m h j cj r same n
  nodes_alone b l held k ck (InRepeating x m h y z env j d c vals cj p q r) same n = nodes_alone x m h j cj r same n
  nodes_alone b l held k ck (InRetesting x m h y z env j d c v vals cj p q r) same n = nodes_alone x m h j cj r same n
  nodes_alone b l held k ck (InTry m h p e env j c vals cj q r) same n = nodes_alone true m h j cj r refl n
  nodes_alone b l held k ck (InUpdating x m h o e env j c vals cj q r) same n = nodes_alone x m h j cj r same n
  nodes_alone b l held k ck (InGoing x m h p e env j c vals cj d r) same n = nodes_alone x m h j cj r same n
  nodes_alone b l held k ck (InTurn x m h p e env v j c w vals cj i d r) same n = nodes_alone x m h j cj r same n
  nodes_alone b l held k ck (InBody x m h p e env inner v j c w vals js cj a i d r) same n = nodes_alone x m h j cj r same n
  nodes_alone b l held k ck (InBranch x m h j js cj q r) same n = nodes_alone x m h j cj r same n
  nodes_alone b l held k ck (InCase x m h less j vals skips cj q p r) same n = nodes_alone x m less j cj r same n

-- ---- calls stand alike

same_open : (o : Option (State worlds.Given)) → SameState (Some Open) o → o ≡ Some Open
same_open (Some Open) h = refl
same_open (Some (Answered g)) h = absurd h
same_open (Some Lost) h = absurd h
same_open None h = absurd h

same_lost : (o : Option (State worlds.Given)) → SameState (Some Lost) o → o ≡ Some Lost
same_lost (Some Open) h = absurd h
same_lost (Some (Answered g)) h = absurd h
same_lost (Some Lost) h = refl
same_lost None h = absurd h

same_answered : (g : Option Given) (o : Option (State worlds.Given)) → SameState (Some (Answered g)) o → (v : Option worlds.Given) × (o ≡ Some (Answered v))
same_answered g (Some Open) h = absurd h
same_answered g (Some (Answered v)) h = (v, refl)
same_answered g (Some Lost) h = absurd h
same_answered g None h = absurd h

module _ (program : Core) (context : Context) (nodes : ℕ) (world : World) where
  -- ---- runs that wait

  pub leads : (n : ℕ) (f : Focus) (k : List Frame) (g : Focus) (l : List Frame) → Comes program context nodes world n f k g l → (b : Bool) × Leads program context nodes b n 0 [] world f k world g l
  leads n f k g l (There m h j) = (false, follows.Waits n 0 world f k)
  leads n f k g l (meeting.Goes m x y h j h' j' i r eq deep le c) = (true, Plainly x y n 0 world f k h' j' g l eq deep c le)

  -- it ends behind such steps
  pub record Ending (cost : Cost) (w d : ℕ) (prints : List Bytes) (f : Focus) (k : List Frame) (n : ℕ) (ck : List Frame) (later : World) (end : End Waiting) : Type 0 where
    pub steps : ℕ
    pub weight' : ℕ
    pub depth' : ℕ
    pub prints' : List Bytes
    pub by : (more : ℕ) → execution.run (core_machine.core_machine program) context (steps + more) w d prints world (at program context nodes f k) ≡ Over weight' depth' prints' later end
    pub shown : prints' ≡ prints
    pub heavy : weight' ≤ w + n + cost.weight
    pub within : depth' ≤ max d (max (16 + nodes + depth_of k) (16 + nodes + depth_of ck + 16 * cost.levels))

  more_none : {X : Type 0} (xs : List X) → xs ≡ xs ++ []
  more_none [] = refl
  more_none (y ∷ xs) = ap (λ r. y ∷ r) (more_none xs)

  pub ending : (cost : Cost) (w d : ℕ) (prints : List Bytes) (f : Focus) (k : List Frame) (n : ℕ) (f' : Focus) (ck : List Frame) (later : World) (end : End Waiting) → Comes program context nodes world n f k f' ck
      → focused program context nodes world f' ck ≡ Ends cost [] later end → Ending cost w d prints f k n ck later end
  ending cost w d prints f k n f' ck later end path eq =
      let p : (b : Bool) × Leads program context nodes b n 0 [] world f k world f' ck = leads n f k f' ck path in
      let u : Runs program context nodes (least (p.0)) n 0 [] w d prints world f k world f' ck = ways program context nodes (p.0) n 0 [] world f k world f' ck (p.1) w d prints in
      record {
        steps = u.steps + 1;
        weight' = u.weight' + cost.weight;
        depth' = max u.depth' (deep_with (16 + nodes + depth_of ck) cost);
        prints' = u.prints' ++ [];
        by = λ more. ap (λ z. execution.run (core_machine.core_machine program) context z w d prints world (at program context nodes f k)) (let z : (u.steps + 1) + more ≡ u.steps + (1 + more) = omega arith in z)
            ∙ (u.by (1 + more) ∙ (ap (λ z. execution.run (core_machine.core_machine program) context z u.weight' u.depth' u.prints' world (at program context nodes f' ck)) (let z : 1 + more ≡ suc more = omega arith in z)
            ∙ ap (after_step (execution.run (core_machine.core_machine program) context more) (16 + nodes + depth_of ck) u.weight' u.depth' u.prints') eq));
        shown = sym (more_none u.prints') ∙ (u.shown ∙ sym (more_none prints));
        heavy = let z : u.weight' ≤ w + n = u.heavy in omega (arith, z);
        within = let z : u.depth' ≤ max d (max (16 + nodes + depth_of k + 16 * 0) (16 + nodes + depth_of ck)) = u.within in omega (arith, z);
      }

  -- Core stands before the `await`, or comes there
  module _ (held : ℕ) (known : List Known) (call : ℕ) where
    abbrev future : Value
    future = Made (Future call) NoValue

    record Before (l0 : Stack) (cf : Focus) (ck : List Frame) : Type 0 where
      l : Labels
      weight : ℕ
      less : ℕ
      f' : Focus
      ck' : List Frame
      others : List Frame
      path : Comes program context nodes world weight cf ck f' ck'
      acts : focused program context nodes world f' ck' ≡ waits program context nodes world others (awaited_in context world nodes call (worlds.state_now context world call))
      level : depth_of ck' ≡ depth_of others
      paid : weight + less ≤ held
      around : Around program context nodes world known true l less l0 others

    is_future : (w : core_value.Value) → Belongs known future w → w ≡ core_value.future call
    is_future (shape.Made i NoShape) a = ap (λ h. shape.Made h NoShape) (sym (a.0))
    is_future (shape.Made i (AShape u us)) a = absurd (a.1)
    is_future (shape.Function h) a = absurd a

    operand : (values : List core_value.Value) → EachBelongs known (future ∷ []) values → values ≡ core_value.future call ∷ []
    operand [] a = absurd a
    operand (w ∷ []) a = ap (λ x. x ∷ []) (is_future w (a.0))
    operand (w ∷ x ∷ ws) a = absurd (a.1)

    before : (l0 : Stack) (cf : Focus) (ck : List Frame) → StateBelongs program context nodes world known held (Ready action.Await (future ∷ [])) l0 cf ck → Before l0 cf ck
    before l0 cf ck (AtAction a us j g cj r) =
        let m : r.b ≡ true = r.may in
        let alone : is_lone r.others ≡ true = lone program.groups known context.globals nodes r.b r.l r.less l0 r.others r.around m in
        record {
          l = r.l;
          weight = r.weight;
          less = r.less;
          f' = r.f';
          ck' = r.ck';
          others = r.others;
          path = r.path;
          acts = r.acts ∙ (ap (λ xs. act program context nodes world core.Await xs r.vals r.others) (operand r.values r.arguments)
              ∙ ap (λ t. cond t (waits program context nodes world r.others (awaited_in context world nodes call (worlds.state_now context world call))) (stuck program context nodes world)) alone);
          level = r.level;
          paid = let z : r.weight + r.less ≤ held + 0 = r.paid in omega (arith, z);
          around = subst (λ x. Around program context nodes world known x r.l r.less l0 r.others) m r.around;
        }
    before l0 cf ck (AtInner m a us j g cj row r) = absurd (let z : false ≡ true = row_goal m action.Await row in cc)
    before l0 cf ck (AtTurned b l q e env v j c w vals cj g more x value pattern around) = absurd (no_passing true _ g more x action.Await (future ∷ []) refl)
    before l0 cf ck (AtLeft b l q e env v j cj g more x around) = absurd (no_passing false _ g more x action.Await (future ∷ []) refl)
    before l0 cf ck (Later g j g2 more cg cj moves none falls owes deep state) = absurd (let z : Reduces ≡ Moved g2 more = moves in cc)
    before l0 cf ck (LaterBy g j n g2 more cg cj moves goes falls owes deep state) = absurd (let z : reduces context.head None [] (Ready action.Await (future ∷ [])) l0 ≡ Goes (weighing n) [] g2 more = goes [] in cc)

module _ (program : Core) (context : Context) (nodes : ℕ) (s : Surroundings) (same : Surrounded program context nodes s) (accounted : Accounted program context nodes s) (held : ℕ) (known : List Known) (c : Configuration) (w d : ℕ) (prints : List Bytes) (world : World) (f : Focus) (k : List Frame)
    (t : Together program context nodes held known c w d prints world f k) (belongs : WorldBelongs program.groups known context.globals c.store world) (state : StateBelongs program context nodes world known held c.focus c.stack f k) (as_many : length world.requests ≡ length c.calls) (call : ℕ) (stands : c.focus ≡ Ready action.Await (Made (Future call) NoValue ∷ [])) where
  abbrev B : Type 0
  B = Before program context nodes world held known call c.stack f k

  at_await : B
  at_await = before program context nodes world held known call c.stack f k (subst (λ g. StateBelongs program context nodes world known held g c.stack f k) stands state)

  deep : (r : B) → 16 + nodes + depth_of k ≤ live_state c.focus c.stack
  deep r =
      let a : depth_of k ≡ depth_of r.ck' = comes_level program context nodes world r.weight f k r.f' r.ck' r.path in
      let b : depth_of r.ck' ≡ depth_of r.others = r.level in
      let e : live_on c.stack ≡ 16 + nodes + depth_of r.others = as_deep program.groups known context.globals nodes true r.l r.less c.stack r.others r.around in
      omega (arith, a, b, e)

  rooms : worlds.open_now context world ≡ open_now s c
  rooms = ap₂ (λ m n. m + n) same.room as_many

  numbers : worlds.next_call context world ≡ next_call s c
  numbers = ap₂ (λ m n. m + n) same.next as_many

  -- the call stands so now
  here_or : (old now : Bool) (o : Option (State Given)) (o' : Option (State worlds.Given)) → SameState o o' → SameState (cond old o (cond now (Some Open) None)) (cond old o' (cond now (Some Open) None))
  here_or true now o o' h = h
  here_or false true o o' h = tt
  here_or false false o o' h = tt

  state_same : SameState (state_now s c call) (worlds.state_now context world call)
  state_same =
      subst (λ m. SameState (state_now s c call) (cond (nat_lt call m) (state_of (call_at context.table call)) (cond (nat_lt call (worlds.next_call context world)) (Some Open) None))) (sym same.next)
      (subst (λ m. SameState (state_now s c call) (cond (nat_lt call (next_number s.table)) (state_of (call_at context.table call)) (cond (nat_lt call m) (Some Open) None))) (sym numbers)
      (here_or (nat_lt call (next_number s.table)) (nat_lt call (next_call s c)) (state_of (call_at s.table call)) (state_of (call_at context.table call)) (accounted.states call)))

  with_state : (r : B) (o : Option (State worlds.Given)) → worlds.state_now context world call ≡ o → focused program context nodes world r.f' r.ck' ≡ waits program context nodes world r.others (awaited_in context world nodes call o)
  with_state r o e = r.acts ∙ ap (λ o. waits program context nodes world r.others (awaited_in context world nodes call o)) e

  nodes_are : (r : B) → nodes_around 0 c.stack ≡ nodes + 0
  nodes_are r = nodes_alone program.groups known context.globals nodes true r.l r.less c.stack r.others r.around refl 0

  -- it waits, for at most so much more than the body's nodes
  suspends : (r : B) (on : Option ℕ) (requests : List Request) (extra : ℕ) (c' : Configuration)
      → focused program context nodes world r.f' r.ck' ≡ Ends (weighing (1 + nodes + extra)) [] (record { store = world.store; groups = world.groups; requests = requests }) (Waits on (record { stack = r.others; nodes = nodes }))
      → c'.weight ≡ c.weight + (1 + nodes_around 0 c.stack + extra) → c'.depth ≡ max c.depth (live_state c.focus c.stack + 16 * 0) → c'.prints ≡ c.prints → c'.stack ≡ c.stack
      → Suspended program context nodes s known c w d prints world f k on requests c'
  suspends r on requests extra c' eq weight depth printed stack =
      let u : Ending program context nodes world (weighing (1 + nodes + extra)) w d prints f k r.weight r.ck' (record { store = world.store; groups = world.groups; requests = requests }) (Waits on (record { stack = r.others; nodes = nodes })) =
      ending program context nodes world (weighing (1 + nodes + extra)) w d prints f k r.weight r.f' r.ck' (record { store = world.store; groups = world.groups; requests = requests }) (Waits on (record { stack = r.others; nodes = nodes })) r.path eq in
      record {
        steps = u.steps;
        weight' = u.weight';
        depth' = u.depth';
        prints' = u.prints';
        l = r.l;
        less = r.less;
        stack = r.others;
        by = u.by;
        prints_are = u.shown ∙ (t.prints_are ∙ sym printed);
        light =
            let a : u.weight' ≤ w + r.weight + (1 + nodes + extra) = u.heavy in
            let b : r.weight + r.less ≤ held = r.paid in
            let x : w + held ≤ 2 * c.weight + owed c.stack = t.light in
            let y : nodes_around 0 c.stack ≡ nodes + 0 = nodes_are r in
            let z : owed c'.stack ≡ owed c.stack = ap owed stack in
            omega (arith, a, b, x, y, z, weight);
        shallow =
            let a : u.depth' ≤ max d (max (16 + nodes + depth_of k) (16 + nodes + depth_of r.ck' + 16 * 0)) = u.within in
            let b : 16 + nodes + depth_of k ≤ live_state c.focus c.stack = deep r in
            let x : d ≤ c.depth = t.shallow in
            let y : live_on c.stack ≡ 16 + nodes + depth_of r.others = as_deep program.groups known context.globals nodes true r.l r.less c.stack r.others r.around in
            let z : depth_of r.ck' ≡ depth_of r.others = r.level in
            omega (arith, a, b, x, y, z, depth);
        around = subst (λ j. Around program context nodes world known true r.l r.less j r.others) (sym stack) r.around;
        bodies = ap (nodes_around 0) stack ∙ (nodes_are r ∙ (let z : nodes + 0 ≡ nodes = omega arith in z));
      }

  waits_follow : (r : B) → state_now s c call ≡ Some Open → Suspended program context nodes s known c w d prints world f k (Some call) world.requests (waiting program context nodes s known c w d prints world f k)
  waits_follow r e =
      suspends r (Some call) world.requests 0 (waiting program context nodes s known c w d prints world f k)
      (with_state r (Some Open) (same_open (worlds.state_now context world call) (subst (λ o. SameState o (worlds.state_now context world call)) e state_same))
      ∙ ap (λ n. Ends (weighing n) [] world (Waits (Some call) (record { stack = r.others; nodes = nodes }))) (let z : 1 + nodes ≡ 1 + nodes + 0 = omega arith in z))
      (let z : c.weight + (1 + nodes_around 0 c.stack) ≡ c.weight + (1 + nodes_around 0 c.stack + 0) = omega arith in z) refl refl refl

  sleeps_follow : (r : B) → state_now s c call ≡ Some Lost → Suspended program context nodes s known c w d prints world f k None world.requests (waiting program context nodes s known c w d prints world f k)
  sleeps_follow r e =
      suspends r None world.requests 0 (waiting program context nodes s known c w d prints world f k)
      (with_state r (Some Lost) (same_lost (worlds.state_now context world call) (subst (λ o. SameState o (worlds.state_now context world call)) e state_same))
      ∙ ap (λ n. Ends (weighing n) [] world (Waits None (record { stack = r.others; nodes = nodes }))) (let z : 1 + nodes ≡ 1 + nodes + 0 = omega arith in z))
      (let z : c.weight + (1 + nodes_around 0 c.stack) ≡ c.weight + (1 + nodes_around 0 c.stack + 0) = omega arith in z) refl refl refl

  -- it is answered
  answered : (r : B) (g : Option Given) (b : Bool) → state_now s c call ≡ Some (Answered g) → nat_lt (open_now s c) most_calls ≡ b
      → focused program context nodes world r.f' r.ck' ≡ waits program context nodes world r.others (cond b (on_some NoFuture (context.message [] []) (resumed_by context world nodes call)) NoRoom)
  answered r g b e room =
      let v : (v : Option worlds.Given) × (worlds.state_now context world call ≡ Some (Answered v)) = same_answered g (worlds.state_now context world call) (subst (λ o. SameState o (worlds.state_now context world call)) e state_same) in
      with_state r (Some (Answered (v.0))) (v.1)
      ∙ ap (λ x. waits program context nodes world r.others (cond x (on_some NoFuture (context.message [] []) (resumed_by context world nodes call)) NoRoom)) (ap (λ n. nat_lt n most_calls) rooms ∙ room)

  rank_is : 4 * left_on c.stack + length c.stack + 1 ≤ rank c.focus c.stack
  rank_is = subst (λ g. 4 * left_on c.stack + length c.stack + 1 ≤ rank g c.stack) (sym stands) (omega arith)

  refuses_follow : (r : B) (g : Option Given) → state_now s c call ≡ Some (Answered g) → nat_lt (open_now s c) most_calls ≡ false → ((u : core_value.Value) → Belongs known (load refused) u → HandlerMeets c.stack u)
      → ActTurns program context nodes (start c.focus c.stack) known w d prints world f k c (throw c.store (weighing 1) (load refused) c.stack)
  refuses_follow r g e room meets =
      act_turns program context nodes held known c w d prints world f k t (throw c.store (weighing 1) (load refused) c.stack)
      (acts_behind program context nodes (start c.focus c.stack) held known world c.store c.stack r.weight 0 f k r.f' r.ck' (throw c.store (weighing 1) (load refused) c.stack) r.path
      (throws program context nodes (start c.focus c.stack) held known world c.store c.stack belongs (load refused) refusal (refl, tt) (0 + r.weight) r.f' r.ck' r.l r.less c.stack r.others r.around (meets refusal (refl, tt))
      (answered r g false e room) (let z : r.weight + r.less ≤ held = r.paid in omega (arith, z)) refl rank_is r.level))
      (inl (deep r))

  abbrev again : Bytes → Request
  again bytes = resume_request context world nodes call bytes

  resumes_follow : (r : B) (g : Option Given) → state_now s c call ≡ Some (Answered g) → nat_lt (open_now s c) most_calls ≡ true → (bytes : Bytes) → message s [] [] ≡ Some bytes
      → (request : Request) × SameCall (resume_call s call bytes) request × Suspended program context nodes s known c w d prints world f k (Some (next_call s c)) (world.requests ++ request ∷ []) (resuming program context nodes s known c w d prints world f k call bytes)
  resumes_follow r g e room bytes message_is = (
    again bytes,
    record { callee = accounted.own; method = refl; argument = refl; results = refl; resumes = refl },
    suspends r (Some (next_call s c)) (world.requests ++ again bytes ∷ []) (length s.own + length resume_name + (0 + length bytes)) (resuming program context nodes s known c w d prints world f k call bytes)
        (answered r g true e room
        ∙ (ap (λ o. waits program context nodes world r.others (on_some NoFuture o (resumed_by context world nodes call))) (same.bytes known [] [] [] tt ∙ message_is)
        ∙ (ap (λ n. Ends (weighing (1 + nodes + n)) [] (worlds.with_request world (again bytes)) (Waits (Some (worlds.next_call context world)) (record { stack = r.others; nodes = nodes }))) sizes
        ∙ ap (λ n. Ends (weighing (1 + nodes + (length s.own + length resume_name + (0 + length bytes)))) [] (worlds.with_request world (again bytes)) (Waits (Some n) (record { stack = r.others; nodes = nodes }))) numbers)))
        refl refl refl refl,
  )
    where
      sizes : length context.own + length core_calls.resume_name + length bytes ≡ length s.own + length resume_name + (0 + length bytes)
      sizes = let z : length context.own ≡ length s.own = ap length accounted.own in omega (arith, z)

  pub await_follows : AwaitFollows program context nodes s known c w d prints world f k call
  await_follows = record { waits = waits_follow at_await; sleeps = sleeps_follow at_await; refuses = refuses_follow at_await; resumes = resumes_follow at_await }

pub awaits : (program : Core) (context : Context) (nodes : ℕ) (s : Surroundings) → AwaitsFollow program context nodes s
awaits program context nodes s same accounted held known c w d prints world f k t as_many call stands =
    let h : WorldBelongs program.groups known context.globals c.store world × StateBelongs program context nodes world known held c.focus c.stack f k =
    here_alone program context nodes world known held c.store c.focus c.stack f k t.stands (subst (λ g. IsOutside g) (sym stands) tt) in
    await_follows program context nodes s same accounted held known c w d prints world f k t (h.0) (h.1) as_many call stands
