-- A value leaves labels, or a body.
use Rattle.std.proofs.Common.{◌≡◌, ℕ, zero, suc, ◌+◌, ◌-◌, ◌*◌, ◌<◌, ◌≤◌, Bool, true, List, [], ◌∷◌, ◌++◌, length, Option, Some, None, slice_get, refl, sym, ap, ◌∙◌, subst, arith}
use Rattle.mo_values.specs.Costs.{weighing}
use Rattle.core_ir.specs.Values as core_value
use Rattle.core_ir.specs.Worlds.{World, Context}
use Rattle.core_ir.specs.Executions.{Go}
use Rattle.core_ir.specs.Expressions.{Exp, Exps, Goal, Core}
use Rattle.core_ir.specs.CoreMachine as core_machine
use Rattle.core_ir.specs.CoreMachine.{Frame, Arguments, Looping, Caller, Join, Focus, Did, focused, act, left, returned, at, depth_of}
use Rattle.typed_tree.specs.declared.action.Action.TheVariants as action
use Rattle.typed_tree.specs.Language as source
use Rattle.mo_machine.specs.Values.{Value}
use Rattle.mo_machine.specs.Values as machine_value
use Rattle.mo_machine.specs.Acts.{Store, Act, goes}
use Rattle.mo_machine.specs.Frames as machine
use Rattle.mo_machine.specs.Frames.{Operands, Choosing, Switching, Returning, Testing, Turning, Repeating, Retesting, Going, Stepping, Updating, Joining, Stack, Ready}
use Rattle.mo_machine.specs.Measure.{left_on}
use Rattle.mo_machine.specs.Jumps.{leave}
use Rattle.elaboration.specs.Scopes as scopes
use Rattle.elaboration.specs.Meeting.{Joins, There}
use Rattle.elaboration_values.specs.Belonging.{Known, Belongs}
use Rattle.elaboration_steps.specs.Stacks.{Passed, Labels, goal_at, turn_with, WorldBelongs, AtAction, AtValue, AtEnd, Around, Bottom, InFunction, InGathering, InOperands, InMaking, InCalling, InHolding, InChoosing, InLet, InSwitch, InLabel, InTesting, InTurning, InRepeating, InRetesting, InTry, InUpdating, InGoing, InTurn, InBody, InBranch, InCase, gathering_on, gathering_of, Gathered, InEndless, truth}
use Rattle.elaboration_steps.specs.Follows.{Start, owed, Acts}
use Rattle.elaboration_steps.proofs.Labels.{within}
use Rattle.elaboration_steps.proofs.Levels.{joins_level, skips_level}
use Rattle.elaboration_steps.proofs.Gathering.{gathers_behind}
use Rattle.elaboration_steps.proofs.Paths.{nothing_more, waits_in, waits, does}

module _ (program : Core) (context : Context) (nodes : ℕ) (world : World) (w : core_value.Value) where
  -- out of the label around which so many of these stand, or out of the function
  abbrev pub out_by : Option ℕ → ℕ → List Frame → Did
  out_by None count k = returned program context nodes world w k
  out_by (Some a) count k = left program context nodes world (count - suc a) w k

  pub act_out : (o : Option ℕ) (count : ℕ) (vals : List core_value.Value) (k : List Frame) → act program context nodes world (scopes.leave count o) (w ∷ []) vals k ≡ out_by o count k
  act_out None count vals k = refl
  act_out (Some a) count vals k = refl

  left_join : (n : ℕ) (k : List Frame) → left program context nodes world n w (Join ∷ k) ≡ left program context nodes world n w k
  left_join zero k = refl
  left_join (suc n) k = refl

  left_args : (n : ℕ) (g : Goal) (d : List core_value.Value) (r : Exps) (vals : List core_value.Value) (k : List Frame) → left program context nodes world n w (Arguments g d r vals ∷ k) ≡ left program context nodes world n w k
  left_args zero g d r vals k = refl
  left_args (suc n) g d r vals k = refl

  left_loop : (n : ℕ) (b : Exp) (vals : List core_value.Value) (k : List Frame) → left program context nodes world n w (Looping b vals ∷ k) ≡ left program context nodes world n w k
  left_loop zero b vals k = refl
  left_loop (suc n) b vals k = refl

  left_try : (n : ℕ) (b : Exp) (vals : List core_value.Value) (k : List Frame) → left program context nodes world n w (core_machine.Trying b vals ∷ k) ≡ left program context nodes world n w k
  left_try zero b vals k = refl
  left_try (suc n) b vals k = refl

  past_join : (o : Option ℕ) (count : ℕ) (k : List Frame) → out_by o count (Join ∷ k) ≡ out_by o count k
  past_join None count k = refl
  past_join (Some a) count k = left_join (count - suc a) k

  past_args : (o : Option ℕ) (count : ℕ) (g : Goal) (d : List core_value.Value) (r : Exps) (vals : List core_value.Value) (k : List Frame) → out_by o count (Arguments g d r vals ∷ k) ≡ out_by o count k
  past_args None count g d r vals k = refl
  past_args (Some a) count g d r vals k = left_args (count - suc a) g d r vals k

  past_loop : (o : Option ℕ) (count : ℕ) (b : Exp) (vals : List core_value.Value) (k : List Frame) → out_by o count (Looping b vals ∷ k) ≡ out_by o count k
  past_loop None count b vals k = refl
  past_loop (Some a) count b vals k = left_loop (count - suc a) b vals k

  past_try : (o : Option ℕ) (count : ℕ) (b : Exp) (vals : List core_value.Value) (k : List Frame) → out_by o count (core_machine.Trying b vals ∷ k) ≡ out_by o count k
  past_try None count b vals k = refl
  past_try (Some a) count b vals k = left_try (count - suc a) b vals k

  pub past_joins : (o : Option ℕ) (count : ℕ) (s k : List Frame) → Joins s → out_by o count (s ++ k) ≡ out_by o count k
  past_joins o count [] k h = refl
  past_joins o count (Join ∷ s) k h = past_join o count (s ++ k) ∙ past_joins o count s k h
  past_joins o count (Arguments g d r e ∷ s) k h = absurd h
  past_joins o count (Looping b e ∷ s) k h = absurd h
  past_joins o count (core_machine.Labelled ∷ s) k h = absurd h
  past_joins o count (core_machine.Trying b e ∷ s) k h = absurd h
  past_joins o count (Caller n g ∷ s) k h = absurd h

  pub past_skips : (o : Option ℕ) (count : ℕ) (s k : List Frame) → Passed s → out_by o count (s ++ k) ≡ out_by o count k
  past_skips o count [] k h = refl
  past_skips o count (Join ∷ s) k h = past_join o count (s ++ k) ∙ past_skips o count s k h
  past_skips o count (Arguments g d r e ∷ s) k h = past_args o count g d r e (s ++ k) ∙ past_skips o count s k h
  past_skips o count (Looping b e ∷ s) k h = absurd h
  past_skips o count (core_machine.Labelled ∷ s) k h = absurd h
  past_skips o count (core_machine.Trying b e ∷ s) k h = absurd h
  past_skips o count (Caller n g ∷ s) k h = absurd h

  -- a label inside of the one that is left
  past_label : (o : Option ℕ) (count : ℕ) (k : List Frame) → ((a : ℕ) → o ≡ Some a → a < count) → out_by o (suc count) (core_machine.Labelled ∷ k) ≡ out_by o count k
  past_label None count k h = refl
  past_label (Some a) count k h =
      let z : a < count = h a refl in
      let y : suc count - suc a ≡ suc (count - suc a) = omega (arith, z) in
      ap (λ n. left program context nodes world n w (core_machine.Labelled ∷ k)) y

  at_label : (count : ℕ) (k : List Frame) → out_by (Some count) (suc count) (core_machine.Labelled ∷ k) ≡ Go (weighing 1) [] world (at program context nodes (core_machine.Give w) k)
  at_label count k =
      let y : suc count - suc count ≡ 0 = omega arith in
      ap (λ n. left program context nodes world n w (core_machine.Labelled ∷ k)) y

abbrev IsPassed : machine.Frame → Type 0
IsPassed machine.Labelled = ⊥
IsPassed (Returning n) = ⊥
IsPassed (machine.Trying p b env) = ⊥
IsPassed _ = Unit {0}

passes : (store : Store) (v : Value) (k : Stack) (f : machine.Frame) → IsPassed f → (n : ℕ) → leave store n v (f ∷ k) ≡ leave store n v k
passes store v k machine.Labelled h n = absurd h
passes store v k (Returning m) h n = absurd h
passes store v k (machine.Trying p b env) h n = absurd h
passes store v k f h zero = refl
passes store v k f h (suc n) = refl

module _ (program : Core) (context : Context) (nodes : ℕ) (before : Start) (held : ℕ) (known : List Known) (world : World) (store : Store) (k0 : Stack) (worlds : WorldBelongs program.groups known context.globals store world) (v : Value) (w : core_value.Value) (value : Belongs known v w) (spent : ℕ) (cf : Focus) (ck0 : List Frame) where
  abbrev A : Act → Type 0
  A = Acts program context nodes before held known world store k0 spent cf ck0

  abbrev Out : Labels → ℕ → List Frame → Type 0
  Out l n ck = focused program context nodes world cf ck0 ≡ out_by program context nodes world w (slice_get l.exits n) l.count ck

  -- how far out it has come
  abbrev Low : Stack → Type 0
  Low k = 4 * left_on k + length k + 1 ≤ before.most

  here : (b : Bool) (l : Labels) (less : ℕ) (k : Stack) (ck : List Frame) → Around program context nodes world known b l less k ck → focused program context nodes world cf ck0 ≡ Go (weighing 1) [] world (at program context nodes (core_machine.Give w) ck)
      → spent + less + owed k0 ≤ 1 + held + owed k → A (goes store (machine.Give v) k)
  here b l less k ck r eq le =
      does program context nodes before (spent + owed k0) (2 * 1 + held) 0 less (weighing 1) [] known known world world cf ck0 (core_machine.Give w) ck store (machine.Give v) k eq (omega (arith, le)) (omega arith) ([], nothing_more known) refl worlds
      (AtValue b l v w k ck value r)

  -- a construct was passed: Core waits
  passed : (b : Bool) (l : Labels) (less n : ℕ) (k : Stack) (ck : List Frame) → Around program context nodes world known b l less k ck → Out l n ck → spent + less ≤ held → owed k0 ≤ suc (owed k) → suc (4 * left_on k + length k + 1) ≤ before.most → depth_of ck0 ≡ depth_of ck
      → A (goes store (Ready (action.Break n) (v ∷ [])) k)
  passed b l less n k ck r eq le q fall deep =
      waits program context nodes before (spent + owed k0) (2 * 1 + held) 0 less known world cf ck0 store (Ready (action.Break n) (v ∷ [])) k (omega (arith, le, q)) fall worlds
      (AtAction (action.Break n) (v ∷ []) k cf ck0 (record {
        b = b;
        l = l;
        values = w ∷ [];
        vals = [];
        weight = 0;
        less = less;
        f' = cf;
        ck' = ck0;
        others = ck;
        arguments = (value, tt);
        may = tt;
        path = There 0 cf ck0;
        acts = eq ∙ sym (act_out program context nodes world w (slice_get l.exits n) l.count [] ck);
        level = deep;
        paid = omega arith;
        around = r;
      }))

  pub leaves : (b : Bool) (l : Labels) (less n : ℕ) (k : Stack) (ck : List Frame) → Around program context nodes world known b l less k ck → Out l n ck → spent + less ≤ held → owed k0 ≡ owed k → Low k → depth_of ck0 ≡ depth_of ck → A (leave store n v k)
  leaves b l less zero k ck (Bottom c h js i) eq le q low deep =
      waits program context nodes before (spent + owed k0) (2 * 1 + held) 0 1 known world cf ck0 store (machine.Give v) [] (omega (arith, le, q)) (omega (arith, low)) worlds
      (AtEnd v w cf ck0 value (eq ∙ past_joins program context nodes world w None 0 js [] i) (omega arith) (deep ∙ joins_level js [] i))
  leaves b l less (suc n) k ck (Bottom c h js i) eq le q low deep = tt
  leaves b l less zero k ck (InFunction m c l' h j js cj i r) eq le q low deep = here c l' h j cj r (eq ∙ past_joins program context nodes world w None 0 js (Caller m None ∷ cj) i) (omega (arith, le, q))
  leaves b l less (suc n) k ck (InFunction m c l' h j js cj i r) eq le q low deep = tt
  leaves b l less zero k ck (InGathering m c l' h f g done before' next left j js cj i e d r) eq le q low deep =
      waits_in program context nodes before (spent + owed k0) (2 * 1 + held) 0 h known world cf ck0 store (machine.Give v) (gathering_on f done next left j) (omega (arith, le, q)) (omega (arith, low))
      (Gathered store (machine.Give v) (gathering_on f done next left j) cf ck0 worlds
      (gathers_behind program context nodes world known h c l' f g e j cj cf ck0 r done before' v w next left d value
      (eq ∙ past_joins program context nodes world w None 0 js (Caller m (Some (gathering_of g before' next left)) ∷ Caller 0 None ∷ cj) i)))
  leaves b l less (suc n) k ck (InGathering m c l' h f g done before' next left j js cj i e d r) eq le q low deep = tt
  leaves b l less zero k ck (InLabel c l' h j cj r) eq le q low deep = here c l' h j cj r (eq ∙ at_label program context nodes world w l'.count cj) (omega (arith, le, q))
  leaves b l less (suc n) k ck (InLabel c l' h j cj r) eq le q low deep =
      passed c l' h n j cj r (eq ∙ past_label program context nodes world w (slice_get l'.exits n) l'.count cj (within program.groups known context.globals nodes c l' h j cj r n)) le (omega (arith, q)) (omega (arith, low)) deep
  leaves b l less zero k ck (InTry l' h p e env j c vals cj d r) eq le q low deep =
      passed true l' h 0 j cj r (eq ∙ past_try program context nodes world w (slice_get l'.exits 0) l'.count c vals cj) le (omega (arith, q)) (omega (arith, low)) deep
  leaves b l less (suc n) k ck (InTry l' h p e env j c vals cj d r) eq le q low deep =
      passed true l' h (suc n) j cj r (eq ∙ past_try program context nodes world w (slice_get l'.exits (suc n)) l'.count c vals cj) le (omega (arith, q)) (omega (arith, low)) deep
  leaves b l less n k ck (InOperands x l' h a done rest env j bs later vals cj g e d r) eq le q low deep =
      subst A (sym (passes store v j (Operands a done rest env) tt n))
      (leaves x l' h n j cj r (eq ∙ past_args program context nodes world w (slice_get l'.exits n) l'.count (goal_at l' a) bs later vals cj) le q (omega (arith, low)) deep)
  leaves b l less n k ck (InMaking x l' h i a done rest args env j bs later arguments vals cj row e d f r) eq le q low deep =
      subst A (sym (passes store v (Operands action.Call [] args env ∷ j) (Operands (action.BuiltIn i) done rest env) tt n ∙ passes store v j (Operands action.Call [] args env) tt n))
      (leaves x l' h n j cj r (eq ∙ past_args program context nodes world w (slice_get l'.exits n) l'.count (goal_at l' a) bs (scopes.append later arguments) vals cj) le q (omega (arith, low)) deep)
  leaves b l less n k ck (InCalling x l' h i a holds done rest env j bs later vals cj row e d r) eq le q low deep =
      subst A (sym (passes store v j (Operands action.Call (machine_value.BuiltIn i holds ∷ done) rest env) tt n))
      (leaves x l' h n j cj r (eq ∙ past_args program context nodes world w (slice_get l'.exits n) l'.count (goal_at l' a) bs later vals cj) le q (omega (arith, low)) deep)
  leaves b l less n k ck (InHolding x l' h i done env j number levels vals cj e d r) eq le q low deep =
      subst A (sym (passes store v j (Operands (action.BuiltIn i) done source.NoExp env) tt n)) (leaves x l' h n j cj r (eq ∙ past_args program context nodes world w (slice_get l'.exits n) l'.count _ _ _ vals cj) le q (omega (arith, low)) deep)
  leaves b l less n k ck (InChoosing x l' h y z env j c d vals cj p i r) eq le q low deep =
      subst A (sym (passes store v j (Choosing y z env) tt n)) (leaves x l' h n j cj r (eq ∙ past_args program context nodes world w (slice_get l'.exits n) l'.count _ _ _ vals cj) le q (omega (arith, low)) deep)
  leaves b l less n k ck (InLet x l' h p e env j c vals cj i r) eq le q low deep =
      subst A (sym (passes store v j (Switching _ env) tt n)) (leaves x l' h n j cj r (eq ∙ past_args program context nodes world w (slice_get l'.exits n) l'.count _ _ _ vals cj) le q (omega (arith, low)) deep)
  leaves b l less n k ck (InSwitch x l' h cs env j c vals cj i r) eq le q low deep =
      subst A (sym (passes store v j (Switching cs env) tt n)) (leaves x l' h n j cj r (eq ∙ past_args program context nodes world w (slice_get l'.exits n) l'.count _ _ _ vals cj) le q (omega (arith, low)) deep)
  leaves b l less n k ck (InUpdating x l' h o e env j c vals cj i r) eq le q low deep =
      subst A (sym (passes store v j (Updating o e env) tt n)) (leaves x l' h n j cj r (eq ∙ past_args program context nodes world w (slice_get l'.exits n) l'.count _ _ _ vals cj) le q (omega (arith, low)) deep)
  leaves b l less n k ck (InTesting x l' h y z env j c d vals cj p i r) eq le q low deep =
      subst A (sym (passes store v j (Testing y z env) tt n))
      (leaves x l' h n j cj r (eq ∙ (past_args program context nodes world w (slice_get l'.exits n) (suc l'.count) _ _ _ vals _ ∙ (past_args program context nodes world w (slice_get l'.exits n) (suc l'.count) _ _ _ vals _ ∙ (past_loop program context nodes world w (slice_get l'.exits n) (suc l'.count) _ vals _ ∙ past_label program context nodes world w (slice_get l'.exits n) l'.count cj (within program.groups known context.globals nodes x l' h j cj r n))))) le q (omega (arith, low)) deep)
  leaves b l less n k ck (InTurning x l' h y z env j c d vals cj p i r) eq le q low deep =
      subst A (sym (passes store v j (Turning y z env) tt n))
      (leaves x l' h n j cj r (eq ∙ (past_loop program context nodes world w (slice_get l'.exits n) (suc l'.count) _ vals _ ∙ past_label program context nodes world w (slice_get l'.exits n) l'.count cj (within program.groups known context.globals nodes x l' h j cj r n))) le q (omega (arith, low)) deep)
  leaves b l less n k ck (InEndless x l' h y env j d vals cj i r) eq le q low deep =
      subst A (sym (passes store v j (Turning truth y env) tt n)) (leaves x l' h n j cj r (eq ∙ past_loop program context nodes world w (slice_get l'.exits n) l'.count _ vals cj) le q (omega (arith, low)) deep)
  leaves b l less n k ck (InRepeating x l' h y z env j d c vals cj p i r) eq le q low deep =
      subst A (sym (passes store v j (Repeating y z env) tt n))
      (leaves x l' h n j cj r (eq ∙ (past_args program context nodes world w (slice_get l'.exits n) (suc l'.count) _ _ _ vals _ ∙ (past_loop program context nodes world w (slice_get l'.exits n) (suc l'.count) _ vals _ ∙ past_label program context nodes world w (slice_get l'.exits n) l'.count cj (within program.groups known context.globals nodes x l' h j cj r n)))) le q (omega (arith, low)) deep)
  leaves b l less n k ck (InRetesting x l' h y z env j d c u vals cj p i r) eq le q low deep =
      subst A (sym (passes store v j (Retesting y z env) tt n))
      (leaves x l' h n j cj r (eq ∙ (past_args program context nodes world w (slice_get l'.exits n) (suc l'.count) _ _ _ (u ∷ vals) _ ∙ (past_loop program context nodes world w (slice_get l'.exits n) (suc l'.count) _ vals _ ∙ past_label program context nodes world w (slice_get l'.exits n) l'.count cj (within program.groups known context.globals nodes x l' h j cj r n)))) le q (omega (arith, low)) deep)
  leaves b l less n k ck (InGoing x l' h p e env j c vals cj i r) eq le q low deep =
      subst A (sym (passes store v j (Going p e env) tt n)) (leaves x l' h n j cj r (eq ∙ past_args program context nodes world w (slice_get l'.exits n) l'.count _ _ _ vals cj) le q (omega (arith, low)) deep)
  leaves b l less n k ck (InTurn x l' h p e env u j c z vals cj i d r) eq le q low deep =
      subst A (sym (passes store v (Stepping p u e env ∷ j) (Switching _ env) tt n ∙ passes store v j (Stepping p u e env) tt n))
      (leaves x l' h n j cj r (eq ∙ (past_args program context nodes world w (slice_get l'.exits n) (suc l'.count) _ _ _ (z ∷ vals) _ ∙ (past_args program context nodes world w (slice_get l'.exits n) (suc l'.count) _ _ _ (z ∷ vals) _ ∙ (past_loop program context nodes world w (slice_get l'.exits n) (suc l'.count) _ (z ∷ vals) _ ∙ past_label program context nodes world w (slice_get l'.exits n) l'.count cj (within program.groups known context.globals nodes x l' h j cj r n))))) le q (omega (arith, low)) deep)
  leaves b l less n k ck (InBody x l' h p e env inner u j c z vals js cj a i d r) eq le q low deep =
      subst A (sym (passes store v (Joining ∷ Stepping p u e env ∷ j) (Switching _ inner) tt n ∙ (passes store v (Stepping p u e env ∷ j) Joining tt n ∙ passes store v j (Stepping p u e env) tt n)))
      (leaves x l' h n j cj r (eq ∙ (past_joins program context nodes world w (slice_get l'.exits n) (suc l'.count) js _ a ∙ (past_loop program context nodes world w (slice_get l'.exits n) (suc l'.count) _ (z ∷ vals) _ ∙ past_label program context nodes world w (slice_get l'.exits n) l'.count cj (within program.groups known context.globals nodes x l' h j cj r n)))) le q (omega (arith, low)) (deep ∙ joins_level js (Looping (turn_with c) (z ∷ vals) ∷ core_machine.Labelled ∷ cj) a))
  leaves b l less n k ck (InBranch x l' h j joins cj i r) eq le q low deep =
      subst A (sym (passes store v j Joining tt n)) (leaves x l' h n j cj r (eq ∙ past_joins program context nodes world w (slice_get l'.exits n) l'.count joins cj i) le q (omega (arith, low)) (deep ∙ joins_level joins cj i))
  leaves b l less n k ck (InCase x l' h fewer j vals skips cj i paid r) eq le q low deep =
      subst A (sym (passes store v j Joining tt n))
      (leaves x l' fewer n j cj r (eq ∙ (past_args program context nodes world w (slice_get l'.exits n) (suc l'.count) _ _ _ vals _ ∙ (past_skips program context nodes world w (slice_get l'.exits n) (suc l'.count) skips _ i ∙ past_label program context nodes world w (slice_get l'.exits n) l'.count cj (within program.groups known context.globals nodes x l' fewer j cj r n)))) (let z : suc fewer ≤ h = paid in omega (arith, le, z)) q (omega (arith, low)) (deep ∙ skips_level skips (core_machine.Labelled ∷ cj) i))
