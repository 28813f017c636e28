-- Calls of other actors are made alike.
use Rattle.std.proofs.Common.{◌≡◌, inl, ℕ, ◌+◌, ◌*◌, ◌≤◌, Bool, true, false, List, [], ◌∷◌, ◌++◌, length, Some, None, refl, sym, ap, ap₂, ◌∙◌, subst, arith}
use Rattle.std.specs.Prelude.{max, nat_lt, cond}
use Rattle.mo_types.specs.declared.datum.Datum.TheVariants as part
use Rattle.mo_types.specs.declared.node.TypeId.{TypeId}
use Rattle.mo_values.specs.Costs.{weighing, sizes, most_levels}
use Rattle.mo_values.specs.Shapes.{Bytes, Leaf, Future, NoShape, AShape}
use Rattle.mo_values.specs.Shapes as shape
use Rattle.core_ir.specs.Choices.{on_some}
use Rattle.core_ir.specs.Programs.{Signature}
use Rattle.core_ir.specs.Values as core_value
use Rattle.core_ir.specs.Values.{SharedFunction}
use Rattle.core_ir.specs.Worlds.{World, Context, with_request}
use Rattle.core_ir.specs.Worlds as worlds
use Rattle.core_ir.specs.Calls as core_calls
use Rattle.core_ir.specs.Calls.{Refused, NoCall, sent, sent_bytes, request_of, refusal}
use Rattle.core_ir.specs.Executions as execution
use Rattle.core_ir.specs.Expressions.{Core}
use Rattle.core_ir.specs.CoreMachine.{Frame, Focus, Give, focused, act, asked, depth_of}
use Rattle.typed_tree.specs.declared.action.Action.{Action}
use Rattle.typed_tree.specs.declared.action.Action.TheVariants as action
use Rattle.mo_meaning.specs.Configurations.{Surroundings}
use Rattle.mo_meaning.specs.Turns.{most_calls, most_bytes, too_long, refused}
use Rattle.mo_machine.specs.Values.{Value, Made, NoValue, load, shapes_list}
use Rattle.mo_machine.specs.Acts.{Act, Goes, Traps}
use Rattle.mo_machine.specs.Configurations.{Configuration, live_on, live_state, moved, weighed, open_now, next_call, with_call}
use Rattle.mo_machine.specs.Frames as machine
use Rattle.mo_machine.specs.Frames.{Stack, Ready}
use Rattle.mo_machine.specs.Jumps.{throw}
use Rattle.mo_machine.specs.Moves.{Moved, Reduces}
use Rattle.mo_machine.specs.Reductions.{reduces}
use Rattle.mo_machine.specs.Measure.{left_on}
use Rattle.mo_machine.specs.Messages.{message_cost}
use Rattle.mo_machine.specs.Turns.{call_cost, message}
use Rattle.elaboration.specs.Meeting.{Comes, There}
use Rattle.elaboration_values.specs.Belonging.{Known, Belongs, EachBelongs}
use Rattle.elaboration_values.proofs.Messages.{messages}
use Rattle.elaboration_steps.specs.Stacks.{Labels, goal_at, Passing, Written, Arrived, StateBelongs, AtAction, AtInner, AtTurned, AtLeft, AtValue, Later, LaterBy, WorldBelongs, Here, Around}
use Rattle.elaboration_steps.specs.Follows.{start, rank, owed, HandlerMeets, Doing, Acts}
use Rattle.elaboration_steps.specs.Running.{Runs}
use Rattle.elaboration_steps.proofs.Depth.{as_deep}
use Rattle.elaboration_steps.proofs.Paths.{stops, acts_behind}
use Rattle.elaboration_steps.proofs.Rows.{row_goal}
use Rattle.elaboration_steps.proofs.Running.{ways}
use Rattle.elaboration_steps.proofs.Standing.{IsOutside, here_alone}
use Rattle.elaboration_steps.proofs.Throwing.{throws}
use Rattle.elaboration_runs.specs.Together.{Together, ActTurns}
use Rattle.elaboration_runs.specs.Calling.{Surrounded, Calls, call_with, future, CallFollows, CallsFollow}
use Rattle.elaboration_steps.proofs.StateDepth.{comes_level}
use Rattle.elaboration_runs.proofs.Turning.{act_turns}

pub no_passing : (t : Bool) (k : Stack) (f : machine.Focus) (more : Stack) → Passing t k f more → (a : Action) (vs : List Value) → f ≡ Ready a vs → ⊥
no_passing t k f more (Written n env) a vs e = let z : machine.Eval _ env ≡ Ready a vs = e in cc
no_passing t k f more (Arrived n) a vs e = let z : machine.Give _ ≡ Ready a vs = e in cc

module _ (program : Core) (context : Context) (nodes : ℕ) (held : ℕ) (known : List Known) (world : World) (p name : Bytes) (ps rs : List TypeId) (vs : List Value) where
  abbrev callee : Value
  callee = Made (Leaf (part.Method p name)) NoValue

  abbrev method : core_value.Value
  method = shape.leaf (part.Method p name)

  abbrev signature : Signature
  signature = record { parameters = ps; results = rs }

  -- Core stands before the call, or comes there
  record Before (l0 : Stack) (cf : Focus) (ck : List Frame) : Type 0 where
    l : Labels
    ws : List core_value.Value
    weight : ℕ
    less : ℕ
    f' : Focus
    ck' : List Frame
    others : List Frame
    arguments : EachBelongs known vs ws
    path : Comes program context nodes world weight cf ck f' ck'
    acts : focused program context nodes world f' ck' ≡ asked program context nodes world others (sent context world signature method ws)
    level : depth_of ck' ≡ depth_of others
    paid : weight + less ≤ held
    around : Around program context nodes world known true l less l0 others

  is_method : (w : core_value.Value) → Belongs known callee w → w ≡ method
  is_method (shape.Made i NoShape) a = ap (λ h. shape.Made h NoShape) (sym (a.0))
  is_method (shape.Made i (AShape u us)) a = absurd (a.1)
  is_method (shape.Function h) a = absurd a

  operands : (values : List core_value.Value) → EachBelongs known (callee ∷ vs) values → (ws : List core_value.Value) × (values ≡ method ∷ ws) × EachBelongs known vs ws
  operands [] a = absurd a
  operands (w ∷ ws) a = (ws, ap (λ x. x ∷ ws) (is_method w (a.0)), a.1)

  before : (l0 : Stack) (cf : Focus) (ck : List Frame) → StateBelongs program context nodes world known held (Ready (action.Send ps rs) (callee ∷ vs)) l0 cf ck → Before l0 cf ck
  before l0 cf ck (AtAction a us j g cj r) =
      let o : (ws : List core_value.Value) × (r.values ≡ method ∷ ws) × EachBelongs known vs ws = operands r.values r.arguments in
      let m : r.b ≡ true = r.may in
      record {
        l = r.l;
        ws = o.0;
        weight = r.weight;
        less = r.less;
        f' = r.f';
        ck' = r.ck';
        others = r.others;
        arguments = o.2;
        path = r.path;
        acts = r.acts ∙ ap (λ xs. act program context nodes world (goal_at r.l (action.Send ps rs)) xs r.vals r.others) (o.1);
        level = r.level;
        paid = let z : r.weight + r.less ≤ held + 0 = r.paid in omega (arith, z);
        around = subst (λ x. Around program context nodes world known x r.l r.less l0 r.others) m r.around;
      }
  before l0 cf ck (AtInner m a us j g cj row r) = absurd (let z : false ≡ true = row_goal m (action.Send ps rs) row in cc)
  before l0 cf ck (AtTurned b l q e env v j c w vals cj g more x value pattern around) = absurd (no_passing true _ g more x (action.Send ps rs) (callee ∷ vs) refl)
  before l0 cf ck (Later g j g2 more cg cj moves none falls owes deep state) = absurd (let z : Reduces ≡ Moved g2 more = moves in cc)
  before l0 cf ck (LaterBy g j n g2 more cg cj moves goes falls owes deep state) = absurd (let z : reduces context.head None [] (Ready (action.Send ps rs) (callee ∷ vs)) l0 ≡ Goes (weighing n) [] g2 more = goes [] in cc)
  before l0 cf ck (AtLeft b l q e env v j cj g more x around) = absurd (no_passing false _ g more x (action.Send ps rs) (callee ∷ vs) refl)

none_more : {X : Type 0} (xs : List X) → xs ≡ xs ++ []
none_more [] = refl
none_more (y ∷ xs) = ap (λ r. y ∷ r) (none_more xs)

module _ (program : Core) (context : Context) (nodes : ℕ) (s : Surroundings) (same : Surrounded program context nodes s) (held : ℕ) (known : List Known) (c : Configuration) (w d : ℕ) (prints : List Bytes) (world : World) (f : Focus) (k : List Frame)
    (t : Together program context nodes held known c w d prints world f k) (belongs : WorldBelongs program.groups known context.globals c.store world) (state : StateBelongs program context nodes world known held c.focus c.stack f k) (as_many : length world.requests ≡ length c.calls) (p name : Bytes) (ps rs : List TypeId) (vs : List Value)
    (stands : c.focus ≡ Ready (action.Send ps rs) (Made (Leaf (part.Method p name)) NoValue ∷ vs)) where
  abbrev B : Type 0
  B = Before program context nodes held known world p name ps rs vs c.stack f k

  at_call : B
  at_call = before program context nodes held known world p name ps rs vs c.stack f k (subst (λ g. StateBelongs program context nodes world known held g c.stack f k) stands state)

  abbrev A : ℕ → Focus → List Frame → Act → Type 0
  A = Acts program context nodes (start c.focus c.stack) held known world c.store c.stack

  abbrev function : SharedFunction
  function = record { actor = p; method = name }

  deep : B → 16 + nodes + depth_of k ≤ live_state c.focus c.stack
  deep r =
      let a : depth_of k ≡ depth_of r.ck' = comes_level program context nodes world r.weight f k r.f' r.ck' r.path in
      let b : depth_of r.ck' ≡ depth_of r.others = r.level in
      let e : live_on c.stack ≡ 16 + nodes + depth_of r.others = as_deep program.groups known context.globals nodes true r.l r.less c.stack r.others r.around in
      omega (arith, a, b, e)

  -- what the call comes to, where these are known
  as_room : core_calls.most_calls ≡ most_calls
  as_room = refl

  rooms : worlds.open_now context world ≡ open_now s c
  rooms = ap₂ (λ m n. m + n) same.room as_many

  numbers : worlds.next_call context world ≡ next_call s c
  numbers = ap₂ (λ m n. m + n) same.next as_many

  with_room : (r : B) (b : Bool) → nat_lt (open_now s c) most_calls ≡ b
      → focused program context nodes world r.f' r.ck' ≡ asked program context nodes world r.others (cond b (on_some NoCall (context.message ps r.ws) (sent_bytes context world function (record { parameters = ps; results = rs }) r.ws)) Refused)
  with_room r b e =
      r.acts ∙ ap (λ x. asked program context nodes world r.others (cond x (on_some NoCall (context.message ps r.ws) (sent_bytes context world function (record { parameters = ps; results = rs }) r.ws)) Refused))
      (ap (λ n. nat_lt n most_calls) rooms ∙ e)

  with_bytes : (r : B) (bytes : Bytes) (b : Bool) → nat_lt (open_now s c) most_calls ≡ true → message s ps vs ≡ Some bytes → nat_lt most_bytes (length bytes) ≡ b
      → focused program context nodes world r.f' r.ck' ≡ asked program context nodes world r.others (cond b (core_calls.TooLong (core_calls.message_cost r.ws bytes))
      (core_calls.Sends (core_calls.call_cost p name r.ws bytes) (with_request world (request_of context world function (record { parameters = ps; results = rs }) bytes)) (core_value.future (worlds.next_call context world))))
  with_bytes r bytes b room e short =
      with_room r true room
      ∙ (ap (λ o. asked program context nodes world r.others (on_some NoCall o (sent_bytes context world function (record { parameters = ps; results = rs }) r.ws))) (same.bytes known ps vs r.ws r.arguments ∙ e)
      ∙ ap (λ x. asked program context nodes world r.others (cond x (core_calls.TooLong (core_calls.message_cost r.ws bytes))
      (core_calls.Sends (core_calls.call_cost p name r.ws bytes) (with_request world (request_of context world function (record { parameters = ps; results = rs }) bytes)) (core_value.future (worlds.next_call context world))))) short)

  rank_is : 4 * left_on c.stack + length c.stack + 1 ≤ rank c.focus c.stack
  rank_is = subst (λ g. 4 * left_on c.stack + length c.stack + 1 ≤ rank g c.stack) (sym stands) (omega arith)

  refuses_follow : (r : B) → nat_lt (open_now s c) most_calls ≡ false → ((u : core_value.Value) → Belongs known (load refused) u → HandlerMeets c.stack u)
      → ActTurns program context nodes (start c.focus c.stack) known w d prints world f k c (throw c.store (weighing 1) (load refused) c.stack)
  refuses_follow r room meets =
      act_turns program context nodes held known c w d prints world f k t (throw c.store (weighing 1) (load refused) c.stack)
      (acts_behind program context nodes (start c.focus c.stack) held known world c.store c.stack r.weight 0 f k r.f' r.ck' (throw c.store (weighing 1) (load refused) c.stack) r.path
      (throws program context nodes (start c.focus c.stack) held known world c.store c.stack belongs (load refused) refusal (refl, tt) (0 + r.weight) r.f' r.ck' r.l r.less c.stack r.others r.around (meets refusal (refl, tt))
      (with_room r false room) (let z : r.weight + r.less ≤ held = r.paid in omega (arith, z)) refl rank_is r.level))
      (inl (deep r))

  traps_follow : (r : B) → nat_lt (open_now s c) most_calls ≡ true → (bytes : Bytes) → message s ps vs ≡ Some bytes → nat_lt most_bytes (length bytes) ≡ true
      → ActTurns program context nodes (start c.focus c.stack) known w d prints world f k c (Traps (message_cost vs bytes) too_long)
  traps_follow r room bytes e long =
      let size : sizes (shapes_list vs) ≡ sizes r.ws = (messages known (shapes_list vs) r.ws r.arguments).1 in
      let most : most_levels (shapes_list vs) ≡ most_levels r.ws = (messages known (shapes_list vs) r.ws r.arguments).2 in
      act_turns program context nodes held known c w d prints world f k t (Traps (message_cost vs bytes) too_long)
      (acts_behind program context nodes (start c.focus c.stack) held known world c.store c.stack r.weight 0 f k r.f' r.ck' (Traps (message_cost vs bytes) too_long) r.path
      (stops program context nodes (start c.focus c.stack) (0 + r.weight) (2 * (message_cost vs bytes).weight + held) (message_cost vs bytes).levels (core_calls.message_cost r.ws bytes) world r.f' r.ck' (execution.Traps too_long) (with_bytes r bytes true room e long)
      (let z : r.weight + r.less ≤ held = r.paid in omega (arith, z, size)) (omega (arith, most))))
      (inl (deep r))

  sends_follow : (r : B) → nat_lt (open_now s c) most_calls ≡ true → (bytes : Bytes) → message s ps vs ≡ Some bytes → nat_lt most_bytes (length bytes) ≡ false
      → Calls program context nodes s known c w d prints world f k (call_with program context nodes s known c w d prints world f k p name rs bytes)
      (moved (weighing 1) c.store (machine.Give (future program context nodes s known c w d prints world f k)) c.stack (with_call (call_with program context nodes s known c w d prints world f k p name rs bytes) (weighed (call_cost p name vs bytes) c)))
  sends_follow r room bytes e short =
      let size : sizes (shapes_list vs) ≡ sizes r.ws = (messages known (shapes_list vs) r.ws r.arguments).1 in
      let most : most_levels (shapes_list vs) ≡ most_levels r.ws = (messages known (shapes_list vs) r.ws r.arguments).2 in
      let u : Runs program context nodes 1 (r.weight + (core_calls.call_cost p name r.ws bytes).weight + 0) (core_calls.call_cost p name r.ws bytes).levels [] w d prints world f k (with_request world (request_of context world function (record { parameters = ps; results = rs }) bytes)) (Give (core_value.future (worlds.next_call context world))) r.others =
      ways program context nodes true (r.weight + (core_calls.call_cost p name r.ws bytes).weight + 0) (core_calls.call_cost p name r.ws bytes).levels [] world f k (with_request world (request_of context world function (record { parameters = ps; results = rs }) bytes)) (Give (core_value.future (worlds.next_call context world))) r.others
      (Doing r.weight 0 (r.weight + (core_calls.call_cost p name r.ws bytes).weight + 0) (core_calls.call_cost p name r.ws bytes).levels (core_calls.call_cost p name r.ws bytes) [] world f k r.f' r.ck' (with_request world (request_of context world function (record { parameters = ps; results = rs }) bytes))
      (Give (core_value.future (worlds.next_call context world))) r.others (Give (core_value.future (worlds.next_call context world))) r.others r.path (with_bytes r bytes false room e short) (There 0 (Give (core_value.future (worlds.next_call context world))) r.others) (omega arith) (omega arith)) w d prints in
      record {
        steps = u.steps;
        weight' = u.weight';
        depth' = u.depth';
        prints' = u.prints';
        held' = r.less;
        world' = with_request world (request_of context world function (record { parameters = ps; results = rs }) bytes);
        f' = Give (core_value.future (worlds.next_call context world));
        k' = r.others;
        request = request_of context world function (record { parameters = ps; results = rs }) bytes;
        by = u.by;
        some = u.enough;
        same = record { callee = refl; method = refl; argument = refl; results = refl; resumes = refl };
        requests = refl;
        together = record {
          prints_are = u.shown ∙ (ap (λ z. z ++ []) t.prints_are ∙ sym (none_more c.prints));
          light =
              let a : u.weight' ≤ w + (r.weight + (1 + (length p + length name + (sizes r.ws + length bytes))) + 0) = u.heavy in
              let b : r.weight + r.less ≤ held = r.paid in
              let x : w + held ≤ 2 * c.weight + owed c.stack = t.light in
              omega (arith, a, b, x, size);
          shallow =
              let a : u.depth' ≤ max d (max (16 + nodes + depth_of k + 16 * most_levels r.ws) (16 + nodes + depth_of r.others)) = u.within in
              let b : 16 + nodes + depth_of k ≤ live_state c.focus c.stack = deep r in
              let x : d ≤ c.depth = t.shallow in
              let y : live_on c.stack ≡ 16 + nodes + depth_of r.others = as_deep program.groups known context.globals nodes true r.l r.less c.stack r.others r.around in
              omega (arith, a, b, x, y, most);
          within = omega arith;
          deep = let y : live_on c.stack ≡ 16 + nodes + depth_of r.others = as_deep program.groups known context.globals nodes true r.l r.less c.stack r.others r.around in omega (arith, y);
          stands = Here c.store (machine.Give (future program context nodes s known c w d prints world f k)) c.stack (Give (core_value.future (worlds.next_call context world))) r.others (record { cells = belongs.cells; groups = belongs.groups }) (AtValue true r.l (future program context nodes s known c w d prints world f k) (core_value.future (worlds.next_call context world)) c.stack r.others (ap (λ n. Future n) (sym numbers), tt) r.around);
        };
      }

  pub call_follows : CallFollows program context nodes s known c w d prints world f k p name ps rs vs
  call_follows = record { refuses = refuses_follow at_call; traps = traps_follow at_call; calls = sends_follow at_call }

pub calls : (program : Core) (context : Context) (nodes : ℕ) (s : Surroundings) → CallsFollow program context nodes s
calls program context nodes s same held known c w d prints world f k t as_many p name ps rs vs stands =
    let h : WorldBelongs program.groups known context.globals c.store world × StateBelongs program context nodes world known held c.focus c.stack f k =
    here_alone program context nodes world known held c.store c.focus c.stack f k t.stands (subst (λ g. IsOutside g) (sym stands) tt) in
    call_follows program context nodes s same held known c w d prints world f k t (h.0) (h.1) as_many p name ps rs vs stands
