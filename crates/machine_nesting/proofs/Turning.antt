-- Executions keep within what may be open: by steps, and by turns.
use Rattle.std.proofs.Common.{◌≡◌, ◌≤◌, ℕ, zero, suc, ◌+◌, List, [], length, Bool, true, false, Option, Some, None, refl, subst, arith}
use Rattle.std.specs.Prelude.{cond, nat_lt}
use Rattle.mo_types.specs.declared.node.TypeId.{TypeId}
use Rattle.mo_types.specs.Calls.{State, Open, Answered, Lost}
use Rattle.mo_types.specs.Graph.{head_at}
use Rattle.mo_values.specs.Costs.{Cost, weighing}
use Rattle.mo_values.specs.Shapes.{Bytes, Error, Future}
use Rattle.mo_actor.specs.Programs.{Replies, Rejects}
use Rattle.typed_tree.specs.Language as language
use Rattle.mo_meaning.specs.Acts.{Given, Gets, Fails}
use Rattle.mo_meaning.specs.Configurations.{Surroundings}
use Rattle.mo_meaning.specs.Kernel.{Outgoing}
use Rattle.mo_meaning.specs.Turns.{most_calls, most_bytes, refused}
use Rattle.mo_machine.specs.Acts.{Store, Act, Goes, Prints, Asks, Awaits, Leaves, Throws}
use Rattle.mo_machine.specs.Acts as act
use Rattle.mo_machine.specs.Configurations.{Configuration, End, Returns, Responds, Suspends, Sleeps, Traps, Breaks, Run, Still, Ended, weighed, standing, moved, open_now, next_call, state_now, with_call}
use Rattle.mo_machine.specs.Frames.{Stack, Focus}
use Rattle.mo_machine.specs.Measure.{measure}
use Rattle.mo_machine.specs.Messages.{message_cost, unpacked}
use Rattle.mo_machine.specs.Moves.{Move, Moved, Ends, Reduces, move}
use Rattle.mo_machine.specs.Reductions.{reduces}
use Rattle.mo_machine.specs.Turns.{if_short, rejects, call_cost, call_of, message, given_turn, give, if_room, send, resumes, awaits, turn, then_steps, after, step, steps, settle, settled, turns, given_step, turns_given, replies, as_reply}
use Rattle.mo_machine.specs.Values.{Value, Made, NoValue}
use Rattle.machine_nesting.specs.Actors.{GoodGiven}
use Rattle.machine_nesting.specs.Sizes.{GoodEach}
use Rattle.machine_nesting.specs.Stacks.{labels_on, nodes_on, Standing, IsBusy, InBuiltIn, Waits, Light, GoodEnd, LightEnd, LightRun, reached, IsLight}
use Rattle.machine_nesting.proofs.Acting.{MaybeGiven}
use Rattle.machine_nesting.proofs.Counting.{few_labels, quiet_labels}
use Rattle.machine_nesting.proofs.Moving.{Stands, moves_stand}
use Rattle.machine_nesting.proofs.Reducing.{reductions_stand}
use Rattle.machine_nesting.proofs.Standing.{Reduced}

module _ (ending : ℕ) where
  few : (f : Focus) (k : Stack) → Standing ending f k → labels_on k ≤ nodes_on k
  few f k (IsBusy b) = few_labels ending k b.piled
  few f k (InBuiltIn h q) = quiet_labels ending k q

  pub light_now : (c : Configuration) → Light ending c → labels_on c.stack ≤ c.weight
  light_now c h = let x : nodes_on c.stack ≤ c.weight = h.paid in let y : labels_on c.stack ≤ nodes_on c.stack = few c.focus c.stack h.standing in omega (arith, x, y)

  pub run_light : (r : Run) → LightRun ending r → labels_on (reached r).stack ≤ (reached r).weight
  run_light (Still c) h = light_now c h
  run_light (Ended c end) h = h.light

  -- ---- ends

  abbrev Over : Configuration → Type 0
  Over c = LightEnd ending c Breaks

  over : (c : Configuration) → Light ending c → Over c
  over c h = record { store = h.store; light = light_now c h; good = tt }

  ends_as : (c : Configuration) (end : End) → Over c → GoodEnd ending c end → LightEnd ending c end
  ends_as c end h g = record { store = h.store; light = h.light; good = g }

  weigh_over : (cost : Cost) (c : Configuration) → Over c → Over (weighed cost c)
  weigh_over cost c h = record { store = h.store; light = let x : labels_on c.stack ≤ c.weight = h.light in omega (arith, x); good = tt }

  weigh : (cost : Cost) (c : Configuration) → Light ending c → Light ending (weighed cost c)
  weigh cost c h = record { store = h.store; standing = h.standing; paid = let x : nodes_on c.stack ≤ c.weight = h.paid in omega (arith, x) }

  either : (b : Bool) (r q : Run) → LightRun ending r → LightRun ending q → LightRun ending (cond b r q)
  either true r q h i = h
  either false r q h i = i

  short_light : (bytes : Bytes) (c : Configuration) (r : Run) → Over c → LightRun ending r → LightRun ending (if_short bytes c r)
  short_light bytes c r h i = either (nat_lt most_bytes (length bytes)) _ r (ends_as c _ h tt) i

  rejects_light : (c : Configuration) (v : Value) → Over c → LightRun ending (rejects c v)
  rejects_light c (Made (Error k text) NoValue) h =
      let d = weighed (weighing (length text)) c in
      short_light text d _ (weigh_over (weighing (length text)) c h) (ends_as d (Responds (Rejects 4 text)) (weigh_over (weighing (length text)) c h) tt)
  rejects_light c _ h = h

  -- ---- steps

  module _ (small : ending ≤ 1) (s : Surroundings) where
    moved_light : (cost : Cost) (store : Store) (f : Focus) (k : Stack) (c : Configuration) → Light ending c → GoodEach store → Standing ending f k → nodes_on k ≤ cost.weight + nodes_on c.stack → Light ending (moved cost store f k c)
    moved_light cost store f k c h i j le = record { store = i; standing = j; paid = let x : nodes_on c.stack ≤ c.weight = h.paid in omega (arith, x, le) }

    given_light : (c : Configuration) (m : Act) → Light ending c → Reduced ending c.focus c.stack m → LightRun ending (given_turn s c m)
    given_light c (Goes cost store f k) h r = moved_light cost store f k c h r.0 r.1 r.2
    given_light c (Throws cost error) h r = rejects_light (weighed cost c) error (weigh_over cost c (over c h))
    given_light c (act.Traps cost text) h r = ends_as (weighed cost c) (Traps text) (weigh_over cost c (over c h)) tt
    given_light c (Prints cost text f k) h r = over c h
    given_light c (Asks request) h r = over c h
    given_light c (Awaits nodes call) h r = over c h
    given_light c (Leaves labels v) h r = over c h
    given_light c act.Stuck h r = over c h

    reduction : (given : Option Given) → MaybeGiven given → (c : Configuration) → Light ending c → Reduced ending c.focus c.stack (reduces (head_at s.types) given c.store c.focus c.stack)
    reduction given g c h = reductions_stand ending small (head_at s.types) given g c.store h.store c.focus c.stack h.standing

    give_light : (g : Given) → GoodGiven g → (c : Configuration) → Light ending c → LightRun ending (give s g c)
    give_light g i c h = given_light c _ h (reduction (Some g) i c h)

    room_light : (c : Configuration) (r : Run) → Light ending c → LightRun ending r → LightRun ending (if_room s c r)
    room_light c r h i = either (nat_lt (open_now s c) most_calls) r _ i (give_light (Fails refused) tt c h)

    with_light : (call : Outgoing) (c : Configuration) → Light ending c → Light ending (with_call call c)
    with_light call c h = record { store = h.store; standing = h.standing; paid = h.paid }

    sends : (r : act.Request) (o : Option Bytes) (c : Configuration) → Light ending c → LightRun ending (send s r o c)
    sends r None c h = over c h
    sends r (Some bytes) c h =
        let cost = call_cost r.callee r.method r.arguments bytes in
        short_light bytes (weighed (message_cost r.arguments bytes) c) _ (weigh_over (message_cost r.arguments bytes) c (over c h))
        (give_light (Gets (language.Made (Future (next_call s c)) language.NoValue)) tt (with_call (call_of r bytes) (weighed cost c)) (with_light (call_of r bytes) (weighed cost c) (weigh cost c h)))

    resumes_light : (nodes future : ℕ) (o : Option Bytes) (c : Configuration) → Light ending c → Waits ending nodes c.focus c.stack → LightRun ending (resumes s nodes future o c)
    resumes_light nodes future None c h w = over c h
    resumes_light nodes future (Some bytes) c h w =
        let x : labels_on c.stack ≤ c.weight = light_now c h in
        record { store = h.store; light = omega (arith, x); good = w }

    awaits_light : (nodes future : ℕ) (o : Option (State Given)) (c : Configuration) → Light ending c → Waits ending nodes c.focus c.stack → LightRun ending (awaits s nodes future o c)
    awaits_light nodes future None c h w = over c h
    awaits_light nodes future (Some Open) c h w = ends_as (weighed (weighing (1 + nodes)) c) (Suspends future nodes) (weigh_over (weighing (1 + nodes)) c (over c h)) w
    awaits_light nodes future (Some (Answered g)) c h w = room_light c _ h (resumes_light nodes future (message s [] []) c h w)
    awaits_light nodes future (Some Lost) c h w = ends_as (weighed (weighing (1 + nodes)) c) Sleeps (weigh_over (weighing (1 + nodes)) c (over c h)) tt

    turn_light : (c : Configuration) (m : Act) → Light ending c → Reduced ending c.focus c.stack m → LightRun ending (turn s c m)
    turn_light c (Goes cost store f k) h r = moved_light cost store f k c h r.0 r.1 r.2
    turn_light c (Prints cost text f k) h r =
        let d = moved_light cost c.store f k c h h.store r.0 r.1 in
        record { store = d.store; standing = d.standing; paid = d.paid }
    turn_light c (Asks r) h w = room_light c _ h (sends r (message s r.parameters r.arguments) c h)
    turn_light c (Awaits nodes future) h w = awaits_light nodes future (state_now s c future) c h w
    turn_light c (Leaves labels v) h r = over c h
    turn_light c (Throws cost error) h r = rejects_light (weighed cost c) error (weigh_over cost c (over c h))
    turn_light c (act.Traps cost text) h r = ends_as (weighed cost c) (Traps text) (weigh_over cost c (over c h)) tt
    turn_light c act.Stuck h r = over c h

    next : (c : Configuration) → Light ending c → LightRun ending (turn s c (reduces (head_at s.types) None c.store c.focus c.stack))
    next c h = turn_light c _ h (reduction None tt c h)

    stands_light : (f : Focus) (k : Stack) (c : Configuration) → Light ending c → Standing ending f k → nodes_on k ≤ nodes_on c.stack → Light ending (standing f k c)
    stands_light f k c h i le = record { store = h.store; standing = i; paid = let x : nodes_on c.stack ≤ c.weight = h.paid in omega (arith, x, le) }

    after_light : (c : Configuration) (r : Run) (m : Move) → Light ending c → LightRun ending r → Stands ending c.stack m → LightRun ending (after s c r m)
    after_light c r (Moved f k) h i j = stands_light f k c h j.0 j.1
    after_light c r (Ends v) h i j = ends_as c (Returns v) (over c h) j
    after_light c r Reduces h i j = i

    pub step_light : (c : Configuration) → Light ending c → LightRun ending (step s c)
    step_light c h = after_light c _ (move c.focus c.stack) h (next c h) (moves_stand ending c.focus c.stack h.standing)

    then_light : (go : Configuration → Run) → ((c : Configuration) → Light ending c → LightRun ending (go c)) → (r : Run) → LightRun ending r → LightRun ending (then_steps s go r)
    then_light go f (Still c) h = f c h
    then_light go f (Ended c end) h = h

    pub steps_light : (j : ℕ) (c : Configuration) → Light ending c → LightRun ending (steps s j c)
    steps_light zero c h = h
    steps_light (suc j) c h = then_light (steps s j) (steps_light j) (step s c) (step_light c h)

    pub is_light : (c : Configuration) → Light ending c → IsLight (λ j. steps s j c)
    is_light c h j = run_light (steps s j c) (steps_light j c h)

    -- behind the first step
    pub soon_light : (c : Configuration) → labels_on c.stack ≤ c.weight → LightRun ending (step s c) → IsLight (λ j. steps s j c)
    soon_light c le h zero = le
    soon_light c le h (suc j) = run_light (steps s (suc j) c) (then_light (steps s j) (steps_light j) (step s c) h)

    -- ---- turns

    settle_light : (fuel : ℕ) (c : Configuration) (m : Move) → Light ending c → Stands ending c.stack m → Light ending (settle fuel c m)
    settle_light zero c m h i = h
    settle_light (suc fuel) c (Moved f k) h i =
        let d = stands_light f k c h i.0 i.1 in
        settle_light fuel (standing f k c) (move f k) d (moves_stand ending f k i.0)
    settle_light (suc fuel) c (Ends v) h i = h
    settle_light (suc fuel) c Reduces h i = h

    settled_light : (c : Configuration) → Light ending c → Light ending (settled c)
    settled_light c h = settle_light (measure c.focus c.stack) c (move c.focus c.stack) h (moves_stand ending c.focus c.stack h.standing)

    pub turns_light : (n : ℕ) (c : Configuration) → Light ending c → LightRun ending (turns s n c)
    turns_light zero c h = h
    turns_light (suc n) c h = then_light (turns s n) (turns_light n) (step s (settled c)) (step_light (settled c) (settled_light c h))

    -- also where all is well behind the first step
    settle_soon : (fuel : ℕ) (c : Configuration) (m : Move) → move c.focus c.stack ≡ m → LightRun ending (step s c) → LightRun ending (step s (settle fuel c m))
    settle_soon zero c m e h = h
    settle_soon (suc fuel) c (Moved f k) e h =
        let d : Light ending (standing f k c) = subst (λ x. LightRun ending (after s c (turn s c (reduces (head_at s.types) None c.store c.focus c.stack)) x)) e h in
        settle_soon fuel (standing f k c) (move f k) refl (step_light (standing f k c) d)
    settle_soon (suc fuel) c (Ends v) e h = h
    settle_soon (suc fuel) c Reduces e h = h

    pub turns_soon : (n : ℕ) (c : Configuration) → LightRun ending (step s c) → LightRun ending (turns s (suc n) c)
    turns_soon n c h = then_light (turns s n) (turns_light n) (step s (settled c)) (settle_soon (measure c.focus c.stack) c (move c.focus c.stack) refl h)

    given_step_light : (g : Given) → GoodGiven g → (c : Configuration) (m : Move) → Light ending c → LightRun ending (given_step s g c m)
    given_step_light g i c (Moved f k) h = h
    given_step_light g i c (Ends v) h = over c h
    given_step_light g i c Reduces h = give_light g i c h

    pub given_turns_light : (g : Given) → GoodGiven g → (n : ℕ) (c : Configuration) → Light ending c → LightRun ending (turns_given s g n c)
    given_turns_light g i zero c h = h
    given_turns_light g i (suc n) c h = then_light (turns s n) (turns_light n) _ (given_step_light g i (settled c) (move (settled c).focus (settled c).stack) (settled_light c h))

    -- ---- replies

    replies_light : (vs : List Value) (o : Option Bytes) (c : Configuration) → Over c → LightRun ending (replies s vs o c)
    replies_light vs None c h = h
    replies_light vs (Some bytes) c h =
        let d = weighed (message_cost vs bytes) c in
        short_light bytes d _ (weigh_over (message_cost vs bytes) c h) (ends_as d (Responds (Replies bytes)) (weigh_over (message_cost vs bytes) c h) tt)

    pub reply_light : (results : List TypeId) (r : Run) → LightRun ending r → LightRun ending (as_reply s results r)
    reply_light results (Ended c (Returns v)) h = replies_light (unpacked results v) (message s results (unpacked results v)) c (record { store = h.store; light = h.light; good = tt })
    reply_light results (Ended c (Responds answer)) h = h
    reply_light results (Ended c (Suspends call nodes)) h = h
    reply_light results (Ended c Sleeps) h = h
    reply_light results (Ended c (Traps text)) h = h
    reply_light results (Ended c Breaks) h = h
    reply_light results (Still c) h = h
