-- Executions keep within the limits of calls and messages.
use Rattle.std.proofs.Common.{◌≡◌, ℕ, zero, suc, ◌+◌, ◌<◌, ◌≤◌, List, [], ◌∷◌, ◌++◌, length, Bool, true, false, cond, nat_lt, Option, Some, None, refl, ap, subst, arith, ltb-false, ltb-true, le-ltb, lt-ltb}
use Rattle.mo_types.specs.declared.node.TypeId.{TypeId}
use Rattle.mo_types.specs.Calls.{State, Open, Answered, Lost, open_count}
use Rattle.mo_types.specs.Graph.{head_at}
use Rattle.mo_types.specs.Sub.{Each}
use Rattle.mo_values.specs.Costs.{weighing}
use Rattle.mo_values.specs.Shapes.{Bytes, Error, Future}
use Rattle.mo_actor.specs.Executions.{Completion, Completes}
use Rattle.mo_actor.specs.Laws.{KeepsRoom}
use Rattle.mo_actor.specs.Programs.{Effects}
use Rattle.typed_tree.specs.Language.{Value, Exp, Made, NoValue, Val}
use Rattle.typed_tree.specs.Programs.{Program}
use Rattle.mo_meaning.specs.Acts.{Request, Given, Gets, Fails, Act, Goes, Prints, Asks, Awaits, Leaves, Throws}
use Rattle.mo_meaning.specs.Acts as act
use Rattle.mo_meaning.specs.Actor.{meaning, surroundings}
use Rattle.mo_meaning.specs.Bodies.{effects, shared_progress, body_run, results_of}
use Rattle.mo_meaning.specs.Bounds.{LongMessagesTrap, IsShort, IsShortCall, IsShortAnswer, KeepsBounds, AllKeepBounds}
use Rattle.mo_meaning.specs.Coding.{Types, Coding}
use Rattle.mo_meaning.specs.Configurations.{Configuration, Returns, Responds, Suspends, Sleeps, Traps, Breaks, Run, Still, Ended, Surroundings, weighed, open_now, next_call, state_now, with_call}
use Rattle.mo_meaning.specs.Kernel.{kernel, Outgoing, Fields, Body, Enters, Resumes}
use Rattle.mo_meaning.specs.Messages.{message_cost, unpacked}
use Rattle.mo_meaning.specs.Places.{value_or}
use Rattle.mo_meaning.specs.Reduce.{reduce}
use Rattle.mo_meaning.specs.Turns.{most_calls, most_bytes, too_long, refused, if_short, rejects, call_cost, call_of, resume_name, resume_call, message, given_turn, give, if_room, send, resumes, awaits, turn, turns, turns_given, then_turns, replies, as_reply}

each_added : (calls : List Outgoing) (call : Outgoing) → Each IsShortCall calls → IsShortCall call → Each IsShortCall (calls ++ call ∷ [])
each_added [] call h k = (k, tt)
each_added (c ∷ calls) call h k = (h.0, each_added calls call h.1 k)

length_added : (calls : List Outgoing) (call : Outgoing) → length (calls ++ call ∷ []) ≡ suc (length calls)
length_added [] call = refl
length_added (c ∷ calls) call = ap suc (length_added calls call)

abbrev IsSomething : Option ℕ → Type 0
IsSomething None = ⊥
IsSomething (Some n) = Unit {0}

some_none : (n : ℕ) {A : Type 0} → Some n ≡ None → A
some_none n e = absurd (subst IsSomething e tt)

module _ (s : Surroundings) where
  abbrev Fits : Configuration → Type 0
  Fits c = (open_now s c ≤ most_calls) × Each IsShortCall c.calls

  abbrev RunFits : Run → Type 0
  RunFits (Still c) = Fits c
  RunFits (Ended c (Responds answer)) = Fits c × IsShortAnswer answer
  RunFits (Ended c (Returns v)) = Fits c
  RunFits (Ended c (Suspends call nodes)) = Fits c
  RunFits (Ended c Sleeps) = Fits c
  RunFits (Ended c (Traps text)) = Fits c
  RunFits (Ended c Breaks) = Fits c

  added : (c : Configuration) (call : Outgoing) → open_now s c < most_calls → Fits c → IsShortCall call → Fits (with_call call c)
  added c call room h k = (omega (arith, room, length_added c.calls call), each_added c.calls call h.1 k)

  short_or : (bytes : Bytes) (c : Configuration) (r : Run) → Fits c → (IsShort bytes → RunFits r) → RunFits (if_short bytes c r)
  short_or bytes c r h k = by (nat_lt most_bytes (length bytes)) refl
    where
      by : (b : Bool) → nat_lt most_bytes (length bytes) ≡ b → RunFits (cond b (Ended c (Traps too_long)) r)
      by true e = h
      by false e = k (ltb-false most_bytes (length bytes) e)

  -- ---- one turn

  rejects_fit : (c : Configuration) (v : Value) → Fits c → RunFits (rejects c v)
  rejects_fit c (Made (Error k text) NoValue) h = short_or text _ _ h (λ short. (h, short))
  rejects_fit c v h = h

  given_fits : (c : Configuration) (a : Act) → Fits c → RunFits (given_turn s c a)
  given_fits c (Goes cost store e) h = h
  given_fits c (Throws cost error) h = rejects_fit (weighed cost c) error h
  given_fits c (act.Traps cost text) h = h
  given_fits c (Prints cost text e) h = h
  given_fits c (Asks request) h = h
  given_fits c (Awaits nodes call) h = h
  given_fits c (Leaves labels v) h = h
  given_fits c act.Stuck h = h

  give_fits : (g : Given) (c : Configuration) → Fits c → RunFits (give s g c)
  give_fits g c h = given_fits c (reduce (head_at s.types) (Some g) c.store c.at) h

  room_or : (c : Configuration) (r : Run) → Fits c → (open_now s c < most_calls → RunFits r) → RunFits (if_room s c r)
  room_or c r h k = by (nat_lt (open_now s c) most_calls) refl
    where
      by : (b : Bool) → nat_lt (open_now s c) most_calls ≡ b → RunFits (cond b r (give s (Fails refused) c))
      by true e = k (ltb-true (open_now s c) most_calls e)
      by false e = give_fits (Fails refused) c h

  send_fits : (r : Request) (m : Option Bytes) (c : Configuration) → open_now s c < most_calls → Fits c → RunFits (send s r m c)
  send_fits r None c room h = h
  send_fits r (Some bytes) c room h = short_or bytes (weighed (message_cost r.arguments bytes) c) _ h
      (λ short. give_fits (Gets (Made (Future (next_call s c)) NoValue)) (with_call (call_of r bytes) (weighed (call_cost r.callee r.method r.arguments bytes) c))
      (added (weighed (call_cost r.callee r.method r.arguments bytes) c) (call_of r bytes) room h (λ e. short)))

  resumes_fit : (nodes future : ℕ) (m : Option Bytes) (c : Configuration) → open_now s c < most_calls → Fits c → RunFits (resumes s nodes future m c)
  resumes_fit nodes future None c room h = h
  resumes_fit nodes future (Some bytes) c room h =
      added (weighed (weighing (1 + nodes + (call_cost s.own resume_name [] bytes).weight)) c) (resume_call s future bytes) room h (λ e. some_none future e)

  awaits_fit : (nodes future : ℕ) (state : Option (State Given)) (c : Configuration) → Fits c → RunFits (awaits s nodes future state c)
  awaits_fit nodes future None c h = h
  awaits_fit nodes future (Some Open) c h = h
  awaits_fit nodes future (Some (Answered g)) c h = room_or c _ h (λ room. resumes_fit nodes future (message s [] []) c room h)
  awaits_fit nodes future (Some Lost) c h = h

  turn_fits : (c : Configuration) (a : Act) → Fits c → RunFits (turn s c a)
  turn_fits c (Goes cost store e) h = h
  turn_fits c (Prints cost text e) h = h
  turn_fits c (Asks r) h = room_or c _ h (λ room. send_fits r (message s r.parameters r.arguments) c room h)
  turn_fits c (Awaits nodes future) h = awaits_fit nodes future (state_now s c future) c h
  turn_fits c (Leaves labels v) h = h
  turn_fits c (Throws cost error) h = rejects_fit (weighed cost c) error h
  turn_fits c (act.Traps cost text) h = h
  turn_fits c act.Stuck h = h

  -- ---- turns

  by_value : (e : Exp) (on : Value → Run) (otherwise : Run) → ((v : Value) → RunFits (on v)) → RunFits otherwise → RunFits (value_or e on otherwise)
  by_value (Val v) on otherwise p q = p v
  by_value e on otherwise p q = q

  then_fits : (n : ℕ) → ((c : Configuration) → Fits c → RunFits (turns s n c)) → (r : Run) → RunFits r → RunFits (then_turns s (turns s n) r)
  then_fits n ih (Still c) h = ih c h
  then_fits n ih (Ended c end) h = h

  turns_fit : (n : ℕ) (c : Configuration) → Fits c → RunFits (turns s n c)
  turns_fit zero c h = h
  turns_fit (suc n) c h =
      then_fits n (turns_fit n) (value_or c.at (λ v. Ended c (Returns v)) (turn s c (reduce (head_at s.types) None c.store c.at)))
      (by_value c.at (λ v. Ended c (Returns v)) _ (λ v. h) (turn_fits c (reduce (head_at s.types) None c.store c.at) h))

  given_turns_fit : (g : Given) (n : ℕ) (c : Configuration) → Fits c → RunFits (turns_given s g n c)
  given_turns_fit g zero c h = h
  given_turns_fit g (suc n) c h = then_fits n (turns_fit n) (give s g c) (give_fits g c h)

  replies_fit : (vs : List Value) (m : Option Bytes) (c : Configuration) → Fits c → RunFits (replies s vs m c)
  replies_fit vs None c h = h
  replies_fit vs (Some bytes) c h = short_or bytes _ _ h (λ short. (h, short))

  reply_fits : (results : List TypeId) (r : Run) → RunFits r → RunFits (as_reply s results r)
  reply_fits results (Still c) h = h
  reply_fits results (Ended c (Returns v)) h = replies_fit (unpacked results v) (message s results (unpacked results v)) c h
  reply_fits results (Ended c (Responds answer)) h = h
  reply_fits results (Ended c (Suspends call nodes)) h = h
  reply_fits results (Ended c Sleeps) h = h
  reply_fits results (Ended c (Traps text)) h = h
  reply_fits results (Ended c Breaks) h = h

  body_fits : (fields : Fields) (body : Body) (n : ℕ) → open_count s.table ≤ most_calls → RunFits (body_run s fields body n)
  body_fits fields (Enters entry caller vs) n few = reply_fits entry.results _ (turns_fit n _ (omega (arith, few), tt))
  body_fits fields (Resumes w g) n few = reply_fits w.results _ (given_turns_fit g n _ (omega (arith, few), tt))

  -- ---- what is left

  abbrev left_or : Option (Completion (Effects kernel)) → Effects kernel → Effects kernel
  left_or (Some (Completes e)) other = e
  left_or _ other = other

  found : (e other : Effects kernel) → KeepsBounds s.table e → Some (Completes e) ≡ Some (Completes other) → KeepsBounds s.table other
  found e other k h = subst (KeepsBounds s.table) (ap (λ o. left_or o other) h) k

  kept : (fields : Fields) (results : List TypeId) (r : Run) (other : Effects kernel) → RunFits r → (shared_progress fields results r).completion ≡ Some (Completes other) → KeepsBounds s.table other
  kept fields results (Still c) other h e = absurd cc
  kept fields results (Ended c (Returns v)) other h e = absurd cc
  kept fields results (Ended c (Responds answer)) other h e = found _ other (record { few = h.0.0; calls = h.0.1; ending = h.1 }) e
  kept fields results (Ended c (Suspends call nodes)) other h e = found _ other (record { few = h.0; calls = h.1; ending = tt }) e
  kept fields results (Ended c Sleeps) other h e = found _ other (record { few = h.0; calls = h.1; ending = tt }) e
  kept fields results (Ended c (Traps text)) other h e = absurd cc
  kept fields results (Ended c Breaks) other h e = absurd cc

pub all_keep_bounds : (coding : Coding) (first : ℕ) (types : Types) (p : Program) → AllKeepBounds (meaning coding first types p)
all_keep_bounds coding first types p own table fields body n effects few e =
    kept (surroundings coding types own table) fields (results_of body) (body_run (surroundings coding types own table) fields body n) effects
    (body_fits (surroundings coding types own table) fields body n few) e

pub all_keep_room : (coding : Coding) (first : ℕ) (types : Types) (p : Program) → KeepsRoom (meaning coding first types p)
all_keep_room coding first types p own table fields body n effects few e = (all_keep_bounds coding first types p own table fields body n effects few e).few

pub long_messages_trap : LongMessagesTrap
long_messages_trap bytes c r = (
  λ h. ap (λ b. cond b (Ended c (Traps too_long)) r) (le-ltb most_bytes (length bytes) h),
  λ h. ap (λ b. cond b (Ended c (Traps too_long)) r) (lt-ltb most_bytes (length bytes) h),
)
