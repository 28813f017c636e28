-- Where each single execution of a module comes out as one of a program, from committed states that are related to related
-- ones, with the weight that was charged, which bounds what a heap may hold. Numbers of incoming calls, who was answered, starved calls, ignored answers, the order of items and upgrades that
-- fail are not spoken of here: all that follows.
use Rattle.std.specs.Prelude.{◌≡◌, ⊤, ℕ, List, [], ◌∷◌, ◌++◌, length, map, Option, Some, None, Bool, true, false, not, nat_eq, find}
use Rattle.std.specs.List.{filter}
use Rattle.mo_types.specs.Calls.{Call, is_open_state, next_number, call_at}
use Rattle.play_script.specs.declared.event.Event.{Event}
use Rattle.play_script.specs.declared.event.Event.TheVariants as event
use Rattle.play_script.specs.declared.item.Word.{Word}
use Rattle.wasm_tree.specs.declared.module_parts.Module.{Module}
use Rattle.wasm_tree.specs.Exec.{ExecutionLimits, Store}
use Rattle.ic0_world.specs.declared.kind.ExecutionKind.TheVariants as kind
use Rattle.ic0_world.specs.declared.world.Callback.{Callback}
use Rattle.ic0_world.specs.declared.world.OutgoingCall.{OutgoingCall as PerformedCall}
use Rattle.ic0_world.specs.declared.world.Answer.{Answer as HostAnswer}
use Rattle.ic0_world.specs.declared.world.Answer.TheVariants as host_answer
use Rattle.ic0_world.specs.declared.world.World.{World}
use Rattle.canister_host.specs.State.{Canister}
use Rattle.canister_host.specs.declared.calls.OpenCall.{OpenCall}
use Rattle.canister_host.specs.Entries.{update_entry, query_entry}
use Rattle.canister_host.specs.Execution.{End, Finishes, Breaks, execution, left_by}
use Rattle.canister_host.specs.HostRun.{quiet_world, entry_of, numbered, callback_end, callback_kind, callback_of, received_world}
use Rattle.canister_host.specs.HostRun.{Received as HostReceived, Reply as HostReply, Reject as HostReject}
use Rattle.mo_actor.specs.Languages.{Language}
use Rattle.mo_actor.specs.Programs.{Replies, Rejects, OutgoingCall, Ending, Answers, Awaits, AwaitsNothing, Unchanged, Effects, Program}
use Rattle.mo_actor.specs.Measures.{Measure}
use Rattle.mo_actor.specs.Results.{Result, HasResult}
use Rattle.mo_actor.specs.States.{Actor, activation_at, is_answered}
use Rattle.mo_actor.specs.Completions.{committed}
use Rattle.mo_actor.specs.IncomingCalls.{arrived, entered}
use Rattle.mo_actor.specs.CallAnswers.{Received, Reply, Reject, received_value, filled, broken, answering}
use Rattle.mo_actor.specs.Upgrades.{saving}
use Rattle.mo_actor.specs.Passes.{answer_event, CommittedState, committed_state, fresh_state}
use Rattle.actor_refinement.specs.Ends.{EndsAlike, install_end, upgrade_end, save_end}
use Rattle.actor_refinement.specs.Agreement.{owner_of, open_owners}
use Rattle.actor_refinement.specs.Refines.{Keeps}

-- The world of an execution for an incoming call.
abbrev pub world_of : ExecutionLimits → (own : List ℕ) → Canister → (caller argument : List ℕ) → (answered : Bool) → (open_before : ℕ) → World
world_of limits own c caller argument answered open_before =
    record (quiet_world limits own c.stable) { caller = caller; argument = argument; answered = answered; open_before = open_before }

abbrev pub host_received : Received → HostReceived
host_received (Reply bytes) = HostReply bytes
host_received (Reject code text) = HostReject code text

-- The open calls but the one that is answered.
abbrev pub others_open : (number : ℕ) → List OpenCall → List OpenCall
others_open number waiting = filter (λ other. not (nat_eq other.number number)) waiting

-- Both have the method, or neither.
abbrev pub SameMethod : {A : Type 0} → (A → ℕ → Type 0) → Option A → Option ℕ → Type 0
SameMethod Does None None = ⊤
SameMethod Does (Some method) (Some function) = Does method function
SameMethod Does _ _ = ⊥

module _ {L : Language} where
  abbrev pub SameCalls : List (OutgoingCall L) → List PerformedCall → Type 0
  SameCalls [] [] = ⊤
  SameCalls (c ∷ calls) (d ∷ performed) = (c.callee ≡ d.callee) × (c.method ≡ d.method) × (c.argument ≡ d.argument) × SameCalls calls performed
  SameCalls _ _ = ⊥

  abbrev pub SameAnswer : Ending L → Option HostAnswer → Type 0
  SameAnswer (Answers (Replies bytes)) answer = answer ≡ Some (host_answer.Replied bytes)
  SameAnswer (Answers (Rejects code text)) answer = answer ≡ Some (host_answer.Rejected code text)
  SameAnswer (Awaits number waiting) answer = answer ≡ None
  SameAnswer AwaitsNothing answer = answer ≡ None
  SameAnswer Unchanged answer = answer ≡ None

  -- Of a query nothing is taken over: it makes no calls, and the answer is the same.
  pub record QueriesAlike (weight : ℕ) (effects : Effects L) (store : Store World) : Type 0 where
    pub none : store.world.performed ≡ []
    pub answer : SameAnswer effects.ending store.world.answer

  -- How the callback of an answer ends.
  abbrev pub answer_end : ExecutionLimits → (own : List ℕ) → Actor L → Canister → List OpenCall → (number : ℕ) → Call L.results L.value → OpenCall → Received → (caller : List ℕ) → End
  answer_end limits own a c waiting number call o received caller =
      callback_end limits c (callback_kind (host_received received)) (callback_of (host_received received) o.call)
      (received_world (host_received received) (world_of limits own c caller [] (is_answered (activation_at a.activations call.owner)) (length (others_open number waiting))))

  -- Related ties what was charged to an actor and its committed state to a canister and its open calls.
  module _ (Related : (charged : ℕ) → CommittedState L → Canister → List OpenCall → Type 0) where
    pub record StatesRelate (a : Actor L) (c : Canister) (waiting : List OpenCall) : Type 0 where
      pub calls : map owner_of waiting ≡ open_owners a.table.first a.table.calls
      pub related : Related a.charged (committed_state a) c waiting

    -- What is taken over: the calls and the answer are the same, and the states are related again.
    pub record CommitsAlike (a : Actor L) (owner : ℕ) (c : Canister) (waiting : List OpenCall) (weight : ℕ) (effects : Effects L) (store : Store World) : Type 0 where
      pub calls : SameCalls effects.calls store.world.performed
      pub answer : SameAnswer effects.ending store.world.answer
      pub related : Related (committed owner weight effects a).charged (committed_state (committed owner weight effects a)) (left_by c.code store) (waiting ++ numbered owner (next_number a.table) store.world.performed)

    -- The cleanup behind a callback that trapped comes to an end, prints nothing, and leaves what the trap leaves.
    pub record CleansUp (limits : ExecutionLimits) (own : List ℕ) (a : Actor L) (c : Canister) (waiting : List OpenCall) (number : ℕ) (call : Call L.results L.value) (o : OpenCall) (caller : List ℕ) : Type 0 where
      pub callback : Callback
      pub set : o.call.on_cleanup ≡ Some callback
      pub store : Store World
      pub ends : callback_end limits c kind.Cleanup callback
          (world_of limits own c caller [] (is_answered (activation_at a.activations call.owner)) (length (others_open number waiting))) ≡ Finishes store
      pub quiet : store.world.prints ≡ []
      pub related : Related (broken number call.owner a).charged (committed_state (broken number call.owner a)) (left_by c.code store) (others_open number waiting)

    -- Each execution of the module comes out as one of the program.
    pub record Simulates (Stable : L.kept → List ℕ → Type 0) (Given : Event → Type 0) (pays : Measure) (limits : ExecutionLimits) (own : List ℕ) (p : Program L) (m : Module) : Type 0 where
      pub installs : (r : Result L.store) × HasResult pays p.first_memory 0 (p.start own None) r
          × EndsAlike (λ weight store left. (made : ℕ) → Related weight (fresh_state store made) (left_by m left) []) r (install_end limits own m)
      pub upgrades : (number : ℕ) → Given (event.Upgrade number) → (kept : Option L.kept) (stable : List ℕ) → Keeps Stable kept stable
          → (r : Result L.store) × HasResult pays p.first_memory 0 (p.start own kept) r
          × EndsAlike (λ weight store left. (made : ℕ) → Related weight (fresh_state store made) (left_by m left) []) r (upgrade_end limits own m stable)
      pub updates : (a : Actor L) (c : Canister) (waiting : List OpenCall) → StatesRelate a c waiting → (name : List ℕ)
          → SameMethod (λ method function. (caller argument : List ℕ) → Given (event.Call false name caller argument)
          → (r : Result (Effects L)) × HasResult pays p.first_memory a.charged (entered p own a method caller argument) r
          × EndsAlike (CommitsAlike (arrived a) (length a.activations) c waiting) r
          (execution limits c.code c.instance (entry_of kind.Update (Some function) []) (world_of limits own c caller argument false (length waiting))))
          (p.update name) (update_entry c.code name)
      pub queries : (a : Actor L) (c : Canister) (waiting : List OpenCall) → StatesRelate a c waiting → (name : List ℕ)
          → SameMethod (λ method function. (query : Bool) (caller argument : List ℕ) → Given (event.Call query name caller argument)
          → (r : Result (Effects L)) × HasResult pays p.first_memory a.charged (entered p own a method caller argument) r
          × EndsAlike QueriesAlike r
          (execution limits c.code c.instance (entry_of kind.Query (Some function) []) (world_of limits own c caller argument false (length waiting))))
          (p.query name) (query_entry c.code name)
      pub answers : (a : Actor L) (c : Canister) (waiting : List OpenCall) → StatesRelate a c waiting → (number : ℕ) (call : Call L.results L.value)
          → call_at a.table number ≡ Some call → is_open_state call.state ≡ true → (o : OpenCall) → find (λ w. nat_eq w.number number) waiting ≡ Some o
          → (received : Received) → Given (answer_event number received) → (caller : List ℕ)
          → (r : Result (Effects L)) × HasResult pays p.first_memory a.charged (answering p own a number call received) r
          × EndsAlike (CommitsAlike (filled number (received_value p own a call received) a) call.owner c (others_open number waiting)) r (answer_end limits own a c waiting number call o received caller)
          × ((cause : Word) (prints : List (List ℕ)) → answer_end limits own a c waiting number call o received caller ≡ Breaks cause prints → CleansUp limits own a c waiting number call o caller)
      pub saves : (number : ℕ) → Given (event.Upgrade number) → (a : Actor L) (c : Canister) (waiting : List OpenCall) → StatesRelate a c waiting
          → (r : Result L.kept) × HasResult pays p.first_memory a.charged (saving p own a) r
          × EndsAlike (λ weight kept store. Stable kept store.world.stable.bytes) r (save_end limits own c)
