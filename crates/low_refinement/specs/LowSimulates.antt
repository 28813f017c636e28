-- Where each single execution of a low module comes out as one of a program, from committed states that are related to related
-- ones. Nothing is said of WebAssembly.
use Rattle.std.specs.Prelude.{◌≡◌, ℕ, List, [], ◌++◌, length, map, Option, Some, None, Bool, true, false, nat_eq, find, codes}
use Rattle.mo_types.specs.Calls.{Call, is_open_state, next_number, call_at}
use Rattle.play_script.specs.declared.event.Event.{Event}
use Rattle.play_script.specs.declared.event.Event.TheVariants as event
use Rattle.play_script.specs.declared.item.Word.{Word}
use Rattle.wasm_tree.specs.Exec.{ExecutionLimits, Store}
use Rattle.ic0_world.specs.declared.kind.ExecutionKind.TheVariants as kind
use Rattle.ic0_world.specs.declared.world.Callback.{Callback}
use Rattle.ic0_world.specs.declared.world.World.{World}
use Rattle.canister_host.specs.declared.calls.OpenCall.{OpenCall}
use Rattle.canister_host.specs.Execution.{End, Finishes, Breaks}
use Rattle.canister_host.specs.HostRun.{entry_of, numbered, callback_kind, callback_of, received_world}
use Rattle.mo_actor.specs.Languages.{Language}
use Rattle.mo_actor.specs.Programs.{Effects, Program}
use Rattle.mo_actor.specs.Measures.{Measure}
use Rattle.mo_actor.specs.Results.{Result, HasResult}
use Rattle.mo_actor.specs.States.{Actor, activation_at, is_answered}
use Rattle.mo_actor.specs.Completions.{committed}
use Rattle.mo_actor.specs.IncomingCalls.{arrived, entered}
use Rattle.mo_actor.specs.CallAnswers.{Received, received_value, filled, broken, answering}
use Rattle.mo_actor.specs.Upgrades.{saving}
use Rattle.mo_actor.specs.Passes.{answer_event, CommittedState, committed_state, fresh_state}
use Rattle.actor_refinement.specs.Ends.{EndsAlike}
use Rattle.actor_refinement.specs.Agreement.{owner_of, open_owners}
use Rattle.actor_refinement.specs.Refines.{Keeps}
use Rattle.actor_refinement.specs.Simulates.{host_received, others_open, SameMethod, SameCalls, SameAnswer, QueriesAlike}
use Rattle.low_ir.specs.Tree.{Module}
use Rattle.low_execution.specs.Execution.{low_execution}
use Rattle.low_execution.specs.Entries.{low_exported}
use Rattle.low_refinement.specs.LowEnds.{Contents, contents_left, low_start_end, low_world, low_callback_end, low_save_end}

module _ {L : Language} (Related : (charged : ℕ) → CommittedState L → Contents → List OpenCall → Type 0) (limits : ExecutionLimits) (own : List ℕ) (m : Module) where
  pub record LowStatesRelate (a : Actor L) (c : Contents) (waiting : List OpenCall) : Type 0 where
    pub calls : map owner_of waiting ≡ open_owners a.table.first a.table.calls
    pub related : Related a.charged (committed_state a) c waiting

  -- What is taken over: the calls and the answer are the same, and the states are related again.
  pub record LowCommitsAlike (a : Actor L) (owner : ℕ) (waiting : List OpenCall) (weight : ℕ) (effects : Effects L) (store : Store World) : Type 0 where
    pub calls : SameCalls effects.calls store.world.performed
    pub answer : SameAnswer effects.ending store.world.answer
    pub related : Related (committed owner weight effects a).charged (committed_state (committed owner weight effects a)) (contents_left store) (waiting ++ numbered owner (next_number a.table) store.world.performed)

  -- How the callback of an answer ends.
  abbrev pub low_answer_end : Actor L → Contents → List OpenCall → (number : ℕ) → Call L.results L.value → OpenCall → Received → (caller : List ℕ) → End
  low_answer_end a c waiting number call o received caller =
      low_callback_end limits m c.instance (callback_kind (host_received received)) (callback_of (host_received received) o.call)
      (received_world (host_received received) (low_world limits own c.stable caller [] (is_answered (activation_at a.activations call.owner)) (length (others_open number waiting))))

  -- The cleanup behind a callback that trapped comes to an end, prints nothing, and leaves what the trap leaves.
  pub record LowCleansUp (a : Actor L) (c : Contents) (waiting : List OpenCall) (number : ℕ) (call : Call L.results L.value) (o : OpenCall) (caller : List ℕ) : Type 0 where
    pub callback : Callback
    pub set : o.call.on_cleanup ≡ Some callback
    pub store : Store World
    pub ends : low_callback_end limits m c.instance kind.Cleanup callback
        (low_world limits own c.stable caller [] (is_answered (activation_at a.activations call.owner)) (length (others_open number waiting))) ≡ Finishes store
    pub quiet : store.world.prints ≡ []
    pub related : Related (broken number call.owner a).charged (committed_state (broken number call.owner a)) (contents_left store) (others_open number waiting)

  -- Each execution of the module comes out as one of the program.
  pub record LowSimulates (Stable : L.kept → List ℕ → Type 0) (Given : Event → Type 0) (pays : Measure) (p : Program L) : Type 0 where
    pub installs : (r : Result L.store) × HasResult pays p.first_memory 0 (p.start own None) r
        × EndsAlike (λ weight store left. (made : ℕ) → Related weight (fresh_state store made) (contents_left left) []) r (low_start_end limits own m kind.Init (codes "canister_init") [])
    pub upgrades : (number : ℕ) → Given (event.Upgrade number) → (kept : Option L.kept) (stable : List ℕ) → Keeps Stable kept stable
        → (r : Result L.store) × HasResult pays p.first_memory 0 (p.start own kept) r
        × EndsAlike (λ weight store left. (made : ℕ) → Related weight (fresh_state store made) (contents_left left) []) r (low_start_end limits own m kind.PostUpgrade (codes "canister_post_upgrade") stable)
    pub updates : (a : Actor L) (c : Contents) (waiting : List OpenCall) → LowStatesRelate a c waiting → (name : List ℕ)
        → SameMethod (λ method function. (caller argument : List ℕ) → Given (event.Call false name caller argument)
        → (r : Result (Effects L)) × HasResult pays p.first_memory a.charged (entered p own a method caller argument) r
        × EndsAlike (LowCommitsAlike (arrived a) (length a.activations) waiting) r
        (low_execution limits m c.instance (entry_of kind.Update (Some function) []) (low_world limits own c.stable caller argument false (length waiting))))
        (p.update name) (low_exported m (codes "canister_update " ++ name))
    pub queries : (a : Actor L) (c : Contents) (waiting : List OpenCall) → LowStatesRelate a c waiting → (name : List ℕ)
        → SameMethod (λ method function. (query : Bool) (caller argument : List ℕ) → Given (event.Call query name caller argument)
        → (r : Result (Effects L)) × HasResult pays p.first_memory a.charged (entered p own a method caller argument) r
        × EndsAlike QueriesAlike r
        (low_execution limits m c.instance (entry_of kind.Query (Some function) []) (low_world limits own c.stable caller argument false (length waiting))))
        (p.query name) (low_exported m (codes "canister_query " ++ name))
    pub answers : (a : Actor L) (c : Contents) (waiting : List OpenCall) → LowStatesRelate a c waiting → (number : ℕ) (call : Call L.results L.value)
        → call_at a.table number ≡ Some call → is_open_state call.state ≡ true → (o : OpenCall) → find (λ w. nat_eq w.number number) waiting ≡ Some o
        → (received : Received) → Given (answer_event number received) → (caller : List ℕ)
        → (r : Result (Effects L)) × HasResult pays p.first_memory a.charged (answering p own a number call received) r
        × EndsAlike (LowCommitsAlike (filled number (received_value p own a call received) a) call.owner (others_open number waiting)) r (low_answer_end a c waiting number call o received caller)
        × ((cause : Word) (prints : List (List ℕ)) → low_answer_end a c waiting number call o received caller ≡ Breaks cause prints → LowCleansUp a c waiting number call o caller)
    pub saves : (number : ℕ) → Given (event.Upgrade number) → (a : Actor L) (c : Contents) (waiting : List OpenCall) → LowStatesRelate a c waiting
        → (r : Result L.kept) × HasResult pays p.first_memory a.charged (saving p own a) r
        × EndsAlike (λ weight kept store. Stable kept store.world.stable.bytes) r (low_save_end limits own m c)
