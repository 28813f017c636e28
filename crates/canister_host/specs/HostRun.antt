-- The items of a canister over a list of events: IC interface specification, sections Canister installation and upgrade,
-- Call initiation, Callback invocation, Query call and Canister state rollback.
use Rattle.std.specs.Prelude.{ℕ, ◌+◌, List, [], ◌∷◌, ◌++◌, length, map, Option, Some, None, Bool, true, false, not, ◌&&◌, cond, find, nat_eq, slice_get, slice_set, codes}
use Rattle.std.specs.List.{filter, list_any}
use Rattle.play_script.specs.declared.event.Event.{Event}
use Rattle.play_script.specs.declared.event.Event.TheVariants as event
use Rattle.play_script.specs.declared.item.Item.{Item}
use Rattle.play_script.specs.declared.item.Item.TheVariants as item
use Rattle.play_script.specs.declared.item.Word.{Word}
use Rattle.play_script.specs.declared.item.Word.TheVariants as word
use Rattle.wasm_tree.specs.declared.module_parts.Module.{Module}
use Rattle.wasm_tree.specs.Exec.{ExecutionLimits, Store}
use Rattle.wasm_tree.specs.Load.{Instance, Load, Loaded, AboveLimit, OutOfBounds, load}
use Rattle.ic0_world.specs.declared.kind.ExecutionKind.{ExecutionKind}
use Rattle.ic0_world.specs.declared.kind.ExecutionKind.TheVariants as kind
use Rattle.ic0_world.specs.declared.world.Callback.{Callback}
use Rattle.ic0_world.specs.declared.world.OutgoingCall.{OutgoingCall}
use Rattle.ic0_world.specs.declared.world.Answer.{Answer}
use Rattle.ic0_world.specs.declared.world.Answer.TheVariants.{Replied, Rejected}
use Rattle.ic0_world.specs.declared.world.World.{World}
use Rattle.canister_host.specs.State.{Canister, IncomingCall, OpenCall, HostState, first_state}
use Rattle.canister_host.specs.Entries.{exported, update_entry, query_entry, callback_entry}
use Rattle.canister_host.specs.Execution.{Entry, End, Finishes, Breaks, execution, left_by}

-- An event's items and what the host keeps after it.
pub record Outcome : Type 0 where
  pub items : List Item
  pub next : HostState

abbrev pub outcome : List Item → HostState → Outcome
outcome items next = record { items = items; next = next }

-- The world of an execution that nobody called: the caller, the argument and the reject are empty.
abbrev pub quiet_world : ExecutionLimits → List ℕ → List ℕ → World
quiet_world limits own stable =
    record { kind = kind.Start; own = own; caller = []; argument = []; reject_code = 0; reject_text = []; answered = false; open_before = 0; reply_data = []; answer = None; prepared = None; performed = []; prints = []; stable = record { limit = limits.pages; bytes = stable }; stable_refused = false; trap_text = [] }

-- Prints come first.
abbrev pub printed : List (List ℕ) → List Item
printed prints = map item.Print prints

abbrev pub entry_of : ExecutionKind → Option ℕ → List ℕ → List Entry
entry_of k None operands = []
entry_of k (Some f) operands = record { kind = k; function = f; operands = operands } ∷ []

-- Installation and upgrade.

-- The start function of a module, and then what it exports under the name.
abbrev pub starting : Module → ExecutionKind → List ℕ → List Entry
starting m k name = entry_of kind.Start m.start [] ++ entry_of k (exported m name) []

abbrev pub with_canister : HostState → Canister → HostState
with_canister s c = record s { canister = Some c }

-- Begins a module on a stable memory, after these prints. A trap leaves the host as it was.
abbrev pub begin : ExecutionLimits → List ℕ → Module → ExecutionKind → List ℕ → Item → List ℕ → List Item → HostState → Outcome
begin limits own m k name last stable before s = loaded (load limits m)
  where
    ended : End → Outcome
    ended (Finishes store) = outcome (before ++ printed store.world.prints ++ last ∷ []) (with_canister s (left_by m store))
    ended (Breaks cause prints) = outcome (before ++ printed prints ++ item.Trapped cause ∷ []) s

    loaded : Load → Outcome
    loaded AboveLimit = outcome (before ++ item.Trapped word.Heap ∷ []) s
    loaded OutOfBounds = outcome (before ++ item.Trapped word.Bounds ∷ []) s
    loaded (Loaded i) = ended (execution limits m i (starting m k name) (quiet_world limits own stable))

abbrev pub install : ExecutionLimits → List ℕ → Option Module → HostState → Outcome
install limits own None s = outcome (item.Ignored ∷ []) s
install limits own (Some m) s = begin limits own m kind.Init (codes "canister_init") item.Installed [] [] s

-- The old module's preparation, and then the new module on the stable memory that it leaves.
abbrev pub upgrade : ExecutionLimits → List ℕ → Option Module → Option Canister → HostState → Outcome
upgrade limits own m None s = outcome (item.Ignored ∷ []) s
upgrade limits own None (Some c) s = outcome (item.Ignored ∷ []) s
upgrade limits own (Some m) (Some c) s =
    ended (execution limits c.code c.instance (entry_of kind.PreUpgrade (exported c.code (codes "canister_pre_upgrade")) []) (quiet_world limits own c.stable))
  where
    ended : End → Outcome
    ended (Finishes store) = begin limits own m kind.PostUpgrade (codes "canister_post_upgrade") item.Upgraded store.world.stable.bytes (printed store.world.prints) s
    ended (Breaks cause prints) = outcome (printed prints ++ item.Trapped cause ∷ []) s

-- Calls and their answers.

-- Calls are numbered from the first that is free.
abbrev pub numbered : ℕ → ℕ → List OutgoingCall → List OpenCall
numbered owner number [] = []
numbered owner number (c ∷ calls) = record { number = number; owner = owner; call = c } ∷ numbered owner (number + 1) calls

abbrev pub call_item : OpenCall → Item
call_item c = item.Call c.number c.call.callee c.call.method c.call.argument

abbrev pub answer_items : ℕ → Option Answer → List Item
answer_items owner None = []
answer_items owner (Some (Replied bytes)) = item.Replied owner bytes ∷ []
answer_items owner (Some (Rejected code text)) = item.Rejected owner code text ∷ []

abbrev pub is_answer : Option Answer → Bool
is_answer None = false
is_answer (Some a) = true

abbrev pub is_answered : Option IncomingCall → Bool
is_answered None = true
is_answered (Some call) = call.answered

abbrev pub caller_of : Option IncomingCall → List ℕ
caller_of None = []
caller_of (Some call) = call.caller

abbrev pub answered_call : Option IncomingCall → IncomingCall
answered_call call = record { caller = caller_of call; answered = true }

-- The incoming call is answered.
abbrev pub set_answered : ℕ → HostState → HostState
set_answered owner s = record s { incoming = slice_set s.incoming owner (answered_call (slice_get s.incoming owner)) }

abbrev pub if_answer : ℕ → Option Answer → HostState → HostState
if_answer owner a s = cond (is_answer a) (set_answered owner s) s

-- An incoming call without an answer and without an open call of its own is rejected.
abbrev pub lacks_answer : ℕ → HostState → Bool
lacks_answer owner s = not (is_answered (slice_get s.incoming owner)) && not (list_any (λ c. nat_eq c.owner owner) s.waiting)

abbrev pub closing : ℕ → List Item → HostState → Outcome
closing owner items s =
    cond (lacks_answer owner s) (outcome (items ++ item.Rejected owner 5 (codes "no answer") ∷ []) (set_answered owner s)) (outcome items s)

-- What a finished execution for an incoming call leaves: its calls are open, and its answer is given.
abbrev pub finish : ℕ → Canister → World → HostState → Outcome
finish owner c w s =
    closing owner (printed w.prints ++ map call_item made ++ answer_items owner w.answer)
    (if_answer owner w.answer (record s { canister = Some c; made = s.made + length w.performed; waiting = s.waiting ++ made }))
  where
    made : List OpenCall
    made = numbered owner s.made w.performed

-- The world of an execution for an incoming call.
abbrev pub called_world : ExecutionLimits → List ℕ → Canister → ℕ → List ℕ → HostState → World
called_world limits own c owner argument s =
    record (quiet_world limits own c.stable) { caller = caller_of (slice_get s.incoming owner); argument = argument; answered = is_answered (slice_get s.incoming owner); open_before = length s.waiting }

-- A query leaves the canister as it was.
abbrev pub enter_method : ExecutionLimits → List ℕ → Canister → ExecutionKind → Bool → ℕ → ℕ → List ℕ → HostState → Outcome
enter_method limits own c k keeps f owner argument s =
    ended (execution limits c.code c.instance (entry_of k (Some f) []) (called_world limits own c owner argument s))
  where
    ended : End → Outcome
    ended (Finishes store) = finish owner (cond keeps c (left_by c.code store)) store.world s
    ended (Breaks cause prints) = closing owner (printed prints ++ item.Trapped cause ∷ []) s

abbrev pub refuse : ℕ → ℕ → List ℕ → HostState → Outcome
refuse owner code text s = outcome (item.Rejected owner code text ∷ []) (set_answered owner s)

abbrev pub enter_query : ExecutionLimits → List ℕ → Canister → Option ℕ → ℕ → List ℕ → HostState → Outcome
enter_query limits own c None owner argument s = refuse owner 5 (codes "no method") s
enter_query limits own c (Some f) owner argument s = enter_method limits own c kind.Query true f owner argument s

-- A call runs the update method of this name, or else the query method.
abbrev pub enter_update : ExecutionLimits → List ℕ → Canister → Option ℕ → Option ℕ → ℕ → List ℕ → HostState → Outcome
enter_update limits own c None query owner argument s = enter_query limits own c query owner argument s
enter_update limits own c (Some f) query owner argument s = enter_method limits own c kind.Update false f owner argument s

abbrev pub enter_call : ExecutionLimits → List ℕ → Bool → List ℕ → List ℕ → Option Canister → ℕ → HostState → Outcome
enter_call limits own query method argument None owner s = refuse owner 3 (codes "no canister") s
enter_call limits own true method argument (Some c) owner s = enter_query limits own c (query_entry c.code method) owner argument s
enter_call limits own false method argument (Some c) owner s =
    enter_update limits own c (update_entry c.code method) (query_entry c.code method) owner argument s

-- Incoming calls are numbered by their events.
abbrev pub incoming : ExecutionLimits → List ℕ → Bool → List ℕ → List ℕ → List ℕ → HostState → Outcome
incoming limits own query method caller argument s =
    enter_call limits own query method argument s.canister (length s.incoming)
    (record s { incoming = s.incoming ++ record { caller = caller; answered = false } ∷ [] })

-- Answers to outgoing calls.

pub data Received : Type 0 where
  Reply : List ℕ → Received
  Reject : ℕ → List ℕ → Received

abbrev pub received_world : Received → World → World
received_world (Reply bytes) w = record w { argument = bytes }
received_world (Reject code text) w = record w { reject_code = code; reject_text = text }

abbrev pub callback_kind : Received → ExecutionKind
callback_kind (Reply bytes) = kind.Reply
callback_kind (Reject code text) = kind.Reject

abbrev pub callback_of : Received → OutgoingCall → Callback
callback_of (Reply bytes) call = call.on_reply
callback_of (Reject code text) call = call.on_reject

-- An execution of a callback; one that the table lacks is a trap.
abbrev pub callback_end : ExecutionLimits → Canister → ExecutionKind → Callback → World → End
callback_end limits c k callback w = found (callback_entry c.code c.instance.table callback)
  where
    found : Option ℕ → End
    found None = Breaks word.Indirect []
    found (Some f) = execution limits c.code c.instance (entry_of k (Some f) (callback.environment ∷ [])) w

-- A callback that traps is followed by its cleanup, if it has one, as an execution of its own. All prints come before
-- the traps.
abbrev pub clean_up : ExecutionLimits → List ℕ → Canister → OpenCall → Word → List (List ℕ) → HostState → Outcome
clean_up limits own c call cause prints s = where_set call.call.on_cleanup
  where
    ended : End → Outcome
    ended (Finishes store) =
        closing call.owner (printed prints ++ printed store.world.prints ++ item.Trapped cause ∷ []) (with_canister s (left_by c.code store))
    ended (Breaks second more) = closing call.owner (printed prints ++ printed more ++ item.Trapped cause ∷ item.Trapped second ∷ []) s

    where_set : Option Callback → Outcome
    where_set None = closing call.owner (printed prints ++ item.Trapped cause ∷ []) s
    where_set (Some callback) = ended (callback_end limits c kind.Cleanup callback (called_world limits own c call.owner [] s))

-- The answered call is no longer open when its callback begins, and stays answered when it traps.
abbrev pub enter_callback : ExecutionLimits → List ℕ → Received → Canister → OpenCall → HostState → Outcome
enter_callback limits own received c call s =
    ended (callback_end limits c (callback_kind received) (callback_of received call.call) (received_world received (called_world limits own c call.owner [] s)))
  where
    ended : End → Outcome
    ended (Finishes store) = finish call.owner (left_by c.code store) store.world s
    ended (Breaks cause prints) = clean_up limits own c call cause prints s

-- An answer to a call that is not open is ignored.
abbrev pub answered : ExecutionLimits → List ℕ → ℕ → Received → Option Canister → Option OpenCall → HostState → Outcome
answered limits own number received None call s = outcome (item.Ignored ∷ []) s
answered limits own number received (Some c) None s = outcome (item.Ignored ∷ []) s
answered limits own number received (Some c) (Some call) s =
    enter_callback limits own received c call (record s { waiting = filter (λ other. not (nat_eq other.number number)) s.waiting })

abbrev pub answer : ExecutionLimits → List ℕ → ℕ → Received → HostState → Outcome
answer limits own number received s = answered limits own number received s.canister (find (λ c. nat_eq c.number number) s.waiting) s

-- One event.
abbrev pub step : List Module → ExecutionLimits → List ℕ → Event → HostState → Outcome
step modules limits own (event.Install number) s = install limits own (slice_get modules number) s
step modules limits own (event.Call query method caller bytes) s = incoming limits own query method caller bytes s
step modules limits own (event.Reply number bytes) s = answer limits own number (Reply bytes) s
step modules limits own (event.Reject number code text) s = answer limits own number (Reject code text) s
step modules limits own (event.Upgrade number) s = upgrade limits own (slice_get modules number) s.canister s

abbrev pub items_from : List Module → ExecutionLimits → List ℕ → List Event → HostState → List Item
items_from modules limits own [] s = []
items_from modules limits own (e ∷ events) s =
    (step modules limits own e s).items ++ items_from modules limits own events (step modules limits own e s).next

-- The items of the events, for modules under limits and a canister with this principal of its own.
abbrev pub host_run : List Module → ExecutionLimits → List ℕ → List Event → List Item
host_run modules limits own events = items_from modules limits own events first_state
