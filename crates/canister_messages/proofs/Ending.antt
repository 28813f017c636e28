-- From what an execution left to what it comes to for the host.
use Rattle.std.proofs.Common.{◌≡◌, ℕ, Bool, true, false, cond, List, [], ◌∷◌, ◌++◌, Option, Some, None, Result, Ok, Err, refl, sym, ap, subst, ◌∙◌, append_assoc}
use Rattle.std.specs.Prelude.{IfOk}
use Rattle.wasm_tree.specs.declared.module_parts.Module.{Module}
use Rattle.wasm_tree.specs.Exec.{ExecutionLimits}
use Rattle.wasm_tree.specs.Load as load
use Rattle.play_script.specs.declared.item.Item.{Item}
use Rattle.play_script.specs.declared.item.Item.TheVariants as item
use Rattle.play_script.specs.declared.item.Word.{Word}
use Rattle.ic0_world.specs.declared.kind.ExecutionKind.{ExecutionKind}
use Rattle.ic0_world.specs.declared.kind.ExecutionKind.TheVariants as kind
use Rattle.ic0_world.specs.declared.world.Answer.{Answer}
use Rattle.ic0_world.specs.declared.world.Callback.{Callback}
use Rattle.ic0_world.specs.declared.world.OutgoingCall.{OutgoingCall}
use Rattle.ic0_world.specs.declared.world.World.{World}
use Rattle.canister_host.specs.declared.calls.OpenCall.{OpenCall}
use Rattle.canister_host.specs.State as host
use Rattle.canister_host.specs.State.{HostState}
use Rattle.canister_host.specs.Execution.{End, execution}
use Rattle.canister_host.specs.HostRun.{Outcome, Received, Reply, Reject, outcome, entry_of, called_world, finish, closing, printed, with_canister, enter_method, received_world, callback_kind, callback_of, callback_end, clean_up, enter_callback}
use Rattle.canister_calls.specs.declared.calls.Calls.{Calls}
use Rattle.canister_calls.specs.Calling.{state_with, during, finished}
use Rattle.canister_execution.specs.declared.memories.Effects.{Effects}
use Rattle.canister_execution.specs.declared.memories.Message.{Message}
use Rattle.canister_execution.specs.Executed.{world_of, Completed, Leaves, LeavesBy}
use Rattle.canister_execution.specs.Views.{Contents}
use Rattle.canister_messages.specs.Left.{method_left, callback_left, cleanup_left}
use Rattle.canister_messages.specs.Received.{received_message}
use Rattle.canister_messages.specs.States.{canister_at, message_of}

-- What is so of one outcome is so of its equal.
pub ok_along : {E : Type 0} (r : Result (List Item) E) (a b : Outcome) (new : HostState) → a ≡ b → IfOk r (λ items. b ≡ outcome items new) → IfOk r (λ items. a ≡ outcome items new)
ok_along (Ok items) a b new e h = e ∙ h
ok_along (Err x) a b new e h = tt

abbrev with_stable : Module → load.Instance → List ℕ → host.Canister
with_stable m i stable = record { code = m; instance = i; stable = stable }

-- The world that a finished execution left, by its parts.
finish_parts : (owner : ℕ) (keeps : Bool) (c : host.Canister) (m : Module) (i : load.Instance) (s : HostState) (w : World) (stable : List ℕ) (prints : List (List ℕ)) (performed : List OutgoingCall) (answer : Option Answer)
    → w.stable.bytes ≡ stable → w.prints ≡ prints → w.performed ≡ performed → w.answer ≡ answer
    → finish owner (cond keeps c (with_stable m i w.stable.bytes)) w s ≡ finished owner (printed prints) performed answer (with_canister s (cond keeps c (with_stable m i stable)))
finish_parts owner keeps c m i s w stable prints performed answer a b d e =
    ap (λ x. finished owner (printed w.prints) w.performed w.answer (with_canister s (cond keeps c (with_stable m i x)))) a
    ∙ ap (λ x. finished owner (printed x) w.performed w.answer (with_canister s (cond keeps c (with_stable m i stable)))) b
    ∙ ap (λ x. finished owner (printed prints) x w.answer (with_canister s (cond keeps c (with_stable m i stable)))) d
    ∙ ap (λ x. finished owner (printed prints) performed x (with_canister s (cond keeps c (with_stable m i stable)))) e

method_so : (limits : ExecutionLimits) (own : List ℕ) (c : host.Canister) (k : ExecutionKind) (keeps : Bool) (f owner : ℕ) (argument : List ℕ) (s : HostState) (left : Contents) (e : Effects) (t : Option Word)
    → LeavesBy (execution limits c.code c.instance (entry_of k (Some f) []) (called_world limits own c owner argument s)) left e t
    → enter_method limits own c k keeps f owner argument s ≡ method_left owner (cond keeps c (canister_at c.code left)) e s t
method_so limits own c k keeps f owner argument s left e None h =
    rw h.is (finish_parts owner keeps c c.code left.instance s h.world left.stable e.prints e.performed e.answer h.stable h.prints h.performed h.answer)
method_so limits own c k keeps f owner argument s left e (Some word) h = rw h

callback_so : (limits : ExecutionLimits) (own : List ℕ) (received : Received) (c : host.Canister) (call : OpenCall) (s : HostState) (left : Contents) (e : Effects) (t : Option Word)
    → LeavesBy (callback_end limits c (callback_kind received) (callback_of received call.call) (received_world received (called_world limits own c call.owner [] s))) left e t
    → enter_callback limits own received c call s ≡ callback_left limits own c (canister_at c.code left) call e s t
callback_so limits own received c call s left e None h =
    rw h.is (finish_parts call.owner false c c.code left.instance s h.world left.stable e.prints e.performed e.answer h.stable h.prints h.performed h.answer)
callback_so limits own received c call s left e (Some word) h = rw h

cleaned_parts : (owner : ℕ) (prints more : List (List ℕ)) (cause : Word) (m : Module) (i : load.Instance) (s : HostState) (w : World) (stable : List ℕ) → w.stable.bytes ≡ stable → w.prints ≡ more
    → closing owner (printed prints ++ printed w.prints ++ item.Trapped cause ∷ []) (with_canister s (with_stable m i w.stable.bytes))
    ≡ closing owner (printed prints ++ printed more ++ item.Trapped cause ∷ []) (with_canister s (with_stable m i stable))
cleaned_parts owner prints more cause m i s w stable a b =
    ap (λ x. closing owner (printed prints ++ printed w.prints ++ item.Trapped cause ∷ []) (with_canister s (with_stable m i x))) a
    ∙ ap (λ x. closing owner (printed prints ++ printed x ++ item.Trapped cause ∷ []) (with_canister s (with_stable m i stable))) b

cleanup_so : (limits : ExecutionLimits) (own : List ℕ) (c : host.Canister) (call : OpenCall) (cause : Word) (prints : List (List ℕ)) (s : HostState) (callback : Callback) (left : Contents) (e : Effects) (t : Option Word)
    → call.call.on_cleanup ≡ Some callback → LeavesBy (callback_end limits c kind.Cleanup callback (called_world limits own c call.owner [] s)) left e t
    → clean_up limits own c call cause prints s ≡ cleanup_left call.owner (printed prints) cause (canister_at c.code left) e s t
cleanup_so limits own c call cause prints s callback left e None set h =
    rw (set, h.is) (cleaned_parts call.owner prints e.prints cause c.code left.instance s h.world left.stable h.stable h.prints)
cleanup_so limits own c call cause prints s callback left e (Some second) set h = rw (set, h)

moved : (end other : End) (left : Contents) (e : Effects) (t : Option Word) → end ≡ other → LeavesBy end left e t → LeavesBy other left e t
moved end other left e t same h = let P : End → Type 0 = λ end. LeavesBy end left e t in subst P same h

chosen_at : (m : Module) (b : Bool) (one other : Contents) → cond b (canister_at m one) (canister_at m other) ≡ canister_at m (cond b one other)
chosen_at m true one other = refl
chosen_at m false one other = refl

pub method_ended : {E : Type 0} (limits : ExecutionLimits) (own : List ℕ) (m : Module) (kept middle standing : Contents) (k : ExecutionKind) (keeps : Bool) (f owner : ℕ) (argument : List ℕ) (calls : Calls) (message : Message) (e : Effects) (r : Result (List Item) E) (new : HostState)
    → middle ≡ kept → message ≡ message_of owner argument (state_with (Some (canister_at m kept)) calls)
    → Leaves (execution limits m kept.instance (entry_of k (Some f) []) (world_of limits own message kept.stable)) standing e
    → IfOk r (λ items. method_left owner (canister_at m (cond keeps middle standing)) e (state_with (Some (canister_at m middle)) calls) e.trap ≡ outcome items new)
    → IfOk r (λ items. enter_method limits own (canister_at m kept) k keeps f owner argument (state_with (Some (canister_at m kept)) calls) ≡ outcome items new)
method_ended limits own m kept middle standing k keeps f owner argument calls message e r new same asked left h =
    let c = canister_at m kept in
    let s = state_with (Some c) calls in
    ok_along r (enter_method limits own c k keeps f owner argument s) (method_left owner (canister_at m (cond keeps middle standing)) e (state_with (Some (canister_at m middle)) calls) e.trap) new
    (method_so limits own c k keeps f owner argument s standing e e.trap
    (moved (execution limits m kept.instance (entry_of k (Some f) []) (world_of limits own message kept.stable)) (execution limits m kept.instance (entry_of k (Some f) []) (called_world limits own c owner argument s)) standing e e.trap
    (ap (λ x. execution limits m kept.instance (entry_of k (Some f) []) (world_of limits own x kept.stable)) asked) left)
    ∙ ap (λ x. method_left owner x e s e.trap) (chosen_at m keeps kept standing)
    ∙ ap (λ x. method_left owner (canister_at m (cond keeps x standing)) e (state_with (Some (canister_at m x)) calls) e.trap) (sym same)) h

received_so : (limits : ExecutionLimits) (own : List ℕ) (received : Received) (m : Message) (stable : List ℕ) → world_of limits own (received_message received m) stable ≡ received_world received (world_of limits own m stable)
received_so limits own (Reply bytes) m stable = refl
received_so limits own (Reject code text) m stable = refl

pub callback_ended : {E : Type 0} (limits other : ExecutionLimits) (own : List ℕ) (m : Module) (kept middle standing : Contents) (received : Received) (k : ExecutionKind) (callback : Callback) (call : OpenCall) (answering : Option ℕ) (owner : ℕ) (calls : Calls) (message asked : Message) (e : Effects) (r : Result (List Item) E) (new : HostState)
    → other ≡ limits → middle ≡ kept → owner ≡ call.owner → k ≡ callback_kind received → callback ≡ callback_of received call.call
    → message ≡ received_message received asked → asked ≡ message_of owner [] (during answering (state_with (Some (canister_at m kept)) calls))
    → Leaves (callback_end limits (canister_at m kept) k callback (world_of limits own message kept.stable)) standing e
    → IfOk r (λ items. callback_left other own (canister_at m middle) (canister_at m standing) call e (during answering (state_with (Some (canister_at m middle)) calls)) e.trap ≡ outcome items new)
    → IfOk r (λ items. enter_callback limits own received (canister_at m kept) call (during answering (state_with (Some (canister_at m kept)) calls)) ≡ outcome items new)
callback_ended limits other own m kept middle standing received k callback call answering owner calls message asked e r new limits_so same owner_so kind_so callback_is message_so asked_so left h =
    let c = canister_at m kept in
    let s = during answering (state_with (Some c) calls) in
    ok_along r (enter_callback limits own received c call s) (callback_left other own (canister_at m middle) (canister_at m standing) call e (during answering (state_with (Some (canister_at m middle)) calls)) e.trap) new
    (callback_so limits own received c call s standing e e.trap
    (moved (callback_end limits c k callback (world_of limits own message kept.stable)) (callback_end limits c (callback_kind received) (callback_of received call.call) (received_world received (called_world limits own c call.owner [] s))) standing e e.trap
    (ap (λ x. callback_end limits c x callback (world_of limits own message kept.stable)) kind_so
    ∙ ap (λ x. callback_end limits c (callback_kind received) x (world_of limits own message kept.stable)) callback_is
    ∙ ap (λ x. callback_end limits c (callback_kind received) (callback_of received call.call) x)
    (ap (λ x. world_of limits own x kept.stable) message_so ∙ received_so limits own received asked kept.stable
    ∙ ap (λ x. received_world received (world_of limits own x kept.stable)) (asked_so ∙ ap (λ x. message_of x [] s) owner_so))) left)
    ∙ ap (λ x. callback_left x own c (canister_at m standing) call e s e.trap) (sym limits_so)
    ∙ ap (λ x. callback_left other own (canister_at m x) (canister_at m standing) call e (during answering (state_with (Some (canister_at m x)) calls)) e.trap) (sym same)) h

pub cleanup_ended : {E : Type 0} (limits : ExecutionLimits) (own : List ℕ) (m : Module) (kept middle standing : Contents) (callback : Callback) (call : OpenCall) (cause : Word) (prints : List (List ℕ)) (answering : Option ℕ) (owner : ℕ) (items : List Item) (calls : Calls) (message : Message) (e : Effects) (r : Result (List Item) E) (new : HostState)
    → middle ≡ kept → call.owner ≡ owner → call.call.on_cleanup ≡ Some callback → items ≡ printed prints
    → message ≡ message_of owner [] (during answering (state_with (Some (canister_at m kept)) calls))
    → Leaves (callback_end limits (canister_at m kept) kind.Cleanup callback (world_of limits own message kept.stable)) standing e
    → IfOk r (λ done. cleanup_left owner items cause (canister_at m standing) e (during answering (state_with (Some (canister_at m middle)) calls)) e.trap ≡ outcome done new)
    → IfOk r (λ done. clean_up limits own (canister_at m kept) call cause prints (during answering (state_with (Some (canister_at m kept)) calls)) ≡ outcome done new)
cleanup_ended limits own m kept middle standing callback call cause prints answering owner items calls message e r new same owner_so set items_so asked left h =
    let c = canister_at m kept in
    let s = during answering (state_with (Some c) calls) in
    ok_along r (clean_up limits own c call cause prints s) (cleanup_left owner items cause (canister_at m standing) e (during answering (state_with (Some (canister_at m middle)) calls)) e.trap) new
    (cleanup_so limits own c call cause prints s callback standing e e.trap set
    (moved (callback_end limits c kind.Cleanup callback (world_of limits own message kept.stable)) (callback_end limits c kind.Cleanup callback (called_world limits own c call.owner [] s)) standing e e.trap
    (ap (λ x. callback_end limits c kind.Cleanup callback (world_of limits own x kept.stable)) (asked ∙ ap (λ x. message_of x [] s) (sym owner_so))) left)
    ∙ ap (λ x. cleanup_left x (printed prints) cause (canister_at m standing) e s e.trap) owner_so
    ∙ ap (λ x. cleanup_left owner x cause (canister_at m standing) e s e.trap) (sym items_so)
    ∙ ap (λ x. cleanup_left owner items cause (canister_at m standing) e (during answering (state_with (Some (canister_at m x)) calls)) e.trap) (sym same)) h

pub not_cleaned : (limits : ExecutionLimits) (own : List ℕ) (c : host.Canister) (call : OpenCall) (cause : Word) (prints : List (List ℕ)) (s : HostState) → call.call.on_cleanup ≡ None
    → clean_up limits own c call cause prints s ≡ closing call.owner (printed prints ++ item.Trapped cause ∷ []) s
not_cleaned limits own c call cause prints s e = rw e

pub cleanup_broken : {E : Type 0} (owner : ℕ) (items more all : List Item) (cause second : Word) (left : host.Canister) (e : Effects) (s : HostState) (r : Result (List Item) E) (new : HostState)
    → e.trap ≡ Some second → more ≡ items ++ printed e.prints → all ≡ more ++ item.Trapped cause ∷ []
    → IfOk r (λ done. closing owner (all ++ item.Trapped second ∷ []) s ≡ outcome done new) → IfOk r (λ done. cleanup_left owner items cause left e s e.trap ≡ outcome done new)
cleanup_broken owner items more all cause second left e s r new trap more_so all_so h =
    ok_along r (cleanup_left owner items cause left e s e.trap) (closing owner (all ++ item.Trapped second ∷ []) s) new
    (ap (λ t. cleanup_left owner items cause left e s t) trap
    ∙ ap (λ l. closing owner l s) (sym (ap (λ l. l ++ item.Trapped second ∷ []) (all_so ∙ ap (λ l. l ++ item.Trapped cause ∷ []) more_so) ∙ append_assoc (items ++ printed e.prints) (item.Trapped cause ∷ []) (item.Trapped second ∷ [])))) h
