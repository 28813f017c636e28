-- From what the executions of installations left to what they come to for the host.
use Rattle.std.proofs.Common.{◌≡◌, ℕ, List, [], ◌++◌, ◌∷◌, Option, Some, None, Result, Ok, Err, refl, sym, ap, subst, ◌∙◌}
use Rattle.std.specs.Prelude.{IfOk, codes}
use Rattle.wasm_tree.specs.declared.module_parts.Module.{Module}
use Rattle.wasm_tree.specs.Exec.{ExecutionLimits}
use Rattle.wasm_tree.specs.Load as load
use Rattle.wasm_store.specs.Loading.{Answers}
use Rattle.play_script.specs.declared.item.Item.{Item}
use Rattle.play_script.specs.declared.item.Item.TheVariants as item
use Rattle.play_script.specs.declared.item.Word.{Word}
use Rattle.ic0_world.specs.declared.kind.ExecutionKind.{ExecutionKind}
use Rattle.ic0_world.specs.declared.kind.ExecutionKind.TheVariants as kind
use Rattle.ic0_world.specs.declared.world.World.{World}
use Rattle.canister_host.specs.Entries.{exported}
use Rattle.canister_host.specs.Execution.{Entry, End, execution}
use Rattle.canister_host.specs.State as host
use Rattle.canister_host.specs.State.{HostState}
use Rattle.canister_host.specs.HostRun.{Outcome, outcome, begin, entry_of, printed, quiet_world, starting, upgrade, with_canister}
use Rattle.canister_execution.specs.declared.memories.Effects.{Effects}
use Rattle.canister_execution.specs.declared.memories.Message.{Message}
use Rattle.canister_calls.specs.Calling.{state_with}
use Rattle.canister_execution.specs.Executed.{execution_limits, world_of, Leaves, LeavesBy}
use Rattle.canister_execution.specs.Views.{Contents, View}
use Rattle.canister_messages.specs.declared.state.State.{State}
use Rattle.canister_messages.specs.States.{canister_at, limits_of}
use Rattle.canister.specs.Left.{no_message, start_left, preparation_left}
use Rattle.canister.specs.Shown.{canister_of, module_of, shown_state}

abbrev with_stable : Module → load.Instance → List ℕ → host.Canister
with_stable m i stable = record { code = m; instance = i; stable = stable }

start_parts : (before : List Item) (last : Item) (m : Module) (i : load.Instance) (s : HostState) (w : World) (stable : List ℕ) (prints : List (List ℕ)) → w.stable.bytes ≡ stable → w.prints ≡ prints
    → outcome (before ++ printed w.prints ++ last ∷ []) (with_canister s (with_stable m i w.stable.bytes)) ≡ outcome (before ++ printed prints ++ last ∷ []) (with_canister s (with_stable m i stable))
start_parts before last m i s w stable prints a b =
    ap (λ x. outcome (before ++ printed w.prints ++ last ∷ []) (with_canister s (with_stable m i x))) a
    ∙ ap (λ x. outcome (before ++ printed x ++ last ∷ []) (with_canister s (with_stable m i stable))) b

start_so : (limits : ExecutionLimits) (own : List ℕ) (m : Module) (k : ExecutionKind) (name : List ℕ) (last : Item) (stable : List ℕ) (before : List Item) (s : HostState) (i : load.Instance) (left : Contents) (e : Effects) (t : Option Word)
    → load.load limits m ≡ load.Loaded i → LeavesBy (execution limits m i (starting m k name) (quiet_world limits own stable)) left e t
    → begin limits own m k name last stable before s ≡ start_left before last (canister_at m left) e s t
start_so limits own m k name last stable before s i left e None loaded h = rw (loaded, h.is) (start_parts before last m left.instance s h.world left.stable e.prints h.stable h.prints)
start_so limits own m k name last stable before s i left e (Some word) loaded h = rw (loaded, h)

-- What is so of one outcome is so of its equal.
pub ok_along : {E : Type 0} (r : Result (List Item) E) (a b : Outcome) (new : HostState) → a ≡ b → IfOk r (λ items. b ≡ outcome items new) → IfOk r (λ items. a ≡ outcome items new)
ok_along (Ok items) a b new e h = e ∙ h
ok_along (Err x) a b new e h = tt

moved : (end other : End) (left : Contents) (e : Effects) (t : Option Word) → end ≡ other → LeavesBy end left e t → LeavesBy other left e t
moved end other left e t same h = let P : End → Type 0 = λ end. LeavesBy end left e t in subst P same h

pub start_ended : {E : Type 0} (limits : ExecutionLimits) (own : List ℕ) (m : Module) (k : ExecutionKind) (name : List ℕ) (last : Item) (stable : List ℕ) (before : List Item) (s middle : HostState) (i : load.Instance) (message : Message) (first entry : List Entry) (left : Contents) (e : Effects) (r : Result (List Item) E) (new : HostState)
    → middle ≡ s → message ≡ no_message → first ≡ entry_of kind.Start m.start [] → entry ≡ entry_of k (exported m name) [] → load.load limits m ≡ load.Loaded i
    → Leaves (execution limits m i (first ++ entry) (world_of limits own message stable)) left e
    → IfOk r (λ done. start_left before last (canister_at m left) e middle e.trap ≡ outcome done new)
    → IfOk r (λ done. begin limits own m k name last stable before s ≡ outcome done new)
start_ended limits own m k name last stable before s middle i message first entry left e r new same quiet first_so entry_so loaded leaves h =
    ok_along r (begin limits own m k name last stable before s) (start_left before last (canister_at m left) e middle e.trap) new
    (start_so limits own m k name last stable before s i left e e.trap loaded
    (moved (execution limits m i (first ++ entry) (world_of limits own message stable)) (execution limits m i (starting m k name) (quiet_world limits own stable)) left e e.trap
    (ap (λ x. execution limits m i (first ++ entry) (world_of limits own x stable)) quiet
    ∙ ap (λ x. execution limits m i (x ++ entry) (quiet_world limits own stable)) first_so
    ∙ ap (λ x. execution limits m i (entry_of kind.Start m.start [] ++ x) (quiet_world limits own stable)) entry_so) leaves)
    ∙ ap (λ x. start_left before last (canister_at m left) e x e.trap) (sym same)) h

preparation_parts : (limits : ExecutionLimits) (own : List ℕ) (m : Module) (s : HostState) (w : World) (stable : List ℕ) (prints : List (List ℕ)) → w.stable.bytes ≡ stable → w.prints ≡ prints
    → begin limits own m kind.PostUpgrade (codes "canister_post_upgrade") item.Upgraded w.stable.bytes (printed w.prints) s ≡ begin limits own m kind.PostUpgrade (codes "canister_post_upgrade") item.Upgraded stable (printed prints) s
preparation_parts limits own m s w stable prints a b =
    ap (λ x. begin limits own m kind.PostUpgrade (codes "canister_post_upgrade") item.Upgraded x (printed w.prints) s) a
    ∙ ap (λ x. begin limits own m kind.PostUpgrade (codes "canister_post_upgrade") item.Upgraded stable (printed x) s) b

preparation_so : (limits : ExecutionLimits) (own : List ℕ) (m : Module) (c : host.Canister) (s : HostState) (left : Contents) (e : Effects) (t : Option Word)
    → LeavesBy (execution limits c.code c.instance (entry_of kind.PreUpgrade (exported c.code (codes "canister_pre_upgrade")) []) (quiet_world limits own c.stable)) left e t
    → upgrade limits own (Some m) (Some c) s ≡ preparation_left limits own m left.stable e s t
preparation_so limits own m c s left e None h = rw h.is (preparation_parts limits own m s h.world left.stable e.prints h.stable h.prints)
preparation_so limits own m c s left e (Some word) h = rw h

pub preparation_ended : {E : Type 0} (limits other : ExecutionLimits) (own : List ℕ) (m old : Module) (kept : Contents) (s middle : HostState) (message : Message) (entry : List Entry) (left : Contents) (e : Effects) (r : Result (List Item) E) (new : HostState)
    → other ≡ limits → middle ≡ s → message ≡ no_message → entry ≡ entry_of kind.PreUpgrade (exported old (codes "canister_pre_upgrade")) []
    → Leaves (execution limits old kept.instance entry (world_of limits own message kept.stable)) left e
    → IfOk r (λ done. preparation_left other own m left.stable e middle e.trap ≡ outcome done new)
    → IfOk r (λ done. upgrade limits own (Some m) (Some (canister_at old kept)) s ≡ outcome done new)
preparation_ended limits other own m old kept s middle message entry left e r new limits_so same quiet entry_so leaves h =
    ok_along r (upgrade limits own (Some m) (Some (canister_at old kept)) s) (preparation_left other own m left.stable e middle e.trap) new
    (preparation_so limits own m (canister_at old kept) s left e e.trap
    (moved (execution limits old kept.instance entry (world_of limits own message kept.stable)) (execution limits old kept.instance (entry_of kind.PreUpgrade (exported old (codes "canister_pre_upgrade")) []) (quiet_world limits own kept.stable)) left e e.trap
    (ap (λ x. execution limits old kept.instance entry (world_of limits own x kept.stable)) quiet
    ∙ ap (λ x. execution limits old kept.instance x (quiet_world limits own kept.stable)) entry_so) leaves)
    ∙ ap (λ x. preparation_left x own m left.stable e s e.trap) (sym limits_so)
    ∙ ap (λ x. preparation_left other own m left.stable e x e.trap) (sym same)) h

abbrev pub with_memories : State → View → State
with_memories s v = record s { memories = v }

-- What was loaded stands.
pub loaded_so : {A : Type 0} (l : load.Load) (x : A) (left : load.Instance) → Answers l (Ok x) left → l ≡ load.Loaded left
loaded_so load.AboveLimit x left a = absurd (cc)
loaded_so load.OutOfBounds x left a = absurd (cc)
loaded_so (load.Loaded first) x left a = ap load.Loaded (sym a.1)

-- A module is begun the same where the memories have changed but for their limits, what is kept, and stable memory.
pub begin_moved : {E : Type 0} (own : List ℕ) (m : Module) (k : ExecutionKind) (name : List ℕ) (last : Item) (before : List Item) (s : State) (v : View) (stable : List ℕ) (modules : List Module) (r : Result (List Item) E) (new : HostState)
    → v.limits ≡ s.memories.limits → v.standing.stable ≡ stable → v.kept ≡ s.memories.kept
    → IfOk r (λ done. begin (limits_of (with_memories s v)) own m k name last v.standing.stable before (shown_state modules (with_memories s v)) ≡ outcome done new)
    → IfOk r (λ done. begin (limits_of s) own m k name last stable before (shown_state modules s) ≡ outcome done new)
begin_moved own m k name last before s v stable modules r new limits_so stable_so kept_so h =
    ok_along r (begin (limits_of s) own m k name last stable before (shown_state modules s)) (begin (limits_of (with_memories s v)) own m k name last v.standing.stable before (shown_state modules (with_memories s v))) new
    (ap (λ x. begin (execution_limits x) own m k name last stable before (shown_state modules s)) (sym limits_so)
    ∙ ap (λ x. begin (execution_limits v.limits) own m k name last x before (shown_state modules s)) (sym stable_so)
    ∙ ap (λ x. begin (execution_limits v.limits) own m k name last v.standing.stable before (state_with (canister_of (module_of modules s.installed) x) s.calls)) (sym kept_so)) h
