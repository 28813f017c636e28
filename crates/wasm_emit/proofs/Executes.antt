-- An execution of the emitted module ends as that of the low module: with the same store, or by the same word after the same
-- prints, for want of steps, of stack words and of pages too.
use Rattle.std.proofs.Common.{◌≡◌, ℕ, suc, List, [], ◌∷◌, reverse, refl, sym, ap, ◌∙◌}
use Rattle.std.proofs.lemmas.List.{append-nil}
use Rattle.std.specs.List.{AllByRecursion}
use Rattle.wasm_tree.specs.Exec as machine
use Rattle.wasm_tree.specs.Exec.{ExecutionLimits, Store, Host}
use Rattle.wasm_tree.specs.Frames as frames
use Rattle.wasm_tree.specs.Load.{Instance}
use Rattle.ic0_world.specs.declared.world.World.{World}
use Rattle.canister_host.specs.Execution.{Entry, entered_as, run, end_of, store_of, execution}
use Rattle.canister_host.specs.Execution as canister
use Rattle.low_ir.specs.Tree.{Module}
use Rattle.low_ir.specs.Meaning.{Called, Gave, Fell, Lost}
use Rattle.low_ir.specs.Frames.{enter}
use Rattle.low_ir.specs.Formed.{FunctionIsFormed}
use Rattle.low_execution.specs.Host.{low_host}
use Rattle.low_execution.specs.Execution.{then_go, low_run, low_end, low_execution, IsEntry}
use Rattle.wasm_emit.proofs.Same.{over}
use Rattle.wasm_emit.proofs.Calls.{to_wasm, calls_are}
use Rattle.wasm_emit.proofs.Hosts.{host_is, host_gives_none}

goes : (c : Called World) (f : ℕ → Store World → machine.Called World) (g : ℕ → Store World → Called World) → ((left : ℕ) (store : Store World) → end_of (f left store) ≡ low_end (g left store)) → end_of (canister.then_go (over [] c) f) ≡ low_end (then_go c g)
goes (Gave left store value) f g h = h left store
goes (Fell cause store) f g h = refl
goes Lost f g h = refl

runs : (limits : ExecutionLimits) (m : Module) → AllByRecursion (FunctionIsFormed m) m.functions → (entries : List Entry) → AllByRecursion (IsEntry m) entries → (left : ℕ) (store : Store World) → end_of (run limits (to_wasm m) entries left store) ≡ low_end (low_run limits m entries left store)
runs limits m formed [] all left store = refl
runs limits m formed (e ∷ entries) all left store =
    let c = calls_are (record limits { steps = left }) m low_host formed (host_gives_none m) (suc limits.stack) limits.stack in
    let one =
    ap (λ (h : Host World). frames.enter (suc limits.stack) (record limits { steps = left }) (to_wasm m) h limits.stack e.function left (entered_as e.kind store) e.operands) (host_is m)
    ∙ ap (frames.enter (suc limits.stack) (record limits { steps = left }) (to_wasm m) low_host limits.stack e.function left (entered_as e.kind store)) (sym (append-nil e.operands))
    ∙ c.same e.function left (entered_as e.kind store) e.operands [] all.0.type all.0.is all.0.arity in
    ap (λ o. end_of (canister.then_go o (run limits (to_wasm m) entries))) one
    ∙ goes (enter (suc limits.stack) limits.pages m low_host limits.stack e.function left (entered_as e.kind store) (reverse e.operands)) (run limits (to_wasm m) entries) (low_run limits m entries) (runs limits m formed entries all.1)

pub executes : (limits : ExecutionLimits) (m : Module) → AllByRecursion (FunctionIsFormed m) m.functions → (i : Instance) (entries : List Entry) (w : World) → AllByRecursion (IsEntry m) entries
    → execution limits (to_wasm m) i entries w ≡ low_execution limits m i entries w
executes limits m formed i entries w all = runs limits m formed entries all limits.steps (store_of i w)
