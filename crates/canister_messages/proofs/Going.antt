-- A canister goes on with its module.
use Rattle.std.proofs.Common.{◌≡◌, ◌≤◌, Bool, true, false, cond, length, sym, subst}
use Rattle.wasm_tree.specs.declared.module_parts.Module.{Module}
use Rattle.wasm_instance.specs.Fits.{IsInstanceOf}
use Rattle.canister_execution.specs.Views.{Contents, IsSettled}
use Rattle.canister_messages.specs.declared.state.State.{State}
use Rattle.canister_messages.specs.States.{CanRun}

fits_either : (m : Module) (b : Bool) (kept standing : Contents) → IsInstanceOf m kept.instance → IsInstanceOf m standing.instance → IsInstanceOf m (cond b kept standing).instance
fits_either m true kept standing a b = a
fits_either m false kept standing a b = b

pub can_run : (m : Module) (new : State) (b : Bool) (kept standing : Contents) → IsSettled new.memories → new.memories.kept ≡ cond b kept standing → length new.calls.waiting.items ≤ 500
    → IsInstanceOf m kept.instance → IsInstanceOf m standing.instance → CanRun m new
can_run m new b kept standing settled is few first second = record {
  settled = settled;
  fits = (let P : Contents → Type 0 = λ x. IsInstanceOf m x.instance in subst P (sym is) (fits_either m b kept standing first second));
  waiting = few;
}
