-- What one run of a method comes to.
use Rattle.std.specs.Prelude.{◌≡◌, ℕ, List, [], false, map}
use Rattle.wasm_tree.specs.declared.module_parts.Module.{Module}
use Rattle.wasm_machine.specs.Asked.{IsMadeFor}
use Rattle.wasm_machine.specs.Hosts.{Reply, played}
use Rattle.wasm_machine.specs.Ran.{execute_with, limits_of, store_with, HasRun}
use Rattle.wasm_instance.specs.declared.instance.Instance.{Instance}
use Rattle.wasm_instance.specs.declared.instance.Outcome.{Outcome}
use Rattle.wasm_instance.specs.Fits.{ended}
use Rattle.ic0_world.specs.declared.function.Ic0.{Ic0}
use Rattle.ic0_world.specs.declared.kind.ExecutionKind.TheVariants.{Update}
use Rattle.ic0_world.specs.declared.world.World.{World}
use Rattle.canister_host.specs.declared.interface.Interface.{Interface}
use Rattle.canister_host.specs.Types.{type_of_function}
use Rattle.canister_host.specs.Replies.{Replied}

-- as the host of the machine has them
abbrev pub replies : Interface → ℕ → List ℕ → List ℕ → Reply → Interface → Type 0
replies old function args memory reply new = Replied old.functions old.world function args memory reply new.functions new.world

-- The function ran on what is kept, with all steps and no refusal at first, as an update call with an empty argument, and
-- in a host that is made for the module's imports.
pub record RunsAlone (m : Module) (function : ℕ) (before after : Instance) (outcome : Outcome) : Type 0 where
  pub host : Interface
  pub last : Interface
  pub made_for : IsMadeFor m (map type_of_function host.functions)
  pub kind : host.world.kind ≡ Update
  pub argument : host.world.argument ≡ []
  pub ran : HasRun replies host last (λ world. execute_with (limits_of before.limits.steps before.limits.pages before.limits.stack) m played function [] (store_with before.kept.memory before.kept.globals before.kept.table false world))
      (store_with after.standing.memory after.standing.globals after.standing.table after.was_refused) (ended outcome after.left)
