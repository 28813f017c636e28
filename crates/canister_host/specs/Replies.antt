-- What a call of an imported function comes to.
use Rattle.std.specs.Prelude.{◌≡◌, ℕ, List, Some, slice_get}
use Rattle.wasm_machine.specs.Hosts.{Reply}
use Rattle.wasm_machine.specs.Told.{IsTold, world_of}
use Rattle.ic0_world.specs.declared.function.Ic0.{Ic0}
use Rattle.ic0_world.specs.declared.world.World.{World}
use Rattle.ic0_world.specs.Act.{call}
use Rattle.canister_host.specs.Entries.{answer_of, call_of}

-- The reply is the answer of the function with this index, in the world before, and the world after is the one that it
-- leaves. Which functions are imported stays.
pub record Replied (functions : List Ic0) (before : World) (function : ℕ) (args memory : List ℕ) (reply : Reply) (still : List Ic0) (after : World) : Type 0 where
  pub told : IsTold (answer_of (call_of (slice_get functions function) args memory before)) reply
  pub world : after ≡ world_of (answer_of (call_of (slice_get functions function) args memory before))
  pub same : still ≡ functions
