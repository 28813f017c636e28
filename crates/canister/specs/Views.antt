-- What contracts see of a canister.
use Rattle.std.specs.Prelude.{ℕ, List}
use Rattle.wasm_instance.specs.declared.instance.Limits.{Limits}
use Rattle.canister_messages.specs.declared.state.State.{State}

pub record View : Type 0 where
  pub limits : Limits
  -- its own principal
  pub own : List ℕ
  -- how many events it has had
  pub events : ℕ
  pub state : State
