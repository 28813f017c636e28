-- Prints that were made stay: the world of an execution is later than another one where it has printed at least the same.
use Rattle.std.specs.Prelude.{◌≡◌, ℕ, List, ◌++◌}
use Rattle.wasm_tree.specs.Exec.{HostAnswer, Answers, Refuses}
use Rattle.ic0_world.specs.declared.world.World.{World}

pub record IsLater (before after : World) : Type 0 where
  pub more : List (List ℕ)
  pub is : after.prints ≡ before.prints ++ more

-- The world after a call of the host.
abbrev pub AnswerIsLater : World → HostAnswer World → Type 0
AnswerIsLater w (Answers value memory after) = IsLater w after
AnswerIsLater w (Refuses after) = IsLater w after
