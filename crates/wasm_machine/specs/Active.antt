-- What running an activation answers.
use Rattle.std.specs.Prelude.{◌≡◌, ℕ, ◌<◌, ◌≤◌, List, length, ⊤}
use Rattle.wasm_tree.specs.Exec.{Calls}
use Rattle.wasm_steps.specs.declared.step.Step.{Step}
use Rattle.wasm_steps.specs.Moves.{Final, Done, Trapped, Next, Over, Asks, Seeks}
use Rattle.wasm_steps.specs.Follow.{Frugal, Stands}
use Rattle.wasm_machine.specs.declared.activate.End.{End}
use Rattle.wasm_machine.specs.declared.activate.End.TheVariants as end
use Rattle.wasm_machine.specs.Hosts.{Play}
use Rattle.wasm_machine.specs.Acts.{Given, Parts, page_bound, store_of, state_of}

-- Some execution stands at this place.
pub record Active (steps : List Step) (room most place left : ℕ) (locals : List ℕ) (p : Parts) (operands : List ℕ) : Type 0 where
  pub g : Given
  pub calls : Calls Play
  pub frugal : Frugal calls
  pub height : ℕ
  pub keep : ℕ
  pub whole : Final Play
  pub bound : page_bound g ≡ most
  pub named : length g.within.globals ≡ length p.globals
  pub fits : height ≤ room
  pub few : keep ≤ 1
  pub stands : Stands g.limits g.within calls steps (length locals) height keep whole place (state_of g left locals p) operands

abbrev pub next_of : Given → End → List ℕ → Parts → (ℕ → List ℕ) → Next Play
next_of g (end.Asks function place left held) locals p tops = Asks function place (state_of g left locals p) (tops held)
next_of g (end.Seeks signature at place left held) locals p tops = Seeks signature at place (state_of g left locals p) (tops held)
next_of g (end.Done left held) locals p tops = Over (Done left (store_of g p) (tops held))
next_of g (end.Trapped cause) locals p tops = Over (Trapped cause (store_of g p))

abbrev pub EndHolds : End → ℕ → Type 0
EndHolds (end.Asks function place left held) room = held ≤ room
EndHolds (end.Seeks signature at place left held) room = held ≤ room
EndHolds (end.Done left held) room = held ≤ room
EndHolds (end.Trapped cause) room = ⊤

-- A call takes a step.
abbrev pub EndLeft : End → ℕ → Type 0
EndLeft (end.Asks function place left held) most = left < most
EndLeft (end.Seeks signature at place left held) most = left < most
EndLeft (end.Done left held) most = left ≤ most
EndLeft (end.Trapped cause) most = ⊤
