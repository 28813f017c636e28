-- Calls where no actor is: IC interface specification, section "Call initiation".
use Rattle.std.specs.Prelude.{ℕ, ◌+◌, [], ◌∷◌, codes}
use Rattle.play_script.specs.declared.item.Item.TheVariants as item
use Rattle.stepper.specs.declared.state.Next.{Next}
use Rattle.stepper.specs.declared.state.Next.TheVariants as next
use Rattle.stepper.specs.declared.state.State.TheVariants as state

abbrev pub refused : (came : ℕ) → Next
refused came = next.Behind (record { items = item.Rejected came 3 (codes "no canister") ∷ []; state = state.NoActor (came + 1) })
