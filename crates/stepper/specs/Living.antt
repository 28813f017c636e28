-- Events in the life of one program.
use Rattle.std.specs.Prelude.{◌≡◌, ℕ}
use Rattle.play_script.specs.declared.event.Event.{Event}
use Rattle.play_script.specs.declared.event.Event.TheVariants as event
use Rattle.typed_tree.specs.declared.program.Program.{Program as Written}
use Rattle.arena_events.specs.declared.filling.Received.{Received}
use Rattle.arena_events.specs.declared.filling.Received.TheVariants as receives
use Rattle.arena_outcomes.specs.declared.ran.Lived.{Lived}
use Rattle.arena_outcomes.specs.declared.ran.Lived.TheVariants as lived
use Rattle.arena_outcomes.specs.declared.ran.Over.{Over}
use Rattle.stepper.specs.declared.state.Next.{Next}
use Rattle.stepper.specs.declared.state.Next.TheVariants as next
use Rattle.stepper.specs.declared.state.Running.{Running}
use Rattle.stepper.specs.declared.state.State.TheVariants as state

-- an answer as an event
abbrev pub answer_event : (number : ℕ) → Received → Event
answer_event number (receives.Reply bytes) = event.Reply number bytes.now
answer_event number (receives.Reject code text) = event.Reject number code text.now

-- the state behind it is the program with this actor
abbrev pub IsBehind : Written → Over → Next → Type 0
IsBehind p o n = (r : Running) × (n ≡ next.Behind (record { items = o.items; state = state.Running r })) × (r.program.now ≡ p) × (r.actor ≡ o.actor)

abbrev pub IsNextOf : Written → Lived → Next → Type 0
IsNextOf p (lived.Still table) n = n ≡ next.Still
IsNextOf p lived.Ignored n = n ≡ next.Ignored
IsNextOf p (lived.Over o) n = IsBehind p o n
