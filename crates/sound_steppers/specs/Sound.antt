-- Steppers that go on: nothing in what they stand for is stuck (Motoko language manual, section "Type soundness").
use Rattle.std.specs.Prelude.{ℕ, List, [], map}
use Rattle.play_script.specs.declared.event.Event.{Event}
use Rattle.play_script.specs.declared.item.Item.{Item}
use Rattle.mo_values.specs.Shapes.{Bytes}
use Rattle.mo_actor.specs.Courses.{ComesTo}
use Rattle.mo_actor.specs.Measures.{Spent, Unmeasured}
use Rattle.mo_actor.specs.Outcomes.{Outcome}
use Rattle.mo_actor.specs.States.{ActorState, NoActor}
use Rattle.typed_tree.specs.declared.program.Program.{Program as Written}
use Rattle.typed_tree.specs.Language.{Functions}
use Rattle.mo_meaning.specs.Coding.{Coding}
use Rattle.mo_meaning.specs.Kernel.{kernel}
use Rattle.mo_machine.specs.ActorLanguage.{machine}
use Rattle.mo_machine.specs.States.{by_meaning, UnloadsTo}
use Rattle.program_soundness.specs.Actors.{IsProper, IsSaid, StateTyped}
use Rattle.arena_states.specs.Groups.{HasGroups}
use Rattle.stepper.specs.declared.state.Stepper.{Stepper}
use Rattle.stepper.specs.Runs.{typed, RunsTo}
use Rattle.stepper.specs.Standing.{state_of, table_in}
use Rattle.stepper.specs.Stepping.{course_of}

-- What the stepper stands for behind these events is a state of their run by the meaning. It is typed, and the course of each further event, which
-- is what the stepper follows, comes to something under any limits.
pub record GoesOn (coding : Coding) (firsts : Written → ℕ) (programs : List Written) (own : Bytes) (events : List Event) (items : List Item) (last : Stepper) : Type 0 where
  pub groups : ℕ → Functions
  pub known : HasGroups groups (table_in last.state)
  pub charged : ℕ
  pub state : ActorState kernel
  pub stands : UnloadsTo coding (state_of coding firsts groups last.state charged) state
  pub runs : RunsTo Unmeasured (map (by_meaning coding) (map (typed firsts) programs)) own (NoActor 0 []) events items state
  pub typed : StateTyped coding state
  pub goes_on : (e : Event) → IsProper e → IsSaid e state → (steps stack pages : ℕ)
      → (reached : Outcome (ActorState machine)) × ComesTo (Spent steps stack pages) (course_of coding firsts groups programs own e last.state charged) reached
