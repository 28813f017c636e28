-- Events in turn.
use Rattle.std.specs.Prelude.{◌≡◌, ℕ, List, [], ◌∷◌, ◌++◌}
use Rattle.play_script.specs.declared.event.Event.{Event}
use Rattle.play_script.specs.declared.item.Item.{Item}
use Rattle.mo_values.specs.Shapes.{Bytes}
use Rattle.mo_actor.specs.Languages.{Language}
use Rattle.mo_actor.specs.Measures.{Measure}
use Rattle.mo_actor.specs.Outcomes.{Outcome}
use Rattle.mo_actor.specs.Programs as Programs
use Rattle.mo_actor.specs.States.{ActorState}
use Rattle.mo_actor.specs.Steps.{Step}
use Rattle.typed_tree.specs.declared.program.Program.{Program as Written}
use Rattle.typed_tree.specs.ProgramView.{program}
use Rattle.mo_machine.specs.States.{TypedActor}
use Rattle.stepper.specs.declared.state.Stepped.TheVariants as stepped
use Rattle.stepper.specs.declared.state.Stepper.{Stepper}
use Rattle.stepper.specs.Stepping.{IsStep}

-- each event comes to its items, within some number of turns, and the last leaves this stepper
abbrev pub StepsTo : Stepper → List Event → List Item → Stepper → Type 0
StepsTo x [] items last = (items ≡ []) × (last ≡ x)
StepsTo x (e ∷ es) items last =
    (n : ℕ) × (y : Stepper) × (now : List Item) × IsStep e n x y (stepped.Items now)
    × (others : List Item) × (items ≡ now ++ others) × StepsTo y es others last

abbrev pub Steps : Stepper → List Event → List Item → Type 0
Steps x es items = (last : Stepper) × StepsTo x es items last

-- the events in turn have these items, and lead from the one state of an actor to the other
module _ {L : Language} (pays : Measure) (programs : List (Programs.Program L)) (own : Bytes) where
  abbrev pub RunsTo : ActorState L → List Event → List Item → ActorState L → Type 0
  RunsTo state [] items last = (items ≡ []) × (last ≡ state)
  RunsTo state (e ∷ events) items last =
      (reached : Outcome (ActorState L)) × Step pays programs own e state reached
      × (others : List Item) × (items ≡ reached.items ++ others) × RunsTo reached.next events others last

abbrev pub typed : (Written → ℕ) → Written → TypedActor
typed firsts p = record { first = firsts p; types = p.types; program = program p }
