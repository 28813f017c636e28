-- That executions of an actor end where those of another do.
use Rattle.std.specs.Prelude.{◌≡◌, ℕ, List, Option, Some, None}
use Rattle.play_script.specs.declared.event.Event.{Event}
use Rattle.play_script.specs.declared.event.Event.TheVariants as event
use Rattle.mo_values.specs.Shapes.{Bytes}
use Rattle.mo_actor.specs.Passes.{CommittedState, committed_state}
use Rattle.mo_actor.specs.States.{Actor}
use Rattle.core_ir.specs.Actor as core_actor
use Rattle.core_ir.specs.Expressions.{Core}
use Rattle.core_ir.specs.Messages.{Messages}
use Rattle.typed_tree.specs.Language as language
use Rattle.typed_tree.specs.Programs.{Program}
use Rattle.mo_meaning.specs.Coding.{Types, Coding}
use Rattle.mo_meaning.specs.Kernel.{Kept}
use Rattle.mo_meaning.specs.Starting.{all_taken, all_kept}
use Rattle.mo_machine.specs.ActorLanguage.{machine}
use Rattle.elaboration_values.specs.Belonging.{Known}
use Rattle.elaboration_actors.specs.Actors.{globals, typed, made}
use Rattle.elaboration_actors.specs.Bodies.{FieldsBelong}
use Rattle.elaboration_actors.specs.Ends.{EndsToo}
use Rattle.elaboration_actors.specs.Saving.{SavingBelongs}

module _ (times : ℕ) (coding : Coding) (types : Types) (p : Program) (first : ℕ) (own : Bytes) (Allowed : Event → Type 0) (Safe : CommittedState machine → Type 0) (Fits : Kept → Type 0) (core : Core) (messages : Messages Kept) (memory : ℕ) where
  -- starts and saves of the elaborated actor end where those of the typed one do
  pub record StartsAndSavesEnd : Type 0 where
    pub installs : EndsToo ((typed times coding types p first own Allowed Safe Fits).start own None) ((made times coding types p first own Allowed Safe Fits core messages memory).start own None)
    pub starts : (kept : Kept) → Fits kept → (vs : List (Option language.Value)) → all_kept (all_taken coding kept.types types kept.variables p.stable) ≡ Some vs
        → EndsToo ((typed times coding types p first own Allowed Safe Fits).start own (Some kept)) ((made times coding types p first own Allowed Safe Fits core messages memory).start own (Some kept))
    pub saves : (number : ℕ) → Allowed (event.Upgrade number) → (a : Actor machine) → Safe (committed_state a) → (known : List Known) (g : core_actor.Fields) → FieldsBelong core g.names (globals core own g.names) known a.store g → SavingBelongs p core known (globals core own g.names) a.store.exports
        → EndsToo ((typed times coding types p first own Allowed Safe Fits).save own a.store) ((made times coding types p first own Allowed Safe Fits core messages memory).save own g)
