-- What well-typed programs do over a list of events by the meaning, where nothing is exhausted, the programs that are elaborated of them do (Motoko language
-- manual, sections "Actors", "Stable variables" and "Type soundness").
use Rattle.std.specs.Prelude.{ℕ, ◌≤◌, List, length, map}
use Rattle.std.specs.List.{AllByRecursion}
use Rattle.play_script.specs.declared.event.Event.{Event}
use Rattle.play_script.specs.declared.item.Item.{Item}
use Rattle.mo_values.specs.Shapes.{Bytes}
use Rattle.mo_actor.specs.Measures.{Never}
use Rattle.mo_actor.specs.Steps.{ActorRun}
use Rattle.mo_meaning.specs.Coding.{Coding, IsFaithful}
use Rattle.mo_machine.specs.States.{by_meaning}
use Rattle.program_soundness.specs.Actors.{IsProper}
use Rattle.elaboration_kept.specs.Runs.{Version, typed_actor, elaborated_actor, IsVersion}

-- upgrades from each of the programs to each among the events
abbrev pub RunsElaborate : Type 0
RunsElaborate =
    (times : ℕ) → 3 ≤ times → (coding : Coding) → IsFaithful coding → (own : Bytes) → length own ≤ 29 → (versions : List Version) → AllByRecursion (IsVersion times) versions
    → (events : List Event) → AllByRecursion IsProper events → (items : List Item)
    → ActorRun Never (map (by_meaning coding) (map typed_actor versions)) own events items → ActorRun Never (map (elaborated_actor coding) versions) own events items
