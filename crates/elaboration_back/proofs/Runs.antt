-- What well-typed programs do, the programs that are elaborated of them do, where nothing is exhausted.
use Rattle.std.proofs.Common.{◌≡◌, ℕ, ◌*◌, ◌≤◌, length, map, Some, None, refl, subst, arith}
use Rattle.mo_values.specs.Shapes.{Bytes}
use Rattle.mo_actor.specs.Measures.{Never}
use Rattle.mo_actor.specs.Passes.{CommittedState, Keeps}
use Rattle.mo_actor.specs.Programs as actor
use Rattle.mo_actor.specs.Steps.{ActorRun}
use Rattle.core_ir.specs.Actor.{core_language}
use Rattle.core_ir.specs.CoreMachine.{Waiting}
use Rattle.core_ir.specs.Expressions.{Core}
use Rattle.core_ir.specs.Messages.{Messages}
use Rattle.core_laws.proofs.ComesOut.{Covers}
use Rattle.core_actors.proofs.OneOfEach.{carry_each}
use Rattle.typed_tree.specs.Programs.{Program}
use Rattle.typed_tree.specs.ProgramView.{program}
use Rattle.mo_meaning.specs.Coding.{Types, Coding, IsFaithful}
use Rattle.mo_meaning.specs.Kernel.{Kept}
use Rattle.mo_machine.specs.ActorLanguage.{machine}
use Rattle.mo_machine.specs.States.{by_states}
use Rattle.program_soundness.specs.Actors.{IsProper}
use Rattle.elaboration.specs.Playing.{messages_of}
use Rattle.elaboration.specs.Programs.{elaborated}
use Rattle.elaboration_actors.specs.Actors.{Related, Weighs, SoundActor, StartsAndSaves}
use Rattle.elaboration_actors.specs.Back.{StartsAndSavesEnd}
use Rattle.elaboration_actors.proofs.Actors.{keeps}
use Rattle.elaboration_actors.proofs.Messages.{messages_are_told}
use Rattle.elaboration_actors.proofs.Runs.{map_twice}
use Rattle.elaboration_starts.proofs.Following.{installs_end_too, upgrades_end_too}
use Rattle.elaboration_starts.proofs.Keeping.{saves_end}
use Rattle.elaboration_kept.specs.Premises.{IsSafe, IsAnything}
use Rattle.elaboration_kept.specs.Runs.{Version, typed_actor, elaborated_actor, IsVersion}
use Rattle.elaboration_kept.proofs.Premises.{starts_are_sound, saves_are_sound}
use Rattle.elaboration_kept.proofs.Runs as kept_runs
use Rattle.elaboration_back.specs.Runs.{RunsElaborate}
use Rattle.elaboration_back.proofs.Actors.{all_end}
use Rattle.elaboration_back.proofs.Loaded.{run_back}
use Rattle.elaboration_back.proofs.Settled.{all_settle}
use Rattle.elaboration_back.proofs.Turned.{keeps_back}

module _ (times : ℕ) (enough : 3 ≤ times) (coding : Coding) (faithful : IsFaithful coding) (own : Bytes) (short : length own ≤ 29) where
  abbrev types_of : Version → Types
  types_of v = v.program_of.types

  abbrev source : Version → Program
  source v = program v.program_of

  abbrev core : Version → Core
  core v = elaborated (source v)

  abbrev told : Version → Messages Kept
  told v = messages_of coding (types_of v) (source v)

  abbrev old : Version → actor.Program machine
  old v = by_states coding (typed_actor v)

  abbrev R : Version → CommittedState machine → CommittedState (core_language Waiting Kept) → Type 0
  R v s t = Related coding (types_of v) (source v) (core v) (told v) own (IsSafe (types_of v) (source v)) s t

  abbrev K : Kept → Kept → Type 0
  K k l = (l ≡ k) × IsAnything k

  no_cover : (v : Version) (c d : ℕ) → d ≤ times * c → Covers times Never Never v.first c v.memory d
  no_cover v c d g cause w dep w' dep' wl dl h = h

  one : 1 ≤ times
  one = omega (arith, enough)

  three : 3 ≤ times
  three = omega (arith, enough)

  ending : (v : Version) → IsVersion times v → StartsAndSavesEnd times coding (types_of v) (source v) v.first own IsProper (IsSafe (types_of v) (source v)) IsAnything (core v) (told v) v.memory
  ending v i = record {
    installs = installs_end_too times enough coding (types_of v) (source v) v.first v.memory own refl i.stands (starts_are_sound times three coding faithful v.program_of i.well_typed i.sized own short None);
    starts = λ kept fits vs is.
        upgrades_end_too times enough coding (types_of v) (source v) v.first v.memory own refl i.stands kept vs is (starts_are_sound times three coding faithful v.program_of i.well_typed i.sized own short (Some kept));
    saves = λ number proper a safe known g fields saving.
        saves_end times enough coding (types_of v) (source v) (core v) v.first v.memory own refl known a.store g fields saving
        (saves_are_sound times three coding v.program_of i.well_typed i.sized own safe.0.answers safe.0.kinds a.store safe.0.fields safe.1.fields);
  }

  each : (v : Version) → IsVersion times v → Keeps {S = core_language Waiting Kept} {T = machine} (λ t s. R v s t) (λ l k. K k l) (λ y x. Weighs times x y) IsProper Never Never own (elaborated_actor coding v) (old v)
  each v i =
      let sound : SoundActor times coding (types_of v) (source v) v.first own IsProper (IsSafe (types_of v) (source v)) IsAnything = kept_runs.actor_is_sound times enough coding faithful own short v i in
      let starting : StartsAndSaves times coding (types_of v) (source v) v.first own IsProper (IsSafe (types_of v) (source v)) IsAnything (core v) (told v) v.memory = kept_runs.starting times enough coding faithful own short v i in
      keeps_back (R v) K (Weighs times) IsProper own (old v) (elaborated_actor coding v)
      (keeps times one coding (types_of v) (source v) v.first own IsProper (IsSafe (types_of v) (source v)) IsAnything sound (core v) (told v) v.memory (messages_are_told coding (types_of v) (source v)) refl starting Never Never (no_cover v))
      (all_settle coding (types_of v) (source v) v.first)
      (all_end times one coding (types_of v) (source v) v.first own IsProper (IsSafe (types_of v) (source v)) IsAnything sound (core v) (told v) v.memory (messages_are_told coding (types_of v) (source v)) refl starting (no_cover v) (ending v i))

pub runs_elaborate : RunsElaborate
runs_elaborate times enough coding faithful own short versions all events proper items run =
    carry_each Version (elaborated_actor coding) (λ v. by_states coding (typed_actor v)) (λ v t s. R times enough coding faithful own short v s t) (IsVersion times) (λ l k. K times enough coding faithful own short k l) (λ y x. Weighs times x y) IsProper Never Never own
    (each times enough coding faithful own short) versions all events proper items
    (subst (λ ps. ActorRun Never ps own events items) (map_twice typed_actor (by_states coding) versions) (run_back coding own (map typed_actor versions) Never events items run))
