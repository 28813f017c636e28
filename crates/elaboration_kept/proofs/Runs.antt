-- Runs of elaborated programs are runs of the well-typed programs from which they are made.
use Rattle.std.proofs.Common.{◌≡◌, ℕ, ◌*◌, ◌≤◌, List, length, map, Some, None, refl, sym, subst, arith}
use Rattle.std.specs.List.{AllByRecursion}
use Rattle.mo_values.specs.Shapes.{Bytes}
use Rattle.mo_actor.specs.Measures.{Measure, Spent, Unmeasured}
use Rattle.mo_actor.specs.Passes.{CommittedState}
use Rattle.mo_actor.specs.Steps.{ActorRun}
use Rattle.core_ir.specs.Actor.{core_language}
use Rattle.core_ir.specs.CoreMachine.{Waiting}
use Rattle.core_ir.specs.Expressions.{Core}
use Rattle.core_ir.specs.Messages.{Messages}
use Rattle.core_laws.proofs.ComesOut.{Covers}
use Rattle.core_actors.proofs.OneOfEach.{carry_each}
use Rattle.typed_tree.specs.Programs.{Program}
use Rattle.typed_tree.specs.ProgramView.{program}
use Rattle.mo_meaning.specs.Coding.{Types, Coding, IsFaithful}
use Rattle.mo_meaning.specs.Kernel.{Kept}
use Rattle.mo_machine.specs.ActorLanguage.{machine}
use Rattle.mo_machine.specs.States.{by_states}
use Rattle.mo_machine.proofs.ActorRuns.{run_alike}
use Rattle.program_soundness.specs.Actors.{IsProper}
use Rattle.elaboration.specs.Playing.{messages_of}
use Rattle.elaboration.specs.Programs.{elaborated}
use Rattle.elaboration_actors.specs.Actors.{Related, Weighs, SoundActor, StartsAndSaves}
use Rattle.elaboration_actors.proofs.Actors.{keeps}
use Rattle.elaboration_actors.proofs.Messages.{messages_are_told}
use Rattle.elaboration_actors.proofs.Runs.{spent_covers, map_twice}
use Rattle.elaboration_starts.proofs.Following.{installs_follow, upgrades_follow}
use Rattle.elaboration_starts.proofs.Keeping.{saves_follow}
use Rattle.elaboration_kept.specs.Premises.{IsSafe, IsAnything}
use Rattle.elaboration_kept.specs.Runs.{Version, typed_actor, elaborated_actor, IsVersion, RunsBy, WellTypedRunsKeep, MeasuredWellTypedRunsKeep}
use Rattle.elaboration_kept.proofs.Premises.{actors_are_sound, starts_are_sound, saves_are_sound}

module _ (times : ℕ) (enough : 3 ≤ times) (coding : Coding) (faithful : IsFaithful coding) (own : Bytes) (short : length own ≤ 29) where
  abbrev types_of : Version → Types
  types_of v = v.program_of.types

  abbrev source : Version → Program
  source v = program v.program_of

  abbrev core : Version → Core
  core v = elaborated (source v)

  abbrev told : Version → Messages Kept
  told v = messages_of coding (types_of v) (source v)

  abbrev R : Version → CommittedState machine → CommittedState (core_language Waiting Kept) → Type 0
  R v s t = Related coding (types_of v) (source v) (core v) (told v) own (IsSafe (types_of v) (source v)) s t

  pub actor_is_sound : (v : Version) → IsVersion times v → SoundActor times coding (types_of v) (source v) v.first own IsProper (IsSafe (types_of v) (source v)) IsAnything
  actor_is_sound v i = actors_are_sound times enough coding faithful v.program_of i.well_typed i.sized v.first own short

  pub starting : (v : Version) → IsVersion times v → StartsAndSaves times coding (types_of v) (source v) v.first own IsProper (IsSafe (types_of v) (source v)) IsAnything (core v) (told v) v.memory
  starting v i = record {
    installs = installs_follow times enough coding (types_of v) (source v) v.first v.memory own refl i.stands (starts_are_sound times enough coding faithful v.program_of i.well_typed i.sized own short None);
    starts = λ kept fits vs is.
        upgrades_follow times enough coding (types_of v) (source v) v.first v.memory own refl i.stands kept vs is (starts_are_sound times enough coding faithful v.program_of i.well_typed i.sized own short (Some kept));
    saves = λ number proper a safe known g fields saving.
        saves_follow times enough coding (types_of v) (source v) (core v) v.first v.memory own refl known a.store g fields saving
        (saves_are_sound times enough coding v.program_of i.well_typed i.sized own safe.0.answers safe.0.kinds a.store safe.0.fields safe.1.fields);
  }

  runs_by : (pays_old pays_new : Measure) → ((v : Version) → IsVersion times v → (c d : ℕ) → d ≤ times * c → Covers times pays_old pays_new v.first c v.memory d) → (versions : List Version) → AllByRecursion (IsVersion times) versions
      → RunsBy coding own pays_old pays_new versions
  runs_by pays_old pays_new covers versions all events proper items run =
      run_alike coding own (map typed_actor versions) pays_old events items
      (subst (λ ps. ActorRun pays_old ps own events items) (sym (map_twice typed_actor (by_states coding) versions))
      (carry_each Version (λ v. by_states coding (typed_actor v)) (elaborated_actor coding) R (IsVersion times) (λ k l. (l ≡ k) × IsAnything k) (Weighs times) IsProper pays_old pays_new own
      (λ v i. keeps times (omega (arith, enough)) coding (types_of v) (source v) v.first own IsProper (IsSafe (types_of v) (source v)) IsAnything (actor_is_sound v i) (core v) (told v) v.memory (messages_are_told coding (types_of v) (source v)) refl (starting v i) pays_old pays_new (covers v i))
      versions all events proper items run))

pub well_typed_runs_keep : WellTypedRunsKeep
well_typed_runs_keep times enough coding faithful own short versions all =
    runs_by times enough coding faithful own short Unmeasured Unmeasured (λ v i c d g cause w dep w' dep' wl dl h. tt) versions all

pub measured_runs_keep : MeasuredWellTypedRunsKeep
measured_runs_keep times enough coding faithful own short versions all steps stack pages more_steps more_pages a b =
    runs_by times enough coding faithful own short (Spent steps stack pages) (Spent more_steps stack more_pages)
    (λ v i c d g. spent_covers times (omega (arith, enough)) steps stack pages more_steps more_pages v.first v.memory a b i.memory c d g) versions all
