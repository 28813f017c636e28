-- The laws of both passes on whole actors.
use Rattle.std.proofs.Common.{◌≡◌, ℕ, ◌*◌, ◌≤◌, true, Bool, List, [], arith as arithmetic}
use Rattle.std.specs.List.{AllByRecursion}
use Rattle.play_script.specs.declared.event.Event.{Event}
use Rattle.play_script.specs.declared.item.Word.TheVariants as word
use Rattle.mo_values.specs.Shapes.{Bytes}
use Rattle.mo_actor.specs.Measures.{Measure, Spent, Unmeasured}
use Rattle.mo_actor.specs.Passes.{CommittedState}
use Rattle.core_ir.specs.Programs.{Program}
use Rattle.core_ir.specs.Worlds.{World}
use Rattle.core_ir.specs.Executions.{Machine}
use Rattle.core_ir.specs.CoreMachine.{core_machine}
use Rattle.core_ir.specs.CodeMachine.{code_machine}
use Rattle.core_ir.specs.Messages.{Messages}
use Rattle.core_ir.specs.Actor.{actor_program, core_language}
use Rattle.core_laws.specs.Conversion.{convert_program}
use Rattle.core_laws.specs.Converted.{world_as, Ordered}
use Rattle.core_laws.specs.Makes.{MakesEarlier}
use Rattle.core_ir.specs.Nested.{Nested}
use Rattle.core_laws.specs.Followed.{Followed}
use Rattle.core_laws.specs.Laws.{flattened, needed}
use Rattle.core_laws.specs.Split.{split_program}
use Rattle.core_laws.specs.Uses.{needs_of}
use Rattle.core_laws.proofs.ActorLaws.{splitting_follows, conversion_follows, passes_follow}
use Rattle.core_laws.proofs.ComesOut.{Covers, spent_covers}
use Rattle.core_actors.specs.KeptActors.{Related, SameKept, Weighs}
use Rattle.core_actors.specs.Laws.{KeepsBy, KeptActor, KeptUnbroken, KeptRuns, Qualifies, RunsBy, Version, old_actor, new_actor, SplittingKeeps, SplittingKeepsRuns, ConversionKeeps, ConversionKeepsRuns, PassesKeep, PassesKeepRuns}
use Rattle.core_actors.proofs.KeptRuns.{keeps}
use Rattle.core_actors.proofs.OneOfEach.{carry_each}

-- nothing is asked of exhaustions
unasked : (times first charged memory charged_new : ℕ) → Covers times Unmeasured Unmeasured first charged memory charged_new
unasked times first charged memory charged_new cause w d w' d' wl dl h = tt

-- under the same limits at the same weight
spent_same : (steps stack pages steps_new pages_new first charged memory charged_new : ℕ) → 1 * steps ≤ steps_new → 1 * pages ≤ pages_new → memory ≤ 1 * first → charged_new ≤ 1 * charged
    → Covers 1 (Spent steps stack pages) (Spent steps_new stack pages_new) first charged memory charged_new
spent_same steps stack pages steps_new pages_new first charged memory charged_new a b m g word.Steps w d w' d' wl dl h = omega (arithmetic, a, wl, h)
spent_same steps stack pages steps_new pages_new first charged memory charged_new a b m g word.Stack w d w' d' wl dl h = omega (arithmetic, dl, h)
spent_same steps stack pages steps_new pages_new first charged memory charged_new a b m g word.Heap w d w' d' wl dl h = omega (arithmetic, b, m, g, wl, h)
spent_same steps stack pages steps_new pages_new first charged memory charged_new a b m g _ w d w' d' wl dl h = absurd h

module _ {S T V W K B C : Type 0} (times : ℕ) (one : 1 ≤ times) (moved : World → World) (old : Machine S V) (new : Machine T W) (messages : Messages K) (p : Program B) (q : Program C) (own : Bytes)
    (followed : Followed times moved old new messages p q own)
    (spent : (steps stack pages more_steps more_pages first charged memory charged_new : ℕ) → times * steps ≤ more_steps → times * pages ≤ more_pages → memory ≤ times * first → charged_new ≤ times * charged
    → Covers times (Spent steps stack pages) (Spent more_steps stack more_pages) first charged memory charged_new) where
  kept : KeptUnbroken times moved old new messages p q own
  kept first memory less allowed safe fits unbroken = record {
    keeps = kept_by Unmeasured Unmeasured (λ c d l. unasked times first c memory d);
    measured = λ steps stack pages more_steps more_pages a b. kept_by (Spent steps stack pages) (Spent more_steps stack more_pages) (λ c d l. spent steps stack pages more_steps more_pages first c memory d a b less l);
  }
    where
      kept_by : (pays_old pays_new : Measure) → ((c d : ℕ) → d ≤ times * c → Covers times pays_old pays_new first c memory d) → KeepsBy times moved old new messages p q own first memory allowed safe fits pays_old pays_new
      kept_by pays_old pays_new covers = keeps times one moved old new messages p q own followed first memory pays_old pays_new covers (λ e. allowed e ≡ true) (λ s. safe s ≡ true) (λ k. fits k ≡ true) unbroken

pub splitting_keeps : (K : Type 0) → SplittingKeeps K
splitting_keeps K p nested messages own =
    kept 2 (omega arithmetic) (λ world. world) (core_machine p) (code_machine (split_program p)) messages p (split_program p) own (splitting_follows K p nested messages own)
    (λ steps stack pages more_steps more_pages first c memory d a b m g. spent_covers steps stack pages more_steps more_pages first c memory d a b m g)

pub conversion_keeps : (K : Type 0) → ConversionKeeps K
conversion_keeps K p ordered messages own =
    kept 1 (omega arithmetic) (world_as (needs_of [] p.groups)) (code_machine p) (code_machine (convert_program p)) messages p (convert_program p) own (conversion_follows K p ordered messages own)
    (λ steps stack pages more_steps more_pages first c memory d a b m g. spent_same steps stack pages more_steps more_pages first c memory d a b m g)

pub passes_keep : (K : Type 0) → PassesKeep K
passes_keep K p nested makes messages own =
    kept 2 (omega arithmetic) (world_as (needed p)) (core_machine p) (code_machine (flattened p)) messages p (flattened p) own (passes_follow K p nested makes messages own)
    (λ steps stack pages more_steps more_pages first c memory d a b m g. spent_covers steps stack pages more_steps more_pages first c memory d a b m g)

-- ---- over lists of events

module _ {S T V W B C : Type 0} (K : Type 0) (times : ℕ) (old : Program B → Machine S V) (new : Program C → Machine T W) (made : Program B → Program C) (Asked : Program B → Type 0) (moved : Program B → World → World)
    (law : (p : Program B) → Asked p → (messages : Messages K) (own : Bytes) → KeptUnbroken times (moved p) (old p) (new (made p)) messages p (made p) own) where
  module _ (own : List ℕ) (allowed : Event → Bool) (fits : K → Bool) where
    abbrev Alike : Version B V K → CommittedState (core_language V K) → CommittedState (core_language W K) → Type 0
    Alike v s t = Related times (moved v.program) (old v.program) (new (made v.program)) v.messages v.program (made v.program) own (λ s. v.safe s ≡ true) (λ k. fits k ≡ true) s t

    actor_kept : (v : Version B V K) → Qualifies K times old new made Asked own allowed fits v
        → KeptActor times (moved v.program) (old v.program) (new (made v.program)) v.messages v.program (made v.program) own v.first v.memory allowed v.safe fits
    actor_kept v q = law v.program q.0 v.messages own v.first v.memory q.1 allowed v.safe fits q.2

    runs_by : (pays_old pays_new : Measure)
        → ((v : Version B V K) → Qualifies K times old new made Asked own allowed fits v
        → KeepsBy times (moved v.program) (old v.program) (new (made v.program)) v.messages v.program (made v.program) own v.first v.memory allowed v.safe fits pays_old pays_new)
        → (versions : List (Version B V K)) → AllByRecursion (Qualifies K times old new made Asked own allowed fits) versions → RunsBy K times old new made Asked pays_old pays_new own allowed versions
    runs_by pays_old pays_new each versions all events given items run =
        carry_each (Version B V K) (old_actor K times old new made Asked) (new_actor K times old new made Asked) Alike (Qualifies K times old new made Asked own allowed fits)
        (λ k l. (l ≡ k) × (fits k ≡ true)) (λ x y. y ≤ times * x) (λ e. allowed e ≡ true) pays_old pays_new own each versions all events given items run

  kept_runs : KeptRuns K times old new made Asked
  kept_runs = record {
    runs = λ own allowed fits versions all events given items run. runs_by own allowed fits Unmeasured Unmeasured (λ v q. (actor_kept own allowed fits v q).keeps) versions all events given items run;
    measured = λ own allowed fits versions all steps stack pages more_steps more_pages a b events given items run.
        runs_by own allowed fits (Spent steps stack pages) (Spent more_steps stack more_pages) (λ v q. (actor_kept own allowed fits v q).measured steps stack pages more_steps more_pages a b) versions all events given items run;
  }

pub splitting_keeps_runs : (K : Type 0) → SplittingKeepsRuns K
splitting_keeps_runs K = kept_runs K 2 core_machine code_machine split_program Nested (λ p world. world) (splitting_keeps K)

pub conversion_keeps_runs : (K : Type 0) → ConversionKeepsRuns K
conversion_keeps_runs K = kept_runs K 1 code_machine code_machine convert_program Ordered (λ p. world_as (needs_of [] p.groups)) (conversion_keeps K)

pub passes_keep_runs : (K : Type 0) → PassesKeepRuns K
passes_keep_runs K = kept_runs K 2 core_machine code_machine flattened (λ p. Nested p × MakesEarlier p) (λ p. world_as (needed p)) (λ p asked. passes_keep K p asked.0 asked.1)
