-- Elaborated programs qualify for the laws of runs.
use Rattle.std.proofs.Common.{◌≡◌, ℕ, ◌≤◌, Bool, true, List, [], ◌∷◌, sym, subst, arith}
use Rattle.std.specs.List.{AllByRecursion}
use Rattle.play_script.specs.declared.event.Event.{Event}
use Rattle.mo_types.specs.Graph.{head_at}
use Rattle.core_ir.specs.Expressions.{Core}
use Rattle.mo_meaning.specs.Coding.{Coding}
use Rattle.mo_meaning.specs.Kernel.{Kept}
use Rattle.elaboration.specs.Playing.{messages_of}
use Rattle.elaboration.specs.Programs.{elaborated}
use Rattle.elaboration_actors.specs.Actors.{SameMessages, StartsAndSaves}
use Rattle.elaboration_actors.specs.Runs.{Version, Qualifies}
use Rattle.elaboration_actors.proofs.Messages.{messages_are_told}
use Rattle.elaboration_actors.proofs.Runs.{runs_keep, measured_runs_keep}
use Rattle.elaboration_starts.specs.Runs.{IsElaborated, ElaboratedRunsKeep, MeasuredElaboratedRunsKeep}
use Rattle.elaboration_starts.proofs.Following.{installs_follow, upgrades_follow}
use Rattle.elaboration_starts.proofs.Keeping.{saves_follow}

module _ (times : ℕ) (enough : 3 ≤ times) (coding : Coding) (own : List ℕ) (allowed : Event → Bool) (fits : Kept → Bool) where
  abbrev Starting : Version → Type 0
  Starting v =
      StartsAndSaves times coding v.typed.types v.typed.program v.typed.first own (λ e. allowed e ≡ true) (λ s. v.safe s ≡ true) (λ k. fits k ≡ true) (elaborated v.typed.program) (messages_of coding v.typed.types v.typed.program) v.memory

  starting : (v : Version) → IsElaborated times coding own allowed fits v → (elaborated v.typed.program).head ≡ head_at v.typed.types → Starting v
  starting v i head = record {
    installs = installs_follow times enough coding v.typed.types v.typed.program v.typed.first v.memory own head i.stands i.installs;
    starts = λ kept fitting vs is. upgrades_follow times enough coding v.typed.types v.typed.program v.typed.first v.memory own head i.stands kept vs is (i.upgrades kept fitting vs is);
    saves = λ number allows a safe known g fields saving.
        saves_follow times enough coding v.typed.types v.typed.program (elaborated v.typed.program) v.typed.first v.memory own head known a.store g fields saving (i.saves number allows a safe);
  }

  qualifies : (v : Version) → IsElaborated times coding own allowed fits v → Qualifies times coding own allowed fits v
  qualifies v i = record {
    messages = subst (λ m. SameMessages coding v.typed.types v.typed.program m) (sym i.messages) (messages_are_told coding v.typed.types v.typed.program);
    head = i.head;
    memory = i.memory;
    sound = i.sound;
    starting = subst (λ m. StartsAndSaves times coding v.typed.types v.typed.program v.typed.first own (λ e. allowed e ≡ true) (λ s. v.safe s ≡ true) (λ k. fits k ≡ true) v.core m v.memory) (sym i.messages)
        (subst (λ c. StartsAndSaves times coding v.typed.types v.typed.program v.typed.first own (λ e. allowed e ≡ true) (λ s. v.safe s ≡ true) (λ k. fits k ≡ true) c (messages_of coding v.typed.types v.typed.program) v.memory) (sym i.core)
        (starting v i (subst (λ (c : Core). c.head ≡ head_at v.typed.types) i.core i.head)));
  }

  all_qualify : (versions : List Version) → AllByRecursion (IsElaborated times coding own allowed fits) versions → AllByRecursion (Qualifies times coding own allowed fits) versions
  all_qualify [] h = tt
  all_qualify (v ∷ versions) h = (qualifies v (h.0), all_qualify versions (h.1))

pub elaborated_runs_keep : ElaboratedRunsKeep
elaborated_runs_keep times enough coding own allowed fits versions all = runs_keep times (omega (arith, enough)) coding own allowed fits versions (all_qualify times enough coding own allowed fits versions all)

pub measured_elaborated_runs_keep : MeasuredElaboratedRunsKeep
measured_elaborated_runs_keep times enough coding own allowed fits versions all = measured_runs_keep times (omega (arith, enough)) coding own allowed fits versions (all_qualify times enough coding own allowed fits versions all)
