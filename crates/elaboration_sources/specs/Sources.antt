-- Runs of what is elaborated of accepted sources (Motoko language manual, sections "Actors", "Stable variables" and "Type soundness").
use Rattle.std.specs.Prelude.{ℕ, ◌*◌, ◌≤◌, List, length}
use Rattle.std.specs.List.{AllByRecursion}
use Rattle.mo_values.specs.Shapes.{Bytes}
use Rattle.mo_actor.specs.Measures.{Spent, Unmeasured}
use Rattle.typed_tree.specs.declared.program.Program.{Program}
use Rattle.mo_front.specs.Fronts.{Accepted}
use Rattle.mo_meaning.specs.Coding.{Coding, IsFaithful}
use Rattle.elaboration_judged.specs.Judged.{IsJudged}
use Rattle.elaboration_judged.specs.Runs.{ElaboratesBy}
use Rattle.elaboration_kept.specs.Runs.{Version, RunsBy}

-- what an accepted source is written out to, is written out of a judged one
abbrev pub AcceptedProgramsAreJudged : Type 0
AcceptedProgramsAreJudged = (source : List ℕ) (made : Program) → Accepted source made → IsJudged made

-- the program of an accepted source
pub record IsAcceptedVersion (times : ℕ) (v : Version) : Type 0 where
  pub source : List ℕ
  pub accepted : Accepted source v.program_of
  pub memory : v.memory ≤ times * v.first

abbrev pub AcceptedRunsKeep : Type 0
AcceptedRunsKeep =
    (times : ℕ) → 3 ≤ times → (coding : Coding) → IsFaithful coding → (own : Bytes) → length own ≤ 29 → (versions : List Version) → AllByRecursion (IsAcceptedVersion times) versions
    → RunsBy coding own Unmeasured Unmeasured versions

-- with exhaustions, deserved by so many steps and pages
abbrev pub MeasuredAcceptedRunsKeep : Type 0
MeasuredAcceptedRunsKeep =
    (times : ℕ) → 3 ≤ times → (coding : Coding) → IsFaithful coding → (own : Bytes) → length own ≤ 29 → (versions : List Version) → AllByRecursion (IsAcceptedVersion times) versions
    → (steps stack pages more_steps more_pages : ℕ) → times * steps ≤ more_steps → times * pages ≤ more_pages → RunsBy coding own (Spent steps stack pages) (Spent more_steps stack more_pages) versions

-- and the other way round, where nothing is exhausted
abbrev pub AcceptedRunsElaborate : Type 0
AcceptedRunsElaborate =
    (times : ℕ) → 3 ≤ times → (coding : Coding) → IsFaithful coding → (own : Bytes) → length own ≤ 29 → (versions : List Version) → AllByRecursion (IsAcceptedVersion times) versions
    → ElaboratesBy coding own versions
