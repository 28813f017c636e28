-- Judged programs qualify for the law of whole runs.
use Rattle.std.proofs.Common.{ℕ, List, [], ◌∷◌}
use Rattle.std.specs.List.{AllByRecursion}
use Rattle.elaboration_kept.specs.Runs.{Version, IsVersion}
use Rattle.elaboration_kept.proofs.Runs.{well_typed_runs_keep, measured_runs_keep}
use Rattle.elaboration_back.proofs.Runs.{runs_elaborate}
use Rattle.elaboration_judged.specs.Judged.{IsSound}
use Rattle.elaboration_judged.specs.Runs.{IsJudgedVersion, JudgedRunsKeep, MeasuredJudgedRunsKeep, JudgedRunsElaborate}
use Rattle.elaboration_judged.proofs.Programs.{judged_programs_are_sound}

version : (times : ℕ) (v : Version) → IsJudgedVersion times v → IsVersion times v
version times v j =
    let s : IsSound v.program_of = judged_programs_are_sound v.program_of j.judged in
    record { well_typed = s.well_typed; sized = s.sized; stands = s.stands; memory = j.memory }

all_versions : (times : ℕ) (versions : List Version) → AllByRecursion (IsJudgedVersion times) versions → AllByRecursion (IsVersion times) versions
all_versions times [] h = tt
all_versions times (v ∷ versions) h = (version times v h.0, all_versions times versions h.1)

pub judged_runs_keep : JudgedRunsKeep
judged_runs_keep times enough coding faithful own short versions all = well_typed_runs_keep times enough coding faithful own short versions (all_versions times versions all)

pub measured_judged_runs_keep : MeasuredJudgedRunsKeep
measured_judged_runs_keep times enough coding faithful own short versions all = measured_runs_keep times enough coding faithful own short versions (all_versions times versions all)

pub judged_runs_elaborate : JudgedRunsElaborate
judged_runs_elaborate times enough coding faithful own short versions all = runs_elaborate times enough coding faithful own short versions (all_versions times versions all)
