-- The programs of accepted sources are judged ones.
use Rattle.std.proofs.Common.{ℕ, List, [], ◌∷◌}
use Rattle.std.specs.List.{AllByRecursion}
use Rattle.accepted_programs.proofs.Programs.{graphs_of_trees_are_lawful}
use Rattle.program_facts.proofs.Programs.{programs_are_whole_sources}
use Rattle.program_facts.proofs.Tokens.{tokens_are_written}
use Rattle.elaboration_judged.specs.Runs.{IsJudgedVersion}
use Rattle.elaboration_judged.proofs.Runs.{judged_runs_keep, judged_runs_elaborate, measured_judged_runs_keep}
use Rattle.elaboration_kept.specs.Runs.{Version}
use Rattle.elaboration_sources.specs.Sources.{AcceptedProgramsAreJudged, IsAcceptedVersion, AcceptedRunsKeep, MeasuredAcceptedRunsKeep, AcceptedRunsElaborate}

pub accepted_programs_are_judged : AcceptedProgramsAreJudged
accepted_programs_are_judged source made h =
    let i = h.typed in
    let written = tokens_are_written source h.tokens h.tree (h.lexed).lexed (h.parsed).spelled in
    let graph = graphs_of_trees_are_lawful h.tree made i h.bound written in
    record {
      tree = h.tree;
      made = i.judged;
      typed = record { met = i.met; by = i.comes };
      slots = made.types;
      terms = i.terms;
      number = i.number;
      graph = graph.0;
      all = graph.1;
      source = programs_are_whole_sources h.tree h.bound written made.types i.terms i.number;
      is = i.written;
    }

version : (times : ℕ) (v : Version) → IsAcceptedVersion times v → IsJudgedVersion times v
version times v a = record { judged = accepted_programs_are_judged a.source v.program_of a.accepted; memory = a.memory }

all_versions : (times : ℕ) (versions : List Version) → AllByRecursion (IsAcceptedVersion times) versions → AllByRecursion (IsJudgedVersion times) versions
all_versions times [] h = tt
all_versions times (v ∷ versions) h = (version times v h.0, all_versions times versions h.1)

pub accepted_runs_keep : AcceptedRunsKeep
accepted_runs_keep times enough coding faithful own short versions all = judged_runs_keep times enough coding faithful own short versions (all_versions times versions all)

pub measured_accepted_runs_keep : MeasuredAcceptedRunsKeep
measured_accepted_runs_keep times enough coding faithful own short versions all = measured_judged_runs_keep times enough coding faithful own short versions (all_versions times versions all)

pub accepted_runs_elaborate : AcceptedRunsElaborate
accepted_runs_elaborate times enough coding faithful own short versions all = judged_runs_elaborate times enough coding faithful own short versions (all_versions times versions all)
