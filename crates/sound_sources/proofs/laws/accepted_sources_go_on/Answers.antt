use Rattle.std.proofs.Common.{[], ◌∷◌}
use Rattle.mo_actor.specs.Measures.{Unmeasured}
use Rattle.typed_tree.specs.ProgramView.{program}
use Rattle.mo_meaning.specs.Actor.{meaning}
use Rattle.program_soundness.proofs.Actors.{reached_typed}
use Rattle.program_soundness.proofs.Goes.{run_of}
use Rattle.sound_sources.proofs.Sources.{all_typed}
use Rattle.sound_sources.proofs.laws.accepted_sources_go_on.Goals as goal

pub returns-clause-run : goal.returns-clause-run
returns-clause-run c = λ source made h coding faithful first own short steps stack pages events proper said.
    run_of coding faithful steps stack pages (meaning coding first made.types (program made) ∷ []) (all_typed source made h coding first) own short 0 events proper said

pub returns-clause-states : goal.returns-clause-states
returns-clause-states c = λ source made h coding faithful first own short events last proper r.
    reached_typed coding faithful Unmeasured (meaning coding first made.types (program made) ∷ []) (all_typed source made h coding first) own short events last proper r
