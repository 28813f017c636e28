use Rattle.mo_actor.specs.Measures.{Spent, Unmeasured}
use Rattle.mo_actor.proofs.Transcripts.{transcripts_are_runs, runs_are_transcripts}
use Rattle.mo_actor.proofs.laws.runs_are_computed.Goals as goal

pub returns-clause-sound : goal.returns-clause-sound
returns-clause-sound g c = transcripts_are_runs _ Unmeasured

pub returns-clause-complete : goal.returns-clause-complete
returns-clause-complete g c = runs_are_transcripts _ Unmeasured

pub returns-clause-measured : goal.returns-clause-measured
returns-clause-measured g c = λ steps stack pages. transcripts_are_runs _ (Spent steps stack pages)

pub returns-clause-all_measured : goal.returns-clause-all_measured
returns-clause-all_measured g c = λ steps stack pages. runs_are_transcripts _ (Spent steps stack pages)
