use Rattle.mo_words.proofs.Ends.{no_play, no_run, no_verb}
use Rattle.mo_words.proofs.command.read_words.Goals as goal

pub returns-in-None-read_replay-clause-none : goal.returns-in-None-read_replay-clause-none
returns-in-None-read_replay-clause-none c = no_play _ _ _ c.in-Some.ensures.found (rw c.in-Some-Play.field-0-is at c.in-Some-Play.ensures.found) c.in-None-read_replay.ensures.none

pub returns-in-None-read_replay-2-clause-none : goal.returns-in-None-read_replay-2-clause-none
returns-in-None-read_replay-2-clause-none c = no_run _ _ _ c.in-Some.ensures.found (rw c.in-Some-Run.field-0-is at c.in-Some-Run.ensures.found) c.in-None-read_replay-2.ensures.none

pub returns-in-None-clause-none : goal.returns-in-None-clause-none
returns-in-None-clause-none c = no_verb _ _ _ c.in-Some.ensures.found c.in-None.ensures.none
