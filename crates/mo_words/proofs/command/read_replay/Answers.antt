use Rattle.std.proofs.Common.{refl}
use Rattle.mo_words.proofs.Ends.{untrue, replay_found, replay_end, no_first_file, no_files, replay_completes}
use Rattle.mo_words.proofs.command.read_replay.Goals as goal

pub returns-in_default-clause-none : goal.returns-in_default-clause-none
returns-in_default-clause-none c = λ o script files r. c.in_default.ensures.none o script files (replay_completes _ o script files r)

pub returns-in_default-split_one-clause-none : goal.returns-in_default-split_one-clause-none
returns-in_default-split_one-clause-none c = λ o script files r. c.in_default-split_one.ensures.none script files (replay_end _ _ _ o script files c.in-Some.ensures.found r)

pub returns-then-not-is_first_file-clause-none : goal.returns-then-not-is_first_file-clause-none
returns-then-not-is_first_file-clause-none c =
    λ o script files r. no_first_file _ _ files _ _ o script _ c.in-Some.ensures.found c.in-Some-split_one.ensures.found (untrue c.if-not-is_first_file.ensures.1) r

pub returns-then-not-are_files-clause-none : goal.returns-then-not-are_files-clause-none
returns-then-not-are_files-clause-none c = λ o script files r. no_files _ _ files _ _ o script _ c.in-Some.ensures.found c.in-Some-split_one.ensures.found (untrue c.if-not-are_files.ensures.1) r

pub returns-clause-found : goal.returns-clause-found
returns-clause-found c =
    replay_found _ _ _ _ _ c.in-Some.ensures.found c.in-Some-split_one.ensures.found (c.if-not-is_first_file.ensures.0 refl) (c.if-not-are_files.ensures.0 refl)
