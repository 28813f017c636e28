-- Runs of typed programs: what the laws of actors ask of programs holds of theirs.
use Rattle.std.proofs.Common.{List, [], ◌∷◌}
use Rattle.std.specs.List.{AllByRecursion}
use Rattle.mo_actor.specs.Laws.{KeepsRoom}
use Rattle.mo_actor.specs.Measures.{Unmeasured}
use Rattle.mo_actor.specs.Programs.{IsSettled}
use Rattle.mo_actor.proofs.Room.{calls_are_bounded}
use Rattle.mo_actor.proofs.Settled.{unexhausted_runs_are_one}
use Rattle.mo_meaning.specs.Coding.{Coding}
use Rattle.mo_meaning.specs.Kernel.{kernel}
use Rattle.mo_meaning.specs.Runs.{Installable, meanings, RunsAreOne, CallsStayFew}
use Rattle.mo_meaning.proofs.Bounds.{all_keep_room}
use Rattle.mo_meaning.proofs.Settled.{all_settle}

all_settled : (c : Coding) (ps : List Installable) → AllByRecursion (λ p. IsSettled p) (meanings c ps)
all_settled c [] = tt
all_settled c (p ∷ ps) = (all_settle c p.types p.program p.first, all_settled c ps)

all_roomy : (c : Coding) (ps : List Installable) → AllByRecursion (λ p. KeepsRoom p) (meanings c ps)
all_roomy c [] = tt
all_roomy c (p ∷ ps) = (all_keep_room c p.first p.types p.program, all_roomy c ps)

pub runs_are_one : RunsAreOne
runs_are_one c ps own events items others h k = unexhausted_runs_are_one kernel (meanings c ps) (all_settled c ps) own events items others h k

pub calls_stay_few : CallsStayFew
calls_stay_few c ps own events p a h = calls_are_bounded kernel Unmeasured (meanings c ps) (all_roomy c ps) own events p a h
