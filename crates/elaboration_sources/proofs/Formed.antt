-- The programs of accepted sources are judged ones, so what is elaborated of them is formed.
use Rattle.elaboration_judged.proofs.Formed.{judged_programs_are_formed}
use Rattle.elaboration_sources.specs.Formed.{AcceptedProgramsAreFormed}
use Rattle.elaboration_sources.proofs.Sources.{accepted_programs_are_judged}

pub accepted_programs_are_formed : AcceptedProgramsAreFormed
accepted_programs_are_formed source made h w = judged_programs_are_formed made (accepted_programs_are_judged source made h) w
