-- A judged program is well typed, so its names are there.
use Rattle.typed_tree.specs.ProgramView.{program}
use Rattle.elaboration.specs.Programs.{elaborated}
use Rattle.formed_cores.proofs.Formed.{named_programs_within_measures_are_formed}
use Rattle.elaboration_typed.proofs.Names.{code_is_named, methods_are_named}
use Rattle.elaboration_judged.specs.Formed.{JudgedProgramsAreFormed}
use Rattle.elaboration_judged.proofs.Programs.{judged_programs_are_sound}

pub judged_programs_are_formed : JudgedProgramsAreFormed
judged_programs_are_formed p j w =
    let s = judged_programs_are_sound p j in
    (s.stands.total, named_programs_within_measures_are_formed s.stands.total (elaborated (program p)) (code_is_named p s.well_typed s.stands) (methods_are_named p s.well_typed) w)
