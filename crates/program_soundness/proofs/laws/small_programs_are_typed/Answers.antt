use Rattle.typed_tree.specs.Examples.{uses_generic}
use Rattle.typed_tree.proofs.Generic.{generic_is_well_typed}
use Rattle.program_soundness.proofs.Examples.{is_well_typed, starts}
use Rattle.program_soundness.specs.Examples.{answers}
use Rattle.std.proofs.Common.{refl}
use Rattle.program_soundness.proofs.laws.small_programs_are_typed.Goals as goal

pub returns-clause-typed : goal.returns-clause-typed
returns-clause-typed c = λ coding first. record { program_of = answers; first = first; well_typed = is_well_typed; is = refl }

pub returns-clause-started : goal.returns-clause-started
returns-clause-started c = λ coding own. starts coding own

pub returns-clause-generic : goal.returns-clause-generic
returns-clause-generic c = λ coding first. record { program_of = uses_generic; first = first; well_typed = generic_is_well_typed; is = refl }
