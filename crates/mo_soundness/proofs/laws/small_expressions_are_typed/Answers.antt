use Rattle.std.proofs.Common.{refl}
use Rattle.mo_soundness.proofs.Examples.{basic_lawful, sum_typed}
use Rattle.mo_soundness.proofs.laws.small_expressions_are_typed.Goals as goal

pub returns-clause-lawful : goal.returns-clause-lawful
returns-clause-lawful c = basic_lawful

pub returns-clause-typed : goal.returns-clause-typed
returns-clause-typed c = sum_typed

pub returns-clause-reduced : goal.returns-clause-reduced
returns-clause-reduced c = refl
