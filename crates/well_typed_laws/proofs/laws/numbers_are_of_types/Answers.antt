use Rattle.well_typed_laws.proofs.Numbers.{numbers_are_of_types}
use Rattle.well_typed_laws.proofs.laws.numbers_are_of_types.Goals as goal

pub returns : goal.returns
returns c = numbers_are_of_types
