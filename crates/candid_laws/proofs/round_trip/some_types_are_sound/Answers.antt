use Rattle.candid_laws.proofs.Examples.{list_sound, result_sound}
use Rattle.candid_laws.proofs.round_trip.some_types_are_sound.Goals as goal

pub returns : goal.returns
returns c = record { list = list_sound; result = result_sound }
