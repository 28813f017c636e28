use Rattle.candid_laws.proofs.Graphs.{sound_graph}
use Rattle.candid_laws.proofs.round_trip.types_of_a_graph_are_sound.Goals as goal

pub returns : goal.returns
returns c = λ slots types few sound. sound_graph slots types few sound
