use Rattle.fault_places.proofs.WrittenPrograms.{tokens_of}
use Rattle.fault_places.proofs.laws.numbers_are_tokens.Goals as goal

pub returns : goal.returns
returns c = tokens_of
