use Rattle.sound_sources.proofs.Sources.{accepted_typed}
use Rattle.sound_sources.proofs.laws.accepted_sources_are_typed.Goals as goal

pub returns : goal.returns
returns c = λ source made h coding first. accepted_typed source made h coding first
