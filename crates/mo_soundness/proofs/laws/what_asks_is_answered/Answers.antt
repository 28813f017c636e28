use Rattle.mo_soundness.proofs.Answered.{answers}
use Rattle.mo_soundness.proofs.laws.what_asks_is_answered.Goals as goal

pub returns : goal.returns
returns c = λ head given store e h. answers head given store e h
