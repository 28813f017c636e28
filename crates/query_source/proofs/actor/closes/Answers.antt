use Rattle.query_source.proofs.Parts.{closes_some, closes_none}
use Rattle.query_source.proofs.actor.closes.Goals as goal

pub returns-in-Some : goal.returns-in-Some
returns-in-Some c = closes_some _ _ _ _ c.after_blanks.ensures c.is_empty.ensures c.in-Some.ensures.some

pub returns-in-None : goal.returns-in-None
returns-in-None c = closes_none _ c.in-None.ensures.none
