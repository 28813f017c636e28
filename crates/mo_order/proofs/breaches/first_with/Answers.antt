use Rattle.mo_order.proofs.Judging.{meaning_more, breach_more}
use Rattle.mo_order.proofs.breaches.first_with.Goals as goal

pub returns-in-Meaning : goal.returns-in-Meaning
returns-in-Meaning c = rw c.in-Meaning.is (meaning_more c.args.first)

pub returns-in-Breach : goal.returns-in-Breach
returns-in-Breach c = rw c.in-Breach.is (breach_more c.args.first c.first_of.result c.in-Breach.breach c.first_of.ensures)
