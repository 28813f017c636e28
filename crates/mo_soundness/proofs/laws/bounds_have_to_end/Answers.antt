use Rattle.mo_soundness.proofs.Circle.{below_text, nats_within, circles_are_not_lawful}
use Rattle.mo_soundness.proofs.laws.bounds_have_to_end.Goals as goal

pub returns-clause-below : goal.returns-clause-below
returns-clause-below c = below_text

pub returns-clause-within : goal.returns-clause-within
returns-clause-within c = nats_within

pub returns-clause-refused : goal.returns-clause-refused
returns-clause-refused c = circles_are_not_lawful
