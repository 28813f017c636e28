use Rattle.abstract_parts.proofs.forms.actor_reference.Goals as goal

pub returns : goal.returns
returns c = rw c.count_if-marks.ensures.count at c.leaf.ensures
