use Rattle.mo_order.proofs.walk.+note_part.Given as goal

abbrev pub decreases-note_part : goal.decreases-note_part
decreases-note_part l = l.depth
