use Rattle.mo_num.proofs.leb_reader.+sleb_read.Given as goal

abbrev pub decreases-sleb_read : goal.decreases-sleb_read
decreases-sleb_read l = l.bits
