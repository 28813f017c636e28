use Rattle.mo_num.proofs.leb_reader.+leb_read.Given as goal

abbrev pub decreases-leb_read : goal.decreases-leb_read
decreases-leb_read l = l.bits
