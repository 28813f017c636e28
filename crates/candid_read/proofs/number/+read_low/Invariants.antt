use Rattle.candid_read.proofs.number.+read_low.Given as goal

abbrev pub decreases-read_low : goal.decreases-read_low
decreases-read_low l = l.width
