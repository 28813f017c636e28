use Rattle.candid_encode.proofs.number.+put_low.Given as goal

abbrev pub decreases-put_low : goal.decreases-put_low
decreases-put_low l = l.width
