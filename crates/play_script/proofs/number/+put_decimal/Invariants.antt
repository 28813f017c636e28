use Rattle.play_script.proofs.number.+put_decimal.Given as goal

abbrev pub decreases-put_decimal : goal.decreases-put_decimal
decreases-put_decimal l = l.value
