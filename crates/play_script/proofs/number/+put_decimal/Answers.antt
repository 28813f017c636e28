use Rattle.std.proofs.Common.{arith}
use Rattle.std.proofs.lemmas.Result.{on_ok_weaker}
use Rattle.play_script.proofs.Decimals.{decimal-put}
use Rattle.play_script.proofs.number.+put_decimal.Goals as goal

pub returns : goal.returns
returns t c = on_ok_weaker c.push-2.result (decimal-put c.args.value c.args.out.now c.put_decimal.new.out c.push-2.new.self (omega arith) c.in_ok-put_decimal.ensures) c.push-2.ensures.ok
