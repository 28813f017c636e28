use Rattle.std.proofs.lemmas.Result.{on_ok_weaker}
use Rattle.play_script.proofs.Lines.{last-word}
use Rattle.play_script.proofs.text.put_trap.Goals as goal

pub returns-in-Unreachable : goal.returns-in-Unreachable
returns-in-Unreachable c = rw c.in-Unreachable.is (on_ok_weaker c.put_word-in-Unreachable.result (last-word c.args.line.now c.put_word-in-Unreachable.new.line _) c.put_word-in-Unreachable.ensures)
