use Rattle.std.specs.Option.{option_copied}
use Rattle.std.proofs.Common.{arith, ap, length}
use Rattle.play_script.specs.Words.{words_behind}
use Rattle.play_script.proofs.Saying.{caller_refused}
use Rattle.play_script.proofs.line.read_call.Goals as goal

pub returns-in_default-principal_of : goal.returns-in_default-principal_of
returns-in_default-principal_of c = λ event s.
    caller_refused (words_behind (option_copied c.args.rest)) c.args.query c.in-Some.method.now c.in-Some.caller.now c.in-Some.bytes.now c.in_ok-caller.field-0 c.in-Some-2.caller event
    c.in-Some.ensures.found c.in_ok-caller.ensures c.in-Some-2.is (omega (arith, c.in_default-principal_of.ensures, ap length c.as_slice.ensures)) s
