use Rattle.std.proofs.Common.{ap}
use Rattle.std.specs.Option.{option_copied}
use Rattle.play_script.proofs.Splitting.{no_single_behind}
use Rattle.play_script.proofs.words.one_word.Goals as goal

pub returns-in-Some-others-clause-none : goal.returns-in-Some-others-clause-none
returns-in-Some-others-clause-none c = λ a e.
    no_single_behind (option_copied c.args.rest) c.in-Some.text.now c.split_word.result.0.now c.in-Some-others.field-0.now a (option_copied c.split_word.result.1)
    (ap option_copied c.in-Some.is) c.split_word.ensures (ap option_copied c.in-Some-others.is) e
