use Rattle.play_script.proofs.Splitting.{word_first, word_only}
use Rattle.play_script.proofs.words.split_word.Goals as goal

pub returns-then-end-line : goal.returns-then-end-line
returns-then-end-line c = word_first c.args.line.now c.find-end.result c.if-end-line.true c.find-end.ensures.before (c.find-end.ensures.found c.if-end-line.true)

pub returns-else-end-line : goal.returns-else-end-line
returns-else-end-line c = word_only c.args.line.now c.find-end.result c.if-end-line.false c.find-end.ensures.before
