use Rattle.play_script.proofs.Splitting.{line_first, line_only}
use Rattle.play_script.proofs.words.split_line.Goals as goal

pub returns-then-end-text-clause-lines : goal.returns-then-end-text-clause-lines
returns-then-end-text-clause-lines c = line_first c.args.text.now c.find-end.result c.if-end-text.true c.find-end.ensures.before (c.find-end.ensures.found c.if-end-text.true)

pub returns-else-end-text-clause-lines : goal.returns-else-end-text-clause-lines
returns-else-end-text-clause-lines c = line_only c.args.text.now c.find-end.result c.requires c.if-end-text.false c.find-end.ensures.before
