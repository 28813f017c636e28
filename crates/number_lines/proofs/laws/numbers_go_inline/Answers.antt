use Rattle.number_lines.proofs.Inline.{numbers_inline}
use Rattle.number_lines.proofs.laws.numbers_go_inline.Goals as goal

pub returns : goal.returns
returns c = numbers_inline
