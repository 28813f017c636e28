use Rattle.mo_parser.proofs.Answered.{one}
use Rattle.mo_parser.proofs.law.one_tree.Goals as goal

pub returns : goal.returns
returns c = one
