use Rattle.operand_rules.proofs.Pairing.{greatest_found, no_greatest}
use Rattle.operand_rules.proofs.pairs.greatest_of.Goals as goal

pub returns-in_err-kind : goal.returns-in_err-kind
returns-in_err-kind c = λ s q. no_greatest c.args.site.now.at c.args.left c.args.right s c.args.checker.now q c.in_err-kind.field-0.0 c.from_residual.result c.from_residual.ensures c.in_err-kind.ensures.judged

pub returns : goal.returns
returns c = λ s q. greatest_found c.args.site.now.at c.args.left c.args.right s c.args.checker.now q c.in_ok-kind.kind c.in_ok-kind.ensures.reached c.in_ok-kind.ensures.judged
