use Rattle.candid_header.proofs.Whole.{found_is, only_is}
use Rattle.candid_header.proofs.header.read_header.Goals as goal

pub returns-clause-found : goal.returns-clause-found
returns-clause-found c = found_is (λ x. (x.0, x.1.now)) c.read.result c.args.bytes.now c.read.ensures

pub returns-clause-only : goal.returns-clause-only
returns-clause-only c h rest k = only_is (λ x. (x.0, x.1.now)) c.read.result c.args.bytes.now c.read.ensures h rest k
