use Rattle.mo_types.specs.Graph.{head_at}
use Rattle.candid_keep.proofs.Heads.{says_no, says_yes}
use Rattle.candid_keep.proofs.types.are_same.Goals as goal

pub returns-clause-yes : goal.returns-clause-yes
returns-clause-yes c =
    says_yes (head_at c.args.old.now) (head_at c.args.new.now) c.in_ok-header.header.table c.in_ok-header.ensures.table c.args.ids.now c.args.others.now c.in_ok-header.header.arguments c.has_types.result
    c.in_ok-header.ensures.arguments c.has_types.ensures.yes

pub returns-clause-no : goal.returns-clause-no
returns-clause-no c =
    says_no (head_at c.args.old.now) (head_at c.args.new.now) c.in_ok-header.header.table c.in_ok-header.ensures.table c.args.ids.now c.args.others.now c.in_ok-header.header.arguments c.has_types.result
    c.in_ok-header.ensures.arguments c.has_types.ensures.no
