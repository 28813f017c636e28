use Rattle.abstract_types.specs.TypeView.{type_node}
use Rattle.type_scopes.specs.Scopes.{seen}
use Rattle.proper_types.proofs.Sending.{is_no_method}
use Rattle.proper_types.proofs.shareable.needs_method.Goals as goal

pub returns : goal.returns
returns c =
    is_no_method c.args.types.now c.term.new.types c.head.new.self (seen c.args.scope.now) c.args.at (type_node c.args.node.now) c.in_ok-id.id c.in_ok-head.head c.is_shared_function.result c.in_ok-id.ensures.same
    (record { kept = c.in_ok-head.ensures.kept; goes = c.in_ok-head.ensures.goes; stands = c.in_ok-head.ensures.stands }) c.in_ok-id.ensures.made c.in_ok-head.ensures.made c.is_shared_function.ensures c.if-is_shared_function.false
