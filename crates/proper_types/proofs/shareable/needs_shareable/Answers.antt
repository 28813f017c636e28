use Rattle.std.proofs.Common.{Bool, subst}
use Rattle.abstract_types.specs.TypeView.{type_node}
use Rattle.shareable_types.specs.Answers.{IsAnswer}
use Rattle.type_scopes.specs.Scopes.{seen}
use Rattle.proper_types.proofs.Sending.{is_not_sent}
use Rattle.proper_types.proofs.shareable.needs_shareable.Goals as goal

pub returns-else-branch : goal.returns-else-branch
returns-else-branch c =
    is_not_sent c.args.types.now c.term.new.types (seen c.args.scope.now) c.args.at (type_node c.args.node.now) c.in_ok-id.id c.args.sharing.now.any c.args.sharing.now c.in_ok-id.ensures.same c.in_ok-id.ensures.made c.requires.sent
    (subst (λ (b : Bool). IsAnswer c.args.sharing.now.any c.term.new.types c.in_ok-id.id b) c.if-branch.false c.in_ok-is_so.ensures.answer)
