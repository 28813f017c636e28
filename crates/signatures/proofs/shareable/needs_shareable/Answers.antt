use Rattle.std.proofs.Common.{Bool, subst}
use Rattle.shareable_types.specs.Answers.{IsAnswer}
use Rattle.signatures.proofs.Steps.{is_not_sent}
use Rattle.signatures.proofs.shareable.needs_shareable.Goals as goal

pub returns-else-branch : goal.returns-else-branch
returns-else-branch c =
    is_not_sent c.args.at c.args.kind c.args.types.now c.args.sharing.now.any c.args.sharing.now c.requires.ready.sent
    (subst (λ (b : Bool). IsAnswer c.args.sharing.now.any c.args.types.now c.args.kind b) c.if-branch.false c.in_ok-is_so.ensures.answer)
