use Rattle.std.proofs.Common.{◌∙◌, ap}
use Rattle.core_ir.specs.CodeView.{exit_code}
use Rattle.suspend_split.specs.Drafts.{before}
use Rattle.suspend_split.proofs.Before.{before_push}
use Rattle.suspend_split.proofs.draft.Draft.put.Goals as goal

pub returns : goal.returns
returns c names = ap (λ is. before is names (exit_code c.args.self.now.exit)) c.in_ok-push.ensures.ok ∙ before_push c.args.self.now.instructions c.args.instruction names (exit_code c.args.self.now.exit)
