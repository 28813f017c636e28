use Rattle.std.proofs.Common.{◌∙◌}
use Rattle.core_ir.specs.CodeView.{exit_code}
use Rattle.core_ir.proofs.CodeViews.{code_is}
use Rattle.suspend_split.proofs.Before.{begun_is}
use Rattle.suspend_split.proofs.draft.Draft.finish.Goals as goal

pub returns : goal.returns
returns c names = code_is _ names ∙ begun_is _ names (exit_code c.args.self.exit) ∙ c.in_ok-from_first.ensures names (exit_code c.args.self.exit)
