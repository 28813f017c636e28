use Rattle.std.proofs.Common.{true, false}
use Rattle.abstract_tree.specs.TreeView.{expression}
use Rattle.judged_parts.specs.Parts.{See}
use Rattle.kernel_methods.proofs.Found.{named_as}
use Rattle.kernel_methods.proofs.system_functions.named.Goals as goal

pub returns-then-is_name : goal.returns-then-is_name
returns-then-is_name c = λ (see : See). named_as c.args.x.now c.args.name.now c.is_name.result true (expression see c.args.body.now) c.is_name.ensures c.if-is_name.true

pub returns-else-is_name : goal.returns-else-is_name
returns-else-is_name c = λ (see : See). named_as c.args.x.now c.args.name.now c.is_name.result false (expression see c.args.body.now) c.is_name.ensures c.if-is_name.false
