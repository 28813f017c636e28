use Rattle.std.proofs.Common.{Bool, ap, sym}
use Rattle.judged_parts.specs.Parts.{See}
use Rattle.kernel_roles.specs.Roles.{variable_role}
use Rattle.kernel_roles.proofs.roles.variable.Goals as goal

pub returns-then-stable : goal.returns-then-stable
returns-then-stable c = λ (see : See). ap (λ (b : Bool). variable_role b c.args.name.now) (sym c.if-stable.true)

pub returns-else-stable : goal.returns-else-stable
returns-else-stable c = λ (see : See). ap (λ (b : Bool). variable_role b c.args.name.now) (sym c.if-stable.false)
