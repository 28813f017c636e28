use Rattle.std.proofs.Common.{rules}
use Rattle.function_rules.proofs.Found.{not_only, only_one}
use Rattle.function_rules.proofs.heads.only.Goals as goal

pub returns-then-parts-eq1 : goal.returns-then-parts-eq1
returns-then-parts-eq1 c = only_one c.args.parts.now c.part_at.result (search rules) c.part_at.ensures

pub returns-else-parts-eq1 : goal.returns-else-parts-eq1
returns-else-parts-eq1 c = not_only c.args.parts.now (search rules)
