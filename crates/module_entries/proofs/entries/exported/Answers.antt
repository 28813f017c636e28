use Rattle.std.proofs.Common.{sym, ◌∙◌}
use Rattle.module_entries.proofs.Callable.{callable}
use Rattle.module_entries.proofs.entries.exported.Goals as goal

pub returns-then-is_plain-clause-callable : goal.returns-then-is_plain-clause-callable
returns-then-is_plain-clause-callable c = callable _ _ (sym c.is_plain.ensures ∙ c.if-is_plain.true)
