use Rattle.std.proofs.Common.{sym, ◌∙◌}
use Rattle.module_entries.proofs.Callable.{callback_callable}
use Rattle.module_entries.proofs.entries.callback_function.Goals as goal

pub returns-then-is_callback-clause-callable : goal.returns-then-is_callback-clause-callable
returns-then-is_callback-clause-callable c = callback_callable _ _ (sym c.is_callback.ensures ∙ c.if-is_callback.true)
