use Rattle.module_entries.proofs.Callable.{plain_at, both_zero, first_not_zero}
use Rattle.module_entries.proofs.entries.is_plain.Goals as goal

pub returns-then-found-eq0 : goal.returns-then-found-eq0
returns-then-found-eq0 c = both_zero _ _ _ (plain_at _ _ c.layout.ensures _ c.as_slice-functions.ensures c.args.function c.if-index-functions.false _) c.if-found-eq0.true

pub returns-else-found-eq0 : goal.returns-else-found-eq0
returns-else-found-eq0 c = first_not_zero _ _ _ (plain_at _ _ c.layout.ensures _ c.as_slice-functions.ensures c.args.function c.if-index-functions.false _) c.if-found-eq0.false
