use Rattle.module_entries.proofs.Callable.{other_kinds}
use Rattle.module_entries.proofs.entries.are_one_word.Goals as goal

pub returns-in_default : goal.returns-in_default
returns-in_default c = other_kinds c.args.kinds.now c.in_default.len_at_least
