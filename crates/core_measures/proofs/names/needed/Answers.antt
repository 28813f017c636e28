use Rattle.std.proofs.Common.{◌∙◌, sym}
use Rattle.core_measures.proofs.Bindings.{names_at, no_names_at}
use Rattle.core_measures.proofs.names.needed.Goals as goal

pub returns-in-Some : goal.returns-in-Some
returns-in-Some c = let l = c.in-Some.ensures.lookup in c.as_slice.ensures ∙ names_at c.args.needs.now c.args.group c.in-Some.names.now (l.3).0 (l.1)

pub returns-in-None : goal.returns-in-None
returns-in-None c = let l = c.in-None.ensures.lookup in sym (no_names_at c.args.needs.now c.args.group (l.3))
