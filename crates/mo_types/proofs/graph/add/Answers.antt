use Rattle.std.proofs.Common.{◌∙◌, None}
use Rattle.indexmap.proofs.CallerLemmas.{insert_entry-new}
use Rattle.mo_types.specs.Keys.{same_key}
use Rattle.mo_types.proofs.graph.add.Goals as goal

pub returns-clause-ok : goal.returns-clause-ok
returns-clause-ok c = c.in_ok-insert.ensures.entries ∙ insert_entry-new same_key c.args.slots.now c.args.key None c.requires
