use Rattle.module_entries.proofs.Made.{imported_are, made_of}
use Rattle.module_entries.proofs.imports.imported_functions.Goals as goal

pub returns-clause-each : goal.returns-clause-each
returns-clause-each c = imported_are _ _ c.module.ensures.is c.module.ensures.valid _ c.as_slice.ensures _ c.new-functions.ensures _ (c.in_ok-push_functions.ensures)

pub returns-clause-made_for : goal.returns-clause-made_for
returns-clause-made_for c = made_of _ _ c.module.ensures.is c.module.ensures.valid _ c.as_slice.ensures _ c.new-functions.ensures _ (c.in_ok-push_functions.ensures)
