use Rattle.desugaring.proofs.Forms.{declarations_written, jumps_written, operators_written}
use Rattle.desugaring.proofs.rows.forms_are_written_out.Goals as goal

pub returns-clause-operators : goal.returns-clause-operators
returns-clause-operators c = operators_written

pub returns-clause-jumps : goal.returns-clause-jumps
returns-clause-jumps c = jumps_written

pub returns-clause-declarations : goal.returns-clause-declarations
returns-clause-declarations c = declarations_written
